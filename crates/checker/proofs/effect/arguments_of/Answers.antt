-- `arguments_of` meets its contract.
use Rattle.checker.proofs.EffectLaws.{arguments_laws, argument_in, further_in}
use Rattle.checker.proofs.effect.arguments_of.Goals as goal

pub returns-then-a-eq0 : goal.returns-then-a-eq0
returns-then-a-eq0 c = search arguments_laws

pub type_in-requires : goal.type_in-requires
type_in-requires c = search argument_in

pub returns-then-b-eq0 : goal.returns-then-b-eq0
returns-then-b-eq0 c = search arguments_laws

pub type_in-requires-2 : goal.type_in-requires-2
type_in-requires-2 c = search argument_in

pub type_in-requires-3 : goal.type_in-requires-3
type_in-requires-3 c =
    further_in _ _ _ _ c.requires.0 c.requires.2 c.if-a-eq0.false c.if-b-eq0.false

pub returns : goal.returns
returns c = search arguments_laws
