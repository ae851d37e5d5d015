-- `type_of`, the recursion, meets its contract: one law for each arm, and an operand's number
-- falls. Assumes nothing.
use Rattle.checker.proofs.FineFrames.{names_place, owner_place}
use Rattle.checker.proofs.TypingLaws.{type_plain, type_value, type_numbers, type_choose}
use Rattle.checker.proofs.DescentLaws.{value_falls, value_in, numbers_a_falls, numbers_a_in}
use Rattle.checker.proofs.DescentLaws.{numbers_b_falls, numbers_b_in, choose_a_falls}
use Rattle.checker.proofs.DescentLaws.{choose_a_in, choose_b_falls, choose_b_in}
use Rattle.checker.proofs.DescentLaws.{choose_c_falls, choose_c_in}
use Rattle.checker.proofs.typing.+type_of.Goals as goal

pub expression_node-requires : goal.expression_node-requires
expression_node-requires t c = search names_place

pub type_of-requires : goal.type_of-requires
type_of-requires t c = (search value_falls, search value_in)

pub cell_rule-requires : goal.cell_rule-requires
cell_rule-requires t c = search owner_place

pub type_of-requires-in-OfNumbers : goal.type_of-requires-in-OfNumbers
type_of-requires-in-OfNumbers t c = (search numbers_a_falls, search numbers_a_in)

pub type_of-requires-in-OfNumbers-2 : goal.type_of-requires-in-OfNumbers-2
type_of-requires-in-OfNumbers-2 t c = (search numbers_b_falls, search numbers_b_in)

pub type_of-requires-in-Choose : goal.type_of-requires-in-Choose
type_of-requires-in-Choose t c = (search choose_a_falls, search choose_a_in)

pub type_of-requires-in-Choose-2 : goal.type_of-requires-in-Choose-2
type_of-requires-in-Choose-2 t c = (search choose_b_falls, search choose_b_in)

pub type_of-requires-in-Choose-3 : goal.type_of-requires-in-Choose-3
type_of-requires-in-Choose-3 t c = (search choose_c_falls, search choose_c_in)

pub returns-in-Plain : goal.returns-in-Plain
returns-in-Plain t c = search type_plain

pub returns-in-OfValue : goal.returns-in-OfValue
returns-in-OfValue t c = search type_value

pub returns-in-OfNumbers : goal.returns-in-OfNumbers
returns-in-OfNumbers t c = search type_numbers

pub returns-in-Choose : goal.returns-in-Choose
returns-in-Choose t c = search type_choose
