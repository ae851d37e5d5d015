-- `declarations_end` meets its contract.
use Rattle.std.proofs.Common.{rules, arith, ap, ◌∙◌, length}
use Rattle.std.specs.Option.{unwrap_or}
use Rattle.std.proofs.lemmas.Iterator.{YieldsList-from_slice}
use Rattle.std.proofs.lemmas.Iterator.Search.{position_from_yields_List}
use Rattle.program.proofs.LinkLaws.{is_late, links_end}
use Rattle.program.proofs.group.declarations_end.Goals as goal

pub returns-clause-none : goal.returns-clause-none
returns-clause-none c =
    let found = position_from_yields_List is_late _ _ _ c.position.ensures.ran (YieldsList-from_slice _ c.iter.ensures.rest) (λ x b q k. search rules) in
    links_end c.args.frames.now _ (λ i. let f = c.type_inv.frames i in omega arith) c.requires (c.unwrap_or.ensures ∙ ap (λ o. unwrap_or o (length c.args.frames.now)) found)
