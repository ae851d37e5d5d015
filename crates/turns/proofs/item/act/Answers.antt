-- `act` meets its contract.
use borrow.Author.Rules.{rules}
use Rattle.turns.proofs.ItemRows.{below_words, turn_ends, turn_item}
use Rattle.turns.proofs.item.act.Goals as goal

pub returns-then-counts-eq0 : goal.returns-then-counts-eq0
returns-then-counts-eq0 c = record { found = search turn_ends; rest = search rules }

pub act_item-requires : goal.act_item-requires
act_item-requires c =
    (below_words _ _ _ _ c.requires.0, c.requires.1)

pub returns : goal.returns
returns c = record { found = search turn_item; rest = search rules }
