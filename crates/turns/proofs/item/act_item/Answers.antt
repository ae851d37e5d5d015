-- `act_item` meets its contract.
use borrow.Author.Rules.{rules}
use Rattle.turns.proofs.ItemRows.{item_statement, item_back, item_drop}
use Rattle.turns.proofs.item.act_item.Goals as goal

pub act_statement-requires : goal.act_statement-requires
act_statement-requires c =
    (c.requires.0, c.requires.1.statement c.if-item-lt-BACK_FROM.true)

pub returns-then-item-lt-BACK_FROM : goal.returns-then-item-lt-BACK_FROM
returns-then-item-lt-BACK_FROM c = record { found = search item_statement; rest = search rules }

pub known-requires : goal.known-requires
known-requires c =
    c.requires.1.back c.if-item-lt-BACK_FROM.false c.if-item-lt-DROP_WORD.true

pub returns-then-item-lt-DROP_WORD : goal.returns-then-item-lt-DROP_WORD
returns-then-item-lt-DROP_WORD c = record { found = search item_back; rest = search rules }

pub returns : goal.returns
returns c = record { found = search item_drop; rest = search rules }
