-- `decide` meets its contract.
use mathlib.Core.Path.{refl}
use borrow.Author.Rules.{rules}
use Rattle.commits.proofs.DecisionLaws.{decide_joins, decide_full}
use Rattle.commits.proofs.SignalLaws.{few_events}
use Rattle.commits.proofs.decision.decide.Goals as goal

pub returns-then-not-room_at : goal.returns-then-not-room_at
returns-then-not-room_at c =
    decide_full _ _ _ _ _ _ refl _ c.in-Joins.is _ c.room_at.ensures c.if-not-room_at.true

pub decide_await-requires : goal.decide_await-requires
decide_await-requires c = (search rules, search few_events)

pub returns-else-not-room_at : goal.returns-else-not-room_at
returns-else-not-room_at c =
    decide_joins _ _ _ _ _ _ refl _ c.in-Joins.is _ c.room_at.ensures
    c.if-not-room_at.false
