-- `write_shared` meets its contract.
use borrow.Author.Rules.{rules}
use Rattle.states.proofs.SharedLaws.{sharing_start, sharing_few, sharing_falls}
use Rattle.states.proofs.SharedLaws.{sharing_over, sharing_one, sharing_count, sharing_words}
use Rattle.states.proofs.fresh.write_shared.Goals as goal
use Rattle.states.proofs.fresh.write_shared.Goals.{then-c-lt-MOST_CELLS, else-c-lt-MOST_CELLS}

pub loop-i-init : goal.loop-i-init
loop-i-init c = search sharing_start

pub overflow_add-c : goal.overflow_add-c
overflow_add-c c = search (sharing_few, rules)

pub loop-i-smaller : goal.loop-i-smaller
loop-i-smaller c = search sharing_falls

pub loop-i-preserved : goal.loop-i-preserved
loop-i-preserved c = elim c.if-c-lt-MOST_CELLS.branch [
  | then-c-lt-MOST_CELLS w ↦ rw w.state-is (search sharing_one)
  | else-c-lt-MOST_CELLS w ↦ rw w.state-is (search sharing_over)
]

pub returns : goal.returns
returns c = record { count = search sharing_count; words = search sharing_words }
