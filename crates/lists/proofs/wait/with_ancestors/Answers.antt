-- `with_ancestors` meets its contract.
use borrow.Author.Rules.{rules}
use mathlib.Core.Path.{sym, ◌∙◌}
use Rattle.lists.proofs.ThreadSets.{lacks_taken, climb_less}
use Rattle.lists.proofs.Climbs.{climb_start, climb_more, climb_end}
use Rattle.lists.proofs.Climbs.{climb_starters}
use Rattle.lists.proofs.wait.with_ancestors.Goals as goal

pub loop-found-init : goal.loop-found-init
loop-found-init c = search climb_start

pub overflow_sub-found : goal.overflow_sub-found
overflow_sub-found c =
    let i = lacks_taken _ _ _ c.lacks_thread.ensures c.loop-found-test.true in search rules

pub overflow_shl-found : goal.overflow_shl-found
overflow_shl-found c =
    let i = lacks_taken _ _ _ c.lacks_thread.ensures c.loop-found-test.true in search rules

pub overflow_sub-at : goal.overflow_sub-at
overflow_sub-at c =
    let i = lacks_taken _ _ _ c.lacks_thread.ensures c.loop-found-test.true in search rules

pub overflow_mul-at : goal.overflow_mul-at
overflow_mul-at c =
    let i = lacks_taken _ _ _ c.lacks_thread.ensures c.loop-found-test.true in search rules

pub overflow_add-at : goal.overflow_add-at
overflow_add-at c =
    let i = lacks_taken _ _ _ c.lacks_thread.ensures c.loop-found-test.true in search rules

pub overflow_add-at-in-loop-found : goal.overflow_add-at-in-loop-found
overflow_add-at-in-loop-found c =
    let i = lacks_taken _ _ _ c.lacks_thread.ensures c.loop-found-test.true in search rules

pub offset_bounds-state-at : goal.offset_bounds-state-at
offset_bounds-state-at c =
    let i = lacks_taken _ _ _ c.lacks_thread.ensures c.loop-found-test.true in search rules

pub bounds-state-at : goal.bounds-state-at
bounds-state-at c =
    let i = lacks_taken _ _ _ c.lacks_thread.ensures c.loop-found-test.true in
    search rules

pub loop-found-smaller : goal.loop-found-smaller
loop-found-smaller c = climb_less _ _ _ c.lacks_thread.ensures c.loop-found-test.true

pub loop-found-preserved : goal.loop-found-preserved
loop-found-preserved c =
    climb_more _ _ _ _ _ c.loop-found.invariant
    (sym c.lacks_thread.ensures ∙ c.loop-found-test.true)

pub returns : goal.returns
returns c =
    let inv = c.loop-found.invariant in
    let pre = c.requires in
    let ends = sym c.lacks_thread.ensures ∙ c.loop-found-test.false in
    record { added = climb_end _ _ _ _ _ inv ends pre.0; starters = climb_starters _ _ _ _ _ inv ends }
