-- `leaf_at` meets its contract: the part of the words that it lends on is the variables. Assumes
-- nothing.
use Prim.Native.Nat.{ℕ, ◌+◌, ◌*◌, ◌-◌}
use mathlib.Core.Path.{sym, ap}
use native.Mathlib.Omega.{arith}
use lib.ListN.{get_or}
use Rattle.evaluator.proofs.InPlace.{count_few, leaf_in_lem}
use Rattle.evaluator.proofs.evaluation.leaf_at.Goals as goal

pub overflow_add-at-5 : goal.overflow_add-at-5
overflow_add-at-5 c =
    let few = rw (sym c.from.ensures) at (count_few _ c.args.state.now c.requires) in
    omega (arith, few)

pub slice_bounds-leaf-end : goal.slice_bounds-leaf-end
slice_bounds-leaf-end c =
    let few = rw (sym c.from.ensures) at (count_few _ c.args.state.now c.requires) in
    omega (arith, few)

pub returns : goal.returns
returns c =
    leaf_in_lem _ c.args.state.now c.requires _ _ _ _
    (ap (λ (t : ℕ). 1042 + 55 * (t - 1) + 29 + 1) c.from.ensures)
    (ap (λ (t : ℕ). 1042 + 55 * (c.from.result - 1) + 29 + 1 + get_or c.args.state.now (1042 + 55 * (t - 1) + 29) 0) c.from.ensures)
    c.leaf.ensures
