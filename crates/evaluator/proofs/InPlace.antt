-- One lent buffer, a state's words, with the acting thread's variables and the cells in it: a call
-- leaves the variables as they are. Assumes nothing.
use mathlib.Core.Path.{◌≡◌, refl, sym, ap, ◌∙◌, subst}
use mathlib.Core.List.{List, [], ◌∷◌}
use Prim.Native.Nat.{ℕ, zero, suc, ◌+◌, ◌-◌, ◌<◌, ◌≤◌}
use native.Mathlib.Omega.{arith}
use native.Mathlib.Nat.{lt_trans}
use lib.ListN.{get_or, take, drop}
use lib.Seq.{take-take, get_or-take, get_or-set_other, drop-set-lt}
use Rattle.language.specs.Limits.{most_variables}
use Rattle.text.specs.Frames.{frames_of}
use Rattle.program.specs.Trees.{expression_at}
use Rattle.program.specs.declared.node.Leaf.{Leaf}
use Rattle.machine.specs.Offsets.{cell_count_at, cells_at, variables_field}
use Rattle.machine.specs.declared.value.Outcome.{Outcome}
use Rattle.operations.specs.declared.Who.{Who}
use Rattle.operations.specs.Inner.Lent.{Lent, lent_thread, variable_count, lent_variables}
use Rattle.operations.specs.Inner.Lent.{lent_count, lent_cells, lent_rest}
use Rattle.operations.specs.Inner.Results.{Result}
use Rattle.operations.specs.Inner.ByWords.{leaf_in}
use Rattle.evaluator.specs.Inner.Results.{FrameWords}
use Rattle.evaluator.specs.Inner.ByWords.{WantedResult, eval_in, number_in}

-- ---- what stays: all before the cells but their count, and so the variables
part_kept : (p n q : ℕ) (l : List ℕ) → p + n ≤ q → take n (drop p (take q l)) ≡ take n (drop p l)
part_kept zero n q l h = take-take n q l (omega arith)
part_kept (suc p) n zero l h = absurd (omega arith)
part_kept (suc p) n (suc q) [] h = refl
part_kept (suc p) n (suc q) (x ∷ l) h = part_kept p n q l (omega arith)

rest_at : (w : List ℕ) (j : ℕ) → cell_count_at < j → j < cells_at → get_or (lent_rest w) j 0 ≡ get_or w j 0
unfolding lent_rest
rest_at w j h g =
    get_or-set_other (take cells_at w) cell_count_at j 0 0 (λ e. omega arith)
    ∙ get_or-take cells_at w j 0 g

rest_part : (w : List ℕ) (p n : ℕ) → cell_count_at < p → p + n ≤ cells_at
    → take n (drop p (lent_rest w)) ≡ take n (drop p w)
unfolding lent_rest
rest_part w p n h g =
    ap (take n) (drop-set-lt p (take cells_at w) cell_count_at 0 h) ∙ part_kept p n cells_at w g

module _ (who : Who) (w v : List ℕ) where
  count_kept : lent_rest v ≡ lent_rest w → Lent who w → variable_count who v ≡ variable_count who w
  unfolding variable_count
  count_kept e l =
      let low = l.first in
      let high = l.last in
      let beyond : cell_count_at < lent_thread who + variables_field = omega arith in
      let before : lent_thread who + variables_field < cells_at = omega arith in
      sym (rest_at v _ beyond before)
      ∙ ap (λ (y : List ℕ). get_or y (lent_thread who + variables_field) 0) e
      ∙ rest_at w _ beyond before

  pub variables_kept : lent_rest v ≡ lent_rest w → Lent who w → lent_variables who v ≡ lent_variables who w
  unfolding lent_variables
  variables_kept e l =
      let low = l.first in
      let high = l.last in
      let few = l.few in
      let from : ℕ = lent_thread who + variables_field + 1 in
      let n : ℕ = variable_count who w in
      let beyond : cell_count_at < from = omega arith in
      let before : from + n ≤ cells_at = omega arith in
      ap (λ (m : ℕ). take m (drop from v)) (count_kept e l)
      ∙ sym (rest_part v from n beyond before)
      ∙ ap (λ (y : List ℕ). take n (drop from y)) e
      ∙ rest_part w from n beyond before

  -- the words after a call may be lent again
  pub lent_again : Lent who w → lent_rest v ≡ lent_rest w → Lent who v
  lent_again l e =
      record {
        first = l.first;
        last = l.last;
        few = subst (λ (n : ℕ). n ≤ most_variables) (sym (count_kept e l)) l.few;
      }

-- ---- what a call requires: each goes to an operand, so the frame number itself falls
pub falls_in : (ws : List ℕ) (i a t : ℕ) (who : Who) (w v : List ℕ)
    → (i ≡ t) × (FrameWords ws i × Lent who w) → a < i → lent_rest v ≡ lent_rest w
    → (a < t) × (FrameWords ws a × Lent who v)
falls_in ws i a t who w v p l e =
    let same = p.0 in
    let h = p.1.0 in (
      omega arith,
      (
        record { ordered = h.ordered; placed = h.placed; there = lt_trans l h.there },
        lent_again who w v p.1.1 e,
      ),
    )

-- ---- the variables where they lie
module _ (who : Who) (w : List ℕ) (l : Lent who w) where
  pub count_few : get_or w (lent_thread who + variables_field) 0 ≤ most_variables
  unfolding variable_count
  count_few = l.few

  pub leaf_in_lem : (leaf : Leaf) (o : Outcome) (a b : ℕ) → a ≡ lent_thread who + variables_field + 1
      → b ≡ a + get_or w (lent_thread who + variables_field) 0
      → o ≡ leaf_in who (take (b - a) (drop a w)) leaf → o ≡ leaf_in who (lent_variables who w) leaf
  unfolding lent_variables variable_count
  leaf_in_lem leaf o a b start end e =
      let n : ℕ = get_or w (lent_thread who + variables_field) 0 in
      let long : b - a ≡ n = omega arith in
      e
      ∙ ap (λ (m : ℕ). leaf_in who (take m (drop a w)) leaf) long
      ∙ ap (λ (m : ℕ). leaf_in who (take n (drop m w)) leaf) start

-- a second operand sees the same variables
module _ (fw : List ℕ) (who : Who) (b : ℕ) (w v : List ℕ) where
  pub again_number : (y : WantedResult) → Lent who w → lent_rest v ≡ lent_rest w
      → y ≡ number_in who (expression_at (frames_of fw) b) (lent_variables who v) (lent_count v)
      (lent_cells v)
      → y ≡ number_in who (expression_at (frames_of fw) b) (lent_variables who w) (lent_count v)
      (lent_cells v)
  again_number y l e h =
      h
      ∙ ap (λ (vs : List ℕ).
      number_in who (expression_at (frames_of fw) b) vs (lent_count v) (lent_cells v))
      (variables_kept who w v e l)

  pub again_value : (y : Result) → Lent who w → lent_rest v ≡ lent_rest w
      → y ≡ eval_in who (expression_at (frames_of fw) b) (lent_variables who v) (lent_count v)
      (lent_cells v)
      → y ≡ eval_in who (expression_at (frames_of fw) b) (lent_variables who w) (lent_count v)
      (lent_cells v)
  again_value y l e h =
      h
      ∙ ap
      (λ (vs : List ℕ). eval_in who (expression_at (frames_of fw) b) vs (lent_count v) (lent_cells v))
      (variables_kept who w v e l)
