-- The three operations on cells, `load`, `store`, `allocate`: what each gives, which cells it
-- leaves, and which access it logs, in every case. An access is logged with the cell, its owner,
-- the acting thread and that thread's place. `put` and `with_new_cell` are said cell by cell in
-- UsedCells. Assumes nothing.
use mathlib.Core.Path.{◌≡◌, refl, sym, ap, ◌∙◌}
use mathlib.Core.Logic.{inl, inr}
use mathlib.Core.List.{List, [], ◌∷◌}
use mathlib.Core.Bool.{true, false, true≢false}
use Prim.Native.Nat.{ℕ, ◌≤◌, ◌<◌}
use lib.Dec.{ltb, eqb}
use borrow.Author.Tests.{le-leb, eq-eqb, ltb-true, ltb-false}
use Rattle.basics.proofs.Ifs.{if_all, or_on}
use Rattle.language.specs.Places.{home}
use Rattle.language.specs.Limits.{most_cells}
use Rattle.machine.specs.Accesses.{Access, Own}
use Rattle.machine.specs.State.{Stored, cell_at, is_used, free_number, used_cells, with_new_cell}
use Rattle.machine.specs.State.{thread_owner}
use Rattle.machine.specs.Evaluation.{Here, EvalResult, Evaluation, with_accesses, is_own, access_of}
use Rattle.machine.specs.Evaluation.{accessing, at_cell, add_cell, load, store, allocate, put_in}
use Rattle.machine.specs.declared.value.Value.{Value}
use Rattle.machine.specs.declared.value.Value.TheVariants.{Cell}
use Rattle.machine.specs.declared.value.Outcome.{Outcome}
use Rattle.machine.specs.declared.value.Outcome.TheVariants.{Is, Foreign, Spent, Stuck}
use Rattle.machine.proofs.Owns.{is_own_lem}
use Rattle.machine.proofs.UsedCells.{put}

-- ---- what is said of each

-- an operation gave this outcome, left these cells, and logged these accesses
pub record Logs (r : EvalResult) (o : Outcome) (cs : List Stored) (l : List Access) : Type 0 where
  pub outcome : r.outcome ≡ o
  pub cells : r.cells ≡ cs
  pub accesses : r.accesses ≡ l

module _ (h : Here) where
  -- the acting thread's access to cell c, whose owner is that of the cells
  abbrev pub access_at : List Stored → ℕ → Access
  access_at cs c = access_of h c (cell_at cs c).owner

  -- an operation at cell c. None there: no access, no change. Another's: one access, no change. An
  -- own one: one access, the outcome is o, and the cells are those after
  pub data CellLogs (c : ℕ) (cs : List Stored) (o : Outcome) (left : List Stored) (r : EvalResult)
      : Type 0 where
    no_cell : is_used cs c ≡ false → Logs r Stuck cs [] → CellLogs c cs o left r
    foreign_cell : is_used cs c ≡ true → (Own (access_at cs c) → ⊥)
        → Logs r Foreign cs (access_at cs c ∷ []) → CellLogs c cs o left r
    own_cell : is_used cs c ≡ true → Own (access_at cs c)
        → Logs r o left (access_at cs c ∷ []) → CellLogs c cs o left r

  -- the content, and the cells stay; or the value, and it is in the cell, which keeps its owner
  abbrev pub LoadLogs : ℕ → List Stored → EvalResult → Type 0
  LoadLogs c cs r = CellLogs c cs (Is (cell_at cs c).content) cs r

  abbrev pub StoreLogs : ℕ → Value → List Stored → EvalResult → Type 0
  StoreLogs c v cs r = CellLogs c cs (Is v) (put cs c v) r

  -- the acting thread's access to the cell that it would make, of owner o
  abbrev pub creation : List Stored → ℕ → Access
  creation cs o = access_of h (free_number cs) o

  -- the cell may not be another's, and there has to be space for it; then it is there, the last one
  pub data AllocateLogs (o : ℕ) (v : Value) (cs : List Stored) (r : EvalResult) : Type 0 where
    foreign_new : (Own (creation cs o) → ⊥) → Logs r Foreign cs (creation cs o ∷ [])
        → AllocateLogs o v cs r
    no_space : Own (creation cs o) → most_cells ≤ used_cells cs
        → Logs r Spent cs (creation cs o ∷ []) → AllocateLogs o v cs r
    made : Own (creation cs o) → used_cells cs < most_cells
        → Logs r (Is (Cell (free_number cs))) (with_new_cell cs (record { owner = o; content = v }))
        (creation cs o ∷ [])
        → AllocateLogs o v cs r

  -- ---- that it is so

  -- the test for one's own cells is exact
  own_passes : (c o : ℕ) → Own (access_of h c o) → is_own h o ≡ true
  unfolding is_own
  own_passes c o (inl e) = rw (eq-eqb o (thread_owner h.thread) e) refl
  own_passes c o (inr (l, e)) =
      rw (le-leb home h.place l, eq-eqb o h.place e)
      (or_on (eqb o (thread_owner h.thread)))

  not_own : (c o : ℕ) → is_own h o ≡ false → Own (access_of h c o) → ⊥
  not_own c o e own = true≢false (sym (own_passes c o own) ∙ e)

  at_logs : (c : ℕ) (m : Evaluation) (cs : List Stored) → (m cs).accesses ≡ []
      → CellLogs c cs (m cs).outcome (m cs).cells (at_cell h c m cs)
  unfolding at_cell accessing
  at_logs c m cs z =
      if_all Q (is_used cs c) _ _
      (λ e. if_all (λ r. Q (with_accesses (access_at cs c ∷ []) r)) (is_own h o) _ _
      (λ f. own_cell e (is_own_lem h c o f)
      (record { outcome = refl; cells = refl; accesses = ap (λ l. access_at cs c ∷ l) z }))
      (λ f. foreign_cell e (not_own c o f)
      (record { outcome = refl; cells = refl; accesses = refl })))
      (λ e. no_cell e (record { outcome = refl; cells = refl; accesses = refl }))
    where
      o : ℕ
      o = (cell_at cs c).owner

      Q : EvalResult → Type 0
      Q r = CellLogs c cs (m cs).outcome (m cs).cells r

  pub load_logs : (c : ℕ) (cs : List Stored) → LoadLogs c cs (load h c cs)
  load_logs c cs = at_logs c _ cs refl

  pub store_logs : (c : ℕ) (v : Value) (cs : List Stored) → StoreLogs c v cs (store h c v cs)
  store_logs c v cs = at_logs c (put_in c v) cs refl

  pub allocate_logs : (o : ℕ) (v : Value) (cs : List Stored)
      → AllocateLogs o v cs (allocate h o v cs)
  unfolding accessing add_cell
  allocate_logs o v cs =
      if_all Q (is_own h o) _ _
      (λ f. if_all Q (ltb (used_cells cs) most_cells) _ _
      (λ e. made (is_own_lem h (free_number cs) o f) (ltb-true (used_cells cs) most_cells e)
      (record { outcome = refl; cells = refl; accesses = refl }))
      (λ e. no_space (is_own_lem h (free_number cs) o f) (ltb-false (used_cells cs) most_cells e)
      (record { outcome = refl; cells = refl; accesses = refl })))
      (λ f. foreign_new (not_own (free_number cs) o f)
      (record { outcome = refl; cells = refl; accesses = refl }))
    where
      Q : EvalResult → Type 0
      Q r = AllocateLogs o v cs (with_accesses (creation cs o ∷ []) r)
