-- The cells in use: what evaluations, words and types need to know of `is_used`, `free_number`,
-- `used_cells` and `with_new_cell`. No other law opens them. Assumes nothing.
use mathlib.Core.Path.{◌≡◌, refl, sym, ap, ◌∙◌}
use mathlib.Core.List.{List, [], ◌∷◌, ◌++◌}
use mathlib.Core.Bool.{Bool, true, false}
use Prim.Native.Nat.{ℕ, ◌+◌}
use native.Mathlib.Omega.{arith}
use lib.Dec.{ltb}
use lib.ListN.{length, get_or, set, length-append, length-set, get_or-append, get_or-eq_default}
use lib.Seq.{get_or-set_same, get_or-append_seam}
use borrow.Author.Tests.{ltb-true, ltb-false, lt-ltb, le-ltb}
use Rattle.machine.specs.State.{Stored, no_cell, cell_at, is_used, free_number, used_cells}
use Rattle.machine.specs.State.{with_new_cell}
use Rattle.machine.specs.declared.value.Value.{Value}

-- ---- in use

-- a cell that has an owner is in use
pub owner_used : (cs : List Stored) (c : ℕ) → ((cell_at cs c).owner ≡ 0 → ⊥) → is_used cs c ≡ true
owner_used cs c n = go (ltb c (length cs)) refl
  where
    go : (b : Bool) → ltb c (length cs) ≡ b → ltb c (length cs) ≡ true
    go true e = e
    go false e = absurd (n (ap (λ (x : Stored). x.owner) (get_or-eq_default cs no_cell {n = c} (ltb-false c (length cs) e))))

-- the number that a new cell takes is that of none
pub free_unused : (cs : List Stored) → is_used cs (free_number cs) ≡ false
free_unused cs = le-ltb (length cs) (length cs) (omega arith)

-- ---- one more

pub new_at : (cs : List Stored) (x : Stored) → cell_at (with_new_cell cs x) (free_number cs) ≡ x
new_at cs x = get_or-append_seam cs x [] no_cell

-- every other number says what it said
pub new_other : (cs : List Stored) (x : Stored) (c : ℕ) → (c ≡ free_number cs → ⊥)
    → cell_at (with_new_cell cs x) c ≡ cell_at cs c
new_other cs x c n = go (ltb c (length cs)) refl
  where
    go : (b : Bool) → ltb c (length cs) ≡ b → get_or (cs ++ (x ∷ [])) c no_cell ≡ get_or cs c no_cell
    go true e = get_or-append cs (x ∷ []) no_cell c (ltb-true c (length cs) e)
    go false e =
        let l = ltb-false c (length cs) e in let k = length-append cs (x ∷ []) in
        get_or-eq_default (cs ++ (x ∷ [])) no_cell {n = c} (omega (arith, n, k, l))
        ∙ sym (get_or-eq_default cs no_cell {n = c} l)

-- which are in use beside it
pub new_used_other : (cs : List Stored) (x : Stored) (c : ℕ) → (c ≡ free_number cs → ⊥)
    → is_used (with_new_cell cs x) c ≡ is_used cs c
new_used_other cs x c n = go (ltb c (length cs)) refl
  where
    go : (b : Bool) → ltb c (length cs) ≡ b → ltb c (length (cs ++ (x ∷ []))) ≡ ltb c (length cs)
    go true e =
        let l = ltb-true c (length cs) e in
        let k = length-append cs (x ∷ []) in
        lt-ltb c (length (cs ++ (x ∷ []))) (omega arith) ∙ sym e
    go false e =
        let l = ltb-false c (length cs) e in
        let k = length-append cs (x ∷ []) in
        le-ltb c (length (cs ++ (x ∷ []))) (omega (arith, n, k, l)) ∙ sym e

pub count_new : (cs : List Stored) (x : Stored) → used_cells (with_new_cell cs x) ≡ used_cells cs + 1
count_new cs x = length-append cs (x ∷ [])

-- ---- another content in one of them: the owner stays

abbrev pub put : List Stored → ℕ → Value → List Stored
put cs c v = set cs c (record { owner = (cell_at cs c).owner; content = v })

pub put_at : (cs : List Stored) (c : ℕ) (v : Value) → is_used cs c ≡ true
    → cell_at (put cs c v) c ≡ record { owner = (cell_at cs c).owner; content = v }
put_at cs c v e = get_or-set_same cs c _ no_cell (ltb-true c (length cs) e)

pub put_used : (cs : List Stored) (c : ℕ) (v : Value) (d : ℕ) → is_used (put cs c v) d ≡ is_used cs d
put_used cs c v d = ap (ltb d) (length-set cs c _)

pub put_count : (cs : List Stored) (c : ℕ) (v : Value) → used_cells (put cs c v) ≡ used_cells cs
put_count cs c v = length-set cs c _
