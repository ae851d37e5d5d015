-- A list in its space, with 0 after its members: one member pushed, one popped, is one word set.
-- Assumes nothing.
use Prim.Native.Nat.{ℕ, ◌+◌, ◌<◌, ◌≤◌}
use mathlib.Core.Path.{◌≡◌, refl, sym, ap, ◌∙◌}
use mathlib.Core.List.{List, [], ◌∷◌, ◌++◌}
use mathlib.Core.Bool.{Bool, true, false}
use native.Mathlib.Omega.{arith}
use native.Mathlib.Decide.{ℕ_discrete}
use lib.Dec.{ltb}
use borrow.Author.Tests.{ltb-true, ltb-false}
use lib.ListN.{get_or, length, set, length-set, length-append, get_or-append, get_or-eq_default}
use lib.Seq.{ext_get_or, get_or_at, get_or-set_same, get_or-set_other}
use Rattle.machine.specs.Inner.Blocks.{padded}
use Rattle.machine.proofs.WordLaws.{tab_length, tab_at}

pub padded-length : (n : ℕ) (ws : List ℕ) → length (padded n ws) ≡ n
unfolding padded
padded-length n ws = tab_length n (λ j. get_or ws j 0) 0

pub padded_at : (n : ℕ) (ws : List ℕ) (j : ℕ) → j < n → get_or (padded n ws) j 0 ≡ get_or ws j 0
unfolding padded
padded_at n ws j h = tab_at n (λ i. get_or ws i 0) j 0 h

pub padded_push : (n : ℕ) (ws : List ℕ) (v : ℕ) → length ws < n
    → set (padded n ws) (length ws) v ≡ padded n (ws ++ (v ∷ []))
padded_push n ws v h = ext_get_or 0 (set (padded n ws) (length ws) v) (padded n (ws ++ (v ∷ []))) (size ∙ sym (padded-length n (ws ++ (v ∷ []))))
    (λ j g. let m : j < n = rw size at g in at j m (ℕ_discrete j (length ws)) ∙ sym (padded_at n (ws ++ (v ∷ [])) j m))
  where
    size : length (set (padded n ws) (length ws) v) ≡ n
    size = length-set (padded n ws) (length ws) v ∙ padded-length n ws

    longer : length (ws ++ (v ∷ [])) ≡ length ws + 1
    longer = length-append ws (v ∷ [])

    at : (j : ℕ) → j < n → Dec (j ≡ length ws)
        → get_or (set (padded n ws) (length ws) v) j 0 ≡ get_or (ws ++ (v ∷ [])) j 0
    at j g (yes e) =
        ap (λ (k : ℕ). get_or (set (padded n ws) (length ws) v) k 0) e
        ∙ get_or-set_same (padded n ws) (length ws) v 0 (rw padded-length h)
        ∙ sym (get_or_at ws v [] 0 (length ws) refl)
        ∙ ap (λ (k : ℕ). get_or (ws ++ (v ∷ [])) k 0) (sym e)
    at j g (no e) =
        get_or-set_other (padded n ws) (length ws) j v 0 e ∙ padded_at n ws j g
        ∙ go (ltb j (length ws)) refl
      where
        go : (b : Bool) → ltb j (length ws) ≡ b → get_or ws j 0 ≡ get_or (ws ++ (v ∷ [])) j 0
        go true q = sym (get_or-append ws (v ∷ []) 0 j (ltb-true j (length ws) q))
        go false q = let l : length ws ≤ j = ltb-false j (length ws) q in
            get_or-eq_default ws 0 {n = j} l ∙ sym (get_or-eq_default (ws ++ (v ∷ [])) 0 {n = j} (let x : length (ws ++ (v ∷ [])) ≡ length ws + 1 = longer in more j e l x))
          where
            more : (j : ℕ) → (j ≡ length ws → ⊥) → length ws ≤ j
                → length (ws ++ (v ∷ [])) ≡ length ws + 1 → length (ws ++ (v ∷ [])) ≤ j
            more j e l x = omega arith

pub padded_pop : (n : ℕ) (ws : List ℕ) (v : ℕ) → length ws < n
    → set (padded n (ws ++ (v ∷ []))) (length ws) 0 ≡ padded n ws
padded_pop n ws v h = ext_get_or 0 (set (padded n (ws ++ (v ∷ []))) (length ws) 0) (padded n ws) (size ∙ sym (padded-length n ws))
    (λ j g. let m : j < n = rw size at g in at j m (ℕ_discrete j (length ws)) ∙ sym (padded_at n ws j m))
  where
    size : length (set (padded n (ws ++ (v ∷ []))) (length ws) 0) ≡ n
    size = length-set (padded n (ws ++ (v ∷ []))) (length ws) 0 ∙ padded-length n (ws ++ (v ∷ []))

    at : (j : ℕ) → j < n → Dec (j ≡ length ws)
        → get_or (set (padded n (ws ++ (v ∷ []))) (length ws) 0) j 0 ≡ get_or ws j 0
    at j g (yes e) =
        ap (λ (k : ℕ). get_or (set (padded n (ws ++ (v ∷ []))) (length ws) 0) k 0) e
        ∙ get_or-set_same (padded n (ws ++ (v ∷ []))) (length ws) 0 0 (rw padded-length h)
        ∙ sym (get_or-eq_default ws 0 {n = j} (omega arith))
    at j g (no e) =
        get_or-set_other (padded n (ws ++ (v ∷ []))) (length ws) j 0 0 e
        ∙ sym (ap (λ (l : List ℕ). get_or l j 0) (padded_push n ws v h)) ∙ before j g e
      where
        before : (j : ℕ) → j < n → (j ≡ length ws → ⊥)
            → get_or (set (padded n ws) (length ws) v) j 0 ≡ get_or ws j 0
        before j g e = get_or-set_other (padded n ws) (length ws) j v 0 e ∙ padded_at n ws j g
