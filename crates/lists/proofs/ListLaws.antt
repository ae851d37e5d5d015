-- A scheduler's lists in the words: an entry at the end, the first that leaves; one law for each
-- turn of a loop and each return of the code. Assumes nothing.
use Prim.Native.Nat.{ℕ, ◌+◌, ◌*◌, ◌-◌, ◌<◌, ◌≤◌}
use mathlib.Core.Path.{◌≡◌, refl, sym, ap, ◌∙◌}
use mathlib.Core.List.{List, [], ◌∷◌, ◌++◌}
use mathlib.Core.Bool.{true, false}
use native.Mathlib.Omega.{arith}
use Rattle.std.specs.List.{copy_within}
use Rattle.std.proofs.lemmas.List.{get_or-take, length-take-le, ext_get_or}
use lib.ListN.{get_or, length, set, take, drop, length-append, length-drop, get_or-append}
use lib.Seq.{get_or-drop, get_or_at}
use lib.Dec.{leb, ltb, eqb}
use borrow.Author.Tests.{lt-ltb, le-ltb, lt-leb, eq-eqb, ne_eqb}
use Rattle.basics.specs.If.{when◌then◌else◌}
use Rattle.basics.proofs.Ifs.{yes, no}
use Rattle.language.specs.Places.{is_scheduler}
use Rattle.language.proofs.PlaceLaws.{test_bounds}
use Rattle.machine.specs.Inner.Blocks.{part, pasted}
use Rattle.machine.proofs.WordLaws.{pasted_more, part_at, part_length}
use Rattle.lists.specs.Inner.Lists.{shifted, without_first, with_last}

-- ---- where the lists of a scheduler begin; k is which of the schedulers it is, from 0
pub active_space : (n k : ℕ) → k ≡ n - 2 → is_scheduler n ≡ true → 2 + 130 * k + 130 ≤ 1042
active_space n k e h = let (a, b) = test_bounds 2 n h in omega arith

-- ---- the end of a next list
module _ (w : List ℕ) (at i m : ℕ) (z : at ≡ i) where
  pub room_rest : leb (get_or w at 0 + m) 64 ≡ leb (get_or w i 0 + m) 64
  room_rest = ap (λ (j : ℕ). leb (get_or w j 0 + m) 64) z

  pub room_none : 64 < get_or w at 0 → false ≡ leb (get_or w i 0 + m) 64
  room_none h = sym (lt-leb (get_or w at 0 + m) 64 (omega arith)) ∙ room_rest

pub ruleset room_laws = (room_none, room_rest)

module _ (w : List ℕ) (at k e : ℕ) (z : at ≡ 67 + 130 * k) where
  abbrev last_at : ℕ → List ℕ
  last_at i =
      when ltb (get_or w i 0) 64 then set (set w (i + 1 + get_or w i 0) e) i (get_or w i 0 + 1) else w

  pub last_full : 64 ≤ get_or w at 0 → w ≡ with_last w k e
  unfolding with_last
  last_full h = no _ (le-ltb (get_or w at 0) 64 h) refl ∙ ap last_at z

  pub last_more : get_or w at 0 < 64
      → set (set w (at + 1 + get_or w at 0) e) at (get_or w at 0 + 1) ≡ with_last w k e
  unfolding with_last
  last_more h = yes _ (lt-ltb (get_or w at 0) 64 h) refl ∙ ap last_at z

pub ruleset last_laws = (last_full, last_more)

-- ---- the first leaves
module _ (ws : List ℕ) (n : ℕ) (some : 1 ≤ n) (h : length ws ≡ n) where
  tail_length : length (drop 1 ws) ≡ n - 1
  tail_length = length-drop 1 ws ∙ ap (λ (m : ℕ). m - 1) h

  pub shifted-length : length (shifted ws) ≡ n
  unfolding shifted
  shifted-length =
      let z : n - 1 + 1 ≡ n = omega arith in
      length-append (drop 1 ws) (0 ∷ []) ∙ ap (λ (m : ℕ). m + 1) tail_length ∙ z

  pub shifted_at : (j : ℕ) → j < n - 1 → get_or (shifted ws) j 0 ≡ get_or ws (1 + j) 0
  unfolding shifted
  shifted_at j g =
      get_or-append (drop 1 ws) (0 ∷ []) 0 j (rw tail_length g) ∙ get_or-drop 1 ws j 0

  pub shifted_last : get_or (shifted ws) (n - 1) 0 ≡ 0
  unfolding shifted
  shifted_last = get_or_at (drop 1 ws) 0 [] 0 (n - 1) tail_length

module _ (w : List ℕ) (at n : ℕ) (some : 1 ≤ n) (h : at + n ≤ length w) where
  abbrev B : List ℕ
  B = shifted (part w at n)

  block : length (part w at n) ≡ n
  block = part_length w at n h

  long : length (shifted (part w at n)) ≡ n
  long = shifted-length (part w at n) n some block

  -- the same words are copied, whether they are taken from all words or from the part
  same : (m : ℕ) → m ≡ n - 1 → take m (drop (at + 1) w) ≡ take m (shifted (part w at n))
  same m e =
      ext_get_or 0 _ _
      (length-take-le m (drop (at + 1) w) (rw (length-drop (at + 1) w) (omega arith))
      ∙ sym (length-take-le m B (let l = long in omega arith)))
      (λ i g. let k : i < m = rw (length-take-le m (drop (at + 1) w) (rw (length-drop (at + 1) w) (omega arith))) at g in
      get_or-take m (drop (at + 1) w) i 0 k ∙ get_or-drop (at + 1) w i 0
      ∙ ap (λ (j : ℕ). get_or w j 0) (next i)
      ∙ sym (part_at w at n (1 + i) (omega arith))
      ∙ sym (shifted_at (part w at n) n some block i (omega arith))
      ∙ sym (get_or-take m B i 0 k))
    where
      next : (i : ℕ) → at + 1 + i ≡ at + (1 + i)
      next i = omega arith

  pub shift_copied : (v : List ℕ) → v ≡ copy_within w (at + 1) (at + n) at
      → set v (at + n - 1) 0 ≡ pasted w at (shifted (part w at n)) n
  unfolding pasted
  shift_copied v e =
      let m : ℕ = at + n - (at + 1) in
      let z : at + n - 1 ≡ at + (n - 1) = omega arith in
      let x : m ≡ n - 1 = omega arith in
      let y : n - 1 + 1 ≡ n = omega arith in
      ap (λ (k : ℕ). set v k 0) z
      ∙ pasted_more w B v at (n - 1) 0
      (e ∙ ap (λ (l : List ℕ). take at w ++ l ++ drop (at + m) w) (same m x) ∙ ap (pasted w at B) x)
      (sym (shifted_last (part w at n) n some block)) (omega arith) (let l = long in omega arith)
      ∙ ap (pasted w at B) y

-- `drop_first`
module _ (w : List ℕ) (at k : ℕ) (z : at ≡ 2 + 130 * k) where
  abbrev rest_at : ℕ → List ℕ
  rest_at i =
      when eqb (get_or w i 0) 0 then w else
      when ltb 64 (get_or w i 0) then w else
      set (pasted w (i + 1) (shifted (part w (i + 1) (get_or w i 0))) (get_or w i 0)) i (get_or w i 0 - 1)

  pub first_none : get_or w at 0 ≡ 0 → w ≡ without_first w k
  unfolding without_first
  first_none h = yes _ (eq-eqb (get_or w at 0) 0 h) refl ∙ ap rest_at z

  pub first_over : (get_or w at 0 ≡ 0 → ⊥) → 64 < get_or w at 0 → w ≡ without_first w k
  unfolding without_first
  first_over h g =
      no _ (ne_eqb (get_or w at 0) 0 h) (yes _ (lt-ltb 64 (get_or w at 0) g) refl) ∙ ap rest_at z

  pub first_gone : (v : List ℕ) → (get_or w at 0 ≡ 0 → ⊥) → get_or w at 0 ≤ 64
      → v ≡ pasted w (at + 1) (shifted (part w (at + 1) (get_or w at 0))) (get_or w at 0)
      → set v at (get_or w at 0 - 1) ≡ without_first w k
  unfolding without_first
  first_gone v h g e =
      no _ (ne_eqb (get_or w at 0) 0 h) (no _ (le-ltb 64 (get_or w at 0) g)
      (ap (λ (l : List ℕ). set l at (get_or w at 0 - 1)) e))
      ∙ ap rest_at z

pub ruleset first_laws = (first_none, first_over, first_gone)
