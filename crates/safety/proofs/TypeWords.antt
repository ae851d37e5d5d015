-- Type words as types, and which are well formed: what a scheduler's cell holds is public, all the
-- way in. Assumes nothing.
use mathlib.Core.Path.{◌≡◌, refl, sym, ap, subst, ◌∙◌}
use mathlib.Core.Logic.{◌⊎◌, inl, inr}
use mathlib.Core.Bool.{Bool, true, false, not, ◌&&◌, ◌||◌, true≢false}
use Prim.Native.Nat.{ℕ, zero, suc, ◌+◌, ◌*◌, ◌/◌, ◌%◌, ◌^◌, ◌≤◌, ◌<◌}
use native.Mathlib.Nat.{div-div-eq-div-mul}
use native.Mathlib.Omega.{arith}
use native.Mathlib.Decide.{dec_lt, ℕ_discrete}
use lib.Dec.{leb, eqb}
use borrow.Author.Tests.{leb-true, le-leb, eqb-true, eq-eqb, ne_eqb}
use Rattle.basics.specs.If.{when◌then◌else◌}
use Rattle.basics.proofs.Ifs.{if_yes, if_no, and_true}
use Rattle.language.specs.Places.{private, has_place}
use Rattle.language.specs.Types.{number_type, truth_type, cell_depth, is_cell, cell_type, owner_of}
use Rattle.language.specs.Types.{content_of, public, digit_of, owner_digit, type_word, content_word}
use Rattle.language.proofs.PlaceLaws.{test_bounds, has_place_lem}
use Rattle.language.proofs.Words.{depth_0, depth_1, depth_3}
use Rattle.language.proofs.Cells.{Around, around}
use Rattle.safety.proofs.Typing.{Ty, num, tru, cell, Pub}

-- the type of a word of d cells
unfoldable pub ty_to : ℕ → ℕ → Ty
ty_to zero t = when eqb t truth_type then tru else num
ty_to (suc d) t = cell (owner_of t) (ty_to d (content_of t))

unfoldable pub ty_of : ℕ → Ty
ty_of t = ty_to (cell_depth t) t

pub ty_number : ty_of number_type ≡ num
unfolding ty_of ty_to cell_depth when◌then◌else◌
ty_number = refl

pub ty_truth : ty_of truth_type ≡ tru
unfolding ty_of ty_to cell_depth when◌then◌else◌
ty_truth = refl

module _ (o t : ℕ) (low : 1 ≤ o) (high : o ≤ 9) (room : t < 0x1000) where
  of_cell : Around o t
  of_cell = around o t low (omega arith) room

  pub ty_cell : ty_of (cell_type o t) ≡ cell o (ty_of t)
  unfolding ty_of ty_to
  ty_cell =
      ap (λ (d : ℕ). ty_to d (cell_type o t)) of_cell.deeper
      ∙ ap (λ (p : ℕ). cell p (ty_to (cell_depth t) (content_of (cell_type o t)))) of_cell.owner
      ∙ ap (λ (u : ℕ). cell o (ty_to (cell_depth t) u)) of_cell.content

  pub is_cell_lem : is_cell (cell_type o t) ≡ true
  is_cell_lem = go (dec_lt (cell_type o t) 0x0010)
    where
      go : Dec (cell_type o t < 0x0010) → is_cell (cell_type o t) ≡ true
      go (yes l) =
          let a = depth_0 (cell_type o t) l in let b = of_cell.deeper in absurd (omega arith)
      go (no n) = le-leb 0x0010 (cell_type o t) (omega (arith, n))

-- a number, a truth, or a cell of a place around a well-formed word, which is public where the
-- place is a scheduler
pub data Formed : ℕ → Type 0 where
  number : Formed number_type
  truth : Formed truth_type
  around_of : {o t : ℕ} → 1 ≤ o → o ≤ 9 → t < 0x1000 → (2 ≤ o → Pub (ty_of t)) → Formed t
      → Formed (cell_type o t)

-- what a well-formed cell's type is made of
pub record CellWord (t : ℕ) : Type 0 where
  pub low : 1 ≤ owner_of t
  pub high : owner_of t ≤ 9
  pub same : ty_of t ≡ cell (owner_of t) (ty_of (content_of t))
  pub inner : Formed (content_of t)

pub formed_cell : {t : ℕ} → Formed t → is_cell t ≡ true → CellWord t
formed_cell Formed.number e = absurd (true≢false (sym e))
formed_cell Formed.truth e = absurd (true≢false (sym e))
formed_cell (Formed.around_of {o = o} {t = t} l h r p f) e =
    let a = of_cell o t l h r in
    let w = a.owner in
    record {
      low = omega arith;
      high = omega arith;
      same =
          ty_cell o t l h r ∙ ap (λ (q : ℕ). cell q (ty_of t)) (sym w)
          ∙ ap (λ (u : ℕ). cell (owner_of (cell_type o t)) (ty_of u)) (sym a.content);
      inner = subst Formed (sym a.content) f;
    }

pub formed_plain : {t : ℕ} → Formed t → is_cell t ≡ false → (t ≡ number_type) ⊎ (t ≡ truth_type)
formed_plain Formed.number e = inl refl
formed_plain Formed.truth e = inr refl
formed_plain (Formed.around_of {o =
    o} {t = t} l h r p f) e = absurd (true≢false (sym (is_cell_lem o t l h r) ∙ e))

-- a public well-formed word is a public type
pub formed_public : {t : ℕ} → Formed t → public t ≡ true → Pub (ty_of t)
unfolding public
formed_public Formed.number e = subst Pub (sym ty_number) tt
formed_public Formed.truth e = subst Pub (sym ty_truth) tt
formed_public (Formed.around_of {o =
    o} {t = t} l h r p f) e = subst Pub (sym (ty_cell o t l h r)) (two (ℕ_discrete o 1))
  where
    two : Dec (o ≡ 1) → 2 ≤ o
    two (no n) = omega (arith, n)
    two (yes q) =
        let w : eqb (owner_of (cell_type o t)) private ≡ true = eq-eqb _ 1 ((of_cell o t l h r).owner ∙ q) in
        absurd (true≢false (sym e ∙ ap not w))

-- ---- the words that refusal 5 lets by are well formed

-- an owner digit o, with the digit `left` to its left
record Digit (left o : ℕ) : Type 0 where
  low : 1 ≤ o
  high : o ≤ 9
  -- 'A digit 1 (as owner) has only 1 or 0 to its left.'
  public : 2 ≤ left → 2 ≤ o

owner_digit_lem : (b left o : ℕ) → owner_digit b left o ≡ true → (o ≡ 0 → ⊥) → Digit left o
unfolding owner_digit
owner_digit_lem b left o h n =
    let w = and_true (has_place b o) (not (eqb o private) || leb left private) (sym (if_no (eqb left 0) (has_place b o && (not (eqb o private) || leb left private)) (ne_eqb o 0 n)) ∙ h) in
    let (l, m) = test_bounds 1 o (has_place_lem b o w.0).0 in
    record { low = l; high = m; public = λ two. one (ℕ_discrete o 1) l w.1 two }
  where
    one : Dec (o ≡ 1) → 1 ≤ o → (not (eqb o private) || leb left private) ≡ true → 2 ≤ left → 2 ≤ o
    one (no m) l e two = omega (arith, m)
    one (yes q) l e two =
        let r : (not (eqb o private) || leb left private) ≡ leb left private = rw (eq-eqb o 1 q) in
        let k = leb-true left 1 (sym r ∙ e) in
        absurd (omega arith)

-- '0 only fills on the left'
no_digit : (b left o : ℕ) → owner_digit b left o ≡ true → o ≡ 0 → left ≡ 0
unfolding owner_digit
no_digit b left o h e = eqb-true left 0 (sym (if_yes (eqb left 0) _ (eq-eqb o 0 e)) ∙ h)

three_digits : (t y : ℕ) → y ≡ t / 0x0010 → t / 0x0100 ≡ y / 0x0010 → t < 0x1000
    → t / 0x0100 % 16 * 0x0100 + (y % 16 * 0x0010 + t % 16) ≡ t
three_digits t y e f h = omega arith

module _ (b t : ℕ) (room : t < 0x1000) (word : type_word b t ≡ true) where
  -- what `type_word` says of the three digits of a word below 0x1000
  record Digits : Type 0 where
    last : (digit_of 0 t ≡ 1) ⊎ (digit_of 0 t ≡ 2)
    first : owner_digit b (digit_of 2 t) (digit_of 1 t) ≡ true
    second : owner_digit b (digit_of 3 t) (digit_of 2 t) ≡ true

  digits : Digits
  unfolding type_word
  digits =
      let w = and_true _ (owner_digit b 0 (digit_of 3 t)) word in
      let x = and_true _ (owner_digit b (digit_of 3 t) (digit_of 2 t)) w.0 in
      let y = and_true (eqb (digit_of 0 t) number_type || eqb (digit_of 0 t) truth_type) (owner_digit b (digit_of 2 t) (digit_of 1 t)) x.0 in
      record { last = kind (eqb (digit_of 0 t) 1) refl y.0; first = y.1; second = x.1 }
    where
      kind : (k : Bool) → eqb (digit_of 0 t) 1 ≡ k → (k || eqb (digit_of 0 t) truth_type) ≡ true
          → (digit_of 0 t ≡ 1) ⊎ (digit_of 0 t ≡ 2)
      kind true e h = inl (eqb-true _ 1 e)
      kind false e h = inr (eqb-true _ 2 h)

  -- the last digit by itself
  base : (x : ℕ) → (x ≡ 1) ⊎ (x ≡ 2) → Formed x × (x < 0x0010) × Pub (ty_of x)
  base x (inl e) = subst (λ (y : ℕ). Formed y × (y < 0x0010) × Pub (ty_of y)) (sym e) (Formed.number, omega arith, subst Pub (sym ty_number) tt)
  base x (inr e) = subst (λ (y : ℕ). Formed y × (y < 0x0010) × Pub (ty_of y)) (sym e) (Formed.truth, omega arith, subst Pub (sym ty_truth) tt)

  -- a cell around a word of no cell, and of one
  around_0 : (o x : ℕ) → x < 0x0010 → cell_type o x ≡ o * 0x0010 + x
  unfolding cell_type
  around_0 o x h = ap (λ (d : ℕ). o * 16 ^ suc d + x) (sym (depth_0 x h))

  around_1 : (o x : ℕ) → 0x0010 ≤ x → x < 0x0100 → cell_type o x ≡ o * 0x0100 + x
  unfolding cell_type
  around_1 o x a h = ap (λ (d : ℕ). o * 16 ^ suc d + x) (sym (depth_1 x a h))

  -- t is of one cell, of two, around its last digit x
  one_cell : (x : ℕ) → digit_of 0 t ≡ x → Formed x → x < 0x0010 → Pub (ty_of x) → t < 0x0100
      → Digit (digit_of 2 t) (digit_of 1 t) → Formed t
  one_cell x q f l p h d =
      let e = around_0 (digit_of 1 t) x l in
      let g = d.low in
      let k : cell_type (digit_of 1 t) x ≡ t = e ∙ omega arith in
      subst Formed k (Formed.around_of d.low d.high (omega arith) (λ _. p) f)

  two_cells : (x : ℕ) → digit_of 0 t ≡ x → Formed x → x < 0x0010 → Pub (ty_of x)
      → Digit (digit_of 2 t) (digit_of 1 t) → Digit (digit_of 3 t) (digit_of 2 t) → Formed t
  two_cells x q f l p d g =
      let e = around_0 (digit_of 1 t) x l in
      let a = d.low in
      let b = d.high in
      let u = around_1 (digit_of 2 t) (cell_type (digit_of 1 t) x) (omega arith) (omega arith) in
      let k : cell_type (digit_of 2 t) (cell_type (digit_of 1 t) x) ≡ t = u ∙ (let s = three_digits t (t / 0x0010) refl (sym (div-div-eq-div-mul t 16 16)) room in omega arith) in
      subst Formed k
      (Formed.around_of g.low g.high (omega arith) (λ h. subst Pub (sym (ty_cell (digit_of 1 t) x a b (omega arith))) (d.public h))
      (Formed.around_of a b (omega arith) (λ _. p) f))

  pub formed_word : Formed t
  formed_word =
      let r = digits in
      let z = base (digit_of 0 t) r.last in
      go (dec_lt t 0x0010) (dec_lt t 0x0100) z.0 z.1 z.2 r.first r.second
    where
      go : Dec (t < 0x0010) → Dec (t < 0x0100) → Formed (digit_of 0 t) → digit_of 0 t < 0x0010
          → Pub (ty_of (digit_of 0 t)) → owner_digit b (digit_of 2 t) (digit_of 1 t) ≡ true
          → owner_digit b (digit_of 3 t) (digit_of 2 t) ≡ true → Formed t
      go (yes l) _ f k p x y = let e : digit_of 0 t ≡ t = omega arith in subst Formed e f
      go (no m) (yes l) f k p x y = one_cell (digit_of 0 t) refl f k p l (owner_digit_lem b (digit_of 2 t) (digit_of 1 t) x (λ z. omega (arith, m, z)))
      go (no m) (no l) f k p x y =
          let two : digit_of 2 t ≡ 0 → ⊥ = λ z. omega (arith, l, z) in
          two_cells (digit_of 0 t) refl f k p (owner_digit_lem b (digit_of 2 t) (digit_of 1 t) x (λ z. two (no_digit b (digit_of 2 t) (digit_of 1 t) x z)))
          (owner_digit_lem b (digit_of 3 t) (digit_of 2 t) y two)

-- 'A shared cell's content type is public, at most two cells deep.'
pub record ContentWord (t : ℕ) : Type 0 where
  pub room : t < 0x1000
  pub formed : Formed t
  pub public : Pub (ty_of t)

pub content_word_lem : (b t : ℕ) → content_word b t ≡ true → ContentWord t
unfolding content_word
content_word_lem b t h =
    let w = and_true _ (leb (cell_depth t) 2) h in
    let v = and_true (type_word b t) (public t) w.0 in
    let d = leb-true (cell_depth t) 2 w.1 in
    let r = fits (dec_lt t 0x1000) d in
    let f = formed_word b t r v.0 in
    record { room = r; formed = f; public = formed_public f v.1 }
  where
    fits : Dec (t < 0x1000) → cell_depth t ≤ 2 → t < 0x1000
    fits (yes l) d = l
    fits (no n) d =
        let e = depth_3 t (omega (arith, n)) (omega (arith, n)) (omega (arith, n)) in
        absurd (omega arith)
