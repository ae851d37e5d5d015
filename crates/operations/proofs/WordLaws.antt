-- Single words: a law for each return of `value_of`, and that the word of a value or of a cell
-- reads back as it was. Assumes nothing.
use Rattle.std.proofs.Common.{◌≡◌, ℕ, ◌+◌, ◌-◌, ◌*◌, ◌/◌, ◌%◌, ◌^◌, ◌<◌, ◌≤◌, Bool, true, false, eqb, ltb, sym, refl, ap, ◌∙◌, subst, arith, ltb-false, ltb-true, le-ltb, lt-ltb, leb-true}
use Rattle.basics.proofs.Ifs.{if_yes, if_no, yes, no}
use Rattle.machine.specs.State.{Stored}
use Rattle.machine.specs.Words.{value_word, word_value, cell_word, word_cell}
use Rattle.machine.specs.Inner.Ranges.{value_in_range}
use Rattle.machine.specs.declared.value.Value.{Value}
use Rattle.machine.specs.declared.value.Value.TheVariants.{Number, Truth, Cell}
use Rattle.machine.specs.Shapes.{ValueFits, number, truth, cell}
use Rattle.machine.proofs.Round.{value_below}
use Rattle.machine.proofs.InShape.{value_in_lem}
use Rattle.machine.proofs.Valid.{value_there}
use Rattle.operations.specs.Inner.ByWords.{value_in, owner_in, content_in}

-- ---- the value of a word
pub value_number : (w : ℕ) → w < 2 ^ 32 → Number w ≡ value_in w
unfolding value_in
value_number w h = yes _ (lt-ltb _ _ h) refl

pub value_truth : (w : ℕ) → 2 ^ 32 ≤ w → w < 2 * 2 ^ 32 → Truth (eqb w (2 ^ 32 + 1)) ≡ value_in w
unfolding value_in
value_truth w g h = no _ (le-ltb _ _ g) (yes _ (lt-ltb _ _ h) refl)

pub value_cell : (w : ℕ) → 2 ^ 32 ≤ w → 2 * 2 ^ 32 ≤ w → Cell (w % 256) ≡ value_in w
unfolding value_in
value_cell w g h = no _ (le-ltb _ _ g) (no _ (le-ltb _ _ h) refl)

pub ruleset value_laws = (value_number, value_truth, value_cell)

-- ---- words read back
-- `value_in` reads any word; on a word in range it is `word_value`, which the definitions use
value_in_back : (v : Value) → ValueFits v → value_in (value_word v) ≡ v
unfolding value_in value_word
value_in_back (Number n) (number h) = if_yes _ _ (lt-ltb n (2 ^ 32) h)
value_in_back (Truth true) truth = if_no _ _ refl ∙ if_yes _ _ refl
value_in_back (Truth false) truth = if_no _ _ refl ∙ if_yes _ _ refl
value_in_back (Cell c) (cell h) =
    let a : (2 * 2 ^ 32 + c) % 256 ≡ c = omega arith in
    if_no _ _ (le-ltb (2 * 2 ^ 32 + c) (2 ^ 32) (omega arith))
    ∙ if_no _ _ (le-ltb (2 * 2 ^ 32 + c) (2 * 2 ^ 32) (omega arith)) ∙ ap Cell a

-- a word in range is that of a value that fits
pub value_fits : (w : ℕ) → value_in_range w ≡ true → ValueFits (word_value w)
unfolding value_in_range word_value
value_fits w h = first (ltb w (2 ^ 32)) refl
  where
    top : w ≤ 2 * 2 ^ 32 + 255 → 2 * 2 ^ 32 ≤ w → w - 2 * 2 ^ 32 < 256
    top g l = omega arith

    second : ltb w (2 ^ 32) ≡ false → (b : Bool) → ltb w (2 * 2 ^ 32) ≡ b → ValueFits (word_value w)
    second l true e = subst ValueFits (sym (if_no _ _ l ∙ if_yes _ _ e)) truth
    second l false e =
        subst ValueFits (sym (if_no _ _ l ∙ if_no _ _ e))
        (cell (top (leb-true w (2 * 2 ^ 32 + 255) (sym (if_no _ _ l ∙ if_no _ _ e) ∙ h)) (ltb-false w (2 * 2 ^ 32) e)))

    first : (b : Bool) → ltb w (2 ^ 32) ≡ b → ValueFits (word_value w)
    first true e = subst ValueFits (sym (if_yes _ _ e)) (number (ltb-true w (2 ^ 32) e))
    first false e = second e (ltb w (2 * 2 ^ 32)) refl

pub value_same : (w : ℕ) → value_in_range w ≡ true → value_in w ≡ word_value w
value_same w h = ap value_in (sym (value_there w h)) ∙ value_in_back (word_value w) (value_fits w h)

pub owner_back : (x : Stored) → ValueFits x.content → owner_in (cell_word x) ≡ x.owner
unfolding cell_word
owner_back x h = let l : value_word x.content < 2 ^ 34 = value_below x.content h in omega arith

content_word : (x : Stored) → ValueFits x.content → cell_word x % 2 ^ 34 ≡ value_word x.content
unfolding cell_word
content_word x h =
    let l : value_word x.content < 2 ^ 34 = value_below x.content h in omega arith

pub content_back : (x : Stored) → ValueFits x.content → content_in (cell_word x) ≡ x.content
content_back x h = ap value_in (content_word x h) ∙ value_in_back x.content h

pub content_in_lem : (x : Stored) → ValueFits x.content → value_in_range (cell_word x % 2 ^ 34) ≡ true
content_in_lem x h = ap value_in_range (content_word x h) ∙ value_in_lem x.content h

-- the other way: a word whose content is in range is that of the cell that it reads as
pub cell_there : (w : ℕ) → value_in_range (w % 2 ^ 34) ≡ true → cell_word (word_cell w) ≡ w
unfolding cell_word word_cell
cell_there w h =
    let e : value_word (word_value (w % 2 ^ 34)) ≡ w % 2 ^ 34 = value_there (w % 2 ^ 34) h in
    ap (λ (x : ℕ). w / 2 ^ 34 * 2 ^ 34 + x) e ∙ whole w
  where
    whole : (w : ℕ) → w / 2 ^ 34 * 2 ^ 34 + w % 2 ^ 34 ≡ w
    whole w = omega arith
