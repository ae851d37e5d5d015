-- The words of values and of cells: a law for each return of the functions of word.rt. Assumes
-- nothing.
use mathlib.Core.Path.{◌≡◌, refl, sym, ap, ◌∙◌}
use mathlib.Core.Bool.{Bool, true, false}
use Prim.Native.Nat.{ℕ, ◌+◌, ◌*◌}
use Rattle.machine.specs.Words.{value_word, cell_word}
use Rattle.machine.specs.declared.value.Value.{Value}
use Rattle.machine.specs.declared.value.Value.TheVariants.{Number, Truth, Cell}

pub word_number : (n : ℕ) → n ≡ value_word (Number n)
unfolding value_word
word_number n = refl

pub word_true : (t : Bool) → t ≡ true → 0x0001_0000_0001 ≡ value_word (Truth t)
unfolding value_word
word_true t h = sym (ap (λ (b : Bool). value_word (Truth b)) h)

pub word_false : (t : Bool) → t ≡ false → 0x0001_0000_0000 ≡ value_word (Truth t)
unfolding value_word
word_false t h = sym (ap (λ (b : Bool). value_word (Truth b)) h)

pub word_cell : (c : ℕ) → 0x0002_0000_0000 + c ≡ value_word (Cell c)
unfolding value_word
word_cell c = refl

-- the word of the variant that a value was found to be
pub word_at : (v u : Value) (r : ℕ) → v ≡ u → r ≡ value_word u → r ≡ value_word v
word_at v u r e h = h ∙ sym (ap value_word e)

-- o is the owner, r the word of the content
pub cell_of : (o r : ℕ) (v : Value) → r ≡ value_word v
    → o * 0x0004_0000_0000 + r ≡ cell_word (record { owner = o; content = v })
unfolding cell_word
cell_of o r v e = ap (λ (x : ℕ). o * 0x0004_0000_0000 + x) e

-- w is what `cell_word` gave
pub cell_made : (o r : ℕ) (v : Value) (w : ℕ) → r ≡ value_word v → w ≡ o * 0x0004_0000_0000 + r
    → w ≡ cell_word (record { owner = o; content = v })
cell_made o r v w e h = h ∙ cell_of o r v e
