-- The fresh state's words one at a time: the word of a shared cell, and the zeros that are written
-- before it. Assumes nothing.
use Prim.Native.Nat.{ℕ}
use mathlib.Core.Path.{◌≡◌, sym, ap, ◌∙◌}
use mathlib.Core.Bool.{Bool, true, false}
use lib.Dec.{eqb}
use borrow.Author.Tests.{eq-eqb, ne_eqb}
use Rattle.basics.proofs.Ifs.{if_yes, if_no}
use Rattle.language.specs.Types.{is_cell, number_type}
use Rattle.machine.specs.Values.{first_content}
use Rattle.machine.specs.declared.value.Value.{Value}
use Rattle.machine.specs.Words.{value_word}

-- ---- the word of a first content; x is what the code's test for a cell's type gave, r the word
module _ (t n : ℕ) (x : Bool) (r : ℕ) (d : x ≡ is_cell t) where
  at_value : (v : Value) → first_content t n ≡ v → r ≡ value_word v
      → r ≡ value_word (first_content t n)
  at_value v q e = e ∙ sym (ap value_word q)

  pub content_cell : x ≡ true → r ≡ value_word (Value.Cell n) → r ≡ value_word (first_content t n)
  unfolding first_content
  content_cell h e = at_value (Value.Cell n) (if_yes _ _ (sym d ∙ h)) e

  pub content_number : x ≡ false → t ≡ number_type → r ≡ value_word (Value.Number n)
      → r ≡ value_word (first_content t n)
  unfolding first_content
  content_number h q e =
      at_value (Value.Number n) (if_no _ _ (sym d ∙ h) ∙ if_yes _ _ (eq-eqb t number_type q)) e

  pub content_truth : x ≡ false → (t ≡ number_type → ⊥) → r ≡ value_word (Value.Truth (eqb n 1))
      → r ≡ value_word (first_content t n)
  unfolding first_content
  content_truth h q e =
      at_value (Value.Truth (eqb n 1)) (if_no _ _ (sym d ∙ h) ∙ if_no _ _ (ne_eqb t number_type q)) e

pub ruleset content_laws = (content_cell, content_number, content_truth)
