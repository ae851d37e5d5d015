-- Searches in lists. Each search stops where it finds, so that whole files compute. Assumes
-- nothing: definitions.
use Rattle.std.specs.Prelude.{Bool, true, false, List, [], ◌∷◌, ℕ, suc, min, eqb}
use Rattle.std.specs.Prelude.{Option, Some, None}

-- the same numbers in the same order
unfoldable pub same_numbers : List ℕ → List ℕ → Bool
same_numbers [] [] = true
same_numbers [] (y ∷ ys) = false
same_numbers (x ∷ xs) [] = false
same_numbers (x ∷ xs) (y ∷ ys) = elim (eqb x y) [ true ↦ same_numbers xs ys | false ↦ false ]

-- the lowest index, counting from i, whose member is wrong
unfoldable pub lowest : {A : Type 0} → (ℕ → A → Bool) → ℕ → List A → Option ℕ
lowest wrong i [] = None
lowest wrong i (x ∷ xs) = elim (wrong i x) [ true ↦ Some i | false ↦ lowest wrong (suc i) xs ]

-- the smaller of two indices, where there are any
unfoldable pub earlier : Option ℕ → Option ℕ → Option ℕ
earlier None q = q
earlier (Some i) None = Some i
earlier (Some i) (Some j) = Some (min i j)
