-- One choice after the other, each put to what the one before left.
use Rattle.std.specs.Prelude.{List, [], ◌∷◌, ℕ}

-- what each gives, in order; `left` is what it leaves for the next
unfoldable pub each_from : {S R : Type 0} → (S → ℕ → R) → (R → S) → S → List ℕ → List R
each_from give left s [] = []
each_from give left s (c ∷ cs) = let r = give s c in r ∷ each_from give left (left r) cs

-- what the last of them leaves
unfoldable pub last_from : {S R : Type 0} → (S → ℕ → R) → (R → S) → S → List ℕ → S
last_from give left s [] = s
last_from give left s (c ∷ cs) = last_from give left (left (give s c)) cs
