-- Members of lists.
use Rattle.std.specs.Prelude.{Bool, true, false, List, [], ◌∷◌}

-- x is a member of the list
pub data In {A : Type 0} (x : A) : List A → Type 0 where
  first : {xs : List A} → In x (x ∷ xs)
  later : {y : A} {xs : List A} → In x xs → In x (y ∷ xs)

-- P holds of every member
pub data All {A : Type 0} (P : A → Type 0) : List A → Type 0 where
  none : All P []
  more : {x : A} {xs : List A} → P x → All P xs → All P (x ∷ xs)

-- every member passes the test
unfoldable pub every : {A : Type 0} → (A → Bool) → List A → Bool
every test [] = true
every test (x ∷ xs) = elim (test x) [ true ↦ every test xs | false ↦ false ]

-- some member passes the test
unfoldable pub any : {A : Type 0} → (A → Bool) → List A → Bool
any test [] = false
any test (x ∷ xs) = elim (test x) [ true ↦ true | false ↦ any test xs ]
