-- Laws of `All`, a property of every member of a list. Assumes nothing.
use mathlib.Core.List.{List, [], ◌∷◌, ◌++◌, map, reverse, reverse_aux}
use Prim.Native.Nat.{ℕ, zero, suc, ◌<◌}
use native.Mathlib.Omega.{arith}
use lib.ListN.{length, get_or, take}
use Rattle.basics.specs.Members.{All, none, more}

pub all_get_d : {A : Type 0} (Q : A → Type 0) (xs : List A) (d : A) (k : ℕ) → All Q xs
    → k < length xs → Q (get_or xs k d)
all_get_d Q [] d k none h = absurd (omega arith)
all_get_d Q (x ∷ xs) d zero (more q qs) h = q
all_get_d Q (x ∷ xs) d (suc k) (more q qs) h = all_get_d Q xs d k qs (omega arith)

pub all_imply : {A : Type 0} {P Q : A → Type 0} {xs : List A} → ((x : A) → P x → Q x) → All P xs
    → All Q xs
all_imply f none = none
all_imply f (more {x = x} p ps) = more (f x p) (all_imply f ps)

pub all_map : {A B : Type 0} (Q : A → Type 0) (P : B → Type 0) (f : A → B)
    → ((x : A) → Q x → P (f x)) → (xs : List A) → All Q xs → All P (map f xs)
all_map Q P f h [] none = none
all_map Q P f h (x ∷ xs) (more q qs) = more (h x q) (all_map Q P f h xs qs)

pub all_append : {A : Type 0} {P : A → Type 0} {xs ys : List A} → All P xs → All P ys
    → All P (xs ++ ys)
all_append none g = g
all_append (more h t) g = more h (all_append t g)

pub all_take : {A : Type 0} {Q : A → Type 0} (k : ℕ) (xs : List A) → All Q xs → All Q (take k xs)
all_take zero xs h = none
all_take (suc k) [] h = none
all_take (suc k) (x ∷ xs) (more q qs) = more q (all_take k xs qs)

pub all_reverse : (P : ℕ → Type 0) (xs : List ℕ) → All P xs → All P (reverse xs)
all_reverse P xs h = onto xs [] h none
  where
    onto : (xs ys : List ℕ) → All P xs → All P ys → All P (reverse_aux xs ys)
    onto [] ys none h = h
    onto (x ∷ xs) ys (more a g) h = onto xs (x ∷ ys) g (more a h)
