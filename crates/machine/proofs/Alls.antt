-- What `all` answers, over a range of numbers and over a part of the words: `all_below`. Assumes
-- nothing.
use Prim.Native.Nat.{ℕ, zero, suc, ◌+◌, ◌<◌, ◌≤◌}
use mathlib.Core.Path.{◌≡◌, refl, sym, ap, ◌∙◌}
use mathlib.Core.List.{List, [], ◌∷◌}
use mathlib.Core.Bool.{Bool, true}
use native.Mathlib.Omega.{arith}
use lib.ListN.{get_or, length}
use Rattle.std.proofs.Common.{zero-add}
use Rattle.std.specs.Prelude.{take, drop}
use Rattle.std.specs.List.{list_all, range_with_len}
use Rattle.std.proofs.lemmas.List.{get_or-take, get_or-drop, length-take-le, length-drop}
use Rattle.std.proofs.lemmas.List.FromFn.{get_or-range_with_len, length-range_with_len}
use Rattle.basics.proofs.Ifs.{and_true, and_both}
use Rattle.machine.specs.Inner.Ranges.{all_below}
use Rattle.machine.proofs.Ranges.{below_each, all_below_lem}
use Rattle.machine.proofs.AllBelow.{same_test}

each_of_list : (test : ℕ → Bool) (xs : List ℕ) → list_all test xs ≡ true → (j : ℕ) → j < length xs
    → test (get_or xs j 0) ≡ true
each_of_list test [] h j g = absurd (omega arith)
each_of_list test (x ∷ xs) h zero g = (and_true (test x) (list_all test xs) h).0
each_of_list test (x ∷ xs) h (suc j) g =
    each_of_list test xs (and_true (test x) (list_all test xs) h).1 j (omega arith)

list_of_each : (test : ℕ → Bool) (xs : List ℕ)
    → ((j : ℕ) → j < length xs → test (get_or xs j 0) ≡ true) → list_all test xs ≡ true
list_of_each test [] h = refl
list_of_each test (x ∷ xs) h =
    and_both (test x) (list_all test xs) (h 0 (omega arith))
    (list_of_each test xs (λ j g. h (suc j) (omega arith)))

pub list_all-range : (test : ℕ → Bool) (n : ℕ)
    → list_all test (range_with_len 0 n) ≡ all_below n test
list_all-range test n = same_test _ _
    (λ e. all_below_lem n test (λ j g. ap test (sym (word j g)) ∙ each_of_list test (range_with_len 0 n) e j (rw (length-range_with_len 0 n) g)))
    (λ e. list_of_each test (range_with_len 0 n) (λ j g. let l : j < n = rw (length-range_with_len 0 n) at g in ap test (word j l) ∙ below_each n test e j l))
  where
    word : (j : ℕ) → j < n → get_or (range_with_len 0 n) j 0 ≡ j
    word j g = get_or-range_with_len 0 n j 0 g ∙ zero-add j

pub list_all-words : (test : ℕ → Bool) (w : List ℕ) (at count n : ℕ) → n ≡ count
    → at + count ≤ length w
    → list_all test (take n (drop at w)) ≡ all_below count (λ j. test (get_or w (at + j) 0))
list_all-words test w at count n same h = same_test _ _
    (λ e. all_below_lem count (λ j. test (get_or w (at + j) 0)) (λ j g. ap test (sym (word j (omega arith))) ∙ each_of_list test (take n (drop at w)) e j (rw size (omega arith))))
    (λ e. list_of_each test (take n (drop at w)) (λ j g. let l : j < n = rw size at g in ap test (word j l) ∙ below_each count (λ j. test (get_or w (at + j) 0)) e j (omega arith)))
  where
    size : length (take n (drop at w)) ≡ n
    size = length-take-le n (drop at w) (rw (length-drop at w) (omega arith))

    word : (j : ℕ) → j < n → get_or (take n (drop at w)) j 0 ≡ get_or w (at + j) 0
    word j g = get_or-take n (drop at w) j 0 g ∙ get_or-drop at w j 0
