-- A test that all numbers below a count pass, `all_below`, as a loop makes it: none yet, one more,
-- one that fails, the end. Assumes nothing.
use Prim.Native.Nat.{ℕ, ◌+◌, ◌<◌, ◌≤◌}
use mathlib.Core.Path.{◌≡◌, refl, sym, ap, ◌∙◌}
use mathlib.Core.Bool.{Bool, true, false, not, true≢false}
use native.Mathlib.Omega.{arith}
use native.Mathlib.Numerals.{add-one}
use borrow.Author.Tests.{not-true, not-false}
use Rattle.basics.proofs.Ifs.{and_both}
use Rattle.machine.specs.Inner.Ranges.{all_below}
use Rattle.machine.proofs.Ranges.{below_each}

-- ---- tests by their facts
-- a test that cannot pass fails
pub cannot : (b : Bool) → (b ≡ true → ⊥) → false ≡ b
cannot true h = absurd (h refl)
cannot false h = refl

-- two tests are the same where each passes with the other
pub same_test : (a b : Bool) → (a ≡ true → b ≡ true) → (b ≡ true → a ≡ true) → a ≡ b
same_test true b f g = sym (f refl)
same_test false b f g = cannot b (λ e. true≢false (sym (g e)))

-- ---- the loop
pub all_none : (test : ℕ → Bool) → all_below 0 test ≡ true
unfolding all_below
all_none test = refl

pub all_more : (test : ℕ → Bool) (j : ℕ) → all_below j test ≡ true → test j ≡ true
    → all_below (j + 1) test ≡ true
unfolding all_below
all_more test j h g =
    ap (λ (k : ℕ). all_below k test) (add-one j) ∙ and_both (test j) (all_below j test) g h

pub all_wrong : (test : ℕ → Bool) (j n : ℕ) → test j ≡ false → j < n → false ≡ all_below n test
all_wrong test j n e h =
    cannot (all_below n test) (λ q. true≢false (sym (below_each n test q j h) ∙ e))

pub all_end : (test : ℕ → Bool) (j n : ℕ) → all_below j test ≡ true → j ≤ n → n ≤ j
    → true ≡ all_below n test
all_end test j n h a b = sym h ∙ ap (λ (k : ℕ). all_below k test) (omega arith)

-- the same where a call has answered t for the test of j
pub answer_more : (test : ℕ → Bool) (j : ℕ) (t : Bool) → all_below j test ≡ true → t ≡ test j
    → not t ≡ false → all_below (j + 1) test ≡ true
answer_more test j t h e f = all_more test j h (sym e ∙ not-false t f)

pub answer_wrong : (test : ℕ → Bool) (j n : ℕ) (t : Bool) → t ≡ test j → not t ≡ true → j < n
    → false ≡ all_below n test
answer_wrong test j n t e f h = all_wrong test j n (sym e ∙ not-true t f) h
