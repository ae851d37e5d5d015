-- A thread's struct as the 55 words of its block: each word read, the block stored field by field
-- as the code does, and one thread more. Assumes nothing.
use Prim.Native.Nat.{ℕ, suc, ◌+◌, ◌*◌, ◌<◌, ◌≤◌}
use mathlib.Core.Path.{◌≡◌, refl, sym, ap, ◌∙◌}
use mathlib.Core.List.{List, ◌∷◌, ◌++◌}
use native.Mathlib.Omega.{arith}
use borrow.Author.Tests.{lt-ltb, le-ltb}
use lib.ListN.{get_or, length, set, length-append, length-set, get_or-append}
use lib.Seq.{get_or_at, get_or-append-add}
use Rattle.basics.proofs.Ifs.{if_yes, if_no}
use Rattle.machine.specs.Inner.Blocks.{pasted}
use Rattle.states.specs.Inner.Threads.{block_of, with_one_more}
use Rattle.states.specs.declared.thread.ThreadWords.{ThreadWords}
use Rattle.machine.proofs.WordLaws.{pasted_more, pasted_length}
use Rattle.machine.proofs.PastedLaws.{first_word, next_run}

-- ---- the words of a struct
pub block_place : (x : ThreadWords) → get_or (block_of x) 0 0 ≡ x.place
unfolding block_of
block_place x = refl

pub block_starter : (x : ThreadWords) → get_or (block_of x) 1 0 ≡ x.starter
unfolding block_of
block_starter x = refl

pub block_alive : (x : ThreadWords) → get_or (block_of x) 2 0 ≡ x.alive
unfolding block_of
block_alive x = refl

pub block_items : (x : ThreadWords) → get_or (block_of x) 3 0 ≡ x.items
unfolding block_of
block_items x = refl

module _ (x : ThreadWords) (hp : length x.continuation ≡ 25) (hv : length x.variables ≡ 25) where
  pub block_length : length (block_of x) ≡ 55
  unfolding block_of
  block_length =
      let a : length (x.continuation ++ (x.values ∷ x.variables)) ≡ length x.continuation + suc (length x.variables) = length-append x.continuation (x.values ∷ x.variables) in
      omega arith

  pub block_continuation : (i : ℕ) → i < 25
      → get_or (block_of x) (4 + i) 0 ≡ get_or x.continuation i 0
  unfolding block_of
  block_continuation i h = let a : 4 + i ≡ suc (suc (suc (suc i))) = omega arith in
      ap (λ (k : ℕ). get_or (block_of x) k 0) a
      ∙ get_or-append x.continuation (x.values ∷ x.variables) 0 i (omega arith)

  pub block_values : get_or (block_of x) 29 0 ≡ x.values
  unfolding block_of
  block_values = get_or_at x.continuation x.values x.variables 0 25 hp

  pub block_variables : (i : ℕ) → i < 25 → get_or (block_of x) (30 + i) 0 ≡ get_or x.variables i 0
  unfolding block_of
  block_variables i h =
      let a : 30 + i ≡ suc (suc (suc (suc (length x.continuation + suc i)))) = omega arith in
      ap (λ (k : ℕ). get_or (block_of x) k 0) a
      ∙ get_or-append-add x.continuation (x.values ∷ x.variables) (suc i) 0

-- ---- the block stored field by field
-- the words when the continuation is written, and the variables are not yet
abbrev pub half_stored : ThreadWords → List ℕ → ℕ → List ℕ
half_stored x w at = pasted (set (set (set (set w at x.place) (at + 1) x.starter) (at + 2) x.alive) (at + 3) x.items) (at + 4) x.continuation 25

module _ (x : ThreadWords) (hp : length x.continuation ≡ 25) (hv : length x.variables ≡ 25) where
  -- all fields in the code's order, the two lists as runs
  pub stored : (w : List ℕ) (at : ℕ) → at + 55 ≤ length w
      → pasted (set (half_stored x w at) (at + 29) x.values) (at + 30) x.variables 25
      ≡ pasted w at (block_of x) 55
  unfolding block_of
  stored w at h =
      let lb : length (block_of x) ≡ 55 = block_length x hp hv in
      let w1 : List ℕ = set w at x.place in
      let e1 : w1 ≡ pasted w at (block_of x) 1 = first_word w at (block_of x) x.place refl (omega arith) (omega arith) in
      let w2 : List ℕ = set w1 (at + 1) x.starter in
      let e2 : w2 ≡ pasted w at (block_of x) 2 = pasted_more w (block_of x) w1 at 1 x.starter e1 refl (omega arith) (omega arith) in
      let w3 : List ℕ = set w2 (at + 2) x.alive in
      let e3 : w3 ≡ pasted w at (block_of x) 3 = pasted_more w (block_of x) w2 at 2 x.alive e2 refl (omega arith) (omega arith) in
      let w4 : List ℕ = set w3 (at + 3) x.items in
      let e4 : w4 ≡ pasted w at (block_of x) 4 = pasted_more w (block_of x) w3 at 3 x.items e3 refl (omega arith) (omega arith) in
      let w5 : List ℕ = pasted w4 (at + 4) x.continuation 25 in
      let e5 : w5 ≡ pasted w at (block_of x) 29 = next_run w at (block_of x) w4 x.continuation 4 25 e4 (λ i g. sym (block_continuation x hp hv i g)) (omega arith) (omega arith) (omega arith) in
      let w6 : List ℕ = set w5 (at + 29) x.values in
      let e6 : w6 ≡ pasted w at (block_of x) 30 = pasted_more w (block_of x) w5 at 29 x.values e5 (sym (block_values x hp hv)) (omega arith) (omega arith) in
      next_run w at (block_of x) w6 x.variables 30 25 e6
      (λ i g. sym (block_variables x hp hv i g)) (omega arith) (omega arith) (omega arith)

-- the same in the two calls of `store_run` that the code makes: a is after the first, b after the
-- second
module _ (x : ThreadWords) (w a : List ℕ) (at : ℕ) (h : at + 55 ≤ length w) (hp : length x.continuation ≡ 25) (e : a ≡ half_stored x w at) where
  pub half_stored_length : length a ≡ length w
  half_stored_length =
      ap length e
      ∙ pasted_length (set (set (set (set w at x.place) (at + 1) x.starter) (at + 2) x.alive) (at + 3) x.items) (at + 4) x.continuation 25 (simp length-set (omega arith)) (omega arith)
      ∙ simp length-set

  pub whole_stored : length x.variables ≡ 25 → (b : List ℕ)
      → b ≡ pasted (set a (at + 29) x.values) (at + 30) x.variables 25
      → b ≡ pasted w at (block_of x) 55
  whole_stored hv b f =
      f ∙ ap (λ (l : List ℕ). pasted (set l (at + 29) x.values) (at + 30) x.variables 25) e
      ∙ stored x hp hv w at h

  pub whole_stored_length : length x.variables ≡ 25 → (b : List ℕ)
      → b ≡ pasted (set a (at + 29) x.values) (at + 30) x.variables 25 → length b ≡ length w
  whole_stored_length hv b f = ap length (whole_stored hv b f) ∙ pasted_length w at (block_of x) 55 h (let l : length (block_of x) ≡ 55 = block_length x hp hv in omega arith)

-- ---- one thread more, where 64 are the space
pub one_full : (w : List ℕ) (x : ThreadWords) → 64 ≤ get_or w 0 0 → w ≡ with_one_more w x
unfolding with_one_more
one_full w x h = sym (if_no _ _ (le-ltb (get_or w 0 0) 64 h))

pub one_more : (w v : List ℕ) (x : ThreadWords) → get_or w 0 0 < 64
    → v ≡ pasted w (1042 + 55 * get_or w 0 0) (block_of x) 55
    → set v 0 (get_or w 0 0 + 1) ≡ with_one_more w x
unfolding with_one_more
one_more w v x h e =
    ap (λ (l : List ℕ). set l 0 (get_or w 0 0 + 1)) e ∙ sym (if_yes _ _ (lt-ltb (get_or w 0 0) 64 h))

pub ruleset one_laws = (one_full, one_more)
