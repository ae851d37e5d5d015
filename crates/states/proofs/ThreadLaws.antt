-- A thread where its words lie: its block read, written, and written again. Assumes nothing.
use Prim.Native.Nat.{ℕ, ◌+◌, ◌*◌, ◌<◌, ◌≤◌}
use mathlib.Core.Path.{◌≡◌, refl, sym, ap, ◌∙◌}
use mathlib.Core.List.{List}
use native.Mathlib.Omega.{arith}
use native.Mathlib.Nat.{add-zero}
use lib.ListN.{get_or, length, set}
use lib.Seq.{ext_get_or, set-get_or}
use Rattle.machine.specs.Inner.Blocks.{part, pasted}
use Rattle.machine.proofs.WordLaws.{part_at, part_length, pasted_length, pasted_in}
use Rattle.states.specs.Inner.Threads.{thread_in, put_thread, block_of}
use Rattle.states.specs.declared.thread.ThreadWords.{ThreadWords}
use Rattle.machine.proofs.PastedLaws.{pasted_self, pasted-set, pasted-pasted}
use Rattle.states.proofs.Store.{stored, block_place, block_starter, block_alive, block_items}
use Rattle.states.proofs.Store.{block_length, block_continuation, block_values}
use Rattle.states.proofs.Store.{block_variables}
use Rattle.states.proofs.ThreadSays.{fields_path}

-- a thread whose two lists have their space: each law below needs that its block is 55 words
pub record Wide (x : ThreadWords) : Type 0 where
  pub continuation : length x.continuation ≡ 25
  pub variables : length x.variables ≡ 25

pub wide_length : (x : ThreadWords) → Wide x → length (block_of x) ≡ 55
wide_length x h = block_length x h.continuation h.variables

module _ (w : List ℕ) (k : ℕ) (all : length w ≡ 4834) (room : k < 64) where
  pub in_wide : Wide (thread_in w k)
  in_wide = record {
    continuation = part_length w (1042 + 55 * k + 4) 25 (omega arith);
    variables = part_length w (1042 + 55 * k + 30) 25 (omega arith);
  }

  end : 1042 + 55 * k + 55 ≤ length w
  end = omega arith

  module _ (x : ThreadWords) (h : Wide x) where
    long : 55 ≤ length (block_of x)
    long = let l : length (block_of x) ≡ 55 = wide_length x h in omega arith

    pub put_length : length (put_thread w k x) ≡ 4834
    unfolding put_thread
    put_length = pasted_length w (1042 + 55 * k) (block_of x) 55 end long ∙ all

    with_word : (j : ℕ) → j < 55
        → get_or (put_thread w k x) (1042 + 55 * k + j) 0 ≡ get_or (block_of x) j 0
    unfolding put_thread
    with_word j g = pasted_in w (1042 + 55 * k) (block_of x) 55 end long j g

    with_run : (o : ℕ) (ws : List ℕ) → o + 25 ≤ 55 → length ws ≡ 25
        → ((j : ℕ) → j < 25 → get_or (block_of x) (o + j) 0 ≡ get_or ws j 0)
        → part (put_thread w k x) (1042 + 55 * k + o) 25 ≡ ws
    with_run o ws g l f = ext_get_or 0 (part (put_thread w k x) (1042 + 55 * k + o) 25) ws (pl ∙ sym l)
        (λ j q. let m : j < 25 = rw pl at q in let z : 1042 + 55 * k + o + j ≡ 1042 + 55 * k + (o + j) = omega arith in
        part_at (put_thread w k x) (1042 + 55 * k + o) 25 j m ∙ ap (λ (i : ℕ). get_or (put_thread w k x) i 0) z ∙ with_word (o + j) (omega arith) ∙ f j m)
      where
        pl : length (part (put_thread w k x) (1042 + 55 * k + o) 25) ≡ 25
        pl = part_length (put_thread w k x) (1042 + 55 * k + o) 25 (rw put_length (omega arith))

    -- it is read back
    pub put_read : thread_in (put_thread w k x) k ≡ x
    put_read = fields_path (thread_in (put_thread w k x) k) x
        (ap (λ (i : ℕ). get_or (put_thread w k x) i 0) (sym (add-zero (1042 + 55 * k))) ∙ with_word 0 (omega arith) ∙ block_place x)
        (with_word 1 (omega arith) ∙ block_starter x)
        (with_word 2 (omega arith) ∙ block_alive x)
        (with_word 3 (omega arith) ∙ block_items x)
        (with_run 4 x.continuation (omega arith) h.continuation (block_continuation x h.continuation h.variables))
        (with_word 29 (omega arith) ∙ block_values x h.continuation h.variables)
        (with_run 30 x.variables (omega arith) h.variables (block_variables x h.continuation h.variables))

    -- of two writes the last one counts
    pub put_put : (y : ThreadWords) → Wide y → put_thread (put_thread w k x) k y ≡ put_thread w k y
    unfolding put_thread
    put_put y g = pasted-pasted w (1042 + 55 * k) (block_of x) 55 end long (block_of y) (let l : length (block_of y) ≡ 55 = wide_length y g in omega arith)

    -- one word of it written
    pub put_set : (y : ThreadWords) (j v : ℕ) → j < 55 → set (block_of x) j v ≡ block_of y
        → set (put_thread w k x) (1042 + 55 * k + j) v ≡ put_thread w k y
    unfolding put_thread
    put_set y j v g e =
        pasted-set w (1042 + 55 * k) (block_of x) 55 end long j v g
        ∙ ap (λ (b : List ℕ). pasted w (1042 + 55 * k) b 55) e

  -- its own block written back
  pub put_same : put_thread w k (thread_in w k) ≡ w
  unfolding put_thread
  put_same =
      sym (stored (thread_in w k) in_wide.continuation in_wide.variables w (1042 + 55 * k) end)
      ∙ rw (
        set-get_or w (1042 + 55 * k) 0,
        set-get_or w (1042 + 55 * k + 1) 0,
        set-get_or w (1042 + 55 * k + 2) 0,
        set-get_or w (1042 + 55 * k + 3) 0,
        pasted_self w (1042 + 55 * k + 4) 25 (omega arith),
        set-get_or w (1042 + 55 * k + 29) 0,
        pasted_self w (1042 + 55 * k + 30) 25 (omega arith),
      ) refl

  -- a change of the thread that another change has left there
  pub put_then : (v u : List ℕ) (x : ThreadWords) (f : ThreadWords → ThreadWords) → Wide x
      → Wide (f x) → v ≡ put_thread w k x → u ≡ put_thread v k (f (thread_in v k))
      → u ≡ put_thread w k (f x)
  put_then v u x f hx hf e q =
      q ∙ ap (λ (l : List ℕ). put_thread l k (f (thread_in l k))) e ∙ ap (λ (y : ThreadWords). put_thread (put_thread w k x) k (f y)) (put_read x hx) ∙ put_put x hx (f x) hf
