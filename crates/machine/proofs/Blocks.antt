-- A block of the words is a part of the state: read, and replaced. Assumes nothing.
use Prim.Native.Nat.{ℕ, suc, ◌+◌, ◌*◌, ◌-◌, ◌<◌, ◌≤◌}
use mathlib.Core.Path.{◌≡◌, refl, sym, ap, ◌∙◌}
use mathlib.Core.List.{List, [], ◌∷◌, ◌++◌}
use mathlib.Core.Bool.{Bool, true, false}
use native.Mathlib.Omega.{arith}
use lib.Dec.{ltb}
use borrow.Author.Tests.{ltb-true, ltb-false}
use native.Mathlib.Decide.{ℕ_discrete}
use lib.ListN.{get_or, length, set, length-set, length-append, get_or-append, get_or-eq_default}
use lib.Seq.{get_or-set_same, get_or-set_other, get_or_at}
use Rattle.machine.specs.State.{State, Stored, Thread, Scheduler, no_thread, no_scheduler}
use Rattle.machine.specs.State.{no_cell, used_cells, with_thread, with_scheduler, with_cells}
use Rattle.machine.specs.State.{with_new}
use Rattle.machine.specs.Words.{thread_word, scheduler_word, cell_word, pack}
use Rattle.machine.specs.Inner.Blocks.{pasted, thread_words, scheduler_words, cell_words}
use Rattle.machine.proofs.WordLaws.{pasted_length, pasted_in, pasted_out, Says, pack-length}
use Rattle.machine.proofs.WordLaws.{word_0, word_1, word_scheduler, word_thread, word_cell}
use Rattle.machine.proofs.WordLaws.{word_event}
use Rattle.machine.proofs.WordLaws.{tab_length, tab_at}

pub says_pack : (s : State) → Says (pack s) s
says_pack s = record { all = pack-length s; threads = word_0 s; cells = word_1 s; scheduler = word_scheduler s; thread = word_thread s; event = word_event s; cell = word_cell s }

-- ---- the words of a thread, a scheduler, the cells

pub thread_length : (x : Thread) → length (thread_words x) ≡ 55
unfolding thread_words
thread_length x = tab_length 55 (thread_word x) 0

pub thread_at : (x : Thread) (j : ℕ) → j < 55 → get_or (thread_words x) j 0 ≡ thread_word x j
unfolding thread_words
thread_at x j h = tab_at 55 (thread_word x) j 0 h

pub scheduler_length : (x : Scheduler) → length (scheduler_words x) ≡ 130
unfolding scheduler_words
scheduler_length x = tab_length 130 (scheduler_word x) 0

pub scheduler_at_lem : (x : Scheduler) (j : ℕ) → j < 130
    → get_or (scheduler_words x) j 0 ≡ scheduler_word x j
unfolding scheduler_words
scheduler_at_lem x j h = tab_at 130 (scheduler_word x) j 0 h

pub cells_length : (cs : List Stored) → length (cell_words cs) ≡ 256
unfolding cell_words
cells_length cs = tab_length 256 (λ i. cell_word (get_or cs i no_cell)) 0

pub cells_at_lem : (cs : List Stored) (j : ℕ) → j < 256
    → get_or (cell_words cs) j 0 ≡ cell_word (get_or cs j no_cell)
unfolding cell_words
cells_at_lem cs j h = tab_at 256 (λ i. cell_word (get_or cs i no_cell)) j 0 h

-- ---- a block of the words replaced is a part of the state replaced
module _ (w : List ℕ) (s : State) (h : Says w s) where
  size : length w ≡ 4834
  size = h.all

  pub put_thread : (k : ℕ) (x : Thread) → k < 64 → k < length s.threads
      → Says (pasted w (1042 + 55 * k) (thread_words x) 55) (with_thread (suc k) x s)
  put_thread k x a b = record {
    all = pasted_length w at ws 55 hd hs ∙ size;
    threads = out 0 (λ p q. omega arith) ∙ h.threads ∙ sym (length-set s.threads k x);
    cells = out 1 (λ p q. omega arith) ∙ h.cells;
    scheduler = λ i j f g. out (2 + 130 * i + j) (λ p q. omega arith) ∙ h.scheduler i j f g;
    thread = λ i j f g. go i j f g (ℕ_discrete i k);
    event = λ e g. out (4562 + e) (λ p q. omega arith) ∙ h.event e g;
    cell = λ j g. out (4578 + j) (λ p q. omega arith) ∙ h.cell j g;
  }
    where
      at : ℕ
      at = 1042 + 55 * k

      ws : List ℕ
      ws = thread_words x

      hd : 1042 + 55 * k + 55 ≤ length w
      hd = rw size (omega arith)

      hs : 55 ≤ length (thread_words x)
      hs = rw thread_length (omega arith)

      out : (i : ℕ) → (1042 + 55 * k ≤ i → i < 1042 + 55 * k + 55 → ⊥)
          → get_or (pasted w (1042 + 55 * k) (thread_words x) 55) i 0 ≡ get_or w i 0
      out = pasted_out w at ws 55 hd hs

      go : (i j : ℕ) → i < 64 → j < 55 → Dec (i ≡ k)
          → get_or (pasted w (1042 + 55 * k) (thread_words x) 55) (1042 + 55 * i + j) 0
          ≡ thread_word (get_or (set s.threads k x) i no_thread) j
      go i j f g (yes e) =
          ap (λ (m : ℕ). get_or (pasted w (1042 + 55 * k) (thread_words x) 55) (1042 + 55 * m + j) 0) e
          ∙ pasted_in w at ws 55 hd hs j g ∙ thread_at x j g
          ∙ ap (λ (y : Thread). thread_word y j) (sym (get_or-set_same s.threads k x no_thread b) ∙ ap (λ (m : ℕ). get_or (set s.threads k x) m no_thread) (sym e))
      go i j f g (no e) =
          out (1042 + 55 * i + j) (λ p q. e (omega arith)) ∙ h.thread i j f g
          ∙ ap (λ (y : Thread). thread_word y j) (sym (get_or-set_other s.threads k i x no_thread e))

  pub put_scheduler : (q : ℕ) (x : Scheduler) → q - 2 < 8 → q - 2 < length s.schedulers
      → Says (pasted w (2 + 130 * (q - 2)) (scheduler_words x) 130) (with_scheduler q x s)
  put_scheduler q x a b = record {
    all = pasted_length w at ws 130 hd hs ∙ size;
    threads = out 0 (λ p r. omega arith) ∙ h.threads;
    cells = out 1 (λ p r. omega arith) ∙ h.cells;
    scheduler = λ i j f g. go i j f g (ℕ_discrete i k);
    thread = λ i j f g. out (1042 + 55 * i + j) (λ p r. omega arith) ∙ h.thread i j f g;
    event = λ e g. out (4562 + e) (λ p r. omega arith) ∙ h.event e g;
    cell = λ j g. out (4578 + j) (λ p r. omega arith) ∙ h.cell j g;
  }
    where
      k : ℕ
      k = q - 2

      at : ℕ
      at = 2 + 130 * k

      ws : List ℕ
      ws = scheduler_words x

      hd : 2 + 130 * (q - 2) + 130 ≤ length w
      hd = rw size (omega arith)

      hs : 130 ≤ length (scheduler_words x)
      hs = rw scheduler_length (omega arith)

      out : (i : ℕ) → (at ≤ i → i < at + 130 → ⊥) → get_or (pasted w at ws 130) i 0 ≡ get_or w i 0
      out = pasted_out w at ws 130 hd hs

      go : (i j : ℕ) → i < 8 → j < 130 → Dec (i ≡ k)
          → get_or (pasted w at ws 130) (2 + 130 * i + j) 0
          ≡ scheduler_word (get_or (set s.schedulers k x) i no_scheduler) j
      go i j f g (yes e) =
          ap (λ (m : ℕ). get_or (pasted w at ws 130) (2 + 130 * m + j) 0) e
          ∙ pasted_in w at ws 130 hd hs j g ∙ scheduler_at_lem x j g
          ∙ ap (λ (y : Scheduler). scheduler_word y j) (sym (get_or-set_same s.schedulers k x no_scheduler b) ∙ ap (λ (m : ℕ). get_or (set s.schedulers k x) m no_scheduler) (sym e))
      go i j f g (no e) =
          out (2 + 130 * i + j) (λ p r. e (omega arith)) ∙ h.scheduler i j f g
          ∙ ap (λ (y : Scheduler). scheduler_word y j)
          (sym (get_or-set_other s.schedulers k i x no_scheduler e))

  -- all cells; their count is stored apart
  pub put_cells : (cs : List Stored)
      → Says (set (pasted w 4578 (cell_words cs) 256) 1 (used_cells cs)) (with_cells cs s)
  put_cells cs = record {
    all = length-set (pasted w 4578 (cell_words cs) 256) 1 (used_cells cs) ∙ pl ∙ size;
    threads = other 0 (λ e. omega arith) ∙ out 0 (λ p q. omega arith) ∙ h.threads;
    cells = get_or-set_same (pasted w 4578 (cell_words cs) 256) 1 (used_cells cs) 0 (rw (pl, size) (omega arith));
    scheduler = λ i j f g. other (2 + 130 * i + j) (λ e. omega arith) ∙ out (2 + 130 * i + j) (λ p q. omega arith) ∙ h.scheduler i j f g;
    thread = λ i j f g. other (1042 + 55 * i + j) (λ e. omega arith) ∙ out (1042 + 55 * i + j) (λ p q. omega arith) ∙ h.thread i j f g;
    event = λ e g. other (4562 + e) (λ z. omega arith) ∙ out (4562 + e) (λ p q. omega arith) ∙ h.event e g;
    cell = λ j g. other (4578 + j) (λ e. omega arith) ∙ pasted_in w 4578 (cell_words cs) 256 hd hs j g ∙ cells_at_lem cs j g;
  }
    where
      hd : 4578 + 256 ≤ length w
      hd = rw size (omega arith)

      hs : 256 ≤ length (cell_words cs)
      hs = rw cells_length (omega arith)

      pl : length (pasted w 4578 (cell_words cs) 256) ≡ length w
      pl = pasted_length w 4578 (cell_words cs) 256 hd hs

      out : (i : ℕ) → (4578 ≤ i → i < 4578 + 256 → ⊥)
          → get_or (pasted w 4578 (cell_words cs) 256) i 0 ≡ get_or w i 0
      out = pasted_out w 4578 (cell_words cs) 256 hd hs

      other : (i : ℕ) → (i ≡ 1 → ⊥)
          → get_or (set (pasted w 4578 (cell_words cs) 256) 1 (used_cells cs)) i 0
          ≡ get_or (pasted w 4578 (cell_words cs) 256) i 0
      other i e = get_or-set_other (pasted w 4578 (cell_words cs) 256) 1 i (used_cells cs) 0 e

-- one more thread; the count of threads is stored apart
pub put_new : (w : List ℕ) (s : State) → Says w s → (x : Thread) → length s.threads < 64
    → Says (set (pasted w (1042 + 55 * length s.threads) (thread_words x) 55) 0 (length s.threads + 1)) (with_new x s)
put_new w s h x l = record {
  all = length-set (pasted w (1042 + 55 * m) (thread_words x) 55) 0 (m + 1) ∙ pl ∙ size;
  threads =
      get_or-set_same (pasted w (1042 + 55 * m) (thread_words x) 55) 0 (m + 1) 0
      (rw (pl, size) (omega arith))
      ∙ sym (length-append s.threads (x ∷ []));
  cells = other 1 (λ e. omega arith) ∙ out 1 (λ p q. omega arith) ∙ h.cells;
  scheduler = λ i j f g. other (2 + 130 * i + j) (λ e. omega arith) ∙ out (2 + 130 * i + j) (λ p q. omega arith) ∙ h.scheduler i j f g;
  thread = λ i j f g. other (1042 + 55 * i + j) (λ e. omega arith) ∙ go i j f g (ℕ_discrete i m);
  event = λ e g. other (4562 + e) (λ z. omega arith) ∙ out (4562 + e) (λ p q. omega arith) ∙ h.event e g;
  cell = λ j g. other (4578 + j) (λ e. omega arith) ∙ out (4578 + j) (λ p q. omega arith) ∙ h.cell j g;
}
  where
    m : ℕ
    m = length s.threads

    size : length w ≡ 4834
    size = h.all

    hd : 1042 + 55 * length s.threads + 55 ≤ length w
    hd = rw size (omega arith)

    hs : 55 ≤ length (thread_words x)
    hs = rw thread_length (omega arith)

    pl : length (pasted w (1042 + 55 * length s.threads) (thread_words x) 55) ≡ length w
    pl = pasted_length w (1042 + 55 * m) (thread_words x) 55 hd hs

    out : (i : ℕ)
        → (1042 + 55 * length s.threads ≤ i → i < 1042 + 55 * length s.threads + 55 → ⊥)
        → get_or (pasted w (1042 + 55 * length s.threads) (thread_words x) 55) i 0 ≡ get_or w i 0
    out = pasted_out w (1042 + 55 * m) (thread_words x) 55 hd hs

    other : (i : ℕ) → (i ≡ 0 → ⊥)
        → get_or (set (pasted w (1042 + 55 * m) (thread_words x) 55) 0 (m + 1)) i 0
        ≡ get_or (pasted w (1042 + 55 * m) (thread_words x) 55) i 0
    other i e = get_or-set_other (pasted w (1042 + 55 * m) (thread_words x) 55) 0 i (m + 1) 0 e

    same : (i : ℕ) → (i ≡ length s.threads → ⊥) → (b : Bool) → ltb i (length s.threads) ≡ b
        → get_or s.threads i no_thread ≡ get_or (s.threads ++ (x ∷ [])) i no_thread
    same i e true q = sym (get_or-append s.threads (x ∷ []) no_thread i (ltb-true i m q))
    same i e false q = let g : length s.threads ≤ i = ltb-false i m q in
        get_or-eq_default s.threads no_thread {n = i} g ∙ sym (get_or-eq_default (s.threads ++ (x ∷ [])) no_thread {n = i} (beyond i e g (length-append s.threads (x ∷ []))))
      where
        beyond : (i : ℕ) → (i ≡ length s.threads → ⊥) → length s.threads ≤ i
            → length (s.threads ++ (x ∷ [])) ≡ length s.threads + 1
            → length (s.threads ++ (x ∷ [])) ≤ i
        beyond i e g z = omega arith

    go : (i j : ℕ) → i < 64 → j < 55 → Dec (i ≡ length s.threads)
        → get_or (pasted w (1042 + 55 * length s.threads) (thread_words x) 55) (1042 + 55 * i + j) 0
        ≡ thread_word (get_or (s.threads ++ (x ∷ [])) i no_thread) j
    go i j f g (yes e) =
        ap (λ (k : ℕ). get_or (pasted w (1042 + 55 * length s.threads) (thread_words x) 55) (1042 + 55 * k + j) 0) e
        ∙ pasted_in w (1042 + 55 * m) (thread_words x) 55 hd hs j g ∙ thread_at x j g
        ∙ ap (λ (y : Thread). thread_word y j) (sym (get_or_at s.threads x [] no_thread (length s.threads) refl) ∙ ap (λ (k : ℕ). get_or (s.threads ++ (x ∷ [])) k no_thread) (sym e))
    go i j f g (no e) =
        out (1042 + 55 * i + j) (λ p q. e (omega arith)) ∙ h.thread i j f g
        ∙ ap (λ (y : Thread). thread_word y j) (same i e (ltb i m) refl)
