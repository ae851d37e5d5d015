-- What a commit does to the words it does to the state: each change, from `Says` to `Says`. Assumes
-- nothing.
use Prim.Native.Nat.{ℕ, suc, ◌+◌, ◌-◌, ◌*◌, ◌<◌, ◌≤◌}
use mathlib.Core.Path.{◌≡◌, refl, sym, ap, ◌∙◌, subst}
use mathlib.Core.List.{List, ◌++◌}
use mathlib.Core.Bool.{Bool, true, false, ◌&&◌}
use native.Mathlib.Omega.{arith}
use lib.Dec.{ltb, leb}
use lib.ListN.{length, get_or, set, replicate, length-set, length-append, length-replicate}
use lib.ListN.{get_or-replicate, get_or-append, get_or-eq_default}
use lib.Seq.{get_or-set_same, get_or-set_other}
use borrow.Author.Tests.{ltb-true, ltb-false}
use Rattle.basics.proofs.Ifs.{if_all, if_yes, if_no}
use Rattle.language.specs.Places.{is_scheduler}
use Rattle.machine.specs.State.{State, Stored, Thread, Entry, no_cell, scheduler_at, with_thread}
use Rattle.machine.specs.State.{with_cells, with_scheduler, enlist, used_cells}
use Rattle.machine.specs.Turns.{Turn, is_scheduler_of, after_first, leave}
use Rattle.machine.specs.Words.{entry_word, cell_word}
use Rattle.machine.specs.Inner.Blocks.{pasted, cell_words}
use Rattle.machine.proofs.WordLaws.{Says, is_pack, pasted_length, pasted_in, pasted_out}
use Rattle.machine.proofs.Blocks.{put_cells, cells_length, cells_at_lem}
use Rattle.machine.proofs.Valid.{no_cell_word}
use Rattle.states.specs.Inner.Threads.{put_thread, thread_words_of}
use Rattle.states.proofs.ThreadSays.{store_says}
use Rattle.lists.proofs.SchedulerSays.{room_says, leave_says, last_says}
use Rattle.commits.specs.Inner.Commits.{cleared_in, settled_in, left_in, room_in, joined_in}
use Rattle.commits.proofs.WritingLaws.{list_block}
use Rattle.stepper.proofs.Grows.{Grown}

-- ---- a scheduler's list left, and joined
module _ (v : List ℕ) (s : State) (h : Says v s) where
  pub left_says : (u : Turn) → is_scheduler_of u.program u.choice ≡ is_scheduler u.choice
      → (is_scheduler_of u.program u.choice ≡ true → u.choice - 2 < length s.schedulers)
      → length (scheduler_at s u.choice).active ≤ 64 → Says (left_in v u.choice) (leave u s)
  unfolding left_in leave
  left_says u e there short =
      if_all (λ (r : State). Says (left_in v c) r) (is_scheduler_of u.program c) _ s
      (λ q. let l : is_scheduler u.choice ≡ true = sym e ∙ q in
      subst (λ (x : List ℕ). Says x (with_scheduler u.choice (record { active = after_first (scheduler_at s u.choice).active; next = (scheduler_at s u.choice).next }) s)) (sym (if_yes _ _ l)) (leave_says v s h c (list_block c l).1 (there q) short))
      (λ q. subst (λ (x : List ℕ). Says x s) (sym (if_no _ _ (sym e ∙ q))) h)
    where
      c : ℕ
      c = u.choice

  pub joined_says : (q : ℕ) (e : Entry) → is_scheduler q ≡ true → q - 2 < length s.schedulers
      → length (scheduler_at s q).next < 64 → Says (joined_in v q (entry_word e)) (enlist q e s)
  unfolding joined_in
  joined_says q e l there room = subst (λ (x : List ℕ). Says x (enlist q e s)) (sym (if_yes _ _ l)) (last_says v s h q (list_block q l).1 there e room)

-- ---- words whose cells, with their count, a turn has changed already
abbrev pub with_cell_words : List ℕ → List Stored → List ℕ
with_cell_words w cs = set (pasted w 4578 (cell_words cs) 256) 1 (used_cells cs)

module _ (w : List ℕ) (s : State) (h : Says w s) where
  module _ (cs : List Stored) where
    words_room : 4578 + 256 ≤ length w
    words_room = rw h.all (omega arith)

    cells_room : 256 ≤ length (cell_words cs)
    cells_room = rw cells_length (omega arith)

    pasted_all : length (pasted w 4578 (cell_words cs) 256) ≡ 4834
    pasted_all = pasted_length w 4578 (cell_words cs) 256 words_room cells_room ∙ h.all

    cells_all : length (with_cell_words w cs) ≡ 4834
    cells_all = length-set (pasted w 4578 (cell_words cs) 256) 1 (used_cells cs) ∙ pasted_all

    counted : get_or (with_cell_words w cs) 1 0 ≡ used_cells cs
    counted =
        let l = pasted_all in
        get_or-set_same (pasted w 4578 (cell_words cs) 256) 1 (used_cells cs) 0 (omega arith)

    -- all but the count
    not_counted : (i : ℕ) → (i ≡ 1 → ⊥)
        → get_or (with_cell_words w cs) i 0 ≡ get_or (pasted w 4578 (cell_words cs) 256) i 0
    not_counted i d = get_or-set_other (pasted w 4578 (cell_words cs) 256) 1 i (used_cells cs) 0 d

    pub cells_out : (i : ℕ) → (i ≡ 1 → ⊥) → i < 4578
        → get_or (with_cell_words w cs) i 0 ≡ get_or w i 0
    cells_out i d l =
        not_counted i d
        ∙ pasted_out w 4578 (cell_words cs) 256 words_room cells_room i (λ p q. omega arith)

    cells_in : (j : ℕ) → j < 256
        → get_or (with_cell_words w cs) (4578 + j) 0 ≡ cell_word (get_or cs j no_cell)
    cells_in j l =
        not_counted (4578 + j) (λ e. omega arith)
        ∙ pasted_in w 4578 (cell_words cs) 256 words_room cells_room j l
        ∙ cells_at_lem cs j l

    pub settled_says : (k : ℕ) (x : Thread) → k < 64 → k < length s.threads
        → Says (settled_in (with_cell_words w cs) k (thread_words_of x))
        (with_thread (suc k) x (with_cells cs s))
    unfolding settled_in put_thread
    settled_says k x a b = store_says _ (with_cells cs s) (put_cells w s h cs) k x a b

    pub room_is : (q m : ℕ) → is_scheduler q ≡ true → q - 2 < length s.schedulers
        → room_in (with_cell_words w cs) q m ≡ leb (length (scheduler_at s q).next + m) 64
    unfolding room_in
    room_is q m l there =
        let b = list_block q l in
        let e =
        cells_out (67 + 130 * (q - 2)) (λ z. omega arith) (omega arith)
        ∙ room_says w s h q b.1 there in
        ap (λ (x : Bool). x && leb (get_or (with_cell_words w cs) (67 + 130 * (q - 2)) 0 + m) 64) l
        ∙ ap (λ (x : ℕ). leb (x + m) 64) e

  -- where the turn has made the cells ds after the old ones, clearing those gives the words of s
  -- again
  module _ (ds : List Stored) (few : length (s.cells ++ ds) ≤ 256) where
    abbrev old : ℕ
    old = used_cells s.cells

    abbrev all : ℕ
    all = length (s.cells ++ ds)

    abbrev made : List ℕ
    made = with_cell_words w (s.cells ++ ds)

    abbrev zeros : List ℕ
    zeros = replicate (all - old) 0

    -- the new cells' words are 0; then as many are in use as before
    abbrev blank : List ℕ
    blank = pasted made (4578 + old) zeros (all - old)

    abbrev cleared : List ℕ
    cleared = set blank 1 old

    count : all ≡ old + length ds
    count = length-append s.cells ds

    long : length made ≡ 4834
    long = cells_all (s.cells ++ ds)

    room : 4578 + old + (all - old) ≤ length made
    room = let c = count in rw long (omega arith)

    size : all - old ≤ length zeros
    size = rw (length-replicate {A = ℕ} (all - old) 0) (omega arith)

    blank_all : length blank ≡ 4834
    blank_all = pasted_length made (4578 + old) zeros (all - old) room size ∙ long

    -- all but the count
    uncounted : (i : ℕ) → (i ≡ 1 → ⊥) → get_or cleared i 0 ≡ get_or blank i 0
    uncounted i d = get_or-set_other blank 1 i old 0 d

    out : (i : ℕ) → (i ≡ 1 → ⊥) → i < 4578 → get_or cleared i 0 ≡ get_or w i 0
    out i d l =
        uncounted i d
        ∙ pasted_out made (4578 + old) zeros (all - old) room size i (λ p q. omega arith)
        ∙ cells_out (s.cells ++ ds) i d l

    -- an old cell, one that the turn has made, an unused one
    cell : (j : ℕ) → j < 256 → (a b : Bool) → ltb j old ≡ a → ltb j all ≡ b
        → get_or blank (4578 + j) 0 ≡ cell_word (get_or s.cells j no_cell)
    cell j l true b e f =
        let m : j < old = ltb-true j old e in
        pasted_out made (4578 + old) zeros (all - old) room size (4578 + j) (λ p q. omega arith)
        ∙ cells_in (s.cells ++ ds) j l
        ∙ ap cell_word (get_or-append s.cells ds no_cell j m)
    cell j l false true e f =
        let m : old ≤ j = ltb-false j old e in
        let k : j < all = ltb-true j all f in
        let y : 4578 + j ≡ 4578 + old + (j - old) = omega arith in
        ap (λ (i : ℕ). get_or blank i 0) y
        ∙ pasted_in made (4578 + old) zeros (all - old) room size (j - old) (omega arith)
        ∙ get_or-replicate (all - old) (j - old) 0 0 (omega arith)
        ∙ no_cell_word ∙ ap cell_word (sym (get_or-eq_default s.cells no_cell {n = j} m))
    cell j l false false e f =
        let m : old ≤ j = ltb-false j old e in
        let k : all ≤ j = ltb-false j all f in
        let c = count in
        pasted_out made (4578 + old) zeros (all - old) room size (4578 + j) (λ p q. omega arith)
        ∙ cells_in (s.cells ++ ds) j l
        ∙ ap cell_word (get_or-eq_default (s.cells ++ ds) no_cell {n = j} k ∙ sym (get_or-eq_default s.cells no_cell {n = j} m))

    cleared_says : Says cleared s
    cleared_says = record {
      all = length-set blank 1 old ∙ blank_all;
      threads = out 0 (λ e. omega arith) (omega arith) ∙ h.threads;
      cells = let l = blank_all in get_or-set_same blank 1 old 0 (omega arith);
      scheduler =
          λ k j a b. out (2 + 130 * k + j) (λ e. omega arith) (omega arith) ∙ h.scheduler k j a b;
      thread =
          λ k j a b. out (1042 + 55 * k + j) (λ e. omega arith) (omega arith) ∙ h.thread k j a b;
      event = λ e l. out (4562 + e) (λ z. omega arith) (omega arith) ∙ h.event e l;
      cell =
          λ j l.
          uncounted (4578 + j) (λ e. omega arith)
          ∙ cell j l (ltb j old) (ltb j all) refl refl;
    }

    cleared_back : cleared_in made old ≡ w
    unfolding cleared_in
    cleared_back =
        ap (λ (n : ℕ). set (pasted made (4578 + old) (replicate (n - old) 0) (n - old)) 1 old)
        (counted (s.cells ++ ds))
        ∙ is_pack cleared s cleared_says
        ∙ sym (is_pack w s h)

  -- a refused turn leaves the words as they were
  pub cleared_is : (cs : List Stored) → Grown s.cells cs → used_cells cs ≤ 256
      → cleared_in (with_cell_words w cs) (used_cells s.cells) ≡ w
  cleared_is cs g few =
      subst (λ (l : List Stored).
      length l ≤ 256 → cleared_in (with_cell_words w l) (used_cells s.cells) ≡ w)
      (sym g.is) (λ k. cleared_back g.more k) few
