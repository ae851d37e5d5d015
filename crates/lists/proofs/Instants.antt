-- The ready test, the end of an instant and a generation's wake on the words are those of the
-- state. Assumes nothing.
use Prim.Native.Nat.{ℕ, zero, suc, ◌+◌, ◌*◌, ◌-◌, ◌/◌, ◌%◌, ◌<◌, ◌≤◌}
use mathlib.Core.Path.{◌≡◌, refl, sym, ap, ap₂, ◌∙◌, subst}
use mathlib.Core.List.{List, [], ◌∷◌, map}
use mathlib.Core.List.{◌++◌}
use mathlib.Core.Bool.{Bool, true, false, not, ◌&&◌, ◌||◌}
use native.Mathlib.Omega.{arith}
use lib.ListN.{get_or, length, set, length-set, length-map, get_or-eq_default}
use lib.ListN.{length-append, get_or-append}
use lib.Seq.{ext_get_or, set-get_or, get_or-set_same, get_or-set_other}
use lib.Seq.{get_or-append-add}
use lib.Dec.{eqb, ltb}
use borrow.Author.Tests.{lt-ltb, le-ltb, ltb-true, ltb-false}
use Rattle.basics.specs.Members.{All, none, more}
use Rattle.basics.proofs.Ifs.{if_yes, if_no}
use Rattle.machine.specs.State.{State, Thread, Scheduler, Entry, plain, waiting, no_thread}
use Rattle.machine.specs.State.{no_scheduler, with_scheduler, scheduler_at, starter_of}
use Rattle.machine.specs.State.{awaiting}
use Rattle.basics.specs.If.{when◌then◌else◌, keep_if}
use Rattle.machine.specs.Waits.{entry_thread, ready_threads, still_waiting}
use Rattle.machine.specs.Waits.{threads_where, entries_except, is_awaiting}
use Rattle.machine.specs.Inner.Families.{family_to, family_steps, in_family, ended_from, is_ready}
use Rattle.machine.specs.Words.{entry_word, list_word, words_at, pack}
use Rattle.machine.specs.Inner.Blocks.{pasted, padded}
use Rattle.machine.specs.Inner.Ranges.{all_below, thread_in_range}
use Rattle.machine.proofs.Families.{same_found, ended_each, each_ended, no_starter}
use Rattle.machine.proofs.WordLaws.{Says, is_pack, tab_length, tab_from, pasted_length, pasted_in}
use Rattle.machine.proofs.WordLaws.{pasted_out}
use Rattle.machine.proofs.Padded.{padded-length, padded_at}
use Rattle.machine.proofs.Round.{thread_1, thread_2, ended_bit}
use Rattle.machine.proofs.Ranges.{below_each, all_below_lem}
use Rattle.machine.specs.Shapes.{EntryFits, plain_fits, waiting_fits}
use Rattle.machine.specs.Shapes.{awaiting_fits}
use Rattle.lists.specs.Inner.Families.{starter_in, is_of_family, is_awaited, none_awaited}
use Rattle.lists.specs.Inner.Families.{is_ready_word}
use Rattle.lists.specs.Inner.Lists.{is_awaiting_word, wanted_words, other_words, partitioned_in}
use Rattle.lists.specs.Inner.Lists.{with_moved, ready_words, with_instant_ended, with_woken}
use Rattle.lists.specs.Inner.Lists.{active_with}
use Rattle.machine.proofs.AllBelow.{same_test}
use Rattle.lists.proofs.ThreadSets.{thread_is}
use Rattle.lists.proofs.PartitionLaws.{all_partitioned}
use Rattle.lists.proofs.SchedulerSays.{by_lists, scheduler_put, active_word, next_word}
use Rattle.lists.proofs.SchedulerSays.{room_says}
use Rattle.machine.specs.Statements.{wake}
use Rattle.machine.proofs.Space.{parted}

-- ---- the ready test
module _ (w : List ℕ) (s : State) (h : Says w s) (few : length s.threads ≤ 64) where
  -- the words say by whom each thread was begun
  starter_says : (t : ℕ) → starter_in w t ≡ starter_of s.threads t
  unfolding starter_in
  starter_says zero = refl
  starter_says (suc k) = go (ltb k 64) refl
    where
      go : (b : Bool) → ltb k 64 ≡ b
          → (when ltb k 64 then get_or w (1042 + 55 * k + 1) 0 else 0) ≡ (get_or s.threads k no_thread).starter
      go true q =
          let l = ltb-true k 64 q in
          if_yes _ _ q ∙ h.thread k 1 (omega arith) (omega arith)
          ∙ thread_1 (get_or s.threads k no_thread)
      go false q =
          let l = ltb-false k 64 q in
          if_no _ _ q ∙ sym (no_starter s.threads (suc k) (omega arith))

  family_says : (u k : ℕ) → k < length s.threads
      → is_of_family w u (suc k) ≡ in_family s.threads u (suc k)
  unfolding in_family
  family_says u k g =
      ap (λ (f : ℕ → ℕ). family_to (family_steps 64) f u (suc k)) (λ i t. starter_says t i)
      ∙ same_found (starter_of s.threads) (length s.threads) 64 refl (no_starter s.threads)
      few u (suc k) (omega arith)

  awaited_says : (u k : ℕ) → k < length s.threads
      → not (is_awaited w u k)
      ≡ ((get_or s.threads k no_thread).ended || not (in_family s.threads u (1 + k)))
  unfolding is_awaited
  awaited_says u k g =
      let z : suc k ≡ 1 + k = omega arith in
      ap₂ (λ (a : ℕ) (b : Bool). not (not (eqb a 0) && b))
      (h.thread k 2 (omega arith) (omega arith) ∙ thread_2 x) (family_says u k g)
      ∙ ap₂ (λ (b : Bool) (n : ℕ). not (not b && in_family s.threads u n)) (ended_bit x.ended) z
      ∙ ended_or x.ended (in_family s.threads u (1 + k))
    where
      x : Thread
      x = get_or s.threads k no_thread

      ended_or : (a b : Bool) → not (not a && b) ≡ a || not b
      ended_or true b = refl
      ended_or false b = refl

  none_awaited_says : (u : ℕ)
      → none_awaited w u (get_or w 0 0) ≡ ended_from (in_family s.threads u) 1 s.threads
  unfolding none_awaited
  none_awaited_says u =
      ap (λ (n : ℕ). all_below n (λ k. not (is_awaited w u k))) h.threads
      ∙ same_test _ _
      (λ e. each_ended (in_family s.threads u) 1 s.threads (λ k g. sym (awaited_says u k g)
      ∙ below_each (length s.threads) (λ i. not (is_awaited w u i)) e k g))
      (λ e. all_below_lem (length s.threads) (λ i. not (is_awaited w u i))
      (λ k g. awaited_says u k g ∙ ended_each (in_family s.threads u) 1 s.threads e k g))

  pub ready_says : (m : ℕ) (e : Entry) → EntryFits m e
      → is_ready_word w (entry_word e) ≡ is_ready s.threads e
  unfolding is_ready_word is_ready entry_word
  ready_says m (plain t) (plain_fits f) = let l = f.1 in if_yes _ _ (lt-ltb t 128 (omega arith))
  ready_says m (awaiting t e) (awaiting_fits f g) =
      if_no _ _ (le-ltb (16384 + 128 * e + t) 128 (omega arith))
      ∙ if_no _ _ (le-ltb (16384 + 128 * e + t) 16384 (omega arith))
  ready_says m (waiting t u) (waiting_fits f g) =
      let l = f.1 in
      let n = g.0 in
      let k = g.1 in
      let z : (128 * u + t) / 128 ≡ u = omega arith in
      if_no _ _ (le-ltb (128 * u + t) 128 (omega arith))
      ∙ if_yes _ _ (lt-ltb (128 * u + t) 16384 (omega arith))
      ∙ ap (λ (v : ℕ). thread_in_range v && none_awaited w v (get_or w 0 0)) z
      ∙ ap (λ (b : Bool). b && none_awaited w u (get_or w 0 0)) (thread_is u g) ∙ none_awaited_says u

-- the entry awaits event d
pub awaiting_says : (d m : ℕ) (e : Entry) → EntryFits m e
    → is_awaiting_word d (entry_word e) ≡ is_awaiting d e
unfolding is_awaiting_word entry_word
awaiting_says d m (plain t) (plain_fits f) =
    let l = f.1 in if_yes _ _ (lt-ltb t 16384 (omega arith))
awaiting_says d m (waiting t u) (waiting_fits f g) =
    let l = f.1 in
    let k = g.1 in
    if_yes _ _ (lt-ltb (128 * u + t) 16384 (omega arith))
awaiting_says d m (awaiting t e) (awaiting_fits f g) =
    let l = f.1 in
    let z : (16384 + 128 * e + t - 16384) / 128 ≡ e = omega arith in
    if_no _ _ (le-ltb (16384 + 128 * e + t) 16384 (omega arith)) ∙ ap (λ (n : ℕ). eqb n d) z

-- ---- entries that pass a test, in the words and in the state
module _ (m : ℕ) (test : ℕ → Bool) (passes : Entry → Bool)
    (same : (e : Entry) → EntryFits m e → test (entry_word e) ≡ passes e) where
  thread_of : (e : Entry) → EntryFits m e → entry_word e % 128 ≡ entry_thread e
  unfolding entry_word
  thread_of (plain t) (plain_fits f) = let l = f.1 in omega arith
  thread_of (waiting t u) (waiting_fits f g) = let l = f.1 in omega arith
  thread_of (awaiting t e) (awaiting_fits f g) = let l = f.1 in omega arith

  pub wanted_words_lem : (es : List Entry) → All (EntryFits m) es
      → wanted_words test (map entry_word es) ≡ threads_where passes es
  unfolding wanted_words threads_where
  wanted_words_lem [] none = refl
  wanted_words_lem (e ∷ es) (more f fs) =
      ap₂ (λ (b : Bool) (t : ℕ). keep_if b t (wanted_words test (map entry_word es))) (same e f)
      (thread_of e f)
      ∙ ap (keep_if (passes e) (entry_thread e)) (wanted_words_lem es fs)

  pub other_words_lem : (es : List Entry) → All (EntryFits m) es
      → other_words test (map entry_word es) ≡ map entry_word (entries_except passes es)
  unfolding other_words entries_except
  other_words_lem [] none = refl
  other_words_lem (e ∷ es) (more f fs) =
      ap₂ (λ (b : Bool) (ws : List ℕ). keep_if (not b) (entry_word e) ws) (same e f)
      (other_words_lem es fs) ∙ kept (not (passes e))
    where
      kept : (b : Bool)
          → keep_if b (entry_word e) (map entry_word (entries_except passes es))
          ≡ map entry_word (keep_if b e (entries_except passes es))
      kept true = refl
      kept false = refl

-- ---- they become active
module _ (n : ℕ) (test : ℕ → Bool) (passes : Entry → Bool)
    (same : (e : Entry) → EntryFits n e → test (entry_word e) ≡ passes e)
    (w : List ℕ) (s : State) (h : Says w s) (q : ℕ) (a : q - 2 < 8) (b : q - 2 < length s.schedulers)
    (room : length (scheduler_at s q).next ≤ 64) (fit : All (EntryFits n) (scheduler_at s q).next) where
  -- where the scheduler's words begin and where its next list does; its threads and entries, and the
  -- words of those that pass and of the others
  abbrev block_at : ℕ
  block_at = 2 + 130 * (q - 2)

  abbrev next_at : ℕ
  next_at = 67 + 130 * (q - 2)

  abbrev ts : List ℕ
  ts = (get_or s.schedulers (q - 2) no_scheduler).active

  abbrev es : List Entry
  es = (get_or s.schedulers (q - 2) no_scheduler).next

  abbrev rs : List ℕ
  rs = wanted_words test (words_at w next_at)

  abbrev ws : List ℕ
  ws = other_words test (words_at w next_at)

  entries_read : words_at w next_at ≡ map entry_word es
  entries_read = ext_get_or 0 (words_at w next_at) (map entry_word es) (tab_length (get_or w next_at 0) (λ i. get_or w i 0) (suc next_at) ∙ size) each
    where
      size : get_or w next_at 0 ≡ length (map entry_word es)
      size = room_says w s h q a b ∙ sym (length-map es entry_word)

      each : (j : ℕ) → j < length (words_at w next_at)
          → get_or (words_at w next_at) j 0 ≡ get_or (map entry_word es) j 0
      each j g =
          let m : j < get_or w next_at 0 = rw (tab_length (get_or w next_at 0) (λ i. get_or w i 0) (suc next_at)) at g in
          let n : get_or w next_at 0 ≡ length es = room_says w s h q a b in
          let r : length es ≤ 64 = room in
          let z : suc next_at + j ≡ block_at + (65 + suc j) = omega arith in
          tab_from (get_or w next_at 0) (λ i. get_or w i 0) (suc next_at) j 0 m
          ∙ ap (λ (i : ℕ). get_or w i 0) z ∙ next_word w s h q a b (suc j) (omega arith)

  pub wanted_are : wanted_words test (words_at w (67 + 130 * (q - 2)))
      ≡ threads_where passes (scheduler_at s q).next
  wanted_are = ap (wanted_words test) entries_read ∙ wanted_words_lem n test passes same es fit

  others_are : ws ≡ map entry_word (entries_except passes es)
  others_are = ap (other_words test) entries_read ∙ other_words_lem n test passes same es fit

  -- as many are active as the words say
  pub active_count : get_or w (2 + 130 * (q - 2)) 0 ≡ length (scheduler_at s q).active
  active_count =
      let z : block_at ≡ block_at + 0 = omega arith in
      ap (λ (i : ℕ). get_or w i 0) z ∙ active_word w s h q a b 0 (omega arith)

  pub active_with_lem : active_with test w (q - 2)
      ≡ length (scheduler_at s q).active + length (threads_where passes (scheduler_at s q).next)
  active_with_lem = ap₂ ◌+◌ active_count (ap length wanted_are)

  abbrev after : Scheduler
  after =
      record {
        active = (scheduler_at s q).active ++ threads_where passes (scheduler_at s q).next;
        next = entries_except passes (scheduler_at s q).next;
      }

  -- the words after the change, where they have room
  module _ (fits : length (scheduler_at s q).active
      + length (threads_where passes (scheduler_at s q).next) ≤ 64) where
    -- the entries partitioned, and both counts set
    abbrev k : ℕ
    k = get_or w block_at 0

    abbrev m : ℕ
    m = get_or w next_at 0

    abbrev d : List ℕ
    d = pasted w (block_at + 1 + k) rs (length rs)

    abbrev u : List ℕ
    u = pasted d (next_at + 1) (padded m ws) m

    abbrev v : List ℕ
    v = set (set u block_at (k + length rs)) next_at (length ws)

    size : length rs + length ws ≡ m
    size = all_partitioned test w (words_at w next_at) ∙ tab_length m (λ i. get_or w i 0) (suc next_at)

    count : m ≡ length es
    count = room_says w s h q a b

    small : m ≤ 64
    small = let r : length es ≤ 64 = room in let c = count in omega arith

    has_room : k + length rs ≤ 64
    has_room = let x = active_with_lem in omega arith

    hd : block_at + 1 + k + length rs ≤ length w
    hd = rw h.all (let x = has_room in omega arith)

    dl : length d ≡ 4834
    dl = pasted_length w (block_at + 1 + k) rs (length rs) hd (omega arith) ∙ h.all

    hu : next_at + 1 + m ≤ length d
    hu = rw dl (let y = small in omega arith)

    hs : m ≤ length (padded m ws)
    hs = rw (padded-length m ws) (omega arith)

    ul : length u ≡ 4834
    ul = pasted_length d (next_at + 1) (padded m ws) m hu hs ∙ dl

    long : length v ≡ 4834
    long =
        length-set (set u block_at (k + length rs)) next_at (length ws)
        ∙ length-set u block_at (k + length rs) ∙ ul

    -- a word that is no count is as the partition left it; one of no list is as it was
    plain_word : (i : ℕ) → (i ≡ block_at → ⊥) → (i ≡ next_at → ⊥) → get_or v i 0 ≡ get_or u i 0
    plain_word i f g =
        get_or-set_other (set u block_at (k + length rs)) next_at i (length ws) 0 g
        ∙ get_or-set_other u block_at i (k + length rs) 0 f

    kept : (i : ℕ) → (next_at + 1 ≤ i → i < next_at + 1 + m → ⊥)
        → (block_at + 1 + k ≤ i → i < block_at + 1 + k + length rs → ⊥) → get_or u i 0 ≡ get_or w i 0
    kept i f g =
        pasted_out d (next_at + 1) (padded m ws) m hu hs i f
        ∙ pasted_out w (block_at + 1 + k) rs (length rs) hd (omega arith) i g

    -- the threads that were active, those that became so, 0
    active_here : (i : ℕ) → i < 64 → (c : Bool) → ltb i k ≡ c → (e : Bool) → ltb i (k + length rs) ≡ e
        → get_or u (block_at + 1 + i) 0 ≡ get_or (ts ++ rs) i 0
    active_here i g true c e f =
        let l : i < k = ltb-true i k c in
        let z : block_at + 1 + i ≡ block_at + suc i = omega arith in
        let x : k ≡ length ts = active_count in
        let y = has_room in
        kept (block_at + 1 + i) (λ p r. omega arith) (λ p r. omega arith)
        ∙ ap (λ (j : ℕ). get_or w j 0) z ∙ active_word w s h q a b (suc i) (omega arith)
        ∙ sym (get_or-append ts rs 0 i (omega arith))
    active_here i g false c true f =
        let l : k ≤ i = ltb-false i k c in
        let o : i < k + length rs = ltb-true i (k + length rs) f in
        let x : k ≡ length ts = active_count in
        let y = has_room in
        let z : block_at + 1 + i ≡ block_at + 1 + k + (i - k) = omega arith in
        let t : length ts + (i - k) ≡ i = omega arith in
        ap (λ (j : ℕ). get_or u j 0) z
        ∙ pasted_out d (next_at + 1) (padded m ws) m hu hs (block_at + 1 + k + (i - k)) (λ p r. omega arith)
        ∙ pasted_in w (block_at + 1 + k) rs (length rs) hd (omega arith) (i - k) (omega arith)
        ∙ sym (get_or-append-add ts rs (i - k) 0) ∙ ap (λ (j : ℕ). get_or (ts ++ rs) j 0) t
    active_here i g false c false f =
        let l : k + length rs ≤ i = ltb-false i (k + length rs) f in
        let z : block_at + 1 + i ≡ block_at + suc i = omega arith in
        let x : k ≡ length ts = active_count in
        let y = length-append ts rs in
        kept (block_at + 1 + i) (λ p r. omega arith) (λ p r. omega arith)
        ∙ ap (λ (j : ℕ). get_or w j 0) z
        ∙ active_word w s h q a b (suc i) (omega arith)
        ∙ get_or-eq_default ts 0 {n = i} (omega arith)
        ∙ sym (get_or-eq_default (ts ++ rs) 0 {n = i} (omega arith))

    next_here : (i : ℕ) → i < 64 → (c : Bool) → ltb i m ≡ c
        → get_or u (next_at + 1 + i) 0 ≡ get_or ws i 0
    next_here i g true c =
        let l : i < m = ltb-true i m c in
        pasted_in d (next_at + 1) (padded m ws) m hu hs i l ∙ padded_at m ws i l
    next_here i g false c =
        let l : m ≤ i = ltb-false i m c in
        let x = size in
        let r = has_room in
        let z : next_at + 1 + i ≡ block_at + (65 + suc i) = omega arith in
        let n : length (map entry_word es) ≤ i = rw (length-map es entry_word) (let y = count in omega arith) in
        kept (next_at + 1 + i) (λ p r. omega arith) (λ p o. omega arith)
        ∙ ap (λ (k : ℕ). get_or w k 0) z
        ∙ next_word w s h q a b (suc i) (omega arith)
        ∙ get_or-eq_default (map entry_word es) 0 {n = i} n
        ∙ sym (get_or-eq_default ws 0 {n = i} (omega arith))

    active_words : (j : ℕ) → j < 65 → get_or v (block_at + j) 0 ≡ list_word (ts ++ rs) j
    active_words zero g =
        let z : block_at + 0 ≡ block_at = omega arith in
        ap (λ (i : ℕ). get_or v i 0) z
        ∙ get_or-set_other (set u block_at (k + length rs)) next_at block_at (length ws) 0 (λ p. omega arith)
        ∙ get_or-set_same u block_at (k + length rs) 0 (rw ul (omega arith))
        ∙ (let x : k ≡ length ts = active_count in let y = length-append ts rs in omega arith)
    active_words (suc i) g =
        let z : block_at + suc i ≡ block_at + 1 + i = omega arith in
        plain_word (block_at + suc i) (λ p. omega arith) (λ p. omega arith)
        ∙ ap (λ (k : ℕ). get_or u k 0) z
        ∙ active_here i (omega arith) (ltb i k) refl (ltb i (k + length rs)) refl

    next_words : (j : ℕ) → j < 65 → get_or v (block_at + (65 + j)) 0 ≡ list_word ws j
    next_words zero g =
        let z : block_at + (65 + 0) ≡ next_at = omega arith in
        ap (λ (i : ℕ). get_or v i 0) z
        ∙ get_or-set_same (set u block_at (k + length rs)) next_at (length ws) 0
        (rw (length-set u block_at (k + length rs) ∙ ul) (omega arith))
    next_words (suc i) g =
        let z : block_at + (65 + suc i) ≡ next_at + 1 + i = omega arith in
        plain_word (block_at + (65 + suc i)) (λ p. omega arith) (λ p. omega arith)
        ∙ ap (λ (k : ℕ). get_or u k 0) z
        ∙ next_here i (omega arith) (ltb i m) refl

    pub moved_says : Says (with_moved test w (q - 2))
        (with_scheduler q (record { active = (scheduler_at s q).active ++ threads_where passes (scheduler_at s q).next; next = entries_except passes (scheduler_at s q).next }) s)
    unfolding with_moved partitioned_in
    moved_says = subst (λ (l : List ℕ). Says l (with_scheduler q after s)) same_place
        (scheduler_put w s h q a b v after long
        (by_lists after (λ j. get_or v (block_at + j) 0)
        (λ j g. active_words j g ∙ ap (λ (l : List ℕ). list_word (ts ++ l) j) wanted_are)
        (λ j g. next_words j g ∙ ap (λ (l : List ℕ). list_word l j) others_are))
        (λ i f. plain_word i (λ p. f (omega arith) (omega arith)) (λ p. f (omega arith) (omega arith))
        ∙ kept i (λ p r. f (omega arith) (let y = small in omega arith)) (λ p r. f (omega arith) (let x = has_room in omega arith))))
      where
        -- where the next list begins, from the active list on
        same_place : set (set (pasted d (next_at + 1) (padded m ws) m) block_at (k + length rs)) next_at (length ws)
            ≡ with_moved test w (q - 2)
        same_place = let z : next_at ≡ block_at + 65 = omega arith in
            ap (λ (i : ℕ). set (set (pasted (pasted w (block_at + 1 + k) (wanted_words test (words_at w i)) (length (wanted_words test (words_at w i))))
            (i + 1) (padded (get_or w i 0) (other_words test (words_at w i))) (get_or w i 0)) block_at (k + length rs)) next_at (length ws)) z

-- ---- the end of an instant, of a scheduler with no active thread
module _ (n : ℕ) (w : List ℕ) (s : State) (h : Says w s) (few : length s.threads ≤ 64) (q : ℕ) (a : q - 2 < 8) (b : q - 2 < length s.schedulers)
    (room : length (scheduler_at s q).next ≤ 64) (fit : All (EntryFits n) (scheduler_at s q).next) where
  -- the count that `end_instant` gives
  pub instant_readies : length (ready_words w (words_at w (67 + 130 * (q - 2))))
      ≡ length (ready_threads s.threads (scheduler_at s q).next)
  instant_readies =
      ap length (wanted_are n (is_ready_word w) (is_ready s.threads) (ready_says w s h few n) w s h q a b room fit)

  module _ (idle : (scheduler_at s q).active ≡ []) where
    few_ready : length (scheduler_at s q).active
        + length (threads_where (is_ready s.threads) (scheduler_at s q).next) ≤ 64
    few_ready =
        let x = ap (length {A = ℕ}) idle in
        let y = parted (is_ready s.threads) (scheduler_at s q).next in
        omega arith

    -- `end_instant`
    pub instant_says : Says (with_instant_ended w (q - 2)) (with_scheduler q (record { active = ready_threads s.threads (scheduler_at s q).next; next = still_waiting s.threads (scheduler_at s q).next }) s)
    instant_says =
        subst (λ (l : List ℕ). Says (with_instant_ended w (q - 2)) (with_scheduler q (record { active = l ++ ready_threads s.threads (scheduler_at s q).next; next = still_waiting s.threads (scheduler_at s q).next }) s)) idle
        (moved_says n (is_ready_word w) (is_ready s.threads) (ready_says w s h few n) w s h q a b room fit few_ready)

-- ---- a generation: the threads that await event e
module _ (n e : ℕ) (w : List ℕ) (s : State) (h : Says w s) (q : ℕ) (a : q - 2 < 8) (b : q - 2 < length s.schedulers)
    (room : length (scheduler_at s q).next ≤ 64) (fit : All (EntryFits n) (scheduler_at s q).next) where
  -- `has_room_to_wake`
  pub woken_count : active_with (is_awaiting_word e) w (q - 2)
      ≡ length (scheduler_at s q).active + length (threads_where (is_awaiting e) (scheduler_at s q).next)
  woken_count = active_with_lem n (is_awaiting_word e) (is_awaiting e) (awaiting_says e n) w s h q a b room fit

  pub active_read : get_or w (2 + 130 * (q - 2)) 0 ≡ length (scheduler_at s q).active
  active_read = active_count n (is_awaiting_word e) (is_awaiting e) (awaiting_says e n) w s h q a b room fit

  -- `wake`
  pub wake_says : length (scheduler_at s q).active + length (threads_where (is_awaiting e) (scheduler_at s q).next) ≤ 64
      → Says (with_woken w (q - 2) e) (wake q e s)
  unfolding wake
  wake_says fits = moved_says n (is_awaiting_word e) (is_awaiting e) (awaiting_says e n) w s h q a b room fit fits

-- where none is ready all stay, so that the state is the same, and with it the words: 'nothing'
-- (16) changes no buffer
pub none_pass : (test : Entry → Bool) (es : List Entry) → threads_where test es ≡ []
    → entries_except test es ≡ es
unfolding threads_where entries_except
none_pass test [] e = refl
none_pass test (x ∷ xs) e = by (test x) refl (none_pass test xs)
  where
    by : (b : Bool) → test x ≡ b → (threads_where test xs ≡ [] → entries_except test xs ≡ xs)
        → entries_except test (x ∷ xs) ≡ x ∷ xs
    by true q r =
        absurd (some (sym (ap (λ (b : Bool). keep_if b (entry_thread x) (threads_where test xs)) q) ∙ e))
      where
        some : {t : ℕ} {l : List ℕ} → t ∷ l ≡ [] → ⊥
        some z = let n : ◌≡◌ {A = ℕ} 0 1 = cc in omega arith
    by false q r =
        ap (λ (b : Bool). keep_if (not b) x (entries_except test xs)) q
        ∙ ap (λ (l : List Entry). x ∷ l)
        (r (sym (ap (λ (b : Bool). keep_if b (entry_thread x) (threads_where test xs)) q) ∙ e))

pub instant_none : (n : ℕ) (w : List ℕ) (s : State) → Says w s → length s.threads ≤ 64 → (q : ℕ)
    → q - 2 < 8 → q - 2 < length s.schedulers
    → length (scheduler_at s q).next ≤ 64 → All (EntryFits n) (scheduler_at s q).next
    → (scheduler_at s q).active ≡ [] → ready_threads s.threads (scheduler_at s q).next ≡ []
    → with_instant_ended w (q - 2) ≡ w
instant_none n w s h few q a b room fit idle none_is =
    is_pack _ _ (instant_says n w s h few q a b room fit idle) ∙ ap pack same ∙ sym (is_pack w s h)
  where
    x : Scheduler
    x = get_or s.schedulers (q - 2) no_scheduler

    back : (y z : Scheduler) → y.active ≡ z.active → y.next ≡ z.next → y ≡ z
    back y z e f = λ i. record { active = e i; next = f i }

    same : with_scheduler q (record { active = ready_threads s.threads (scheduler_at s q).next; next = still_waiting s.threads (scheduler_at s q).next }) s
        ≡ s
    same =
        ap (λ (y : Scheduler). with_scheduler q y s) (back _ (scheduler_at s q) (none_is ∙ sym idle) (none_pass (is_ready s.threads) x.next none_is))
        ∙ ap (λ (xs : List Scheduler). record { threads = s.threads; schedulers = xs; cells = s.cells; present = s.present }) (set-get_or s.schedulers (q - 2) no_scheduler)
