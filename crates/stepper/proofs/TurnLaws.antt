-- The turn of thread t on words in range: what its commit asks and gives, and the turn of a thread
-- that is not there. Assumes nothing.
use Prim.Native.Nat.{ℕ, zero, suc, ◌-◌, ◌<◌, ◌≤◌}
use Prim.Native.Nat.{◌+◌, ◌*◌}
use mathlib.Core.Path.{◌≡◌, refl, sym, ap, ◌∙◌, subst}
use mathlib.Core.List.{List, []}
use mathlib.Core.Bool.{true}
use native.Mathlib.Omega.{arith}
use lib.Dec.{eqb}
use Rattle.std.specs.Prelude.{Option, Some, None, Ok, Err}
use Rattle.std.specs.Result.{result_err}
use Rattle.commits.specs.Inner.Commits.{Obstacle, obstacle_number, turn_committed_in}
use Rattle.stepper.specs.Inner.Files.{step_number}
use Rattle.stepper.proofs.RuleLaws.{rule_counts}
use Rattle.language.specs.Refusals.{rule_number}
use Rattle.language.specs.declared.refusal.Rule.{Rule}
use Rattle.basics.specs.If.{when◌then◌else◌}
use Rattle.basics.proofs.Ifs.{if_yes, if_no}
use lib.ListN.{length, get_or, set, length-set, get_or-eq_default}
use lib.Seq.{get_or-set_other, set_out}
use Rattle.language.specs.Places.{is_place}
use Rattle.text.specs.Frames.{frames_of}
use Rattle.program.specs.Programs.{Program, program_of}
use Rattle.machine.specs.State.{State, Thread, Item, no_thread, nth, set_nth, thread_at, used_cells}
use Rattle.machine.specs.Turns.{StepResult, access_count, Turn, is_scheduler_of, leave, settled}
use Rattle.machine.specs.Statements.{ends}
use Rattle.machine.specs.Inner.Parts.{turn, step_items, step_thread}
use Rattle.machine.specs.Steps.{step_thread_within}
use Rattle.machine.specs.Words.{pack}
use Rattle.machine.specs.Inner.Blocks.{pasted, cell_words}
use Rattle.machine.specs.Calls.{as_call, call_result}
use Rattle.machine.proofs.WordLaws.{is_pack, pasted_length, pasted_out}
use Rattle.machine.proofs.KeptShape.{scheduler_fits}
use Rattle.states.specs.declared.thread.ThreadWords.{ThreadWords}
use Rattle.states.specs.Inner.Threads.{thread_words_of, thread_in}
use Rattle.acts.specs.Inner.Transitions.{TurnAnswer, TurnResult, popped, turned, change_of, RoomFor}
use Rattle.turns.specs.Inner.Acts.{TurnOutcome, variables_in, top_in, turn_in}
use Rattle.turns.specs.Inner.TurnCounts.{turn_count}
use Rattle.operations.specs.Inner.Heaps.{cells_in, accesses_in}
use Rattle.commits.specs.Inner.Commits.{left_in, committed_in, CommitWords}
use Rattle.commits.specs.Inner.Commits.{Committed, committed}
use Rattle.language.specs.declared.group.Schedulers.{Schedulers}
use Rattle.commits.proofs.ChangeLaws.{same_thread}
use Rattle.stepper.specs.Inner.Files.{StepWords, state_in, TurnChoice, who_in, turn_of, turn_on}
use Rattle.stepper.specs.Inner.Files.{turn_left, turn_accesses, as_committed, grouping_of}
use Rattle.stepper.proofs.Commits.{left_says}
use Rattle.stepper.proofs.Transitions.{scheduler_there, Acts}
use Rattle.stepper.proofs.Items.{IsWho}
use Rattle.stepper.proofs.Threads.{turn_is, turn_few}
use Rattle.stepper.proofs.Counted.{turn_count_lem}
use Rattle.stepper.proofs.GoodWords.{fits_in, shaped, says, threads_few, index, in_list, fit}
use Rattle.stepper.proofs.GoodWords.{place_in, thread_read}
use Rattle.stepper.proofs.GoodWords.{owners_in, active_short, next_short}

module _ (frames : List ℕ) (shared : ℕ) (w : List ℕ) (h : StepWords frames shared w) (t : ℕ) (low : 1 ≤ t) (c : ℕ) (choice : TurnChoice frames c) where
  abbrev P : Program
  P = program_of (frames_of frames)

  abbrev s : State
  s = state_in frames w

  -- ---- a thread that is there
  module _ (high : t ≤ get_or w 0 0) where
    acts : Acts (frames_of frames) P P.schedulers w s c (t - 1)
    acts =
        record { file = fits_in frames shared w h; says = says frames shared w h; shape = shaped frames shared w h; there = in_list frames shared w h t low high; list = choice; owners = owners_in frames shared w h }

    number_same : suc (t - 1) ≡ t
    number_same = index frames shared w h t low high

    who_is : IsWho P (t - 1) (thread_at s (suc (t - 1))) (who_in frames shared w t)
    who_is = record { thread = sym number_same; place = ap (λ (i : ℕ). (nth s.threads i).place) (sym number_same); shared = h.count }

    -- the turn of thread i, so that a law of thread suc (t - 1) is one of thread t
    abbrev turn_for : ℕ → TurnOutcome
    turn_for i = turn_in (frames_of frames) (who_in frames shared w t) (thread_words_of (thread_at s i)) (used_cells s.cells) (cell_words s.cells)

    -- the turn has changed the cells and their count alone
    low_same : (a : TurnAnswer) (v : List ℕ) → turn_on a v frames shared w t → (i : ℕ) → (i ≡ 1 → ⊥)
        → i < 4578 → get_or v i 0 ≡ get_or w i 0
    low_same a v o i d g =
        let z = (says frames shared w h).all in
        let l = o.whole in
        let y = turn_of frames shared w t in
        ap (λ (u : List ℕ). get_or u i 0) o.words
        ∙ get_or-set_other (pasted w 4578 y.cells 256) 1 i y.acted.used 0 d
        ∙ pasted_out w 4578 y.cells 256 (omega arith) (omega arith) i (λ a b. omega arith)

    -- so the thread's words are as before
    kept : (a : TurnAnswer) (v : List ℕ) → turn_on a v frames shared w t
        → thread_in v (t - 1) ≡ thread_words_of (thread_at s t)
    kept a v o =
        let z = (says frames shared w h).all in
        let m = threads_few frames shared w h in
        let l = o.whole in
        let y = turn_of frames shared w t in
        let p = pasted w 4578 y.cells 256 in
        same_thread w v (t - 1) (omega arith) z
        (ap length o.words ∙ length-set p 1 y.acted.used
        ∙ pasted_length w 4578 y.cells 256 (omega arith) (omega arith) ∙ z)
        (λ i d g. low_same a v o i (λ e. omega arith) (omega arith))
        ∙ thread_read frames shared w h t low high

    -- what the commit asks
    commit_asks : (a : TurnAnswer) (v : List ℕ) → turn_on a v frames shared w t → length v ≡ length w
        → CommitWords P (grouping_of P) v t a
    commit_asks a v o l =
        let m = threads_few frames shared w h in
        record {
          first = low;
          last = omega arith;
          cells = subst (λ (x : TurnResult). x.used ≤ 256) (sym o.acted)
              (subst (λ (i : ℕ). (turn_for i).acted.used ≤ 256) number_same (turn_few acts (who_in frames shared w t) who_is));
          settle =
              record {
                all = l ∙ (says frames shared w h).all;
                thread = omega arith;
                place = subst (λ (x : ThreadWords). is_place x.place ≡ true) (sym (kept a v o)) (place_in frames shared w h t low high);
                items = subst (λ (x : ThreadWords). x.items ≤ 25) (sym (kept a v o)) (fit frames shared w h t low high).items_room;
                values = subst (λ (x : ThreadWords). x.values ≤ 25) (sym (kept a v o)) (fit frames shared w h t low high).variables_room;
                room = subst (λ (x : ThreadWords). RoomFor (change_of a) (x.items - 1) x.values) (sym (kept a v o)) o.room;
              };
          events = (fits_in frames shared w h).few_events;
          few = (fits_in frames shared w h).most_schedulers;
          lists = record {
            threads = rw (low_same a v o 0 (λ z. omega arith) (omega arith)) m;
            active = λ k g. rw (low_same a v o (2 + 130 * k) (λ z. omega arith) (omega arith)) (active_short frames shared w h k g);
            next = λ k g. rw (low_same a v o (67 + 130 * k) (λ z. omega arith) (omega arith)) (next_short frames shared w h k g);
          };
        }

    -- u are the words without the accesses that stood with the count
    pub commit_needs : (a : TurnAnswer) (v u : List ℕ) (G : Schedulers) → G ≡ grouping_of P
        → turn_left a v frames shared w t
        → u ≡ set v 1 (cells_in (get_or v 1 0)) → length u ≡ length v → length v ≡ length w
        → CommitWords P G u t a
    commit_needs a v u G same o e k l =
        subst (λ (x : Schedulers). CommitWords P x u t a) (sym same)
        (subst (λ (x : List ℕ). CommitWords P (grouping_of P) x t a) (sym e)
        (commit_asks a _ o.turn (ap length (sym e) ∙ k ∙ l)))

    -- and gives
    commit_gives : (a : TurnAnswer) (v v' : List ℕ) (used r : ℕ) → turn_on a v frames shared w t
        → used ≡ get_or w 1 0
        → committed r t v' ≡ turn_committed_in P (grouping_of P) v used c t a
        → committed r t v' ≡ as_committed w (step_thread P s c t)
    commit_gives a v v' used r o u e =
        e
        ∙ ap (λ (x : ThreadWords).
        let r = turned a (get_or v 1 0) (popped x) in
        committed_in P (grouping_of P) v used c t r r.transition) (kept a v o)
        ∙ ap (λ (x : TurnResult). committed_in P (grouping_of P) v used c t x x.transition) o.acted
        ∙ ap (λ (x : List ℕ). committed_in P (grouping_of P) x used c t y.acted y.acted.transition) o.words
        ∙ ap (λ (i : ℕ). committed_in P (grouping_of P) (on y) i c t y.acted y.acted.transition)
        (u ∙ (says frames shared w h).cells)
        ∙ subst Goal number_same (turn_is acts (who_in frames shared w t) who_is)
      where
        y : TurnOutcome
        y = turn_of frames shared w t

        -- the words with the cells of that turn and their count
        on : TurnOutcome → List ℕ
        on r = set (pasted w 4578 r.cells 256) 1 r.acted.used

        Goal : ℕ → Type 0
        Goal i =
            committed_in P (grouping_of P) (on (turn_for i)) (used_cells s.cells) c i
            (turn_for i).acted (turn_for i).acted.transition
            ≡ as_committed w (step_thread P s c i)

    -- as many accesses as the rules list
    pub count_is : turn_accesses frames shared w t ≡ length (step_thread P s c t).accesses
    count_is = subst Goal number_same (turn_count_lem acts (who_in frames shared w t) who_is)
      where
        Goal : ℕ → Type 0
        Goal i =
            let th = thread_words_of (thread_at s i) in
            turn_count (frames_of frames) (who_in frames shared w t) th.items (top_in th)
            (variables_in th) (used_cells s.cells) (cell_words s.cells)
            ≡ length (step_thread P s c i).accesses

    -- what the turn gives with its accesses, which a refusal leaves out
    pub turn_gives : (a : TurnAnswer) (v u v' : List ℕ) (n used r k : ℕ) (G : Schedulers)
        → G ≡ grouping_of P → turn_left a v frames shared w t → u ≡ set v 1 (cells_in (get_or v 1 0))
        → n ≡ accesses_in (get_or v 1 0) → used ≡ get_or w 1 0
        → committed r t v' ≡ turn_committed_in P G u used c t a
        → k ≡ (when eqb r 0 then n else 0)
        → call_result r t k v' ≡ as_call w (step_thread P s c t)
    unfolding access_count
    turn_gives a v u v' n used r k G same o eu en z e q = λ i. call_result (answer i) (thread i) (count i) (words i)
      where
        R : StepResult
        R = step_thread P s c t

        g : committed r t v' ≡ as_committed w (step_thread P s c t)
        g =
            commit_gives a (set v 1 (cells_in (get_or v 1 0))) v' used r o.turn z
            (e
            ∙ ap (λ (x : Schedulers). turn_committed_in P x u used c t a) same
            ∙ ap (λ (x : List ℕ). turn_committed_in P (grouping_of P) x used c t a) eu)

        answer : r ≡ (step_thread P s c t).answer
        answer = ap (λ (x : Committed). x.answer) g

        thread : t ≡ (step_thread P s c t).thread
        thread = ap (λ (x : Committed). x.thread) g

        words : v' ≡ (as_committed w (step_thread P s c t)).words
        words = ap (λ (x : Committed). x.words) g

        count : k ≡ (when eqb (step_thread P s c t).answer 0 then length (step_thread P s c t).accesses else 0)
        count =
            q
            ∙ ap (λ (i : ℕ). when eqb i 0 then n else 0) answer
            ∙ ap (λ (i : ℕ). when eqb R.answer 0 then i else 0) (en ∙ o.accesses ∙ count_is)

  -- ---- a thread that is not there has nothing to run: it ends, and no thread changes
  module _ (high : get_or w 0 0 < t) where
    abbrev gone : Turn
    gone = turn P s c t []

    empty : (thread_at s t).continuation ≡ []
    empty = go t low (let z = (says frames shared w h).threads in omega arith)
      where
        go : (i : ℕ) → 1 ≤ i → length s.threads < i → (thread_at s i).continuation ≡ []
        go zero l g = absurd (omega arith)
        go (suc i) l g = ap (λ (x : Thread). x.continuation) (get_or-eq_default s.threads no_thread {n = i} (omega arith))

    same_threads : (x : Thread) → set_nth s.threads t x ≡ s.threads
    same_threads x = go t low (let z = (says frames shared w h).threads in omega arith)
      where
        go : (i : ℕ) → 1 ≤ i → length s.threads < i → set_nth s.threads i x ≡ s.threads
        go zero l g = absurd (omega arith)
        go (suc i) l g = set_out s.threads i x (omega arith)

    same_state : (x : Thread) → settled gone x ≡ s
    same_state x = ap (λ (ts : List Thread). record { threads = ts; schedulers = s.schedulers; cells = s.cells; present = s.present }) (same_threads x)

    chosen_there : is_scheduler_of P c ≡ true → c - 2 < length s.schedulers
    unfolding is_scheduler_of
    chosen_there e = (scheduler_there (fits_in frames shared w h) (shaped frames shared w h) c e).0

    pub gone_is : (v : List ℕ) → v ≡ left_in w c
        → call_result 0 t 0 v ≡ as_call w (step_thread P s c t)
    unfolding step_thread_within ends access_count when◌then◌else◌
    gone_is v e =
        ap (call_result 0 t 0) (e ∙ is_pack _ (leave gone s) (left_says w s (says frames shared w h) gone choice chosen_there (scheduler_fits (frames_of frames) _ _ (fits_in frames shared w h) s (shaped frames shared w h) c).active_room)
        ∙ ap (λ (x : State). pack (leave gone x)) (sym (same_state _)))
        ∙ ap (λ (is : List Item). as_call w (step_items P s c t is)) (sym empty)

-- ---- the refusal of a commit
err_number : (x : Obstacle) → step_number (result_err x) ≡ obstacle_number x
err_number (Ok _) = refl
err_number (Err r) = refl

pub refused_as : (x : Obstacle) (s : Option Rule) → s ≡ result_err x → (t : ℕ) (v : List ℕ)
    (z : Committed) → committed (obstacle_number x) t v ≡ z → committed (step_number s) t v ≡ z
refused_as x s e t v z h =
    ap (λ (i : ℕ). committed i t v) (ap step_number e ∙ err_number x) ∙ h

-- ---- the accesses taken out of the count, and those that are answered
pub taken_words : (v : List ℕ) (m : ℕ) → m ≡ cells_in (get_or v 1 0)
    → set v 1 m ≡ set v 1 (cells_in (get_or v 1 0))
taken_words v m e = ap (set v 1) e

module _ (s : Option Rule) (n : ℕ) where
  abbrev Counted : Option Rule → ℕ → Type 0
  Counted x m = m ≡ (when eqb (step_number x) 0 then n else 0)

  pub counted_done : s ≡ None → Counted s n
  counted_done e = subst (λ (x : Option Rule). Counted x n) (sym e)
      (sym (if_yes {b = eqb (step_number None) 0} n 0 refl))

  pub counted_none : (r : Rule) → s ≡ Some r → Counted s 0
  counted_none r e = subst (λ (x : Option Rule). Counted x 0) (sym e)
      (sym (if_no {b = eqb (rule_number r) 0} n 0 (rule_counts r)))

pub ruleset counted_laws = (counted_done, counted_none)
