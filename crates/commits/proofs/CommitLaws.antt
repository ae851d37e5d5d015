-- A commit: what was decided, settled and followed is the answer and the words of the definition.
-- Assumes nothing.
use Rattle.std.specs.Prelude.{Option, Some, None, Ok, Err}
use Prim.Native.Nat.{ℕ, ◌+◌, ◌*◌, ◌-◌}
use Prim.Native.Nat.{◌<◌, ◌≤◌}
use mathlib.Core.Path.{◌≡◌, refl, sym, ap, ap₂, ◌∙◌, subst}
use mathlib.Core.List.{List}
use mathlib.Core.Bool.{Bool, true, false, ◌&&◌, not}
use native.Mathlib.Omega.{arith}
use lib.ListN.{get_or, length}
use Rattle.basics.specs.If.{when◌then◌else◌}
use Rattle.basics.proofs.Ifs.{yes, no, if_no, if_all}
use Rattle.language.specs.declared.Place.{Place}
use Rattle.language.specs.declared.group.Schedulers.{Schedulers}
use Rattle.program.specs.Programs.{Program}
use Rattle.program.specs.Inner.Modules.{found_in}
use Rattle.program.specs.declared.module.Module.{Module}
use Rattle.commits.specs.Inner.Commits.{Committed, committed}
use Rattle.states.specs.Inner.Threads.{thread_in, put_thread, block_of, with_one_more}
use Rattle.states.proofs.ThreadLaws.{in_wide, put_length}
use Rattle.states.proofs.ThreadLaws.{wide_length}
use Rattle.acts.specs.declared.act.Arguments.{Arguments}
use Rattle.acts.specs.declared.act.Transition.{Transition}
use Rattle.acts.specs.declared.act.Transition.TheVariants.{Stays, Leaves, Joins, Starts}
use Rattle.acts.specs.declared.act.Transition.TheVariants.{Generates, Awaits}
use Rattle.acts.specs.declared.act.Action.{Action}
use Rattle.acts.specs.Inner.Transitions.{TurnAnswer, TurnResult, turn_and_then, changed, popped}
use Rattle.commits.specs.declared.decision.Passed.{Passed}
use Rattle.commits.specs.declared.decision.Passed.TheVariants.{Keep, Join, Start, Wake}
use Rattle.acts.specs.declared.act.Change.{Change}
use Rattle.commits.specs.declared.decision.Decision.TheVariants.{Settle}
use Rattle.commits.specs.declared.decision.Decision.TheVariants.{Suspend}
use Rattle.commits.specs.Inner.Commits.{turn_result_in, cleared_in, settled_in, stays_in, left_in}
use Rattle.commits.specs.Inner.Commits.{room_in, joined_in, joins_in, new_thread_words, obstacle_in}
use Rattle.commits.specs.Inner.Commits.{refuses_in, starts_in, committed_in, place_after}
use Rattle.commits.specs.Inner.Commits.{starts_found, turn_committed_in, unless, Obstacle, Decided}
use Rattle.commits.specs.Inner.Commits.{settles}
use Rattle.commits.specs.Inner.Commits.{obstacle_number, action_decided, SettleWords, signal_obstacle}
use Rattle.commits.specs.Inner.Commits.{start_tested, start_decided, decided_in, followed_in}
use Rattle.commits.specs.Inner.Commits.{CommitWords, StartWords, Follows}
use Rattle.commits.specs.Inner.Commits.{any_turn_committed}
use Rattle.commits.specs.Inner.Commits.{present_in, wake_room_in, await_room_in}
use Rattle.commits.specs.Inner.Commits.{generate_obstacle, await_obstacle}
use Rattle.commits.specs.Inner.Commits.{generated_in, generates_in, awaiting_in, awaits_in}
use Rattle.commits.specs.Inner.Commits.{generate_tested, await_tested, WakeWords}
use Rattle.commits.proofs.ChangeLaws.{popped_wide, changed_wide, place_is}
use Rattle.commits.proofs.WritingLaws.{first_word, room_scheduler}
use Rattle.commits.proofs.DecisionLaws.{free_count, free_scheduler}
use Rattle.commits.proofs.FollowLaws.{keeps_is, leave_is, join_is, start_is, wait_is}
use Rattle.commits.proofs.FollowLaws.{wake_is}
use Rattle.language.specs.Places.{is_scheduler}
use Rattle.program.specs.Inner.Events.{event_in}
use Rattle.program.proofs.EventLaws.{event_within}
use Rattle.language.specs.declared.refusal.Rule.{Rule}
use Rattle.language.specs.Refusals.{rule_number}
use Rattle.lists.specs.Inner.Lists.{is_awaiting_word}
use Rattle.machine.proofs.WordLaws.{pasted_out}
use Rattle.commits.proofs.SignalLaws.{signal_allowed, wake_room_is}
use Rattle.commits.proofs.SignalLaws.{same_group}
use Rattle.lists.proofs.MovedLaws.{active_same}
use Rattle.lists.specs.Inner.Lists.{ListsFit}
use Rattle.groups.specs.Inner.Members.{HasRoomOn}

-- ---- of thread t, on words w: what a decision comes to, and what it lets through
module _ (p : Program) (G : Schedulers) (w : List ℕ) (before c t : ℕ) where
  -- the words settled with that change
  abbrev with_change : Change → List ℕ
  with_change x = settled_in w (t - 1) (changed x (popped (thread_in w (t - 1))))

  abbrev result : Decided → Committed
  result (Err r) = refuses_in w before t r
  result (Ok (Settle x y)) = committed 0 t (followed_in G (with_change x) c t y)
  result (Ok (Suspend q e)) = committed 0 t (awaiting_in w c t q.number e)

  -- what is let through has what its calls need
  abbrev Sound : Decided → Type 0
  Sound (Err r) = Unit {0}
  Sound (Ok (Settle x y)) = SettleWords w (t - 1) x × Follows G (with_change x) y
  Sound (Ok (Suspend q e)) = is_scheduler q.number ≡ true

  -- ---- of an action
  module _ (a : Action) (h : CommitWords p G w t (Ok a)) where
    abbrev turn : TurnResult
    turn = turn_result_in w t (Ok a)

    -- the settled words
    abbrev words : List ℕ
    words = stays_in w t turn

    -- settling writes a thread's block, not how many threads there are
    count_kept : get_or words 0 0 ≡ get_or w 0 0
    unfolding settled_in put_thread
    count_kept =
        let l = h.settle.all in
        first_word w (1042 + 55 * (t - 1)) (block_of turn.thread) 55 (omega arith) (omega arith)

    long : length words ≡ 4834
    unfolding settled_in
    long =
        put_length w (t - 1) h.settle.all h.settle.thread turn.thread
        (changed_wide a.change (popped (thread_in w (t - 1)))
        (popped_wide (thread_in w (t - 1)) (in_wide w (t - 1) h.settle.all h.settle.thread)))

    -- where the starter stands
    abbrev place : Place
    place = place_after a.change (record { number = (thread_in w (t - 1)).place })

    place_there : place.number ≡ turn.thread.place
    place_there = place_is (thread_in w (t - 1)) a.change

    joins_is : (q : Place) → result (action_decided p G w t a (Joins q))
        ≡ joins_in w before c t turn q.number
    unfolding joins_in
    joins_is q =
        if_all (λ (d : Decided). result d ≡ joins_in w before c t turn q.number)
        (room_in w q.number 1) (settles a (Join q)) (Err Rule.Stuck)
        (λ e. yes _ e (ap (committed 0 t) (join_is G words c t q))) (λ e. no _ e refl)

    -- `starts_in` of any module found, any place and any count of threads: where nothing stands in
    -- the way, and whole
    abbrev goes : Arguments → Bool → Module → ℕ → ℕ → Committed
    goes args waits x i n =
        let new = new_thread_words i args.count args.first args.second t x.body in
        let entry = 128 * (n + 1) + t in
        when not waits then committed 0 t (joined_in (with_one_more words new) i (n + 1)) else
        when not (room_in w i 2) then refuses_in w before t Rule.Stuck else
        committed 0 t (joined_in (joined_in (with_one_more (left_in words c) new) i (n + 1)) i entry)

    abbrev starts : Arguments → Bool → Option Module → ℕ → ℕ → Committed
    starts args waits None i n = refuses_in w before t Rule.Stuck
    starts args waits (Some x) i n =
        unless (obstacle_in w x i args.count) (refuses_in w before t) (goes args waits x i n)

    module _ (args : Arguments) (q : Place) where
      abbrev gone : Module → Bool → Decided
      gone x waits =
          when waits && not (room_in w q.number 2) then Err Rule.Stuck else
          settles a (Start waits q x.body args)

      goes_is : (x : Module) (waits : Bool)
          → result (gone x waits) ≡ goes args waits x q.number (get_or words 0 0)
      goes_is x false =
          ap result (if_no _ _ refl)
          ∙ yes _ refl (ap (committed 0 t) (start_is G words c t q x.body args))
      goes_is x true =
          if_all (λ (d : Decided). result d ≡ goes args true x q.number (get_or words 0 0))
          (not (room_in w q.number 2)) _ _ (λ f. no _ refl (yes _ f refl))
          (λ f. no _ refl (no _ f (ap (committed 0 t) (wait_is G words c t q x.body args long))))

      tested_is : (waits : Bool) (x : Option Module) → result (start_tested w a args waits x q)
          ≡ starts args waits x q.number (get_or words 0 0)
      unfolding start_tested
      tested_is waits None = refl
      tested_is waits (Some x) = by (obstacle_in w x q.number args.count)
        where
          by : (o : Obstacle) → result (turn_and_then o (λ _. gone x waits))
              ≡ unless o (refuses_in w before t) (goes args waits x q.number (get_or words 0 0))
          by (Ok _) = goes_is x waits
          by (Err r) = refl

    starts_is : (waits : Bool) (m : ℕ) (args : Arguments)
        → result (start_decided p w t a waits m args) ≡ starts_in p w before c t turn waits m args
    unfolding starts_in
    starts_is waits m args =
        tested_is args place waits (found_in p m)
        ∙ ap₂ (starts args waits (found_in p m)) place_there count_kept ∙ whole (found_in p m)
      where
        whole : (x : Option Module)
            → starts args waits x turn.thread.place (get_or w 0 0)
            ≡ starts_found w before c t turn waits args x
        whole None = refl
        whole (Some x) = refl

    -- `generates_in` and `awaits_in` at any place
    abbrev generated : ℕ → Option ℕ → ℕ → Committed
    generated e x i =
        unless (generate_obstacle G w x i e) (refuses_in w before t)
        (committed 0 t (generated_in G words i e))

    generates_is : (e : ℕ)
        → result (generate_tested G w a (event_in p e) place e) ≡ generates_in p G w before t turn e
    unfolding generate_tested generates_in
    generates_is e = by (event_in p e) ∙ ap (generated e (event_in p e)) place_there
      where
        go : (o : Obstacle) → result (turn_and_then o (λ _. settles a (Wake place e)))
            ≡ unless o (refuses_in w before t) (committed 0 t (generated_in G words place.number e))
        go (Ok _) = ap (committed 0 t) (wake_is G words c t place e)
        go (Err r) = refl

        by : (x : Option ℕ) → result (generate_tested G w a x place e) ≡ generated e x place.number
        by None = refl
        by (Some o) = go (signal_obstacle G (wake_room_in G w o e) o place.number)

    abbrev awaited : ℕ → Option ℕ → ℕ → Committed
    awaited e x i =
        unless (await_obstacle G w x i e) (refuses_in w before t)
        (when present_in w e then committed 0 t words else
        committed 0 t (awaiting_in w c t i e))

    awaits_is : (e : ℕ)
        → result (await_tested G w a (event_in p e) place e) ≡ awaits_in p G w before c t turn e
    unfolding await_tested awaits_in
    awaits_is e = by (event_in p e) ∙ ap (awaited e (event_in p e)) place_there
      where
        go : (o : Obstacle)
            → result (turn_and_then o (λ _. when present_in w e then settles a Keep else Ok (Suspend place e)))
            ≡ unless o (refuses_in w before t)
            (when present_in w e then committed 0 t words else
            committed 0 t (awaiting_in w c t place.number e))
        go (Ok _) =
            if_all
            (λ (d : Decided). result d
            ≡ (when present_in w e then committed 0 t words else
            committed 0 t (awaiting_in w c t place.number e)))
            (present_in w e) (settles a Keep) (Ok (Suspend place e))
            (λ g. yes _ g (ap (committed 0 t) (keeps_is words c Keep refl)))
            (λ g. no _ g refl)
        go (Err r) = refl

        by : (x : Option ℕ) → result (await_tested G w a x place e) ≡ awaited e x place.number
        by None = refl
        by (Some o) = go (signal_obstacle G (await_room_in w place.number e) o place.number)

    action_is : (f : Transition)
        → result (action_decided p G w t a f) ≡ committed_in p G w before c t turn (Ok f)
    action_is Stays = ap (committed 0 t) (keeps_is words c Keep refl)
    action_is Leaves = ap (committed 0 t) (leave_is G words c t)
    action_is (Joins q) = joins_is q
    action_is (Starts waits m args) = starts_is waits m args
    action_is (Generates e) = generates_is e
    action_is (Awaits e) = awaits_is e

    free_words : (args : Arguments) (x : Module) (q : Place)
        → obstacle_in w x q.number args.count ≡ Ok tt → StartWords words q
    free_words args x q z =
        record {
          scheduler = free_scheduler w x q.number args.count z;
          count = rw count_kept (free_count w x q.number args.count z);
        }

    start_sound : (args : Arguments) (waits : Bool) (x : Option Module) (q : Place)
        → Sound (start_tested w a args waits x q)
    unfolding start_tested
    start_sound args waits None q = tt
    start_sound args waits (Some x) q = by (obstacle_in w x q.number args.count) refl
      where
        by : (o : Obstacle) → obstacle_in w x q.number args.count ≡ o
            → Sound (turn_and_then o (λ _. gone args q x waits))
        by (Ok _) e =
            if_all Sound (waits && not (room_in w q.number 2)) _ _ (λ _. tt)
            (λ _. (h.settle, free_words args x q e))
        by (Err r) e = tt

    join_sound : (q : Place) → Sound (action_decided p G w t a (Joins q))
    join_sound q =
        if_all Sound (room_in w q.number 1) (settles a (Join q)) (Err Rule.Stuck)
        (λ e. (h.settle, room_scheduler w q.number 1 (room_in w q.number 1) refl (ap not e)))
        (λ _. tt)

    -- settling leaves the lists
    low_kept : (i : ℕ) → i < 1042 → get_or words i 0 ≡ get_or w i 0
    unfolding settled_in put_thread
    low_kept i l =
        let z = h.settle.all in
        let k = h.settle.thread in
        pasted_out w (1042 + 55 * (t - 1)) (block_of turn.thread) 55 (omega arith) block
        i (λ a b. omega arith)
      where
        block : 55 ≤ length (block_of turn.thread)
        block =
            let e = wide_length turn.thread (changed_wide a.change (popped (thread_in w (t - 1)))
            (popped_wide (thread_in w (t - 1)) (in_wide w (t - 1) h.settle.all h.settle.thread))) in
            omega arith

    -- the lists are as they were
    lists_kept : ListsFit words
    lists_kept =
        record {
          threads = rw count_kept h.lists.threads;
          active = λ k l. rw (low_kept (2 + 130 * k) (omega arith)) (h.lists.active k l);
          next = λ k l. rw (low_kept (67 + 130 * k) (omega arith)) (h.lists.next k l);
        }

    wake_sound : (e o : ℕ) → event_in p e ≡ Some o
        → signal_obstacle G (wake_room_in G w o e) o place.number ≡ Ok tt
        → WakeWords G words place e
    wake_sound e o f z =
        let y = signal_allowed G (wake_room_in G w o e) o place.number z in
        let n = event_within p e o f in
        let m = h.events in
        record {
          few = h.few;
          scheduler = y.scheduler;
          event = omega arith;
          lists = lists_kept;
          room = λ j a b t. room_kept j a b
              (wake_room_is G w o e y.room j a b
              (same_group G.labels place.number o j y.owner t));
        }
      where
        room_kept : (j : ℕ) → 2 ≤ j → j < 2 + G.count → HasRoomOn e w j → HasRoomOn e words j
        room_kept j a b r =
            let few = h.few in
            let same = active_same w words (j - 2) (λ i f l. low_kept i (omega arith))
            (h.lists.next (j - 2) (omega arith)) (is_awaiting_word e) in
            omega arith

    generate_sound : (e : ℕ) → Sound (generate_tested G w a (event_in p e) place e)
    unfolding generate_tested
    generate_sound e = by (event_in p e) refl
      where
        by : (x : Option ℕ) → event_in p e ≡ x → Sound (generate_tested G w a x place e)
        by None f = tt
        by (Some o) f = go (signal_obstacle G (wake_room_in G w o e) o place.number) refl
          where
            go : (n : Obstacle)
                → signal_obstacle G (wake_room_in G w o e) o place.number ≡ n
                → Sound (turn_and_then n (λ _. settles a (Wake place e)))
            go (Ok _) z = (h.settle, wake_sound e o f z)
            go (Err r) z = tt

    await_sound : (e : ℕ) → Sound (await_tested G w a (event_in p e) place e)
    unfolding await_tested
    await_sound e = by (event_in p e)
      where
        by : (x : Option ℕ) → Sound (await_tested G w a x place e)
        by None = tt
        by (Some o) = go (signal_obstacle G (await_room_in w place.number e) o place.number) refl
          where
            go : (n : Obstacle)
                → signal_obstacle G (await_room_in w place.number e) o place.number ≡ n
                → Sound
                (turn_and_then n (λ _. when present_in w e then settles a Keep else Ok (Suspend place e)))
            go (Ok _) z =
                if_all Sound (present_in w e) (settles a Keep) (Ok (Suspend place e))
                (λ _. (h.settle, tt))
                (λ _. (signal_allowed G (await_room_in w place.number e) o place.number z).scheduler)
            go (Err r) z = tt

    action_sound : (f : Transition) → Sound (action_decided p G w t a f)
    action_sound Stays = (h.settle, tt)
    action_sound Leaves = (h.settle, tt)
    action_sound (Joins q) = join_sound q
    action_sound (Starts waits m args) = start_sound args waits (found_in p m) place
    action_sound (Generates e) = generate_sound e
    action_sound (Awaits e) = await_sound e

  decided_is : (x : TurnAnswer) → CommitWords p G w t x
      → result (decided_in p G w t x) ≡ turn_committed_in p G w before c t x
  decided_is (Ok a) h = action_is a h a.transition
  decided_is (Err r) h = refl

  decided_sound : (x : TurnAnswer) → CommitWords p G w t x → Sound (decided_in p G w t x)
  decided_sound (Ok a) h = action_sound a h a.transition
  decided_sound (Err r) h = tt

  -- ---- the arms of `commit`, which has decided d
  module _ (x : TurnAnswer) (h : CommitWords p G w t x) (d : Decided) (e : d ≡ decided_in p G w t x)
    where
      abbrev Commits : Committed → Type 0
      Commits r = r ≡ turn_committed_in p G w before c t x

      decided : (y : Decided) → d ≡ y → Commits (result y)
      decided y g = ap result (sym g ∙ e) ∙ decided_is x h

      pub commit_refused : (r : Rule) (v : List ℕ) → d ≡ Err r → v ≡ cleared_in w before
          → Commits (committed (obstacle_number (Err r)) t v)
      commit_refused r v g f = ap (committed (obstacle_number (Err r)) t) f ∙ decided (Err r) g

      module _ (z : Change) (y : Passed) (g : d ≡ Ok (Settle z y)) where
        pub commit_settles : SettleWords w (t - 1) z
        commit_settles = (subst Sound (sym e ∙ g) (decided_sound x h)).0

        module _ (v : List ℕ) (s : v ≡ with_change z) where
          pub commit_follows : Follows G v y
          commit_follows =
              subst (λ (l : List ℕ). Follows G l y) (sym s)
              (subst Sound (sym e ∙ g) (decided_sound x h)).1

          pub commit_settled : (u : List ℕ) → u ≡ followed_in G v c t y → Commits (committed 0 t u)
          commit_settled u f =
              ap (committed 0 t) (f ∙ ap (λ (l : List ℕ). followed_in G l c t y) s)
              ∙ decided (Ok (Settle z y)) g

      module _ (q : Place) (s : ℕ) (g : d ≡ Ok (Suspend q s)) where
        pub commit_suspends : is_scheduler q.number ≡ true
        commit_suspends = subst Sound (sym e ∙ g) (decided_sound x h)

        pub commit_suspended : (v : List ℕ) → v ≡ awaiting_in w c t q.number s
            → Commits (committed 0 t v)
        commit_suspended v f = ap (committed 0 t) f ∙ decided (Ok (Suspend q s)) g

pub ruleset commit_laws = (commit_refused, commit_settled, commit_suspended)

-- ---- any turn, where it is a rule that refuses it
module _ (p : Program) (G : Schedulers) (w : List ℕ) (before c t : ℕ) where
  pub any_turn_is : (x : TurnAnswer)
      → any_turn_committed rule_number p G w before c t x ≡ turn_committed_in p G w before c t x
  any_turn_is (Ok a) = refl
  any_turn_is (Err r) = refl
