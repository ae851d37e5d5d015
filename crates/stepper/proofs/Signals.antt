-- 1A and 1B: a generation and an await, committed on the words, are what the rules make of the
-- state. Assumes nothing.
use Prim.Native.Nat.{ℕ, suc, ◌+◌, ◌-◌, ◌<◌, ◌≤◌}
use mathlib.Core.Path.{◌≡◌, refl, sym, ap, ap₂, ◌∙◌, subst}
use mathlib.Core.List.{List}
use mathlib.Core.Bool.{Bool, true, false, not, ◌&&◌, ◌||◌}
use native.Mathlib.Omega.{arith}
use lib.Dec.{leb, ltb, eqb}
use lib.ListN.{length, set}
use lib.Seq.{set-get_or}
use borrow.Author.Tests.{le-leb, lt-leb, ltb-true, ltb-false, leb-true}
use Rattle.language.specs.declared.refusal.Rule.{Rule}
use Rattle.std.specs.Prelude.{Option, Err}
use Rattle.language.specs.Refusals.{rule_number}
use Rattle.language.specs.declared.group.Schedulers.{Schedulers}
use Rattle.program.proofs.EventLaws.{event_found, event_missing}
use Rattle.commits.specs.Inner.Commits.{Obstacle, unless, generate_obstacle, await_obstacle}
use Rattle.basics.specs.If.{when◌then◌else◌}
use Rattle.basics.proofs.Ifs.{if_yes, if_no, and_true}
use Rattle.language.specs.Places.{private, is_scheduler, has_place}
use Rattle.language.specs.declared.frame.Frame.{Frame}
use Rattle.language.proofs.PlaceLaws.{has_place_lem}
use Rattle.program.specs.Trees.{frame_at}
use Rattle.program.specs.Programs.{Program, owner_of_event}
use Rattle.machine.specs.Accesses.{Access}
use Rattle.machine.specs.State.{State, Stored, Thread, awaiting, no_thread, thread_at, scheduler_at}
use Rattle.machine.specs.State.{is_present, with_cells, with_present, enlist, used_cells}
use Rattle.machine.specs.Turns.{StepResult, Turn, unlinked_here, refuse, accept, settled, leave}
use Rattle.machine.specs.Turns.{room}
use Rattle.machine.specs.Statements.{with_signal, is_own_event, signalling, wake_on_each}
use Rattle.machine.specs.Statements.{event_group}
use Rattle.machine.specs.Statements.{room_to_wake_on, room_to_wake}
use Rattle.machine.specs.Groups.{members}
use Rattle.basics.specs.Members.{All}
use Rattle.language.specs.Groups.{label, in_step}
use Rattle.language.specs.Inner.Labels.{labels_of, in_group}
use Rattle.machine.proofs.GroupLaws.{every_each, woken_present}
use Rattle.machine.proofs.Lists.{all_imply}
use Rattle.machine.proofs.KeptShape.{awake_on}
use Rattle.machine.specs.Statements.{step_generate, step_await}
use Rattle.machine.specs.Words.{entry_word}
use Rattle.machine.specs.Shapes.{ThreadFits, SchedulerFits}
use Rattle.machine.proofs.WordLaws.{Says, is_pack}
use Rattle.machine.proofs.Blocks.{put_cells}
use Rattle.machine.proofs.KeptShape.{scheduler_fits, leave_next}
use Rattle.states.specs.Inner.Threads.{thread_words_of}
use Rattle.states.proofs.EventLaws.{set_says, present_says}
use Rattle.groups.specs.Inner.Members.{room_on_each, woken_on}
use Rattle.groups.proofs.MembersSay.{There, ListsShaped, room_says, woken_says}
use Rattle.acts.specs.declared.act.Transition.TheVariants.{Generates, Awaits}
use Rattle.acts.specs.Inner.Transitions.{acted_in}
use Rattle.commits.specs.Inner.Commits.{Committed, committed, refuses_in, stays_in, left_in}
use Rattle.commits.specs.Inner.Commits.{room_in}
use Rattle.commits.specs.Inner.Commits.{owns_event, wake_room_in, present_in}
use Rattle.commits.specs.Inner.Commits.{await_room_in, signal_obstacle, generated_in, generates_in}
use Rattle.commits.specs.Inner.Commits.{awaiting_in, awaits_in, members_by}
use Rattle.stepper.specs.Inner.Files.{as_committed, grouping_of}
use Rattle.stepper.proofs.Grows.{Grown}
use Rattle.stepper.proofs.Groups.{members_same, members_there, group_same, eqb_swap, in_group_lem}
use Rattle.stepper.proofs.Commits.{with_cell_words, left_says, joined_says, room_is}
use Rattle.stepper.proofs.Transitions.{Acts, turn_at, commit, list_there, chosen_there}
use Rattle.stepper.proofs.Transitions.{active_few, refuse_is, stays_is, settled_is}
use Rattle.stepper.proofs.Transitions.{leave_count, place_scheduler}
use Rattle.machine.proofs.Space.{own_linked}

-- a place of a file is a scheduler from home on
scheduler_test : (n p : ℕ) → has_place n p ≡ true → is_scheduler p ≡ leb 2 p
scheduler_test n p h =
    let a = and_true (leb 1 p) (leb p 9) (has_place_lem n p h).0 in
    ap (λ (b : Bool). leb 2 p && b) a.1 ∙ by (leb 2 p)
  where
    by : (b : Bool) → (b && true) ≡ b
    by true = refl
    by false = refl

module _ {fs : List Frame} {P : Program} {n : ℕ} {w : List ℕ} {s : State} {c k : ℕ}
    (A : Acts fs P n w s c k) (x : Thread) (X : ThreadFits fs n x) (cs : List Stored)
    (acc : List Access) (g : Grown s.cells cs) (l : used_cells cs ≤ 256) (e : ℕ) where
  abbrev u : Turn
  u = turn_at A x cs acc

  -- the words with the turn's cells
  abbrev v : List ℕ
  v = with_cell_words w cs

  abbrev o : ℕ
  o = owner_of_event P e

  cells_say : Says v (with_cells cs s)
  cells_say = put_cells w s A.says cs

  lists_fit : (q : ℕ) → SchedulerFits (frame_at fs 0).c (scheduler_at s q)
  lists_fit q = scheduler_fits fs P n A.file s A.shape q

  owner_there : e < length P.events
      → (o - 2 < length s.schedulers) × (is_scheduler o ≡ true)
  owner_there h = list_there A o (A.owners e h)

  -- ---- the tests are the same
  abbrev G : Schedulers
  G = grouping_of P

  most : P.schedulers ≤ 8
  most = let l = A.file.most_schedulers in let q = A.file.schedulers in omega arith

  count : length s.schedulers ≡ P.schedulers
  count = A.shape.count ∙ sym A.file.schedulers

  own_same : e < length P.events → owns_event G x.place o ≡ is_own_event u e
  unfolding is_own_event
  own_same h =
      ap (λ (b : Bool). b && in_group (labels_of P.links) x.place o)
      (scheduler_test n x.place X.place) ∙ by (leb 2 x.place) refl
    where
      by : (b : Bool) → leb 2 x.place ≡ b
          → (b && in_group (labels_of P.links) x.place o) ≡ (b && in_step P.links o x.place)
      by false q = refl
      by true q =
          in_group_lem P.links x.place o (scheduler_test n x.place X.place ∙ q) (owner_there h).1
          ∙ eqb_swap (label P.links x.place) (label P.links o)

  members_in : (q : ℕ) → is_scheduler q ≡ true → members_by G q ≡ members P q
  members_in q h = members_same P.links P.schedulers q most h

  group_there : (q : ℕ) → All (There s) (members P q)
  group_there q = members_there s (in_step P.links q) P.schedulers count most

  lists_shaped : ListsShaped (frame_at fs 0).c s
  lists_shaped q = let f = lists_fit q in record { room = f.next_room; entries = f.entries }

  room_same : e < length P.events → wake_room_in G v o e ≡ room_to_wake u e
  unfolding wake_room_in room_to_wake room_to_wake_on
  room_same h =
      let z = owner_there h in
      ap₂ (λ (b : Bool) (qs : List ℕ). b && room_on_each qs e v) z.1 (members_in o z.1)
      ∙ room_says (frame_at fs 0).c e (members P o) v (with_cells cs s) cells_say lists_shaped (group_there o)

  few_events : length s.present ≤ 16
  few_events = A.shape.events_room

  event_fits : e < length P.events → e < length s.present
  event_fits h = let y = A.shape.events in let z = A.file.events in omega arith

  present_same : e < length P.events → present_in v e ≡ is_present s e
  present_same h =
      let y = event_fits h in let z = few_events in
      present_says e v (with_cells cs s) cells_say (omega arith)

  -- ---- the answers
  abbrev by_obstacle : Obstacle → Committed → Committed
  by_obstacle m r = unless m (refuses_in v (used_cells s.cells) (suc k)) r

  stopped : (m : Rule) (r : Committed)
      → by_obstacle (Err m) r ≡ as_committed w (refuse u (rule_number m))
  stopped m r = refuse_is A x cs acc m (thread_words_of x) g l

  missing : ltb e (length P.events) ≡ false → leb (length P.events) e ≡ true
  missing q = le-leb (length P.events) e (ltb-false e (length P.events) q)

  found : ltb e (length P.events) ≡ true → leb (length P.events) e ≡ false
  found q = lt-leb (length P.events) e (ltb-true e (length P.events) q)

  -- one's own: the thread stands on a scheduler in step with the owner
  in_step_here : is_own_event u e ≡ true → (is_scheduler x.place ≡ true) × (in_step P.links o x.place ≡ true)
  unfolding is_own_event
  in_step_here h =
      let a = and_true (leb 2 x.place) (in_step P.links o x.place) h in
      (scheduler_test n x.place X.place ∙ a.0, a.1)

  -- ---- 1A
  rooms : room_to_wake u e ≡ true
      → All (λ (q : ℕ). awake_on e (scheduler_at s q) ≤ 64) (members P o)
  unfolding room_to_wake room_to_wake_on
  rooms r =
      all_imply {Q = λ (q : ℕ). awake_on e (scheduler_at s q) ≤ 64} (λ q h. leb-true _ 64 h)
      (every_each (λ (q : ℕ). leb (awake_on e (scheduler_at s q)) 64) (members P o) r)

  generated_says : e < length P.events → room_to_wake u e ≡ true → is_own_event u e ≡ true
      → Says (generated_in G (stays_in v (suc k) (acted_in (Generates e) (thread_words_of x) (used_cells cs))) x.place e)
      (with_present (set s.present e true) (wake_on_each (event_group P e) e (settled u x)))
  unfolding generated_in
  generated_says h r q =
      let z = in_step_here q in
      let t = wake_on_each (members P o) e (settled u x) in
      let d = stays_in v (suc k) (acted_in (Generates e) (thread_words_of x) (used_cells cs)) in
      let same = members_in x.place z.0 ∙ group_same P.links P.schedulers x.place o z.1 in
      subst (λ (bs : List Bool). Says (set (woken_on (members_by G x.place) e d) (4562 + e) 1) (with_present (set bs e true) t)) (woken_present (members P o) e (settled u x))
      (set_says e _ t
      (subst (λ (qs : List ℕ). Says (woken_on qs e d) t) (sym same)
      (woken_says (frame_at fs 0).c e (members P o) _ (settled u x) (settled_is A x cs acc x) lists_shaped (group_there o) (rooms r)))
      (rw (woken_present (members P o) e (settled u x)) (event_fits h))
      (rw (woken_present (members P o) e (settled u x)) few_events))

  pub generates_is : commit A (acted_in (Generates e) (thread_words_of x) (used_cells cs)) cs
      ≡ as_committed w (step_generate u e)
  unfolding generates_in signal_obstacle step_generate signalling
  generates_is = by_there (ltb e (length P.events)) refl
    where
      r : Committed
      r = committed 0 (suc k) (generated_in G (stays_in v (suc k) (acted_in (Generates e) (thread_words_of x) (used_cells cs))) x.place e)

      by_event : Option ℕ → Committed
      by_event y = by_obstacle (generate_obstacle G v y x.place e) r

      by_own : ltb e (length P.events) ≡ true → room_to_wake u e ≡ true
          → (d : Bool) → is_own_event u e ≡ d
          → commit A (acted_in (Generates e) (thread_words_of x) (used_cells cs)) cs
          ≡ as_committed w (step_generate u e)
      by_own q h false z =
          let y = ltb-true e (length P.events) q in
          ap by_event (event_found P e y)
          ∙ ap (λ (m : Obstacle). by_obstacle m r)
          (if_no _ _ (ap not (room_same y ∙ h)) ∙ if_yes _ _ (ap not (own_same y ∙ z)))
          ∙ stopped Rule.Foreign r
          ∙ ap (as_committed w) (sym (if_no _ _ (found q) ∙ if_no _ _ (ap not h) ∙ if_no _ _ z))
      by_own q h true z =
          let y = ltb-true e (length P.events) q in
          ap by_event (event_found P e y)
          ∙ ap (λ (m : Obstacle). by_obstacle m r)
          (if_no _ _ (ap not (room_same y ∙ h)) ∙ if_no _ _ (ap not (own_same y ∙ z)))
          ∙ ap (committed 0 (suc k)) (is_pack _ _ (generated_says y h z))
          ∙ ap (as_committed w) (sym (if_no _ _ (found q) ∙ if_no _ _ (ap not h) ∙ if_yes _ _ z))

      by_room : ltb e (length P.events) ≡ true → (b : Bool) → room_to_wake u e ≡ b
          → commit A (acted_in (Generates e) (thread_words_of x) (used_cells cs)) cs
          ≡ as_committed w (step_generate u e)
      by_room q false h =
          let y = ltb-true e (length P.events) q in
          ap by_event (event_found P e y)
          ∙ ap (λ (m : Obstacle). by_obstacle m r)
          (if_yes _ _ (ap not (room_same y ∙ h)))
          ∙ stopped Rule.Stuck r
          ∙ ap (as_committed w) (sym (if_no _ _ (found q) ∙ if_yes _ _ (ap not h)))
      by_room q true h = by_own q h (is_own_event u e) refl

      by_there : (b : Bool) → ltb e (length P.events) ≡ b
          → commit A (acted_in (Generates e) (thread_words_of x) (used_cells cs)) cs
          ≡ as_committed w (step_generate u e)
      by_there false q =
          ap by_event (event_missing P e (ltb-false e (length P.events) q)) ∙ stopped Rule.Stuck r
          ∙ ap (as_committed w) (sym (if_yes _ _ (missing q)))
      by_there true q = by_room q (room_to_wake u e) refl

  -- ---- 1B
  -- a thread at a scheduler has a list; one at none needs no room
  await_room_same : e < length P.events
      → await_room_in v x.place e
      ≡ (is_present s e || unlinked_here u || room u 1 x.place)
  unfolding room
  await_room_same h =
      ap (λ (b : Bool). b || eqb x.place private || room_in v x.place 1) (present_same h)
      ∙ by (eqb x.place private) refl
    where
      middle : (i r : Bool) → (i || true || r) ≡ true
      middle true r = refl
      middle false r = refl

      fits : Bool
      fits = leb (length (scheduler_at s x.place).next + 1) 64

      by : (b : Bool) → eqb x.place private ≡ b
          → (is_present s e || eqb x.place private || room_in v x.place 1)
          ≡ (is_present s e || eqb x.place private || leb (length (scheduler_at s x.place).next + 1) 64)
      by true q =
          ap (λ (b : Bool). is_present s e || b || room_in v x.place 1) q
          ∙ middle (is_present s e) (room_in v x.place 1)
          ∙ sym (ap (λ (b : Bool). is_present s e || b || fits) q ∙ middle (is_present s e) fits)
      by false q =
          let z = list_there A x.place (place_scheduler n x.place X.place q) in
          ap (λ (b : Bool). is_present s e || eqb x.place private || b)
          (room_is w s A.says cs x.place 1 z.1 z.0)

  -- the thread as it was
  as_it_was : settled u (thread_at s (suc k)) ≡ with_cells cs s
  as_it_was =
      ap (λ (ts : List Thread). record { threads = ts; schedulers = s.schedulers; cells = cs; present = s.present })
      (set-get_or s.threads k no_thread)

  awaiting_says : is_own_event u e ≡ true → eqb x.place private ≡ false
      → room u 1 x.place ≡ true
      → Says (awaiting_in v c (suc k) x.place e)
      (enlist x.place (awaiting (suc k) e) (leave u (settled u (thread_at s (suc k)))))
  unfolding awaiting_in room entry_word
  awaiting_says q p r =
      let z = list_there A x.place (place_scheduler n x.place X.place p) in
      joined_says _ (leave u (settled u (thread_at s (suc k)))) left x.place (awaiting (suc k) e)
      z.1 (rw leave_count z.0) (short (leb-true _ 64 r))
    where
      short : length (scheduler_at s x.place).next + 1 ≤ 64
          → length (scheduler_at (leave u (settled u (thread_at s (suc k)))) x.place).next < 64
      short h =
          let d = leave_next fs P n A.file u (settled u (thread_at s (suc k))) x.place in
          omega arith

      left : Says (left_in v c) (leave u (settled u (thread_at s (suc k))))
      left =
          left_says v (settled u (thread_at s (suc k)))
          (subst (λ (y : State). Says v y) (sym as_it_was) cells_say) u A.list (chosen_there A)
          (active_few A c)

  linked : is_own_event u e ≡ true → eqb x.place private ≡ false
  linked h = own_linked u e h

  -- what the rules make of an await by a thread at the event's owner
  abbrev awaited : StepResult
  awaited =
      when is_present s e then accept (with_signal u e) (settled u x) else
      accept (with_signal u e)
      (enlist x.place (awaiting (suc k) e)
      (leave (with_signal u e) (settled u (thread_at s (suc k)))))

  -- the list of the events that it accessed is nothing to the list that a thread leaves
  leave_same : (y : State) → leave u y ≡ leave (with_signal u e) y
  unfolding leave
  leave_same y = refl

  pub awaits_is : commit A (acted_in (Awaits e) (thread_words_of x) (used_cells cs)) cs
      ≡ as_committed w (step_await u e)
  unfolding awaits_in signal_obstacle step_await signalling
  awaits_is = by_there (ltb e (length P.events)) refl
    where
      r : Committed
      r =
          when present_in v e then committed 0 (suc k) (stays_in v (suc k) (acted_in (Awaits e) (thread_words_of x) (used_cells cs))) else
          committed 0 (suc k) (awaiting_in v c (suc k) x.place e)

      -- the room, where the event is absent and the thread linked
      has_list : is_present s e ≡ false → eqb x.place private ≡ false
          → (is_present s e || unlinked_here u || room u 1 x.place) ≡ true
          → room u 1 x.place ≡ true
      has_list a b h =
          sym (ap₂ (λ (i j : Bool). i || j || room u 1 x.place) a b) ∙ h

      by_present : ltb e (length P.events) ≡ true
          → (is_present s e || unlinked_here u || room u 1 x.place) ≡ true
          → is_own_event u e ≡ true → (b : Bool) → is_present s e ≡ b
          → r ≡ as_committed w awaited
      by_present q h z true y =
          let f = ltb-true e (length P.events) q in
          if_yes _ _ (present_same f ∙ y) ∙ stays_is A x cs acc x
          ∙ ap (as_committed w) (sym (if_yes _ _ y))
      by_present q h z false y =
          let f = ltb-true e (length P.events) q in
          if_no _ _ (present_same f ∙ y)
          ∙ ap (committed 0 (suc k)) (is_pack _ _ (awaiting_says z (linked z) (has_list y (linked z) h)))
          ∙ ap (λ (d : State). as_committed w (accept (with_signal u e) (enlist x.place (awaiting (suc k) e) d)))
          (leave_same (settled u (thread_at s (suc k))))
          ∙ ap (as_committed w) (sym (if_no _ _ y))

      by_event : Option ℕ → Committed
      by_event y = by_obstacle (await_obstacle G v y x.place e) r

      by_own : ltb e (length P.events) ≡ true
          → (is_present s e || unlinked_here u || room u 1 x.place) ≡ true
          → (d : Bool) → is_own_event u e ≡ d
          → commit A (acted_in (Awaits e) (thread_words_of x) (used_cells cs)) cs
          ≡ as_committed w (step_await u e)
      by_own q h false z =
          let y = ltb-true e (length P.events) q in
          ap by_event (event_found P e y)
          ∙ ap (λ (m : Obstacle). by_obstacle m r)
          (if_no _ _ (ap not (await_room_same y ∙ h)) ∙ if_yes _ _ (ap not (own_same y ∙ z)))
          ∙ stopped Rule.Foreign r
          ∙ ap (as_committed w) (sym (if_no _ _ (found q) ∙ if_no _ _ (ap not h) ∙ if_no _ _ z))
      by_own q h true z =
          let y = ltb-true e (length P.events) q in
          ap by_event (event_found P e y)
          ∙ ap (λ (m : Obstacle). by_obstacle m r)
          (if_no _ _ (ap not (await_room_same y ∙ h)) ∙ if_no _ _ (ap not (own_same y ∙ z)))
          ∙ by_present q h z (is_present s e) refl
          ∙ ap (as_committed w)
          (sym (if_no _ _ (found q) ∙ if_no _ _ (ap not h) ∙ if_yes awaited _ z))

      by_room : ltb e (length P.events) ≡ true
          → (b : Bool) → (is_present s e || unlinked_here u || room u 1 x.place) ≡ b
          → commit A (acted_in (Awaits e) (thread_words_of x) (used_cells cs)) cs
          ≡ as_committed w (step_await u e)
      by_room q false h =
          let y = ltb-true e (length P.events) q in
          ap by_event (event_found P e y)
          ∙ ap (λ (m : Obstacle). by_obstacle m r)
          (if_yes _ _ (ap not (await_room_same y ∙ h)))
          ∙ stopped Rule.Stuck r
          ∙ ap (as_committed w) (sym (if_no _ _ (found q) ∙ if_yes _ _ (ap not h)))
      by_room q true h = by_own q h (is_own_event u e) refl

      by_there : (b : Bool) → ltb e (length P.events) ≡ b
          → commit A (acted_in (Awaits e) (thread_words_of x) (used_cells cs)) cs
          ≡ as_committed w (step_await u e)
      by_there false q =
          ap by_event (event_missing P e (ltb-false e (length P.events) q)) ∙ stopped Rule.Stuck r
          ∙ ap (as_committed w) (sym (if_yes _ _ (missing q)))
      by_there true q = by_room q (is_present s e || unlinked_here u || room u 1 x.place) refl
