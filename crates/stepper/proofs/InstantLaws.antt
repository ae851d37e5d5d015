-- The end of an instant of a group, on words in range: what each call asks, and what the end gives.
-- Assumes nothing.
use Prim.Native.Nat.{ℕ, zero, suc, ◌+◌, ◌-◌, ◌<◌, ◌≤◌}
use mathlib.Core.Path.{◌≡◌, refl, sym, ap, ap₂, ◌∙◌, subst}
use mathlib.Core.List.{List, [], ◌∷◌}
use mathlib.Core.Bool.{Bool, true, false, not, true≢false}
use native.Mathlib.Omega.{arith}
use native.Mathlib.Decide.{ℕ_discrete}
use lib.Dec.{eqb}
use lib.ListN.{length, get_or}
use borrow.Author.Tests.{eq-eqb, ne_eqb}
use Rattle.basics.specs.If.{when◌then◌else◌, keep_if}
use Rattle.basics.specs.Members.{All, any}
use Rattle.basics.proofs.Ifs.{if_yes, if_no}
use Rattle.language.specs.Groups.{in_step}
use Rattle.language.specs.Places.{is_scheduler}
use Rattle.language.specs.Inner.Labels.{labels_of, same_label, in_group}
use Rattle.language.proofs.Labels.{same_in_step}
use Rattle.language.specs.declared.group.Schedulers.{Schedulers}
use Rattle.language.proofs.PlaceLaws.{has_scheduler_lem}
use Rattle.text.specs.Frames.{frames_of}
use Rattle.program.specs.Trees.{frame_at}
use Rattle.program.specs.Programs.{Program, program_of, events_of, owner_of_event}
use Rattle.machine.specs.State.{State, scheduler_at, with_present}
use Rattle.machine.specs.Groups.{schedulers_where, members}
use Rattle.machine.specs.Turns.{access_count, is_scheduler_of}
use Rattle.machine.specs.Steps.{without_events_of, end_on_each, has_active, has_ready, end_instant}
use Rattle.machine.specs.Calls.{as_call, call_result}
use Rattle.machine.specs.Shapes.{SchedulerFits}
use Rattle.machine.proofs.WordLaws.{Says, is_pack}
use Rattle.machine.proofs.GroupLaws.{ended_present}
use Rattle.machine.proofs.KeptShape.{scheduler_fits}
use Rattle.lists.specs.Inner.Lists.{ListsFit}
use Rattle.machine.proofs.Lists.{all_imply}
use Rattle.lists.proofs.Instants.{active_read}
use Rattle.states.specs.Inner.Events.{without_events}
use Rattle.states.proofs.EventLaws.{clear_says}
use Rattle.groups.specs.Inner.Members.{members_in, any_active_on, ready_on, ended_on, GroupOf}
use Rattle.groups.specs.Inner.Members.{Each, IdleOn}
use Rattle.groups.proofs.MembersSay.{ListsShaped, Idle, active_says, ended_says, ready_says}
use Rattle.groups.proofs.MembersSay.{none_ended}
use Rattle.stepper.specs.Inner.Files.{StepWords, InstantWords, state_in}
use Rattle.stepper.proofs.Transitions.{scheduler_there}
use Rattle.stepper.proofs.GoodWords.{fits_in, shaped, says, threads_few, few_events}
use Rattle.stepper.proofs.GoodWords.{owners_in, active_short, next_short}
use Rattle.stepper.proofs.Groups.{scheduler_in, members_same, members_there, in_group_lem}
use Rattle.stepper.proofs.Groups.{cleared_same}

-- where none of those chosen passes, each that is chosen fails
none_each : (f test : ℕ → Bool) (k n : ℕ) → any f (schedulers_where test k n) ≡ false
    → (j : ℕ) → k ≤ j → j < k + n → test j ≡ true → f j ≡ false
unfolding any schedulers_where
none_each f test k zero h j a b t = absurd (omega arith)
none_each f test k (suc n) h j a b t =
    go (test k) refl h (λ g c. none_each f test (suc k) n g j c (omega arith) t)
  where
    tail : List ℕ
    tail = schedulers_where test (suc k) n

    here : (d : Bool) → f k ≡ d → elim d [ true ↦ true | false ↦ any f tail ] ≡ false
        → (f k ≡ false) × (any f tail ≡ false)
    here true e g = absurd (true≢false g)
    here false e g = (e, g)

    go : (d : Bool) → test k ≡ d → any f (keep_if d k tail) ≡ false
        → (any f tail ≡ false → suc k ≤ j → f j ≡ false) → f j ≡ false
    go false q g rec =
        rec g (let x : k ≡ j → ⊥ = λ z. true≢false (sym t ∙ ap test (sym z) ∙ q) in omega (arith, x))
    go true q g rec = pick (ℕ_discrete k j) (here (f k) refl g)
      where
        pick : Dec (k ≡ j) → (f k ≡ false) × (any f tail ≡ false) → f j ≡ false
        pick (yes z) r = subst (λ (i : ℕ). f i ≡ false) z r.0
        pick (no z) r = rec r.1 (omega (arith, z))

-- a list without a first member is empty
no_first : (ts : List ℕ) → elim ts [ [] ↦ false | t ∷ us ↦ true ] ≡ false → ts ≡ []
no_first [] h = refl
no_first (t ∷ ts) h = absurd (true≢false h)

module _ (frames : List ℕ) (G : Schedulers) (w : List ℕ) (c : ℕ)
    (I : InstantWords frames G w c) where
  abbrev P : Program
  P = program_of (frames_of frames)

  abbrev s : State
  s = state_in frames w

  abbrev m : ℕ
  m = (frame_at (frames_of frames) 0).c

  h : StepWords frames I.shared w
  h = I.step

  labels_are : G.labels ≡ labels_of P.links
  labels_are = ap (λ (g : Schedulers). g.labels) I.groups

  count_is : G.count ≡ P.schedulers
  count_is = ap (λ (g : Schedulers). g.count) I.groups

  most : P.schedulers ≤ 8
  most = (fits_in frames I.shared w h).most_schedulers

  there : (c - 2 < length s.schedulers) × (is_scheduler c ≡ true)
  unfolding is_scheduler_of
  there = scheduler_there (fits_in frames I.shared w h) (shaped frames I.shared w h) c I.party

  -- ---- what the calls ask
  pub instant_group : GroupOf G.count c
  instant_group =
      record {
        scheduler = there.1;
        few = let l = most in let e = count_is in omega arith;
      }

  pub instant_words : ListsFit w
  instant_words =
      record {
        threads = threads_few frames I.shared w h;
        active = active_short frames I.shared w h;
        next = next_short frames I.shared w h;
      }

  pub instant_scheduler : is_scheduler c ≡ true
  instant_scheduler = there.1

  pub instant_events : m ≤ 16
  instant_events = few_events frames I.shared w h

  -- ---- the members
  abbrev qs : List ℕ
  qs = members P c

  members_are : members_in G.labels G.count c ≡ qs
  members_are =
      ap₂ (λ (ls : List ℕ) (k : ℕ). members_in ls k c) labels_are count_is
      ∙ members_same P.links P.schedulers c most there.1

  fit : (q : ℕ) → SchedulerFits m (scheduler_at s q)
  fit q = scheduler_fits (frames_of frames) P _ (fits_in frames I.shared w h) s (shaped frames I.shared w h) q

  lists_shaped : ListsShaped m s
  lists_shaped q = record { room = (fit q).next_room; entries = (fit q).entries }

  few : length s.threads ≤ 64
  few = (shaped frames I.shared w h).threads_room

  words_say : Says w s
  words_say = says frames I.shared w h

  -- a member is active in the words where it is in the state
  module _ (b : Bool) (eb : b ≡ any_active_on (members_in G.labels G.count c) w) where
    active_is : b ≡ any (has_active s) qs
    active_is =
        eb ∙ ap (λ (l : List ℕ). any_active_on l w) members_are
        ∙ active_says qs w s words_say (λ q. all_imply (λ t f. f.0) (fit q).threads)
        (members_there s (in_step P.links c) P.schedulers (shaped frames I.shared w h).count most)

    pub instant_busy : b ≡ true → call_result 16 0 0 w ≡ as_call w (end_instant P s c)
    unfolding end_instant access_count when◌then◌else◌
    instant_busy e = ap (as_call w) (sym (if_yes _ _ (sym active_is ∙ e)))

    module _ (none : b ≡ false) where
      idle_each : (j : ℕ) → 2 ≤ j → j < 2 + P.schedulers → in_step P.links c j ≡ true
          → (scheduler_at s j).active ≡ []
      idle_each j a d t =
          no_first (scheduler_at s j).active
          (none_each (has_active s) (in_step P.links c) 2 P.schedulers (sym active_is ∙ none) j a d t)

      idle : Idle (in_step P.links c) 2 P.schedulers s
      idle =
          let e = (shaped frames I.shared w h).count in
          let l = most in
          record { low = omega arith; there = omega arith; most = omega arith; idle = idle_each }

      pub instant_idle : Each (same_label G.labels c) (IdleOn w) 2 (2 + G.count)
      instant_idle j a d t =
          let e = count_is in
          let l = most in
          let k = (shaped frames I.shared w h).count in
          let x = idle_each j a (omega arith)
          (sym (same_in_step P.links c j there.1 (scheduler_at_lem j a (omega arith)))
          ∙ ap (λ (ls : List ℕ). same_label ls c j) (sym labels_are) ∙ t) in
          active_read m 0 w s words_say j (omega arith) (omega arith) (fit j).next_room (fit j).entries
          ∙ ap length x
        where
          scheduler_at_lem : (j : ℕ) → 2 ≤ j → j < 2 + P.schedulers → is_scheduler j ≡ true
          scheduler_at_lem j a d =
              let l = most in
              scheduler_in j P.schedulers l a d

      -- the words after the end, and how many were ready
      module _ (v : List ℕ) (k : ℕ) (count : k ≡ ready_on (members_in G.labels G.count c) w)
          (out : v ≡ ended_on (members_in G.labels G.count c) w) where
        ready_is : any (has_ready s) qs ≡ not (eqb k 0)
        ready_is =
            ready_says m (in_step P.links c) 2 P.schedulers w s words_say few lists_shaped idle
            ∙ ap (λ (i : ℕ). not (eqb i 0)) (sym (count ∙ ap (λ (l : List ℕ). ready_on l w) members_are))

        out_is : v ≡ ended_on qs w
        out_is = out ∙ ap (λ (l : List ℕ). ended_on l w) members_are

        pub instant_nothing : k ≡ 0 → call_result 16 0 0 v ≡ as_call w (end_instant P s c)
        unfolding end_instant access_count when◌then◌else◌
        instant_nothing z =
            ap (call_result 16 0 0)
            (out_is
            ∙ none_ended m (in_step P.links c) 2 P.schedulers w s words_say few lists_shaped idle
            (sym (ap (λ (l : List ℕ). ready_on l w) members_are) ∙ sym count ∙ z))
            ∙ ap (as_call w)
            (sym (if_no _ _ (sym active_is ∙ none)
            ∙ if_yes _ _ (ap not (ready_is ∙ ap not (eq-eqb k 0 z)))))

        ended : Says v (end_on_each qs s)
        ended =
            subst (λ (l : List ℕ). Says l (end_on_each qs s)) (sym out_is)
            (ended_says m (in_step P.links c) 2 P.schedulers w s words_say few lists_shaped idle)

        -- the owners are schedulers, so the labels say which of them are in step
        owner_tests : All (λ (o : ℕ). in_group G.labels c o ≡ in_step P.links c o) P.events
        owner_tests =
            each_member P.events (λ e l.
            ap (λ (ls : List ℕ). in_group ls c (owner_of_event P e)) labels_are
            ∙ in_group_lem P.links c (owner_of_event P e) there.1
            (has_scheduler_lem P.schedulers (owner_of_event P e) (owners_in frames I.shared w h e l)).0)
          where
            each_member : {Q : ℕ → Type 0} (os : List ℕ) → ((e : ℕ) → e < length os → Q (get_or os e 0))
                → All Q os
            each_member [] f = All.none
            each_member (o ∷ os) f = All.more (f 0 (omega arith)) (each_member os (λ e l. f (suc e) (omega arith)))

        cleared : (y : List ℕ) → y ≡ without_events (in_group G.labels c) P.events v m
            → Says y (with_present (without_events_of (in_step P.links c) P.events s.present) (end_on_each qs s))
        cleared y e =
            subst (λ (l : List Bool). Says y (with_present l (end_on_each qs s)))
            (cleared_same (in_group G.labels c) (in_step P.links c) P.events (end_on_each qs s).present owner_tests
            ∙ ap (without_events_of (in_step P.links c) P.events) (ended_present qs s))
            (subst (λ (l : List ℕ). Says l (with_present (without_events_of (in_group G.labels c) P.events (end_on_each qs s).present) (end_on_each qs s))) (sym e)
            (clear_says (in_group G.labels c) m P.events v (end_on_each qs s) ended
            (fits_in frames I.shared w h).events
            (ap length (ended_present qs s) ∙ (shaped frames I.shared w h).events) instant_events))

        pub instant_done : (k ≡ 0 → ⊥) → (y : List ℕ)
            → y ≡ without_events (in_group G.labels c) (events_of (frames_of frames)) v m
            → call_result 0 0 0 y ≡ as_call w (end_instant P s c)
        unfolding end_instant access_count when◌then◌else◌ program_of
        instant_done z y e =
            ap (call_result 0 0 0) (is_pack _ _ (cleared y e))
            ∙ ap (as_call w)
            (sym (if_no _ _ (sym active_is ∙ none)
            ∙ if_no _ _ (ap not (ready_is ∙ ap not (ne_eqb k 0 z)))))
