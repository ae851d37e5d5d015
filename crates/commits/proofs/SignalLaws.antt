-- Events: what stands in the way of a generation and of an await, test by test, and what follows
-- where nothing does. Assumes nothing.
use Rattle.std.specs.Prelude.{Option, Some, None, Result, Ok, Err, ok_or}
use Prim.Native.Nat.{ℕ, ◌+◌, ◌*◌, ◌<◌, ◌≤◌}
use mathlib.Core.Path.{◌≡◌, refl, sym, ap, ◌∙◌, subst}
use mathlib.Core.List.{List}
use mathlib.Core.Bool.{Bool, true, false, not}
use native.Mathlib.Omega.{arith}
use lib.ListN.{length}
use lib.ListN.{set}
use borrow.Author.Tests.{eqb-true, eq-eqb, not-false}
use Rattle.basics.specs.If.{when◌then◌else◌}
use Rattle.basics.proofs.Ifs.{yes, no, if_all, and_true}
use Rattle.language.specs.Places.{is_scheduler}
use Rattle.language.specs.declared.Place.{Place}
use Rattle.language.specs.declared.group.Schedulers.{Schedulers}
use Rattle.language.specs.declared.frame.Frame.{Frame}
use Rattle.program.specs.Programs.{program_of, events_of}
use Rattle.program.specs.Inner.Events.{event_in}
use Rattle.program.proofs.EventLaws.{event_within}
use Rattle.language.specs.declared.refusal.Rule.{Rule}
use Rattle.language.specs.Inner.Labels.{label_at, same_label, in_group}
use Rattle.groups.specs.Inner.Members.{room_on_each, woken_on, GroupOf, Each, HasRoomOn}
use Rattle.groups.proofs.MemberLaws.{room_each}
use Rattle.commits.specs.declared.decision.Passed.TheVariants.{Keep, Wake}
use Rattle.commits.specs.declared.decision.Decision.TheVariants.{Suspend}
use Rattle.commits.specs.Inner.Commits.{owns_event, wake_room_in, present_in}
use Rattle.commits.specs.Inner.Commits.{Obstacle, Decided, settles, await_room_in}
use Rattle.commits.specs.Inner.Commits.{signal_obstacle, generate_tested}
use Rattle.commits.specs.Inner.Commits.{await_tested, members_by}
use Rattle.commits.specs.Inner.Commits.{left_in, joined_in, generated_in, awaiting_in}
use Rattle.commits.specs.Inner.Commits.{ChangeWords}
use Rattle.language.specs.Inner.Reads.{place_read}
use Rattle.language.proofs.PlaceLaws.{read_none, read_at}
use Rattle.acts.specs.declared.act.Action.{Action}
use Rattle.acts.specs.Inner.Transitions.{turn_and_then}
use Rattle.acts.specs.declared.act.Change.{Change}
use Rattle.acts.proofs.Raised.{goes_on, stops}

-- ---- `has_wake_room`: x is the place that m, the owner's number, was read as
scheduler_read : (o m : ℕ) (x : Option Place) → x ≡ place_read (is_scheduler m) m → m ≡ o
    → x ≡ place_read (is_scheduler o) o
scheduler_read o m x s v = s ∙ ap (λ (k : ℕ). place_read (is_scheduler k) k) v

module _ (G : Schedulers) (w : List ℕ) (o e : ℕ) (x : Option Place) (r : x ≡ place_read (is_scheduler o) o) where
  pub wake_none : x ≡ None → false ≡ wake_room_in G w o e
  unfolding wake_room_in
  wake_none h = rw (read_none (is_scheduler o) o (sym r ∙ h))

  module _ (q : Place) (h : x ≡ Some q) where
    there : (is_scheduler o ≡ true) × (q.number ≡ o)
    there = read_at (is_scheduler o) o q (sym r ∙ h)

    pub wake_room : (y : Bool) → y ≡ room_on_each (members_by G q.number) e w → y ≡ wake_room_in G w o e
    unfolding wake_room_in
    wake_room y k =
        k ∙ ap (λ (n : ℕ). room_on_each (members_by G n) e w) there.1 ∙ sym (rw there.0)

pub owner_group : (n o m : ℕ) (x : Option Place) (q : Place)
    → x ≡ place_read (is_scheduler m) m → m ≡ o → x ≡ Some q → n ≤ 8 → GroupOf n q.number
owner_group n o m x q s v h f =
    let z = read_at (is_scheduler o) o q (sym (scheduler_read o m x s v) ∙ h) in
    record { scheduler = ap is_scheduler z.1 ∙ z.0; few = f }

-- ---- `signal_obstacle`: r is whether there is room, y whether the event is one's own
module _ (G : Schedulers) (r : Bool) (o p : ℕ) where
  pub signal_full : not r ≡ true → Err Rule.Stuck ≡ signal_obstacle G r o p
  unfolding signal_obstacle
  signal_full a = yes _ a refl

  module _ (y : Bool) (g : y ≡ owns_event G p o) (a : not r ≡ false) where
    pub signal_foreign : not y ≡ true → Err Rule.Foreign ≡ signal_obstacle G r o p
    unfolding signal_obstacle
    signal_foreign b = no _ a (yes _ (ap not (sym g) ∙ b) refl)

    pub signal_free : not y ≡ false → Ok tt ≡ signal_obstacle G r o p
    unfolding signal_obstacle
    signal_free b = no _ a (no _ (ap not (sym g) ∙ b) refl)

pub ruleset signal_laws = (signal_full, signal_foreign, signal_free)

-- ---- what is decided; f is the owner of the event that was found, r is whether there is room
module _ (G : Schedulers) (w : List ℕ) (a : Action) (x : Option ℕ) (q : Place) (e : ℕ)
    (f : Result ℕ Rule) (found : f ≡ ok_or x Rule.Stuck) where
  abbrev GenerateIs : Decided → Type 0
  GenerateIs d = d ≡ generate_tested G w a x q e

  abbrev waken : ℕ → Decided
  waken o =
      turn_and_then (signal_obstacle G (wake_room_in G w o e) o q.number) (λ _. settles a (Wake q e))

  pub generate_missing : (r : Rule) → f ≡ Err r → GenerateIs (Err r)
  unfolding generate_tested
  generate_missing r h = stops _ waken r (sym found ∙ h)

  module _ (o : ℕ) (h : f ≡ Ok o) (r : Bool) (k : r ≡ wake_room_in G w o e) (n : Obstacle)
      (z : n ≡ signal_obstacle G r o q.number) where
    generate_way : n ≡ signal_obstacle G (wake_room_in G w o e) o q.number
    generate_way = z ∙ ap (λ (b : Bool). signal_obstacle G b o q.number) k

    pub generate_refused : (c : Rule) → n ≡ Err c → GenerateIs (Err c)
    unfolding generate_tested
    generate_refused c i =
        goes_on _ waken o (sym found ∙ h) (Err c)
        (stops _ (λ _. settles a (Wake q e)) c (sym generate_way ∙ i))

    pub generate_passes : n ≡ Ok tt → GenerateIs (settles a (Wake q e))
    unfolding generate_tested
    generate_passes i =
        goes_on _ waken o (sym found ∙ h) _
        (goes_on _ (λ _. settles a (Wake q e)) tt (sym generate_way ∙ i) _ refl)

  abbrev AwaitIs : Decided → Type 0
  AwaitIs d = d ≡ await_tested G w a x q e

  abbrev awaiting : Decided
  awaiting = when present_in w e then settles a Keep else Ok (Suspend q e)

  abbrev listed : ℕ → Decided
  listed o =
      turn_and_then (signal_obstacle G (await_room_in w q.number e) o q.number) (λ _. awaiting)

  pub await_missing : (r : Rule) → f ≡ Err r → AwaitIs (Err r)
  unfolding await_tested
  await_missing r h = stops _ listed r (sym found ∙ h)

  module _ (o : ℕ) (h : f ≡ Ok o) (r : Bool) (k : r ≡ await_room_in w q.number e) (n : Obstacle)
      (z : n ≡ signal_obstacle G r o q.number) where
    await_way : n ≡ signal_obstacle G (await_room_in w q.number e) o q.number
    await_way = z ∙ ap (λ (b : Bool). signal_obstacle G b o q.number) k

    pub await_refused : (c : Rule) → n ≡ Err c → AwaitIs (Err c)
    unfolding await_tested
    await_refused c i =
        goes_on _ listed o (sym found ∙ h) (Err c) (stops _ (λ _. awaiting) c (sym await_way ∙ i))

    module _ (i : n ≡ Ok tt) (b : Bool) (j : b ≡ present_in w e) where
      await_free : (d : Decided) → d ≡ awaiting → AwaitIs d
      unfolding await_tested
      await_free d l =
          goes_on _ listed o (sym found ∙ h) d (goes_on _ (λ _. awaiting) tt (sym await_way ∙ i) d l)

      pub await_passes : b ≡ true → AwaitIs (settles a Keep)
      await_passes c = await_free _ (yes _ (sym j ∙ c) refl)

      pub await_suspends : b ≡ false → AwaitIs (Ok (Suspend q e))
      await_suspends c = await_free _ (no _ (sym j ∙ c) refl)

-- an event that is there is one of 16
pub event_small : (fs : List Frame) (e o : ℕ) (f : Result ℕ Rule)
    → f ≡ ok_or (event_in (program_of fs) e) Rule.Stuck → length (events_of fs) ≤ 16 → f ≡ Ok o
    → e < 16
unfolding program_of
event_small fs e o f q l h = let a = within (event_in (program_of fs) e) (sym q ∙ h) in
    let b = event_within (program_of fs) e o a in omega arith
  where
    within : (x : Option ℕ) → ok_or x Rule.Stuck ≡ Ok o → x ≡ Some o
    within (Some y) g = ap (λ (r : Result ℕ Rule). elim r [ Ok z ↦ Some z | Err c ↦ None ]) g
    within None g = ap (λ (r : Result ℕ Rule). elim r [ Ok z ↦ Some z | Err c ↦ None ]) g

-- ---- where nothing stands in the way; r is whether there is room
module _ (G : Schedulers) (r : Bool) (o p : ℕ) where
  pub record Allowed : Type 0 where
    pub room : r ≡ true
    pub scheduler : is_scheduler p ≡ true
    pub owner : same_label G.labels p o ≡ true

  owns_is : r ≡ true → owns_event G p o ≡ true → Allowed
  owns_is t h =
      let a = and_true (is_scheduler p) (in_group G.labels p o) h in
      let b = and_true (is_scheduler o) (same_label G.labels p o) a.1 in
      record { room = t; scheduler = a.0; owner = b.1 }

  abbrev Frees : Obstacle → Type 0
  Frees (Ok _) = Allowed
  Frees (Err c) = Unit {0}

  frees : Frees (signal_obstacle G r o p)
  unfolding signal_obstacle
  frees =
      if_all Frees (not r) (Err Rule.Stuck) _ (λ _. tt)
      (λ b. if_all Frees (not (owns_event G p o)) (Err Rule.Foreign) (Ok tt) (λ _. tt)
      (λ c. owns_is (not-false _ b) (not-false _ c)))

  pub signal_allowed : signal_obstacle G r o p ≡ Ok tt → Allowed
  signal_allowed h = subst Frees h frees

-- the room that was found, on each member of the owner's group
pub wake_room_is : (G : Schedulers) (w : List ℕ) (o e : ℕ) → wake_room_in G w o e ≡ true
    → Each (same_label G.labels o) (HasRoomOn e w) 2 (2 + G.count)
unfolding wake_room_in
wake_room_is G w o e h =
    room_each (same_label G.labels o) e w 2 G.count
    (and_true (is_scheduler o) (room_on_each (members_by G o) e w) h).1

-- who is in step with p is in step with o, where these two are
pub same_group : (labels : List ℕ) (p o j : ℕ) → same_label labels p o ≡ true
    → same_label labels p j ≡ true → same_label labels o j ≡ true
same_group labels p o j h k =
    eq-eqb (label_at labels o) (label_at labels j)
    (sym (eqb-true (label_at labels p) (label_at labels o) h)
    ∙ eqb-true (label_at labels p) (label_at labels j) k)

-- ---- `generate`, `suspend`
pub generated_is : (G : Schedulers) (w u v : List ℕ) (q e : ℕ) → u ≡ woken_on (members_by G q) e w
    → v ≡ set u (4562 + e) 1 → v ≡ generated_in G w q e
unfolding generated_in
generated_is G w u v q e h k = k ∙ ap (λ (l : List ℕ). set l (4562 + e) 1) h

pub suspended_is : (w u v : List ℕ) (c t q e : ℕ) → u ≡ left_in w c
    → v ≡ joined_in u q (16384 + 128 * e + t) → v ≡ awaiting_in w c t q e
unfolding awaiting_in
suspended_is w u v c t q e h k = k ∙ ap (λ (l : List ℕ). joined_in l q (16384 + 128 * e + t)) h

-- a file's events are its program's
pub few_events : (G : Schedulers) (fs : List Frame) (w : List ℕ) (t : ℕ) (x : Change)
    → ChangeWords (program_of fs) G w t x
    → length (events_of fs) ≤ 16
unfolding program_of
few_events G fs w t x h = h.events
