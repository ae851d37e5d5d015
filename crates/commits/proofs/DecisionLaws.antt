-- What a turn's transition comes to, decided on the words before it: what stands in the way of a
-- start, and the row of each transition. Assumes nothing.
use Rattle.std.specs.Prelude.{Result, Ok, Err, ok_or}
use Prim.Native.Nat.{ℕ, ◌+◌, ◌*◌, ◌-◌, ◌<◌, ◌≤◌}
use mathlib.Core.Path.{◌≡◌, refl, sym, ap, ap₂, ◌∙◌, subst}
use mathlib.Core.List.{List}
use mathlib.Core.Bool.{Bool, true, false, ◌&&◌, not}
use lib.ListN.{get_or}
use lib.Dec.{leb, eqb}
use borrow.Author.Tests.{le-leb, lt-leb, leb-false, eq-eqb, ne_eqb, not-true, not-false}
use Rattle.basics.specs.If.{when◌then◌else◌}
use Rattle.basics.proofs.Ifs.{yes, no, if_all}
use Rattle.language.specs.Places.{private, is_scheduler}
use Rattle.language.specs.declared.Place.{Place}
use Rattle.language.specs.declared.group.Schedulers.{Schedulers}
use Rattle.language.specs.declared.refusal.Rule.{Rule}
use Rattle.program.specs.Programs.{Program}
use Rattle.program.specs.Inner.Modules.{found_in}
use Rattle.program.specs.declared.module.Module.{Module}
use Rattle.acts.specs.declared.act.Arguments.{Arguments}
use Rattle.acts.specs.declared.act.Action.{Action}
use Rattle.acts.specs.Inner.Transitions.{TurnAnswer, turn_and_then}
use Rattle.acts.proofs.Raised.{goes_on, stops}
use Rattle.acts.specs.declared.act.Transition.{Transition}
use Rattle.acts.specs.declared.act.Transition.TheVariants.{Stays, Leaves, Joins, Starts}
use Rattle.acts.specs.declared.act.Transition.TheVariants.{Generates, Awaits}
use Rattle.commits.specs.declared.decision.Passed.TheVariants.{Keep, Leave, Join, Start}
use Rattle.commits.specs.Inner.Commits.{Obstacle, Decided, settles, place_after, room_in}
use Rattle.commits.specs.Inner.Commits.{obstacle_in, start_decided, action_decided, decided_in}
use Rattle.commits.specs.Inner.Commits.{place_in, start_tested, generate_tested, await_tested}
use Rattle.commits.proofs.WritingLaws.{room_scheduler}
use Rattle.program.specs.Inner.Events.{event_in}

-- ---- what stands in the way: why a start does not fit, 20, then a 65th thread, 18
module _ (w : List ℕ) (x : Module) (p g : ℕ) (y : Bool) (z : y ≡ eqb p private) where
  pub obstacle_unlinked : y ≡ true → Err Rule.Stuck ≡ obstacle_in w x p g
  unfolding obstacle_in
  obstacle_unlinked a = yes _ (sym z ∙ a) refl

  pub obstacle_arguments : y ≡ false → (x.parameters ≡ g → ⊥)
      → Err Rule.Stuck ≡ obstacle_in w x p g
  unfolding obstacle_in
  obstacle_arguments a c = no _ (sym z ∙ a) (yes _ (ap not (ne_eqb x.parameters g c)) refl)

  module _ (r : Bool) (e : r ≡ room_in w p 1) (a : y ≡ false) (c : x.parameters ≡ g) where
    pub obstacle_list : not r ≡ true → Err Rule.Stuck ≡ obstacle_in w x p g
    unfolding obstacle_in
    obstacle_list d =
        no _ (sym z ∙ a) (no _ (ap not (eq-eqb x.parameters g c))
        (yes _ (ap not (sym e) ∙ d) refl))

    pub obstacle_threads : (n : ℕ) → n ≡ get_or w 0 0 → not r ≡ false → 64 ≤ n
        → Err Rule.ThreadsSpent ≡ obstacle_in w x p g
    unfolding obstacle_in
    obstacle_threads n f d h =
        no _ (sym z ∙ a) (no _ (ap not (eq-eqb x.parameters g c))
        (no _ (ap not (sym e) ∙ d) (yes _ (ap (leb 64) (sym f) ∙ le-leb 64 n h) refl)))

    pub obstacle_none : (n : ℕ) → n ≡ get_or w 0 0 → not r ≡ false → n < 64
        → Ok tt ≡ obstacle_in w x p g
    unfolding obstacle_in
    obstacle_none n f d h =
        no _ (sym z ∙ a) (no _ (ap not (eq-eqb x.parameters g c))
        (no _ (ap not (sym e) ∙ d) (no _ (ap (leb 64) (sym f) ∙ lt-leb 64 n h) refl)))

pub ruleset obstacle_laws = (
  obstacle_unlinked,
  obstacle_arguments,
  obstacle_list,
  obstacle_threads,
  obstacle_none,
)

-- where nothing stands in the way: a scheduler with room, and fewer than 64 threads
module _ (w : List ℕ) (x : Module) (p g : ℕ) where
  abbrev Free : Obstacle → Type 0
  Free (Ok _) = (not (room_in w p 1) ≡ false) × (get_or w 0 0 < 64)
  Free (Err r) = Unit {0}

  free : Free (obstacle_in w x p g)
  unfolding obstacle_in
  free =
      if_all Free (eqb p private) (Err Rule.Stuck) _ (λ _. tt)
      (λ _. if_all Free (not (eqb x.parameters g)) (Err Rule.Stuck) _ (λ _. tt)
      (λ _. if_all Free (not (room_in w p 1)) (Err Rule.Stuck) _ (λ _. tt)
      (λ r. if_all Free (leb 64 (get_or w 0 0)) (Err Rule.ThreadsSpent) (Ok tt) (λ _. tt)
      (λ q. (r, leb-false 64 (get_or w 0 0) q)))))

  module _ (h : obstacle_in w x p g ≡ Ok tt) where
    pub free_count : get_or w 0 0 < 64
    free_count = (subst Free h free).1

    pub free_scheduler : is_scheduler p ≡ true
    free_scheduler = room_scheduler w p 1 (room_in w p 1) refl (subst Free h free).0

-- ---- a start: f is the module that was found, and the starter stands at q
module _ (p : Program) (w : List ℕ) (t : ℕ) (a : Action) (waits : Bool) (m : ℕ) (args : Arguments)
    (f : Result Module Rule) (e : f ≡ ok_or (found_in p m) Rule.Stuck) where
  abbrev StartIs : Decided → Type 0
  StartIs d = d ≡ start_decided p w t a waits m args

  abbrev rest : Place → Module → Decided
  rest q x =
      when waits && not (room_in w q.number 2) then Err Rule.Stuck else
      settles a (Start waits q x.body args)

  abbrev tested : Place → Module → Decided
  tested q x = turn_and_then (obstacle_in w x q.number args.count) (λ _. rest q x)

  pub start_missing : (r : Rule) → f ≡ Err r → StartIs (Err r)
  unfolding start_tested
  start_missing r h = stops _ (tested (place_in w t a)) r (sym e ∙ h)

  module _ (x : Module) (h : f ≡ Ok x) (q : Place) (z : q ≡ place_in w t a)
      (o : Obstacle) (g : o ≡ obstacle_in w x q.number args.count) where
    at_place : (d : Decided) → d ≡ tested q x → StartIs d
    unfolding start_tested
    at_place d k =
        goes_on _ (tested (place_in w t a)) x (sym e ∙ h) d
        (k ∙ ap (λ (i : Place). tested i x) z)

    pub start_refused : (r : Rule) → o ≡ Err r → StartIs (Err r)
    start_refused r k = at_place (Err r) (stops _ (λ _. rest q x) r (sym g ∙ k))

    module _ (k : o ≡ Ok tt) where
      free_way : (d : Decided) → d ≡ rest q x → StartIs d
      free_way d i = at_place d (goes_on _ (λ _. rest q x) tt (sym g ∙ k) d i)

      -- whether there is room for a starter that waits
      more : (b r : Bool) → waits ≡ b → room_in w q.number 2 ≡ r
          → (waits && not (room_in w q.number 2)) ≡ (b && not r)
      more b r i j = ap₂ (λ (i j : Bool). i && not j) i j

      pub start_only : waits ≡ false → StartIs (settles a (Start waits q x.body args))
      start_only b = free_way _ (no _ (more false _ b refl) refl)

      module _ (b : waits ≡ true) (r : Bool) (i : r ≡ room_in w q.number 2) where
        pub start_full : not r ≡ true → StartIs (Err Rule.Stuck)
        start_full d = free_way _ (yes _ (more true false b (sym i ∙ not-true r d)) refl)

        pub start_waits : not r ≡ false → StartIs (settles a (Start waits q x.body args))
        start_waits d = free_way _ (no _ (more true true b (sym i ∙ not-false r d)) refl)

-- where a thread that stood at o stands
pub place_in_lem : (w : List ℕ) (t : ℕ) (a : Action) (o q : Place) → q ≡ place_after a.change o
    → o ≡ record { number = get_or w (1042 + 55 * (t - 1)) 0 } → q ≡ place_in w t a
place_in_lem w t a o q z y = z ∙ ap (place_after a.change) y

-- ---- the row of each transition
module _ (p : Program) (G : Schedulers) (w : List ℕ) (t : ℕ) (turn : TurnAnswer) where
  abbrev DecidedIs : Decided → Type 0
  DecidedIs d = d ≡ decided_in p G w t turn

  pub decide_refused : (r : Rule) → turn ≡ Err r → DecidedIs (Err r)
  decide_refused r e = ap (decided_in p G w t) (sym e)

  module _ (a : Action) (h : turn ≡ Ok a) where
    row : (f : Transition) (d : Decided) → a.transition ≡ f → d ≡ action_decided p G w t a f
        → DecidedIs d
    row f d e k =
        k ∙ ap (action_decided p G w t a) (sym e) ∙ ap (decided_in p G w t) (sym h)

    pub decide_stays : a.transition ≡ Stays → DecidedIs (settles a Keep)
    decide_stays e = row Stays _ e refl

    pub decide_leaves : a.transition ≡ Leaves → DecidedIs (settles a Leave)
    decide_leaves e = row Leaves _ e refl

    module _ (q : Place) (e : a.transition ≡ Joins q) (r : Bool)
        (f : r ≡ room_in w q.number 1) where
      pub decide_joins : r ≡ true → DecidedIs (settles a (Join q))
      decide_joins k = row (Joins q) _ e (yes _ (sym f ∙ k) refl)

      pub decide_full : r ≡ false → DecidedIs (Err Rule.Stuck)
      decide_full k = row (Joins q) _ e (no _ (sym f ∙ k) refl)

    pub decide_starts : (b : Bool) (m : ℕ) (args : Arguments) (d : Decided)
        → a.transition ≡ Starts b m args → d ≡ start_decided p w t a b m args → DecidedIs d
    decide_starts b m args d e k = row (Starts b m args) d e k

    pub decide_generates : (s : ℕ) (q : Place) (d : Decided) → a.transition ≡ Generates s
        → q ≡ place_in w t a → d ≡ generate_tested G w a (event_in p s) q s → DecidedIs d
    decide_generates s q d e z k =
        row (Generates s) d e (k ∙ ap (λ (y : Place). generate_tested G w a (event_in p s) y s) z)

    pub decide_awaits : (s : ℕ) (q : Place) (d : Decided) → a.transition ≡ Awaits s
        → q ≡ place_in w t a → d ≡ await_tested G w a (event_in p s) q s → DecidedIs d
    decide_awaits s q d e z k =
        row (Awaits s) d e (k ∙ ap (λ (y : Place). await_tested G w a (event_in p s) y s) z)

pub ruleset decide_laws = (
  decide_stays,
  decide_leaves,
  decide_joins,
  decide_full,
  decide_starts,
  decide_generates,
  decide_awaits,
)
