-- 02, change 7: 'Files without K 04 run as they did': without links each scheduler is in step with
-- itself alone, so each choice gives what the rules before that change give. Assumes nothing.
use mathlib.Core.Path.{◌≡◌, refl, sym, ap, ap₂, ◌∙◌}
use mathlib.Core.List.{List, [], ◌∷◌}
use mathlib.Core.Bool.{Bool, true, false, not, ◌&&◌}
use Prim.Native.Nat.{ℕ, zero, suc, ◌+◌, ◌≤◌, ◌<◌}
use native.Mathlib.Omega.{arith}
use lib.Dec.{leb, eqb}
use lib.ListN.{length, set}
use borrow.Author.Tests.{leb-true, leb-false, eq-eqb, ne_eqb, eqb-true, eqb-false}
use Rattle.basics.specs.If.{when◌then◌else◌, keep_if}
use Rattle.basics.specs.Members.{All, every, any}
use Rattle.basics.proofs.Ifs.{if_no, and_true}
use Rattle.language.specs.Groups.{Link, label, in_step}
use Rattle.language.specs.Places.{home, is_scheduler}
use Rattle.program.specs.Trees.{Stmt, nothing, seq, do_at, start, start_wait, cooperate, let_in, store}
use Rattle.program.specs.Trees.{if_else, while, generate, await}
use Rattle.program.specs.Programs.{Program, owner_of_event}
use Rattle.machine.specs.Groups.{schedulers_where, members}
use Rattle.machine.specs.State.{State, Item, run, back, drop, Entry, scheduler_at, thread_at}
use Rattle.machine.specs.State.{with_present, with_scheduler}
use Rattle.machine.specs.Waits.{entry_thread, threads_where, ready_threads, still_waiting}
use Rattle.machine.specs.Inner.Families.{is_ready}
use Rattle.machine.specs.Turns.{StepResult, Turn, state_spaces, is_scheduler_of, accept, settled}
use Rattle.machine.specs.Turns.{here, refuse}
use Rattle.machine.specs.Statements.{is_own_event, signalling, with_signal, wake, wake_on_each}
use Rattle.machine.specs.Statements.{event_group, room_to_wake_on, room_to_wake, step_generate}
use Rattle.machine.specs.Statements.{step_await, step_statement}
use Rattle.machine.specs.Steps.{step_items_within, step_thread_within, step_scheduler_within}
use Rattle.machine.specs.Steps.{nobody, without_events_of, end_on, end_on_each, has_active}
use Rattle.machine.specs.Steps.{has_ready, end_instant, thread_chosen, is_unlinked, step_within, turn_within}
use Rattle.machine.specs.Alone.{own_event_alone, signalling_alone, room_to_wake_alone}
use Rattle.machine.specs.Alone.{generate_alone, await_alone, statement_alone, items_alone, thread_alone}
use Rattle.machine.specs.Alone.{turn_instant_alone, end_instant_alone, scheduler_alone, step_alone}
use Rattle.machine.specs.Alone.{RunsAsBefore}
use Rattle.machine.proofs.Lists.{all_get_d}

-- ---- a scheduler of the file is its own group

none_from : (c q n : ℕ) → c < q → schedulers_where (eqb c) q n ≡ []
unfolding schedulers_where
none_from c q zero l = refl
none_from c q (suc n) l =
    ap₂ (λ (b : Bool) (xs : List ℕ). keep_if b q xs) (ne_eqb c q (λ h. omega arith))
    (none_from c (suc q) n (omega arith))

one_from : (c q n : ℕ) → q ≤ c → c < q + n → schedulers_where (eqb c) q n ≡ c ∷ []
unfolding schedulers_where
one_from c q zero l k = absurd (omega arith)
one_from c q (suc n) l k = go (eqb c q) refl (λ d. one_from c (suc q) n d (omega arith))
  where
    go : (b : Bool) → eqb c q ≡ b → (suc q ≤ c → schedulers_where (eqb c) (suc q) n ≡ c ∷ [])
        → keep_if b q (schedulers_where (eqb c) (suc q) n) ≡ c ∷ []
    go true e f =
        let d = eqb-true c q e in
        ap₂ (λ (x : ℕ) (xs : List ℕ). x ∷ xs) (sym d) (none_from c (suc q) n (omega arith))
    go false e f = let d = eqb-false c q e in f (omega arith)

members_alone : (p : Program) (c : ℕ) → p.links ≡ [] → is_scheduler_of p c ≡ true
    → members p c ≡ c ∷ []
unfolding label is_scheduler_of
members_alone p c e h =
    let a = and_true (is_scheduler c) (leb c (1 + p.schedulers)) h in
    let b = and_true (leb 2 c) (leb c 9) a.0 in
    let l = leb-true 2 c b.0 in
    let m = leb-true c (1 + p.schedulers) a.1 in
    ap (λ (ls : List Link). schedulers_where (in_step ls c) home p.schedulers) e
    ∙ one_from c 2 p.schedulers l (omega arith)

-- ---- tests and conditionals

if_same : (b : Bool) {x y v w : StepResult} → (b ≡ true → x ≡ v) → (b ≡ false → y ≡ w)
    → (when b then x else y) ≡ (when b then v else w)
unfolding when◌then◌else◌
if_same true f g = f refl
if_same false f g = g refl

every_one : (test : ℕ → Bool) (q : ℕ) → every test (q ∷ []) ≡ test q
unfolding every
every_one test q = go (test q)
  where
    go : (b : Bool) → elim b [ true ↦ true | false ↦ false ] ≡ b
    go true = refl
    go false = refl

any_one : (test : ℕ → Bool) (q : ℕ) → any test (q ∷ []) ≡ test q
unfolding any
any_one test q = go (test q)
  where
    go : (b : Bool) → elim b [ true ↦ true | false ↦ false ] ≡ b
    go true = refl
    go false = refl

-- ---- 1A, 1B

-- each event's owner is a scheduler of the file
abbrev Owned : Program → Type 0
Owned p = All (λ (o : ℕ). is_scheduler_of p o ≡ true) p.events

module _ (u : Turn) (alone : u.program.links ≡ []) (owners : Owned u.program) where
  own_same : (e : ℕ) → is_own_event u e ≡ own_event_alone u e
  unfolding is_own_event own_event_alone label
  own_same e =
      let o = owner_of_event u.program e in
      ap (λ (ls : List Link). leb home (here u) && in_step ls o (here u)) alone

  -- of an event that is there
  signalling_same : (e : ℕ) (a b : Bool) (r w : Turn → StepResult)
      → (e < length u.program.events → a ≡ b)
      → (e < length u.program.events → r (with_signal u e) ≡ w (with_signal u e))
      → signalling u e a r ≡ signalling_alone u e b w
  unfolding signalling signalling_alone
  signalling_same e a b r w f g =
      if_same (leb (length u.program.events) e) (λ _. refl)
      (λ h. there (leb-false (length u.program.events) e h))
    where
      tested : Bool → Bool → StepResult → StepResult
      tested x own y =
          when not x then refuse u 20 else when own then y else refuse (with_signal u e) 19

      there : e < length u.program.events
          → tested a (is_own_event u e) (r (with_signal u e))
          ≡ tested b (own_event_alone u e) (w (with_signal u e))
      there l =
          ap₂ (λ (x own : Bool). tested x own (r (with_signal u e))) (f l) (own_same e)
          ∙ ap (tested b (own_event_alone u e)) (g l)

  -- its owner's group is the owner
  group_alone : (e : ℕ) → e < length u.program.events
      → event_group u.program e ≡ owner_of_event u.program e ∷ []
  group_alone e l =
      let p = u.program in
      members_alone p (owner_of_event p e) alone
      (all_get_d (λ (o : ℕ). is_scheduler_of p o ≡ true) p.events 0 e owners l)

  room_same : (e : ℕ) → e < length u.program.events → room_to_wake u e ≡ room_to_wake_alone u e
  unfolding room_to_wake room_to_wake_alone room_to_wake_on
  room_same e l =
      ap (every (room_to_wake_on u e)) (group_alone e l)
      ∙ every_one (room_to_wake_on u e) (owner_of_event u.program e)

  woken_same : (e : ℕ) → e < length u.program.events → (s : State)
      → wake_on_each (event_group u.program e) e s ≡ wake (owner_of_event u.program e) e s
  unfolding wake_on_each
  woken_same e l s = ap (λ (qs : List ℕ). wake_on_each qs e s) (group_alone e l)

  generate_same : (e : ℕ) → step_generate u e ≡ generate_alone u e
  unfolding step_generate generate_alone
  generate_same e =
      signalling_same e _ _ _ _ (room_same e)
      (λ l.
      let v = with_signal u e in
      ap (λ (s : State). accept v (with_present (set v.state.present e true) s))
      (woken_same e l (settled v v.self)))

  await_same : (e : ℕ) → step_await u e ≡ await_alone u e
  unfolding step_await await_alone
  await_same e = signalling_same e _ _ _ _ (λ _. refl) (λ _. refl)

  statement_same : (x : Stmt) → step_statement u x ≡ statement_alone u x
  statement_same (nothing i) = refl
  statement_same (seq i a b) = refl
  statement_same (do_at i q a) = refl
  statement_same (start i m xs) = refl
  statement_same (start_wait i m xs) = refl
  statement_same (cooperate i) = refl
  statement_same (let_in i x a) = refl
  statement_same (store i x y) = refl
  statement_same (if_else i x a b) = refl
  statement_same (while i x a) = refl
  statement_same (generate i e) = generate_same e
  statement_same (await i e) = await_same e

-- ---- the end of an instant

abbrev is_some : List ℕ → Bool
is_some xs = elim xs [ [] ↦ false | t ∷ ts ↦ true ]

any_some : (test : Entry → Bool) (es : List Entry) → any test es ≡ is_some (threads_where test es)
unfolding any threads_where
any_some test [] = refl
any_some test (e ∷ es) = go (test e) (any_some test es)
  where
    go : (b : Bool) → any test es ≡ is_some (threads_where test es)
        → elim b [ true ↦ true | false ↦ any test es ]
        ≡ is_some (keep_if b (entry_thread e) (threads_where test es))
    go true h = refl
    go false h = h

without_same : (f g : ℕ → Bool) → ((o : ℕ) → f o ≡ g o) → (os : List ℕ) (bs : List Bool)
    → without_events_of f os bs ≡ without_events_of g os bs
unfolding without_events_of
without_same f g h [] bs = refl
without_same f g h (o ∷ os) [] = refl
without_same f g h (o ∷ os) (b ∷ bs) =
    ap₂ (λ (x : Bool) (xs : List Bool). (b && not x) ∷ xs) (h o) (without_same f g h os bs)

eqb_sym : (a b : ℕ) → eqb a b ≡ eqb b a
eqb_sym a b = go (eqb a b) refl
  where
    go : (t : Bool) → eqb a b ≡ t → eqb a b ≡ eqb b a
    go true e = e ∙ sym (eq-eqb b a (sym (eqb-true a b e)))
    go false e = e ∙ sym (ne_eqb b a (λ h. eqb-false a b e (sym h)))

module _ (p : Program) (s : State) (c : ℕ) (alone : p.links ≡ []) where
  abbrev still_present : List Bool
  still_present = without_events_of (λ (o : ℕ). eqb o c) p.events s.present

  present_same : without_events_of (in_step p.links c) p.events s.present ≡ still_present
  unfolding label
  present_same =
      ap (λ (ls : List Link). without_events_of (in_step ls c) p.events s.present) alone
      ∙ without_same (eqb c) (λ (o : ℕ). eqb o c) (λ o. eqb_sym c o) p.events s.present

  turned : (xs : List ℕ) (es : List Entry)
      → let x = with_scheduler c (record { active = xs; next = es }) s in
      (when not (is_some xs) then nobody 16 s else nobody 0 (with_present still_present x))
      ≡ turn_instant_alone p s c xs es
  unfolding when◌then◌else◌
  turned [] es = refl
  turned (t ∷ ts) es = refl

  abbrev ended : List ℕ → List Bool → StepResult
  ended qs present =
      when any (has_active s) qs then nobody 16 s else
      when not (any (has_ready s) qs) then nobody 16 s else
      nobody 0 (with_present present (end_on_each qs s))

  instant_same : is_scheduler_of p c ≡ true → (scheduler_at s c).active ≡ []
      → end_instant p s c ≡ end_instant_alone p s c
  unfolding end_instant end_instant_alone end_on_each end_on
  instant_same h a =
      let es = (scheduler_at s c).next in
      ap₂ ended (members_alone p c alone h) present_same
      ∙ if_no _ _ (any_one (has_active s) c ∙ ap is_some a)
      ∙ ap (λ (b : Bool). when not b then nobody 16 s else nobody 0 (with_present still_present (end_on c s)))
      (any_one (has_ready s) c ∙ any_some (is_ready s.threads) es)
      ∙ turned (ready_threads s.threads es) (still_waiting s.threads es)

-- ---- a choice
module _ (p : Program) (alone : p.links ≡ []) (owners : Owned p) (s : State) (c : ℕ) where
  items_same : (t : ℕ) (items : List Item)
      → step_items_within state_spaces p s c t items ≡ items_alone p s c t items
  items_same t [] = refl
  items_same t (run x ∷ items) =
      statement_same (turn_within state_spaces p s c t items) alone owners x
  items_same t (back q ∷ items) = refl
  items_same t (drop ∷ items) = refl

  thread_same : (t : ℕ) → step_thread_within state_spaces p s c t ≡ thread_alone p s c t
  unfolding step_thread_within thread_alone
  thread_same t = items_same t (thread_at s t).continuation

  scheduler_same : (ts : List ℕ) → (scheduler_at s c).active ≡ ts → is_scheduler_of p c ≡ true
      → step_scheduler_within state_spaces p s c ts ≡ scheduler_alone p s c ts
  scheduler_same [] a h = instant_same p s c alone h a
  scheduler_same (t ∷ ts) a h = thread_same t

pub runs_as_before : RunsAsBefore
unfolding step_within step_alone
runs_as_before p alone owners s c =
    if_same (is_scheduler_of p c)
    (λ h. scheduler_same p alone owners s c (scheduler_at s c).active refl h)
    (λ _. if_same (is_unlinked s c) (λ _. thread_same p alone owners s c (thread_chosen c)) (λ _. refl))
