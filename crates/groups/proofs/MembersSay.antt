-- On words that say a state, what the code does on each member of a group is what the rules do to the
-- state. Assumes nothing.
use Prim.Native.Nat.{ℕ, zero, suc, ◌+◌, ◌*◌, ◌-◌, ◌<◌, ◌≤◌}
use mathlib.Core.Path.{◌≡◌, refl, sym, ap, ap₂, ◌∙◌, subst}
use mathlib.Core.List.{List, [], ◌∷◌}
use mathlib.Core.Bool.{Bool, true, false, not}
use native.Mathlib.Omega.{arith}
use lib.Dec.{leb, eqb}
use lib.ListN.{length, get_or, set, length-set}
use borrow.Author.Tests.{ne_eqb, eqb-true, eqb-false}
use Rattle.basics.specs.If.{keep_if}
use Rattle.basics.specs.Members.{All, none, more, any, every}
use Rattle.machine.specs.State.{State, Scheduler, Entry, no_scheduler, scheduler_at}
use Rattle.machine.specs.Groups.{schedulers_where}
use Rattle.machine.specs.Waits.{threads_where, entries_except, is_awaiting, ready_threads, entry_thread}
use Rattle.machine.specs.Inner.Families.{is_ready}
use Rattle.machine.specs.Statements.{wake, wake_on_each}
use Rattle.machine.specs.Steps.{end_on, end_on_each, has_active, has_ready}
use Rattle.machine.specs.Shapes.{EntryFits}
use Rattle.machine.specs.Words.{words_at}
use Rattle.machine.proofs.WordLaws.{Says}
use Rattle.machine.proofs.Space.{parted}
use Rattle.machine.proofs.Lists.{all_imply}
use Rattle.machine.proofs.KeptShape.{awake_on, woken_load}
use Rattle.lists.specs.Inner.Lists.{with_woken, ready_words, with_instant_ended}
use Rattle.lists.proofs.SchedulerSays.{first_says}
use Rattle.lists.proofs.Instants.{woken_count, wake_says, instant_readies, instant_says, instant_none}
use Rattle.groups.specs.Inner.Members.{any_active_on, room_on_each, woken_on}
use Rattle.groups.specs.Inner.Members.{ended_on, ready_on}

-- ---- what is known of the state: m events, each next list within its space and in shape

pub record NextFits (m : ℕ) (x : Scheduler) : Type 0 where
  pub room : length x.next ≤ 64
  pub entries : All (EntryFits m) x.next

abbrev pub ListsShaped : ℕ → State → Type 0
ListsShaped m s = (q : ℕ) → NextFits m (scheduler_at s q)

-- scheduler q has its words, and the state has it
abbrev pub There : State → ℕ → Type 0
There s q = (q - 2 < 8) × (q - 2 < length s.schedulers)

-- a scheduler replaced by one of which P holds
set_each : (P : Scheduler → Type 0) (xs : List Scheduler) (i j : ℕ) (y : Scheduler) → P y
    → ((j : ℕ) → P (get_or xs j no_scheduler)) → P (get_or (set xs i y) j no_scheduler)
set_each P [] i j y p h = h j
set_each P (x ∷ xs) zero zero y p h = p
set_each P (x ∷ xs) zero (suc j) y p h = h (suc j)
set_each P (x ∷ xs) (suc i) zero y p h = h zero
set_each P (x ∷ xs) (suc i) (suc j) y p h = set_each P xs i j y p (λ k. h (suc k))

-- another one is as it was
set_other : (xs : List Scheduler) (i j : ℕ) (y : Scheduler) → (i ≡ j → ⊥)
    → get_or (set xs i y) j no_scheduler ≡ get_or xs j no_scheduler
set_other [] i j y d = refl
set_other (x ∷ xs) zero zero y d = absurd (d refl)
set_other (x ∷ xs) zero (suc j) y d = refl
set_other (x ∷ xs) (suc i) zero y d = refl
set_other (x ∷ xs) (suc i) (suc j) y d = set_other xs i j y (λ e. d (ap suc e))

others : {P : Entry → Type 0} (test : Entry → Bool) (es : List Entry) → All P es
    → All P (entries_except test es)
unfolding entries_except
others test [] none = none
others {P} test (e ∷ es) (more p ps) = go (not (test e)) (others test es ps)
  where
    go : (b : Bool) → All P (entries_except test es) → All P (keep_if b e (entries_except test es))
    go true q = more p q
    go false q = q

fewer : (m : ℕ) (test : Entry → Bool) (x : Scheduler) (ts : List ℕ) → NextFits m x
    → NextFits m (record { active = ts; next = entries_except test x.next })
fewer m test x ts h =
    let p = parted test x.next in
    let r = h.room in
    record { room = omega arith; entries = others test x.next h.entries }

-- ---- a generation
wake_shaped : (m q e : ℕ) (s : State) → ListsShaped m s → ListsShaped m (wake q e s)
unfolding wake
wake_shaped m q e s h k =
    set_each (NextFits m) s.schedulers (q - 2) (k - 2) _ (fewer m (is_awaiting e) (scheduler_at s q) _ (h q))
    (λ j. subst (λ (i : ℕ). NextFits m (get_or s.schedulers i no_scheduler)) (omega arith) (h (2 + j)))

wake_there : (q e : ℕ) (s : State) (k : ℕ) → There s k → There (wake q e s) k
unfolding wake
wake_there q e s k (a, b) = (a, subst (λ (n : ℕ). k - 2 < n) (sym (length-set s.schedulers (q - 2) _)) b)

pub woken_says : (m e : ℕ) (qs : List ℕ) (w : List ℕ) (s : State) → Says w s → ListsShaped m s
    → All (There s) qs → All (λ (q : ℕ). awake_on e (scheduler_at s q) ≤ 64) qs
    → Says (woken_on qs e w) (wake_on_each qs e s)
unfolding woken_on wake_on_each
woken_says m e [] w s h f none none = h
woken_says m e (q ∷ qs) w s h f (more t ts) (more r rs) =
    woken_says m e qs (with_woken w (q - 2) e) (wake q e s)
    (wake_says m e w s h q t.0 t.1 (f q).room (f q).entries r)
    (wake_shaped m q e s f)
    (all_imply (λ k. wake_there q e s k) ts)
    (all_imply {Q = λ (k : ℕ). awake_on e (scheduler_at (wake q e s) k) ≤ 64}
    (λ k l. subst (λ (n : ℕ). n ≤ 64) (sym (woken_load q e s k)) l) rs)

pub room_says : (m e : ℕ) (qs : List ℕ) (w : List ℕ) (s : State) → Says w s → ListsShaped m s
    → All (There s) qs
    → room_on_each qs e w ≡ every (λ (q : ℕ). leb (awake_on e (scheduler_at s q)) 64) qs
unfolding every
room_says m e [] w s h f none = refl
room_says m e (q ∷ qs) w s h f (more t ts) =
    ap₂ (λ (b c : Bool). elim b [ true ↦ c | false ↦ false ])
    (ap (λ (n : ℕ). leb n 64) (woken_count m e w s h q t.0 t.1 (f q).room (f q).entries))
    (room_says m e qs w s h f ts)

-- ---- the end of an instant
-- no thread is thread 0
first_none : (ts : List ℕ) → All (λ (t : ℕ). 1 ≤ t) ts
    → not (eqb (get_or ts 0 0) 0) ≡ elim ts [ [] ↦ false | t ∷ us ↦ true ]
first_none [] none = refl
first_none (t ∷ ts) (more p ps) = ap not (ne_eqb t 0 (λ e. omega arith))

pub active_says : (qs : List ℕ) (w : List ℕ) (s : State) → Says w s
    → ((q : ℕ) → All (λ (t : ℕ). 1 ≤ t) (scheduler_at s q).active) → All (There s) qs
    → any_active_on qs w ≡ any (has_active s) qs
unfolding any
active_says [] w s h f none = refl
active_says (q ∷ qs) w s h f (more t ts) =
    ap₂ (λ (b c : Bool). elim b [ true ↦ true | false ↦ c ])
    (ap (λ (n : ℕ). not (eqb n 0)) (first_says w s h q t.0 t.1) ∙ first_none (scheduler_at s q).active (f q))
    (active_says qs w s h f ts)

end_shaped : (m q : ℕ) (s : State) → ListsShaped m s → ListsShaped m (end_on q s)
unfolding end_on
end_shaped m q s h k =
    set_each (NextFits m) s.schedulers (q - 2) (k - 2) _ (fewer m (is_ready s.threads) (scheduler_at s q) _ (h q))
    (λ j. subst (λ (i : ℕ). NextFits m (get_or s.schedulers i no_scheduler)) (omega arith) (h (2 + j)))

end_length : (q : ℕ) (s : State) → length (end_on q s).schedulers ≡ length s.schedulers
unfolding end_on
end_length q s = length-set s.schedulers (q - 2) _

end_other : (q : ℕ) (s : State) (k : ℕ) → 2 ≤ q → q < k → scheduler_at (end_on q s) k ≡ scheduler_at s k
unfolding end_on
end_other q s k a b = set_other s.schedulers (q - 2) (k - 2) _ (λ e. omega arith)

end_threads : (q : ℕ) (s : State) → (end_on q s).threads ≡ s.threads
unfolding end_on
end_threads q s = refl

-- of n schedulers from k on, those that pass the test are there, and have no active thread
pub record Idle (test : ℕ → Bool) (k n : ℕ) (s : State) : Type 0 where
  pub low : 2 ≤ k
  pub there : k + n ≤ 2 + length s.schedulers
  pub most : length s.schedulers ≤ 8
  pub idle : (j : ℕ) → k ≤ j → j < k + n → test j ≡ true → (scheduler_at s j).active ≡ []

idle_skip : (test : ℕ → Bool) (k n : ℕ) (s : State) → Idle test k (suc n) s → Idle test (suc k) n s
idle_skip test k n s i =
    record {
      low = let a = i.low in omega arith;
      there = let a = i.there in omega arith;
      most = i.most;
      idle = λ j a b t. i.idle j (omega arith) (omega arith) t;
    }

idle_next : (test : ℕ → Bool) (k n : ℕ) (s : State) → Idle test k (suc n) s
    → Idle test (suc k) n (end_on k s)
idle_next test k n s i =
    let e = end_length k s in
    record {
      low = let a = i.low in omega arith;
      there = let a = i.there in omega arith;
      most = let a = i.most in omega arith;
      idle = λ j a b t.
          ap (λ (x : Scheduler). x.active) (end_other k s j i.low (omega arith))
          ∙ i.idle j (omega arith) (omega arith) t;
    }

here_there : (test : ℕ → Bool) (k n : ℕ) (s : State) → Idle test k (suc n) s → There s k
here_there test k n s i =
    let a = i.low in let b = i.there in let c = i.most in (omega arith, omega arith)

few_still : (k : ℕ) (s : State) → length s.threads ≤ 64 → length (end_on k s).threads ≤ 64
few_still k s few = let e = ap length (end_threads k s) in omega arith

ended_one : (m k : ℕ) (w : List ℕ) (s : State) → Says w s → length s.threads ≤ 64 → There s k
    → NextFits m (scheduler_at s k) → (scheduler_at s k).active ≡ []
    → Says (with_instant_ended w (k - 2)) (end_on k s)
unfolding end_on
ended_one m k w s h few t f z =
    instant_says m w s h few k t.0 t.1 f.room f.entries z

pub ended_says : (m : ℕ) (test : ℕ → Bool) (k n : ℕ) (w : List ℕ) (s : State) → Says w s
    → length s.threads ≤ 64 → ListsShaped m s → Idle test k n s
    → Says (ended_on (schedulers_where test k n) w) (end_on_each (schedulers_where test k n) s)
unfolding ended_on end_on_each schedulers_where
ended_says m test k zero w s h few f i = h
ended_says m test k (suc n) w s h few f i =
    go (test k) refl (ended_says m test (suc k) n)
  where
    t : There s k
    t = here_there test k n s i

    go : (b : Bool) → test k ≡ b
        → ((w : List ℕ) (s : State) → Says w s → length s.threads ≤ 64 → ListsShaped m s
        → Idle test (suc k) n s
        → Says (ended_on (schedulers_where test (suc k) n) w) (end_on_each (schedulers_where test (suc k) n) s))
        → Says (ended_on (keep_if b k (schedulers_where test (suc k) n)) w) (end_on_each (keep_if b k (schedulers_where test (suc k) n)) s)
    go false e rec = rec w s h few f (idle_skip test k n s i)
    go true e rec =
        rec (with_instant_ended w (k - 2)) (end_on k s)
        (ended_one m k w s h few t (f k) (i.idle k (omega arith) (omega arith) e))
        (few_still k s few) (end_shaped m k s f) (idle_next test k n s i)

-- ---- how many were ready
any-length : (test : Entry → Bool) (es : List Entry)
    → any test es ≡ not (eqb (length (threads_where test es)) 0)
unfolding any threads_where
any-length test [] = refl
any-length test (e ∷ es) = go (test e) (any-length test es)
  where
    go : (b : Bool) → any test es ≡ not (eqb (length (threads_where test es)) 0)
        → elim b [ true ↦ true | false ↦ any test es ]
        ≡ not (eqb (length (keep_if b (entry_thread e) (threads_where test es))) 0)
    go true h = sym (ap not (ne_eqb (suc (length (threads_where test es))) 0 (λ e. omega arith)))
    go false h = h

-- a test that agrees on the schedulers from k on
any_same : (f g : ℕ → Bool) (test : ℕ → Bool) (k n : ℕ) → ((j : ℕ) → k ≤ j → f j ≡ g j)
    → any f (schedulers_where test k n) ≡ any g (schedulers_where test k n)
unfolding any schedulers_where
any_same f g test k zero h = refl
any_same f g test k (suc n) h = go (test k) (any_same f g test (suc k) n (λ j a. h j (omega arith)))
  where
    go : (b : Bool) → any f (schedulers_where test (suc k) n) ≡ any g (schedulers_where test (suc k) n)
        → any f (keep_if b k (schedulers_where test (suc k) n)) ≡ any g (keep_if b k (schedulers_where test (suc k) n))
    go false r = r
    go true r = ap₂ (λ (b c : Bool). elim b [ true ↦ true | false ↦ c ]) (h k (omega arith)) r

either : (x y : ℕ) → elim (not (eqb x 0)) [ true ↦ true | false ↦ not (eqb y 0) ] ≡ not (eqb (x + y) 0)
either x y = go (eqb x 0) refl
  where
    go : (b : Bool) → eqb x 0 ≡ b
        → elim (not b) [ true ↦ true | false ↦ not (eqb y 0) ] ≡ not (eqb (x + y) 0)
    go true e =
        let z : x + y ≡ y = let a = eqb-true x 0 e in omega arith in
        ap (λ (n : ℕ). not (eqb n 0)) (sym z)
    go false e =
        let d = eqb-false x 0 e in sym (ap not (ne_eqb (x + y) 0 (λ z. d (omega arith))))

ready_count : (s : State) (q : ℕ)
    → has_ready s q ≡ not (eqb (length (ready_threads s.threads (scheduler_at s q).next)) 0)
ready_count s q = any-length (is_ready s.threads) (scheduler_at s q).next

ready_other : (q : ℕ) (s : State) (k : ℕ) → 2 ≤ q → q < k → has_ready (end_on q s) k ≡ has_ready s k
ready_other q s k a b =
    ap₂ (λ (f : Entry → Bool) (x : Scheduler). any f x.next)
    (ap is_ready (end_threads q s)) (end_other q s k a b)

pub ready_says : (m : ℕ) (test : ℕ → Bool) (k n : ℕ) (w : List ℕ) (s : State) → Says w s
    → length s.threads ≤ 64 → ListsShaped m s → Idle test k n s
    → any (has_ready s) (schedulers_where test k n) ≡ not (eqb (ready_on (schedulers_where test k n) w) 0)
unfolding ready_on schedulers_where any
ready_says m test k zero w s h few f i = refl
ready_says m test k (suc n) w s h few f i =
    go (test k) refl (ready_says m test (suc k) n)
  where
    t : There s k
    t = here_there test k n s i

    go : (b : Bool) → test k ≡ b
        → ((w : List ℕ) (s : State) → Says w s → length s.threads ≤ 64 → ListsShaped m s
        → Idle test (suc k) n s
        → any (has_ready s) (schedulers_where test (suc k) n) ≡ not (eqb (ready_on (schedulers_where test (suc k) n) w) 0))
        → any (has_ready s) (keep_if b k (schedulers_where test (suc k) n))
        ≡ not (eqb (ready_on (keep_if b k (schedulers_where test (suc k) n)) w) 0)
    go false e rec = rec w s h few f (idle_skip test k n s i)
    go true e rec =
        let r = rec (with_instant_ended w (k - 2)) (end_on k s)
        (ended_one m k w s h few t (f k) (i.idle k (omega arith) (omega arith) e))
        (few_still k s few) (end_shaped m k s f) (idle_next test k n s i) in
        ap₂ (λ (b c : Bool). elim b [ true ↦ true | false ↦ c ])
        (ready_count s k ∙ ap (λ (n : ℕ). not (eqb n 0)) (sym (instant_readies m w s h few k t.0 t.1 (f k).room (f k).entries)))
        (any_same (has_ready s) (has_ready (end_on k s)) test (suc k) n (λ j a. sym (ready_other k s j i.low (omega arith))) ∙ r)
        ∙ either (length (ready_words w (words_at w (67 + 130 * (k - 2))))) (ready_on (schedulers_where test (suc k) n) (with_instant_ended w (k - 2)))

-- where none was, nothing changes
pub none_ended : (m : ℕ) (test : ℕ → Bool) (k n : ℕ) (w : List ℕ) (s : State) → Says w s
    → length s.threads ≤ 64 → ListsShaped m s → Idle test k n s
    → ready_on (schedulers_where test k n) w ≡ 0 → ended_on (schedulers_where test k n) w ≡ w
unfolding ready_on ended_on schedulers_where
none_ended m test k zero w s h few f i z = refl
none_ended m test k (suc n) w s h few f i z =
    go (test k) refl (none_ended m test (suc k) n w s h few f (idle_skip test k n s i)) z
  where
    t : There s k
    t = here_there test k n s i

    nothing : (xs : List ℕ) → length xs ≡ 0 → xs ≡ []
    nothing [] e = refl
    nothing (x ∷ xs) e = absurd (omega arith)

    go : (b : Bool) → test k ≡ b
        → (ready_on (schedulers_where test (suc k) n) w ≡ 0 → ended_on (schedulers_where test (suc k) n) w ≡ w)
        → ready_on (keep_if b k (schedulers_where test (suc k) n)) w ≡ 0
        → ended_on (keep_if b k (schedulers_where test (suc k) n)) w ≡ w
    go false e rec y = rec y
    go true e rec y =
        let a = instant_readies m w s h few k t.0 t.1 (f k).room (f k).entries in
        let same = instant_none m w s h few k t.0 t.1 (f k).room (f k).entries
        (i.idle k (omega arith) (omega arith) e) (nothing _ (omega arith)) in
        ap (ended_on (schedulers_where test (suc k) n)) same
        ∙ rec (let b = ap (ready_on (schedulers_where test (suc k) n)) same in omega arith)
