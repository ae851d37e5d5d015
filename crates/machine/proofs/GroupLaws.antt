-- What is done on each member of a group, one after the other, leaves alone what it leaves alone on
-- one. Assumes nothing.
use mathlib.Core.Path.{◌≡◌, refl, sym, ap, ◌∙◌}
use mathlib.Core.List.{List, [], ◌∷◌}
use mathlib.Core.Bool.{Bool, true, false, true≢false}
use Prim.Native.Nat.{ℕ}
use Rattle.basics.specs.Members.{every, any, All, none, more}
use Rattle.basics.proofs.Ifs.{if_all}
use Rattle.program.specs.Programs.{Program}
use Rattle.machine.specs.State.{State}
use Rattle.machine.specs.Turns.{StepResult}
use Rattle.machine.specs.Statements.{wake, wake_on_each}
use Rattle.machine.specs.Steps.{end_on, end_on_each, end_instant}

-- ---- every and any
pub every_all : {A : Type 0} (test : A → Bool) (xs : List A) → ((x : A) → test x ≡ true)
    → every test xs ≡ true
unfolding every
every_all test [] h = refl
every_all test (x ∷ xs) h =
    ap (λ (b : Bool). elim b [ true ↦ every test xs | false ↦ false ]) (h x)
    ∙ every_all test xs h

pub every_each : {A : Type 0} (test : A → Bool) (xs : List A) → every test xs ≡ true
    → All (λ (x : A). test x ≡ true) xs
unfolding every
every_each test [] h = none
every_each {A} test (x ∷ xs) h = go (test x) refl h (every_each test xs)
  where
    go : (b : Bool) → test x ≡ b → elim b [ true ↦ every test xs | false ↦ false ] ≡ true
        → (every test xs ≡ true → All (λ (x : A). test x ≡ true) xs)
        → All (λ (x : A). test x ≡ true) (x ∷ xs)
    go true e k f = more e (f k)
    go false e k f = absurd (true≢false (sym k))

pub any_none : {A : Type 0} (test : A → Bool) (xs : List A) → any test xs ≡ false
    → All (λ (x : A). test x ≡ false) xs
unfolding any
any_none test [] h = none
any_none {A} test (x ∷ xs) h = go (test x) refl h (any_none test xs)
  where
    go : (b : Bool) → test x ≡ b → elim b [ true ↦ true | false ↦ any test xs ] ≡ false
        → (any test xs ≡ false → All (λ (x : A). test x ≡ false) xs)
        → All (λ (x : A). test x ≡ false) (x ∷ xs)
    go true e k f = absurd (true≢false k)
    go false e k f = more e (f k)

-- ---- a generation
pub wake_threads : (q e : ℕ) (s : State) → (wake q e s).threads ≡ s.threads
unfolding wake
wake_threads q e s = refl

wake_cells : (q e : ℕ) (s : State) → (wake q e s).cells ≡ s.cells
unfolding wake
wake_cells q e s = refl

wake_present : (q e : ℕ) (s : State) → (wake q e s).present ≡ s.present
unfolding wake
wake_present q e s = refl

pub woken_threads : (qs : List ℕ) (e : ℕ) (s : State) → (wake_on_each qs e s).threads ≡ s.threads
unfolding wake_on_each
woken_threads [] e s = refl
woken_threads (q ∷ qs) e s = woken_threads qs e (wake q e s) ∙ wake_threads q e s

pub woken_cells : (qs : List ℕ) (e : ℕ) (s : State) → (wake_on_each qs e s).cells ≡ s.cells
unfolding wake_on_each
woken_cells [] e s = refl
woken_cells (q ∷ qs) e s = woken_cells qs e (wake q e s) ∙ wake_cells q e s

pub woken_present : (qs : List ℕ) (e : ℕ) (s : State) → (wake_on_each qs e s).present ≡ s.present
unfolding wake_on_each
woken_present [] e s = refl
woken_present (q ∷ qs) e s = woken_present qs e (wake q e s) ∙ wake_present q e s

-- ---- the end of an instant
end_threads : (q : ℕ) (s : State) → (end_on q s).threads ≡ s.threads
unfolding end_on
end_threads q s = refl

end_cells : (q : ℕ) (s : State) → (end_on q s).cells ≡ s.cells
unfolding end_on
end_cells q s = refl

end_present : (q : ℕ) (s : State) → (end_on q s).present ≡ s.present
unfolding end_on
end_present q s = refl

pub ended_threads : (qs : List ℕ) (s : State) → (end_on_each qs s).threads ≡ s.threads
unfolding end_on_each
ended_threads [] s = refl
ended_threads (q ∷ qs) s = ended_threads qs (end_on q s) ∙ end_threads q s

pub ended_cells : (qs : List ℕ) (s : State) → (end_on_each qs s).cells ≡ s.cells
unfolding end_on_each
ended_cells [] s = refl
ended_cells (q ∷ qs) s = ended_cells qs (end_on q s) ∙ end_cells q s

pub ended_present : (qs : List ℕ) (s : State) → (end_on_each qs s).present ≡ s.present
unfolding end_on_each
ended_present [] s = refl
ended_present (q ∷ qs) s = ended_present qs (end_on q s) ∙ end_present q s

pub instant_threads : (p : Program) (s : State) (c : ℕ)
    → (end_instant p s c).state.threads ≡ s.threads
unfolding end_instant
instant_threads p s c =
    if_all (λ (r : StepResult). r.state.threads ≡ s.threads) _ _ _ (λ _. refl)
    (λ _. if_all (λ (r : StepResult). r.state.threads ≡ s.threads) _ _ _ (λ _. refl)
    (λ _. ended_threads _ s))
