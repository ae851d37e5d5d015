-- Of every choice on every state: a refused one leaves the state, and one that is not foreign
-- accesses only cells of its thread or its place. So of demand 3 `accessed` follows from
-- `answered`. Assumes nothing.
use mathlib.Core.Path.{◌≡◌, refl}
use mathlib.Core.Logic.{◌≢◌}
use mathlib.Core.List.{List, [], ◌∷◌}
use mathlib.Core.Bool.{Bool, true, false}
use Prim.Native.Nat.{ℕ}
use Prim.Native.Nat.{◌≤◌}
use Rattle.basics.specs.If.{when◌then◌else◌}
use Rattle.basics.specs.Members.{All, none}
use Rattle.basics.specs.Members.{more}
use Rattle.basics.proofs.Ifs.{if_all}
use Rattle.basics.proofs.Ifs.{and_true}
use Rattle.language.specs.Groups.{Link, InStep, in_step}
use Rattle.language.proofs.Labels.{in_step_computes}
use Rattle.program.specs.Trees.{Expr, Stmt, nothing, seq, do_at, start, start_wait, cooperate, let_in}
use Rattle.program.specs.Trees.{store, if_else, while}
use Rattle.program.specs.Trees.{generate, await}
use Rattle.program.specs.Programs.{Program}
use Rattle.program.specs.Programs.{owner_of_event}
use Rattle.machine.specs.Accesses.{Own}
use Rattle.machine.specs.Accesses.{OwnSignal}
use Rattle.machine.specs.State.{State, Stored, Item, run, back, drop, scheduler_at}
use Rattle.machine.specs.State.{thread_at}
use Rattle.machine.specs.Evaluation.{Here, EvalResult, Evaluation, eval, storing}
use Rattle.machine.specs.Turns.{StepResult, Turn, refuse, accept, after_eval, evaluator, go_on}
use Rattle.machine.specs.Turns.{with_value, with_values, by_condition, stay, move, go_to}
use Rattle.machine.specs.Turns.{here}
use Rattle.machine.specs.Inner.Parts.{step_items, step_thread, turn, step_scheduler}
use Rattle.machine.specs.Steps.{step_thread_within, nobody, end_instant, step}
use Rattle.machine.specs.Steps.{step_within}
use Rattle.machine.specs.Statements.{ends, drops, goes_back, step_nothing, step_seq, step_do}
use Rattle.machine.specs.Statements.{starting, step_start, started_wait, step_start_wait}
use Rattle.machine.specs.Statements.{step_cooperate, step_let, step_store, step_if, step_while}
use Rattle.machine.specs.Statements.{step_statement}
use Rattle.machine.specs.Statements.{with_signal, is_own_event, signalling, step_generate}
use Rattle.machine.specs.Statements.{step_await}
use Rattle.machine.specs.declared.value.Value.{Value}
use Rattle.machine.specs.declared.value.Value.TheVariants.{Number, Truth, Cell}
use Rattle.machine.specs.declared.value.Outcome.{Outcome}
use Rattle.machine.specs.declared.value.Outcome.TheVariants.{Is, Foreign, Spent, Stuck}
use Rattle.machine.proofs.Lists.{all_append}
use Rattle.machine.proofs.Owns.{IsForeign, Owns, owns_eval, owns_storing}
use lib.Dec.{leb}
use borrow.Author.Tests.{leb-true}

-- what r says of a choice put to the state s: refused, it kept the state; not foreign, it accessed
-- only cells and events of its own
pub record Fair (ls : List Link) (s : State) (r : StepResult) : Type 0 where
  pub kept : r.answer ≢ 0 → r.state ≡ s
  pub own : r.answer ≢ 19 → All Own r.accesses
  pub heard : r.answer ≢ 19 → All (OwnSignal ls) r.signals

-- the accesses of the turn so far were to cells and events of its own
abbrev Owning : Turn → Type 0
Owning u = All Own u.accesses × All (OwnSignal u.program.links) u.signals

-- ---- the ways in which a turn goes on and ends

fair_refuse : (u : Turn) (n : ℕ) → Owning u → Fair u.program.links u.state (refuse u n)
fair_refuse u n h = record { kept = λ _. refl; own = λ _. h.0; heard = λ _. h.1 }

fair_accept : (u : Turn) (s : State) → Owning u → Fair u.program.links u.state (accept u s)
fair_accept u s h = record { kept = λ n. absurd (n refl); own = λ _. h.0; heard = λ _. h.1 }

fair_if : {ls : List Link} (s : State) (b : Bool) (x y : StepResult) → Fair ls s x → Fair ls s y
    → Fair ls s (when b then x else y)
fair_if {ls = ls} s b x y f g = if_all (Fair ls s) b x y (λ _. f) (λ _. g)

fair_go_on : (u : Turn) (o : Outcome) (k : Value → Turn → StepResult) → ((IsForeign o → ⊥) → Owning u)
    → ((v : Value) → Owning u → Fair u.program.links u.state (k v u)) → Fair u.program.links u.state (go_on u o k)
fair_go_on u (Is v) k h g = g v (h (λ z. z))
fair_go_on u Foreign k h g =
    record { kept = λ _. refl; own = λ n. absurd (n refl); heard = λ n. absurd (n refl) }
fair_go_on u Spent k h g = fair_refuse u 17 (h (λ z. z))
fair_go_on u Stuck k h g = fair_refuse u 20 (h (λ z. z))

fair_value : (u : Turn) (m : Here → Evaluation) (k : Value → Turn → StepResult)
    → ((h : Here) (cs : List Stored) → Owns (m h cs)) → Owning u
    → ((v : Value) (w : Turn) → Owning w → Fair w.program.links w.state (k v w))
    → Fair u.program.links u.state (with_value u m k)
fair_value u m k o h g =
    let r : EvalResult = m (evaluator u) u.cells in
    fair_go_on (after_eval u r) r.outcome k
    (λ n. (all_append h.0 (o (evaluator u) u.cells n), h.1))
    (λ v. g v (after_eval u r))

fair_values : (u : Turn) (xs : List Expr) (k : List Value → Turn → StepResult) → Owning u
    → ((vs : List Value) (w : Turn) → Owning w → Fair w.program.links w.state (k vs w))
    → Fair u.program.links u.state (with_values u xs k)
unfolding with_values
fair_values u [] k h g = g [] u h
fair_values u (x ∷ xs) k h g = fair_value u (λ e. eval e x) _ (λ e. owns_eval e x) h (λ v w j. fair_values w xs _ j (λ vs. g (v ∷ vs)))

fair_by : (u : Turn) (v : Value) (a b : StepResult) → Owning u → Fair u.program.links u.state a → Fair u.program.links u.state b
    → Fair u.program.links u.state (by_condition u v a b)
fair_by u (Truth true) a b h f g = f
fair_by u (Truth false) a b h f g = g
fair_by u (Number n) a b h f g = fair_refuse u 20 h
fair_by u (Cell c) a b h f g = fair_refuse u 20 h

fair_stay : (u : Turn) (items : List Item) (vars : List Value) → Owning u
    → Fair u.program.links u.state (stay u items vars)
unfolding stay
fair_stay u items vars h = fair_if _ _ _ _ (fair_accept u _ h) (fair_refuse u 20 h)

fair_move : (u : Turn) (q : ℕ) (items : List Item) → Owning u → Fair u.program.links u.state (move u q items)
unfolding move
fair_move u q items h =
    fair_if _ _ _ _ (fair_refuse u 20 h) (fair_if _ _ _ _ (fair_accept u _ h) (fair_if _ _ _ _ (fair_accept u _ h) (fair_refuse u 20 h)))

fair_go_to : (u : Turn) (q : ℕ) (items : List Item) → Owning u → Fair u.program.links u.state (go_to u q items)
unfolding go_to
fair_go_to u q items h = fair_if _ _ _ _ (fair_stay u items _ h) (fair_move u q items h)

fair_starting : (u : Turn) (m : ℕ) (vs : List Value) (r : StepResult) → Owning u → Fair u.program.links u.state r
    → Fair u.program.links u.state (starting u m vs r)
unfolding starting
fair_starting u m vs r h g =
    let f = fair_refuse u 20 h in
    fair_if _ _ _ _ f (fair_if _ _ _ _ f (fair_if _ _ _ _ f (fair_if _ _ _ _ f (fair_if _ _ _ _ (fair_refuse u 18 h) g))))

own_event : (u : Turn) (e : ℕ) → is_own_event u e ≡ true
    → (2 ≤ here u) × InStep u.program.links (owner_of_event u.program e) (here u)
unfolding is_own_event
own_event u e h =
    let ls = u.program.links in
    let o = owner_of_event u.program e in
    let a = and_true (leb 2 (here u)) (in_step ls o (here u)) h in
    (leb-true 2 (here u) a.0, (in_step_computes ls o (here u)).0 a.1)

fair_signalling : (u : Turn) (e : ℕ) (b : Bool) (r : Turn → StepResult) → Owning u
    → (Owning (with_signal u e) → Fair u.program.links u.state (r (with_signal u e)))
    → Fair u.program.links u.state (signalling u e b r)
unfolding signalling
fair_signalling u e b r h g =
    fair_if _ _ _ _ (fair_refuse u 20 h) (fair_if _ _ _ _ (fair_refuse u 20 h)
    (if_all (Fair u.program.links u.state) (is_own_event u e) _ _
    (λ q. g (h.0, all_append h.1 (more (own_event u e q) none)))
    (λ _. record { kept = λ _. refl; own = λ n. absurd (n refl); heard = λ n. absurd (n refl) })))

-- ---- each statement, each item, each choice

fair_statement : (u : Turn) (x : Stmt) → Owning u → Fair u.program.links u.state (step_statement u x)
unfolding step_nothing step_seq step_do step_start started_wait step_start_wait step_cooperate step_let step_store step_if step_while step_generate step_await
fair_statement u (nothing i) h = fair_stay u _ _ h
fair_statement u (seq i a b) h = fair_stay u _ _ h
fair_statement u (do_at i q a) h = fair_if _ _ _ _ (fair_refuse u 20 h) (fair_go_to u q _ h)
fair_statement u (start i m xs) h =
    fair_values u xs _ h (λ vs w j. fair_starting w m vs _ j (fair_accept w _ j))
fair_statement u (start_wait i m xs) h = fair_values u xs _ h (λ vs w j. fair_starting w m vs _ j (fair_if _ _ _ _ (fair_accept w _ j) (fair_refuse w 20 j)))
fair_statement u (cooperate i) h =
    fair_if _ _ _ _ (fair_refuse u 20 h) (fair_if _ _ _ _ (fair_accept u _ h) (fair_refuse u 20 h))
fair_statement u (let_in i x a) h =
    fair_value u (λ e. eval e x) _ (λ e. owns_eval e x) h (λ v w j. fair_stay w _ _ j)
fair_statement u (store i x y) h =
    fair_value u (λ e. storing e x y) _ (λ e. owns_storing e x y) h (λ v w j. fair_stay w _ _ j)
fair_statement u (if_else i x a b) h = fair_value u (λ e. eval e x) _ (λ e. owns_eval e x) h (λ v w j. fair_by w v _ _ j (fair_stay w _ _ j) (fair_stay w _ _ j))
fair_statement u (while i x a) h = fair_value u (λ e. eval e x) _ (λ e. owns_eval e x) h (λ v w j. fair_by w v _ _ j (fair_stay w _ _ j) (fair_stay w _ _ j))
fair_statement u (generate i e) h =
    fair_signalling u e _ _ h (λ j. fair_accept (with_signal u e) _ j)
fair_statement u (await i e) h =
    fair_signalling u e _ _ h
    (λ j. fair_if _ _ _ _ (fair_accept (with_signal u e) _ j) (fair_accept (with_signal u e) _ j))

fair_items : (p : Program) (s : State) (c t : ℕ) (items : List Item)
    → Fair p.links s (step_items p s c t items)
unfolding ends drops goes_back
fair_items p s c t [] = fair_accept (turn p s c t []) _ (none, none)
fair_items p s c t (run x ∷ items) = fair_statement (turn p s c t items) x (none, none)
fair_items p s c t (back q ∷ items) = fair_go_to (turn p s c t items) q _ (none, none)
fair_items p s c t (drop ∷ items) = fair_if _ _ _ _ (fair_refuse (turn p s c t items) 20 (none, none)) (fair_stay (turn p s c t items) _ _ (none, none))

fair_thread : (p : Program) (s : State) (c t : ℕ) → Fair p.links s (step_thread p s c t)
unfolding step_thread_within
fair_thread p s c t = fair_items p s c t (thread_at s t).continuation

fair_nobody : {ls : List Link} (n : ℕ) (s : State) → Fair ls s (nobody n s)
fair_nobody n s = record { kept = λ _. refl; own = λ _. none; heard = λ _. none }

fair_scheduler : (p : Program) (s : State) (c : ℕ) (ts : List ℕ)
    → Fair p.links s (step_scheduler p s c ts)
unfolding end_instant
fair_scheduler p s c [] =
    fair_if _ _ _ _ (fair_nobody 16 s) (fair_if _ _ _ _ (fair_nobody 16 s)
    (record { kept = λ n. absurd (n refl); own = λ _. none; heard = λ _. none }))
fair_scheduler p s c (t ∷ ts) = fair_thread p s c t

pub fair : (p : Program) (s : State) (c : ℕ) → Fair p.links s (step p s c)
unfolding step_within
fair p s c = fair_if _ _ _ _ (fair_scheduler p s c (scheduler_at s c).active) (fair_if _ _ _ _ (fair_thread p s c _) (fair_nobody 15 s))
