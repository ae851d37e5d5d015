-- Of every choice on every state: its answer is 0 or one of 15 to 20. Assumes nothing.
use mathlib.Core.List.{List, [], ◌∷◌}
use mathlib.Core.Bool.{Bool, true, false}
use Prim.Native.Nat.{ℕ}
use Rattle.basics.specs.If.{when◌then◌else◌}
use Rattle.basics.specs.Members.{All}
use Rattle.basics.proofs.Ifs.{if_all}
use Rattle.basics.specs.Chains.{each_from}
use Rattle.program.specs.Trees.{Expr, Stmt, nothing, seq, do_at, start, start_wait, cooperate, let_in}
use Rattle.program.specs.Trees.{store, if_else, while}
use Rattle.program.specs.Trees.{generate, await}
use Rattle.program.specs.Programs.{Program}
use Rattle.machine.specs.State.{State, Item, run, back, drop, scheduler_at, thread_at}
use Rattle.machine.specs.Evaluation.{Here, EvalResult, Evaluation, eval, storing}
use Rattle.machine.specs.Turns.{StepResult, Turn, after_eval, evaluator, go_on, with_value, with_values}
use Rattle.machine.specs.Turns.{by_condition, stay, move, go_to}
use Rattle.machine.specs.Inner.Parts.{step_items, step_thread, turn, step_scheduler}
use Rattle.machine.specs.Steps.{step_thread_within, end_instant, step, step_within}
use Rattle.machine.specs.Statements.{ends, drops, goes_back, step_nothing, step_seq, step_do}
use Rattle.machine.specs.Statements.{starting, step_start, started_wait, step_start_wait}
use Rattle.machine.specs.Statements.{step_cooperate, step_let, step_store, step_if, step_while}
use Rattle.machine.specs.Statements.{step_statement}
use Rattle.machine.specs.Statements.{with_signal, signalling, step_generate, step_await}
use Rattle.machine.specs.Runs.{steps_from}
use Rattle.machine.specs.declared.value.Value.{Value}
use Rattle.machine.specs.declared.value.Value.TheVariants.{Number, Truth, Cell}
use Rattle.machine.specs.declared.value.Outcome.{Outcome}
use Rattle.machine.specs.declared.value.Outcome.TheVariants.{Is, Foreign, Spent, Stuck}

-- what a choice can answer
pub data StepNumber : ℕ → Type 0 where
  is_0 : StepNumber 0
  is_15 : StepNumber 15
  is_16 : StepNumber 16
  is_17 : StepNumber 17
  is_18 : StepNumber 18
  is_19 : StepNumber 19
  is_20 : StepNumber 20

abbrev pub Numbered : StepResult → Type 0
Numbered r = StepNumber r.answer

-- ---- the ways in which a turn goes on and ends

number_if : (b : Bool) (x y : StepResult) → Numbered x → Numbered y → Numbered (when b then x else y)
number_if b x y f g = if_all Numbered b x y (λ _. f) (λ _. g)

number_go_on : (u : Turn) (o : Outcome) (k : Value → Turn → StepResult)
    → ((v : Value) → Numbered (k v u)) → Numbered (go_on u o k)
number_go_on u (Is v) k g = g v
number_go_on u Foreign k g = is_19
number_go_on u Spent k g = is_17
number_go_on u Stuck k g = is_20

number_value : (u : Turn) (m : Here → Evaluation) (k : Value → Turn → StepResult)
    → ((v : Value) (w : Turn) → Numbered (k v w)) → Numbered (with_value u m k)
number_value u m k g =
    let r : EvalResult = m (evaluator u) u.cells in
    number_go_on (after_eval u r) r.outcome k (λ v. g v (after_eval u r))

number_values : (u : Turn) (xs : List Expr) (k : List Value → Turn → StepResult)
    → ((vs : List Value) (w : Turn) → Numbered (k vs w)) → Numbered (with_values u xs k)
unfolding with_values
number_values u [] k g = g [] u
number_values u (x ∷ xs) k g =
    number_value u (λ h. eval h x) _ (λ v w. number_values w xs _ (λ vs. g (v ∷ vs)))

number_by : (u : Turn) (v : Value) (a b : StepResult) → Numbered a → Numbered b
    → Numbered (by_condition u v a b)
number_by u (Truth true) a b f g = f
number_by u (Truth false) a b f g = g
number_by u (Number n) a b f g = is_20
number_by u (Cell c) a b f g = is_20

number_stay : (u : Turn) (items : List Item) (vars : List Value) → Numbered (stay u items vars)
unfolding stay
number_stay u items vars = number_if _ _ _ is_0 is_20

number_move : (u : Turn) (q : ℕ) (items : List Item) → Numbered (move u q items)
unfolding move
number_move u q items = number_if _ _ _ is_20 (number_if _ _ _ is_0 (number_if _ _ _ is_0 is_20))

number_go_to : (u : Turn) (q : ℕ) (items : List Item) → Numbered (go_to u q items)
unfolding go_to
number_go_to u q items = number_if _ _ _ (number_stay u items _) (number_move u q items)

number_starting : (u : Turn) (m : ℕ) (vs : List Value) (r : StepResult) → Numbered r
    → Numbered (starting u m vs r)
unfolding starting
number_starting u m vs r g = number_if _ _ _ is_20 (number_if _ _ _ is_20 (number_if _ _ _ is_20 (number_if _ _ _ is_20 (number_if _ _ _ is_18 g))))

number_signalling : (u : Turn) (e : ℕ) (b : Bool) (r : Turn → StepResult)
    → Numbered (r (with_signal u e)) → Numbered (signalling u e b r)
unfolding signalling
number_signalling u e b r g =
    number_if _ _ _ is_20 (number_if _ _ _ is_20 (number_if _ _ _ g is_19))

-- ---- each statement, each item, each choice

number_statement : (u : Turn) (x : Stmt) → Numbered (step_statement u x)
unfolding step_nothing step_seq step_do step_start started_wait step_start_wait step_cooperate step_let step_store step_if step_while step_generate step_await
number_statement u (nothing i) = number_stay u _ _
number_statement u (seq i a b) = number_stay u _ _
number_statement u (do_at i q a) = number_if _ _ _ is_20 (number_go_to u q _)
number_statement u (start i m xs) = number_values u xs _ (λ vs w. number_starting w m vs _ is_0)
number_statement u (start_wait i m xs) =
    number_values u xs _ (λ vs w. number_starting w m vs _ (number_if _ _ _ is_0 is_20))
number_statement u (cooperate i) = number_if _ _ _ is_20 (number_if _ _ _ is_0 is_20)
number_statement u (let_in i x a) = number_value u (λ e. eval e x) _ (λ v w. number_stay w _ _)
number_statement u (store i x y) = number_value u (λ e. storing e x y) _ (λ v w. number_stay w _ _)
number_statement u (if_else i x a b) = number_value u (λ e. eval e x) _ (λ v w. number_by w v _ _ (number_stay w _ _) (number_stay w _ _))
number_statement u (while i x a) = number_value u (λ e. eval e x) _ (λ v w. number_by w v _ _ (number_stay w _ _) (number_stay w _ _))
number_statement u (generate i e) = number_signalling u e _ _ is_0
number_statement u (await i e) = number_signalling u e _ _ (number_if _ _ _ is_0 is_0)

number_items : (p : Program) (s : State) (c t : ℕ) (items : List Item)
    → Numbered (step_items p s c t items)
unfolding ends drops goes_back
number_items p s c t [] = is_0
number_items p s c t (run x ∷ items) = number_statement (turn p s c t items) x
number_items p s c t (back q ∷ items) = number_go_to (turn p s c t items) q _
number_items p s c t (drop ∷ items) = number_if _ _ _ is_20 (number_stay (turn p s c t items) _ _)

number_thread : (p : Program) (s : State) (c t : ℕ) → Numbered (step_thread p s c t)
unfolding step_thread_within
number_thread p s c t = number_items p s c t (thread_at s t).continuation

number_scheduler : (p : Program) (s : State) (c : ℕ) (ts : List ℕ)
    → Numbered (step_scheduler p s c ts)
unfolding end_instant
number_scheduler p s c [] = number_if _ _ _ is_16 (number_if _ _ _ is_16 is_0)
number_scheduler p s c (t ∷ ts) = number_thread p s c t

pub numbered : (p : Program) (s : State) (c : ℕ) → Numbered (step p s c)
unfolding step_within
numbered p s c = number_if _ _ _ (number_scheduler p s c (scheduler_at s c).active) (number_if _ _ _ (number_thread p s c _) is_15)

pub all_numbered : (p : Program) (s : State) (cs : List ℕ) → All Numbered (steps_from p s cs)
unfolding each_from
all_numbered p s [] = All.none
all_numbered p s (c ∷ cs) = All.more (numbered p s c) (all_numbered p (step p s c).state cs)
