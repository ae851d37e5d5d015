-- The acts of 13 and 14 are turns: no argument, one, two. Assumes nothing.
use mathlib.Core.Path.{refl, ap, ◌∙◌}
use mathlib.Core.List.{List, [], ◌∷◌}
use Prim.Native.Nat.{ℕ, ◌≤◌}
use Rattle.program.specs.Trees.{Expr}
use Rattle.language.specs.declared.refusal.Rule.{Rule}
use Rattle.machine.specs.Words.{value_word}
use Rattle.machine.specs.declared.value.Value.{Value}
use Rattle.machine.specs.declared.value.Outcome.{Outcome}
use Rattle.machine.specs.declared.value.Outcome.TheVariants.{Is, Foreign, Spent, Stuck}
use Rattle.operations.specs.declared.Who.{Who}
use Rattle.operations.specs.Inner.Results.{Result}
use Rattle.operations.specs.Inner.Heaps.{cells_in}
use Rattle.evaluator.specs.Inner.Results.{evaluated_on}
use Rattle.states.specs.declared.thread.ThreadWords.{ThreadWords}
use Rattle.acts.specs.declared.act.Arguments.{Arguments}
use Rattle.acts.specs.Inner.Transitions.{arguments_of}
use Rattle.turns.specs.declared.counts.Counts.{Counts}
use Rattle.turns.specs.declared.start.Request.{Request}
use Rattle.turns.specs.Inner.Acts.{TurnOutcome, then_on, starts_with, one_argument, last_argument}
use Rattle.turns.specs.Inner.Acts.{two_arguments, start_turn}
use Rattle.turns.specs.Inner.Actions.{ActResult, start_with, start_one, start_two, act_after}
use Rattle.turns.specs.Inner.Actions.{value_of}
use Rattle.turns.specs.Inner.Actions.{first_then, both_arguments, start_act}
use Rattle.turns.proofs.SeenLaws.{Turns, Turning, refused_so, act_on, act_on_as, in_thread}
use Rattle.turns.proofs.PlainLaws.{plain, plain_eval, eval_room}
use Rattle.turns.proofs.AfterLaws.{after_turns}

-- after the first of two arguments, whose outcome is o
first_turns : (o : Outcome) (n : ℕ) (us : List ℕ) (who : Who) (counts : Counts) (vs : List ℕ)
    (k : Value → ActResult) (f : ThreadWords → Value → TurnOutcome)
    → ((x : Value) → Turning (k x) who counts vs (λ th. f th x))
    → Turning (first_then (value_of o) n us k) who counts vs
    (λ th. then_on o th (cells_in n) us (f th))
first_turns (Is x) n us who counts vs k f h = h x
first_turns Foreign n us who counts vs k f h =
    act_on (refused_so who counts Rule.Foreign (cells_in n)) (λ th e. refl)
first_turns Spent n us who counts vs k f h =
    act_on (refused_so who counts Rule.CellsSpent (cells_in n)) (λ th e. refl)
first_turns Stuck n us who counts vs k f h =
    act_on (refused_so who counts Rule.Stuck (cells_in n)) (λ th e. refl)

module _ (who : Who) (q : Request) (counts : Counts) (vs : List ℕ) where
  with_arguments : (n : ℕ) (args : Arguments)
      → Turns (start_with q args) n who counts (λ th. starts_with q th n args)
  with_arguments n args = record { thread = λ th w. refl; room = tt }

  one_turns : (r : Result)
      → Turning (act_after r (start_one q)) who counts vs (λ th. one_argument q th (plain r))
  one_turns r =
      let n = cells_in r.used in
      act_on
      (after_turns r.outcome n who counts (start_one q)
      (λ th x. starts_with q th n (arguments_of 1 (value_word x) 0))
      (λ x. with_arguments n (arguments_of 1 (value_word x) 0)))
      (λ th e. refl)

  last_turns : (first : ℕ) (r : Result)
      → Turning (act_after r (start_two q first)) who counts vs
      (λ th. last_argument q th first (plain r))
  last_turns first r =
      let n = cells_in r.used in
      act_on
      (after_turns r.outcome n who counts (start_two q first)
      (λ th x. starts_with q th n (arguments_of 2 first (value_word x)))
      (λ x. with_arguments n (arguments_of 2 first (value_word x))))
      (λ th e. refl)

  both_turns : (y : Expr) (r : Result) → cells_in r.used ≤ 256
      → Turning (both_arguments who q vs y r) who counts vs (λ th. two_arguments who q th y (plain r))
  both_turns y r room =
      let n = cells_in r.used in
      first_turns r.outcome r.used r.words who counts vs _ _
      (λ x.
      act_on_as (last_turns (value_word x) (evaluated_on who y vs r.used r.words))
      (λ th e.
      ap (last_argument q th (value_word x))
      (plain_eval r.used r.words room who vs y ∙ in_thread who th vs e n r.words y)))

  pub starts_turns : (h : ℕ) (ws : List ℕ) → cells_in h ≤ 256 → (xs : List Expr)
      → Turning (start_act who q xs vs h ws) who counts vs (λ th. start_turn who q th (cells_in h) ws xs)
  starts_turns h ws room [] = act_on (with_arguments (cells_in h) (arguments_of 0 0 0)) (λ th e. refl)
  starts_turns h ws room (x ∷ []) =
      act_on_as (one_turns (evaluated_on who x vs h ws))
      (λ th e.
      ap (one_argument q th)
      (plain_eval h ws room who vs x ∙ in_thread who th vs e (cells_in h) ws x))
  starts_turns h ws room (x ∷ y ∷ ys) =
      act_on_as (both_turns y (evaluated_on who x vs h ws) (eval_room h ws room who vs x))
      (λ th e.
      ap (two_arguments who q th y)
      (plain_eval h ws room who vs x ∙ in_thread who th vs e (cells_in h) ws x))
