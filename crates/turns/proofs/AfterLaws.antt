-- The acts after an evaluation are turns: by the outcome, and by the condition. Assumes nothing.
use mathlib.Core.Bool.{true, false}
use Prim.Native.Nat.{ℕ}
use Rattle.language.specs.declared.refusal.Rule.{Rule}
use Rattle.machine.specs.declared.value.Value.{Value}
use Rattle.machine.specs.declared.value.Value.TheVariants.{Number, Truth, Cell}
use Rattle.machine.specs.declared.value.Outcome.{Outcome}
use Rattle.machine.specs.declared.value.Outcome.TheVariants.{Is, Foreign, Spent, Stuck}
use Rattle.operations.specs.declared.Who.{Who}
use Rattle.states.specs.declared.thread.ThreadWords.{ThreadWords}
use Rattle.acts.specs.Inner.Transitions.{TurnAnswer, TurnResult}
use Rattle.turns.specs.declared.counts.Counts.{Counts}
use Rattle.turns.specs.Inner.Acts.{then_acts, by_truth_in}
use Rattle.turns.specs.Inner.Actions.{after_value, by_truth_act, truth_or_stuck}
use Rattle.turns.proofs.SeenLaws.{Turns, refused_so}

pub after_turns : (o : Outcome) (n : ℕ) (who : Who) (counts : Counts) (k : Value → TurnAnswer)
    (f : ThreadWords → Value → TurnResult)
    → ((x : Value) → Turns (k x) n who counts (λ th. f th x))
    → Turns (after_value o k) n who counts (λ th. then_acts o th n (f th))
unfolding after_value
after_turns (Is x) n who counts k f h = h x
after_turns Foreign n who counts k f h = refused_so who counts Rule.Foreign n
after_turns Spent n who counts k f h = refused_so who counts Rule.CellsSpent n
after_turns Stuck n who counts k f h = refused_so who counts Rule.Stuck n

pub truth_turns : (x : Value) (n : ℕ) (who : Who) (counts : Counts) (a b : TurnAnswer)
    (f g : ThreadWords → TurnResult)
    → Turns a n who counts f → Turns b n who counts g
    → Turns (by_truth_act (truth_or_stuck x) a b) n who counts (λ th. by_truth_in x th n (f th) (g th))
truth_turns (Truth true) n who counts a b f g h k = h
truth_turns (Truth false) n who counts a b f g h k = k
truth_turns (Number m) n who counts a b f g h k = refused_so who counts Rule.Stuck n
truth_turns (Cell c) n who counts a b f g h k = refused_so who counts Rule.Stuck n
