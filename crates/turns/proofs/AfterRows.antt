-- The returns after an evaluation (evaluated.rt): a refusal, a value, and for 18 and 19 each value
-- of the condition. Assumes nothing.
use Rattle.std.specs.Prelude.{Result, Ok, Err}
use mathlib.Core.Path.{◌≡◌, sym, ap, ◌∙◌}
use mathlib.Core.Bool.{Bool, true, false}
use Prim.Native.Nat.{ℕ}
use Rattle.language.specs.declared.refusal.Rule.{Rule}
use Rattle.machine.specs.Words.{value_word}
use Rattle.machine.specs.declared.value.Value.{Value}
use Rattle.machine.specs.declared.value.Outcome.{Outcome}
use Rattle.acts.specs.Inner.Transitions.{TurnAnswer, turn_and_then}
use Rattle.turns.specs.declared.counts.Counts.{Counts}
use Rattle.turns.specs.Inner.Actions.{let_more, value_of, after_value, truth_or_stuck}
use Rattle.turns.specs.Inner.Actions.{by_truth_act, let_after}

-- ---- by what the evaluation gives
module _ (o : Outcome) (v : Result Value Rule) (z : v ≡ value_of o) (k : Value → TurnAnswer) where
  pub after_refused : (e : Rule) → v ≡ Err e → Err e ≡ after_value o k
  unfolding after_value
  after_refused e h = ap (λ (x : Result Value Rule). turn_and_then x k) (sym h ∙ z)

  pub after_is : (r : TurnAnswer) (x : Value) → v ≡ Ok x → r ≡ k x → r ≡ after_value o k
  unfolding after_value
  after_is r x h e = e ∙ ap (λ (x : Result Value Rule). turn_and_then x k) (sym h ∙ z)

-- a value that goes on as its word
pub after_lets : (o : Outcome) (v : Result Value Rule) → v ≡ value_of o → (x : Value) → v ≡ Ok x
    → (m : ℕ) → m ≡ value_word x → (r : TurnAnswer) (counts : Counts) (body : ℕ)
    → r ≡ let_more counts m body → r ≡ after_value o (let_after counts body)
after_lets o v z x h m e r counts body q =
    after_is o v z (let_after counts body) r x h (q ∙ ap (λ (w : ℕ). let_more counts w body) e)

-- ---- by the condition: a truth chooses, any other value is 20
module _
    (o : Outcome) (v : Result Value Rule) (z : v ≡ value_of o) (x : Value) (h : v ≡ Ok x)
    (t : Result Bool Rule) (y : t ≡ truth_or_stuck x) (k : Value → TurnAnswer) (a b : TurnAnswer)
    (f : k x ≡ by_truth_act (truth_or_stuck x) a b) where
  row : (r : TurnAnswer) → r ≡ by_truth_act t a b → r ≡ after_value o k
  row r e =
      after_is o v z k r x h (e ∙ ap (λ (c : Result Bool Rule). by_truth_act c a b) y ∙ sym f)

  pub truth_refused : (e : Rule) → t ≡ Err e → Err e ≡ after_value o k
  truth_refused e q = row (Err e) (ap (λ (c : Result Bool Rule). by_truth_act c a b) (sym q))

  module _ (c : Bool) (q : t ≡ Ok c) (r : TurnAnswer) where
    pub truth_yes : c ≡ true → r ≡ a → r ≡ after_value o k
    truth_yes d e =
        row r (e ∙ ap (λ (c : Result Bool Rule). by_truth_act c a b) (ap Ok (sym d) ∙ sym q))

    pub truth_no : c ≡ false → r ≡ b → r ≡ after_value o k
    truth_no d e =
        row r (e ∙ ap (λ (c : Result Bool Rule). by_truth_act c a b) (ap Ok (sym d) ∙ sym q))
