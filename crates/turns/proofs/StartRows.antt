-- The returns of `starts` (13 and 14): no argument, one, or two of which the second is evaluated
-- on the cells that the first left. Assumes nothing.
use mathlib.Core.Path.{◌≡◌, refl, sym, ap, ◌∙◌, subst}
use mathlib.Core.List.{List, [], ◌∷◌}
use Prim.Native.Nat.{ℕ, zero, suc}
use native.Mathlib.Omega.{arith}
use native.Mathlib.Decide.{ℕ_discrete}
use Rattle.text.specs.Frames.{frames_of}
use Rattle.program.specs.Trees.{Expr, arguments, expression_at}
use Rattle.machine.specs.Words.{value_word}
use Rattle.machine.specs.declared.value.Value.{Value}
use Rattle.machine.specs.declared.value.Outcome.{Outcome}
use Rattle.operations.specs.declared.Who.{Who}
use Rattle.operations.specs.Inner.Lent.{Lent, lent_variables, lent_rest}
use Rattle.operations.specs.Inner.Results.{Result, result}
use Rattle.evaluator.specs.Inner.Results.{evaluated_on, HeapWords, ValueWords}
use Rattle.evaluator.proofs.Agreement.{eval_leaves}
use Rattle.evaluator.proofs.InPlace.{variables_kept}
use Rattle.std.specs.Prelude.{Ok, Err}
use Rattle.std.specs.Prelude.{Result as OkErr}
use Rattle.language.specs.declared.refusal.Rule.{Rule}
use Rattle.acts.specs.Inner.Transitions.{TurnAnswer, arguments_of}
use Rattle.turns.specs.declared.start.Request.{Request}
use Rattle.turns.specs.Inner.Actions.{ActResult, act_result, value_of, after_value, start_with}
use Rattle.turns.specs.Inner.Actions.{start_one}
use Rattle.turns.specs.Inner.Actions.{start_two, act_after, first_then, both_arguments, start_act}
use Rattle.turns.proofs.AfterRows.{after_refused, after_is}

-- after an evaluation the cells may be lent again
pub cells_after : (fw vs : List ℕ) (who : Who) (i n : ℕ) (ws : List ℕ)
    (x : Outcome) (m : ℕ) (us : List ℕ)
    → result x m us ≡ evaluated_on who (expression_at (frames_of fw) i) vs n ws
    → ValueWords vs → HeapWords n ws → HeapWords m us
cells_after fw vs who i n ws x m us e h g = eval_leaves fw vs who i n ws (result x m us) h g e

-- after an evaluation the thread's variables are as before
module _
    (who : Who) (w v : List ℕ) (l : Lent who w) (e : lent_rest v ≡ lent_rest w) where
  pub values_again : ValueWords (lent_variables who w) → ValueWords (lent_variables who v)
  values_again h = subst ValueWords (sym (variables_kept who w v e l)) h

  pub variables_again : (x : Expr) (n : ℕ) (ws : List ℕ) (y : Result)
      → y ≡ evaluated_on who x (lent_variables who v) n ws
      → y ≡ evaluated_on who x (lent_variables who w) n ws
  variables_again x n ws y h =
      h ∙ ap (λ (vs : List ℕ). evaluated_on who x vs n ws) (variables_kept who w v e l)

-- ---- the frames a and b as arguments, where 0 is none
module _ (expr : ℕ → Expr) where
  arguments_one : (a b : ℕ) → (a ≡ 0 → ⊥) → b ≡ 0 → arguments expr a b ≡ (expr a ∷ [])
  arguments_one zero b h k = absurd (h refl)
  arguments_one (suc a) zero h k = refl
  arguments_one (suc a) (suc b) h k = absurd (omega arith)

  arguments_two : (a b : ℕ) → (a ≡ 0 → ⊥) → (b ≡ 0 → ⊥)
      → arguments expr a b ≡ (expr a ∷ expr b ∷ [])
  arguments_two zero b h k = absurd (h refl)
  arguments_two (suc a) zero h k = absurd (k refl)
  arguments_two (suc a) (suc b) h k = refl

-- ---- the returns; x is the first argument's outcome, with m cells in use after it, whose words
-- are us
module _
    (expr : ℕ → Expr) (who : Who) (q : Request) (vs : List ℕ) (n : ℕ) (ws : List ℕ) (a b : ℕ)
    (r : TurnAnswer) where
  abbrev Starts : ℕ → List ℕ → Type 0
  Starts m us = act_result r m us ≡ start_act who q (arguments expr a b) vs n ws

  pub starts_none : a ≡ 0 → r ≡ start_with q (arguments_of 0 0 0) → Starts n ws
  starts_none h e =
      ap (λ (z : TurnAnswer). act_result z n ws) e
      ∙ ap (λ (m : ℕ). start_act who q (arguments expr m b) vs n ws) (sym h)

  module _
      (x : Outcome) (m : ℕ) (us : List ℕ) (h : a ≡ 0 → ⊥)
      (e : result x m us ≡ evaluated_on who (expr a) vs n ws) where
    one : b ≡ 0
        → act_after (result x m us) (start_one q) ≡ start_act who q (arguments expr a b) vs n ws
    one k =
        ap (λ (y : Result). act_after y (start_one q)) e
        ∙ ap (λ (xs : List Expr). start_act who q xs vs n ws) (sym (arguments_one expr a b h k))

    both : (b ≡ 0 → ⊥)
        → both_arguments who q vs (expr b) (result x m us)
        ≡ start_act who q (arguments expr a b) vs n ws
    both k =
        ap (both_arguments who q vs (expr b)) e
        ∙ ap (λ (xs : List Expr). start_act who q xs vs n ws) (sym (arguments_two expr a b h k))

    module _ (g : OkErr Value Rule) (o : g ≡ value_of x) where
      -- the first argument is refused, whether or not there is a second
      pub starts_refused : (c : Rule) → g ≡ Err c → r ≡ Err c → Starts m us
      starts_refused c l z = ap (λ (y : TurnAnswer). act_result y m us) z ∙ by (ℕ_discrete b 0)
        where
          rest : Value → ActResult
          rest w = act_after (evaluated_on who (expr b) vs m us) (start_two q (value_word w))

          by : Dec (b ≡ 0)
              → act_result (Err c) m us ≡ start_act who q (arguments expr a b) vs n ws
          by (yes k) =
              ap (λ (y : TurnAnswer). act_result y m us) (after_refused x g o (start_one q) c l)
              ∙ one k
          by (no k) =
              ap (λ (y : OkErr Value Rule). first_then y m us rest) (sym l ∙ o) ∙ both k

      module _ (w : Value) (l : g ≡ Ok w) (v : ℕ) (d : v ≡ value_word w) where
        pub starts_one : b ≡ 0 → r ≡ start_with q (arguments_of 1 v 0) → Starts m us
        starts_one k z =
            ap (λ (y : TurnAnswer). act_result y m us)
            (after_is x g o (start_one q) r w l
            (z ∙ ap (λ (c : ℕ). start_with q (arguments_of 1 c 0)) d))
            ∙ one k

        -- y is the second argument's outcome, with p cells in use after it, whose words are ys
        module _
            (y : Outcome) (p : ℕ) (ys : List ℕ) (k : b ≡ 0 → ⊥)
            (f : result y p ys ≡ evaluated_on who (expr b) vs m us) where
          after_both : r ≡ after_value y (start_two q v) → Starts p ys
          after_both z =
              ap (λ (c : TurnAnswer). act_result c p ys) z
              ∙ ap (λ (c : ℕ). act_after (result y p ys) (start_two q c)) d
              ∙ ap (λ (c : Result). act_after c (start_two q (value_word w))) f
              ∙ ap (λ (c : OkErr Value Rule). first_then c m us rest) (sym l ∙ o)
              ∙ both k
            where
              rest : Value → ActResult
              rest u = act_after (evaluated_on who (expr b) vs m us) (start_two q (value_word u))

          module _ (h2 : OkErr Value Rule) (o2 : h2 ≡ value_of y) where
            pub starts_second_refused : (c : Rule) → h2 ≡ Err c → r ≡ Err c → Starts p ys
            starts_second_refused c l2 z =
                after_both (z ∙ after_refused y h2 o2 (start_two q v) c l2)

            pub starts_two : (u : Value) (c : ℕ) → h2 ≡ Ok u → c ≡ value_word u
                → r ≡ start_with q (arguments_of 2 v c) → Starts p ys
            starts_two u c l2 e z =
                after_both
                (after_is y h2 o2 (start_two q v) r u l2
                (z ∙ ap (λ (t : ℕ). start_with q (arguments_of 2 v t)) e))
