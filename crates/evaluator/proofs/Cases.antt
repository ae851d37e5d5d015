-- The returns of `value_at`, `number_at` and `truth_at`, a law for each: w are the state's words at
-- entry, t and u after an operand. Assumes nothing.
use mathlib.Core.Path.{◌≡◌, refl, sym, ap, ◌∙◌}
use mathlib.Core.List.{List}
use mathlib.Core.Bool.{true, false}
use Prim.Native.Nat.{ℕ}
use Rattle.text.specs.Frames.{frames_of}
use Rattle.program.specs.Trees.{Expr, expression_at}
use Rattle.program.specs.declared.node.Leaf.{Leaf}
use Rattle.program.specs.declared.node.CellUse.{CellUse}
use Rattle.program.specs.declared.node.CellUse.TheVariants.{Make, Read}
use Rattle.program.specs.declared.node.Operator.{Operator}
use Rattle.program.specs.declared.node.Operator.TheVariants.{Sum, Less}
use Rattle.program.specs.declared.node.ExpressionNode.{ExpressionNode}
use Rattle.program.specs.declared.node.ExpressionNode.TheVariants.{Plain, OfValue, OfNumbers}
use Rattle.program.specs.declared.node.ExpressionNode.TheVariants.{Choose}
use Rattle.program.proofs.NodeTrees.{tree_of, tree_at}
use Rattle.machine.specs.declared.value.Value.{Value}
use Rattle.machine.specs.declared.value.Outcome.{Outcome}
use Rattle.operations.specs.declared.Who.{Who}
use Rattle.operations.specs.declared.operand.Operand.{Operand}
use Rattle.operations.specs.Inner.Lent.{lent_count, lent_cells}
use Rattle.operations.specs.Inner.Results.{Result, result, result_in, and_then_in, only_by, keeping}
use Rattle.operations.specs.Inner.ByWords.{leaf_in, using_in, operation, a_truth, chosen, both_by}
use Rattle.operations.specs.Inner.ByWords.{operand_of, outcome_of, operand_stops, outcome_stops}
use Rattle.operations.specs.Inner.ByWords.{chosen_by}
use Rattle.evaluator.specs.Inner.Results.{FrameWords}
use Rattle.evaluator.specs.Inner.ByWords.{numbers_of, a_number_in, wanted_in, WantedResult}
use Rattle.evaluator.specs.Inner.ByWords.{wanted_number, eval_in, number_in, truth_in}
use Rattle.evaluator.proofs.Chains.{only_keeping, number_stopped, stopped_number}
use Rattle.evaluator.proofs.Chains.{stops_answer, stopped, numbers_ran, choice_ran}
use Rattle.evaluator.proofs.Nodes.{NodeAt}

module _ (fw vs : List ℕ) (who : Who) where
  -- the expression of a frame, and its evaluation on a state's words
  abbrev at : ℕ → Expr
  at = expression_at (frames_of fw)

  abbrev run : Expr → List ℕ → Result
  run x w = eval_in who x vs (lent_count w) (lent_cells w)

  -- what the recursion gives at frame i: as a value, as a number, as a truth
  abbrev Ran : ℕ → List ℕ → Result → Type 0
  Ran i w x = x ≡ run (at i) w

  abbrev RanNumber : ℕ → List ℕ → WantedResult → Type 0
  RanNumber i w x = x ≡ number_in who (at i) vs (lent_count w) (lent_cells w)

  abbrev RanTruth : ℕ → List ℕ → Result → Type 0
  RanTruth i w x = x ≡ truth_in who (at i) vs (lent_count w) (lent_cells w)

  -- what follows the first operand of 26 or 27, and the condition of 28
  abbrev second : Operator → ℕ → Value → ℕ → List ℕ → Result
  second op b v m us = and_then_in (eval_in who (at b) vs m us) (keeping (numbers_of (operation op) v))

  abbrev branch : ℕ → ℕ → Value → ℕ → List ℕ → Result
  branch b c v m us =
      and_then_in (chosen v (eval_in who (at b) vs m us) (eval_in who (at c) vs m us))
      (keeping a_number_in)

  -- a value as a number, and as a truth
  pub to_number : (i : ℕ) (w u : List ℕ) (o : Outcome) (p : Operand)
      → Ran i w (result_in o u) → p ≡ operand_of o → RanNumber i w (wanted_in p u)
  to_number i w u o p k z = ap (λ (q : Operand). wanted_in q u) z ∙ ap wanted_number k

  pub to_truth : (i : ℕ) (w u : List ℕ) (o r : Outcome)
      → Ran i w (result_in o u) → r ≡ only_by o a_truth → RanTruth i w (result_in r u)
  to_truth i w u o r k z =
      ap (λ (p : Outcome). result_in p u) z
      ∙ only_keeping o a_truth (lent_count u) (lent_cells u)
      ∙ ap (λ (x : Result). and_then_in x (keeping a_truth)) k

  -- a refusal as a truth: itself
  pub stopped_truth : (i : ℕ) (w u : List ℕ) (o : Outcome)
      → Ran i w (result_in o u) → outcome_stops o ≡ true → RanTruth i w (result_in o u)
  stopped_truth i w u o k h =
      stopped (result_in o u) (keeping a_truth) h
      ∙ ap (λ (x : Result). and_then_in x (keeping a_truth)) k

  module _ (i : ℕ) (w : List ℕ) (h : FrameWords fw i) where
    -- it is enough to meet the tree that the node makes
    at_node : (d : ExpressionNode) (r : Result)
        → NodeAt fw i d → r ≡ run (tree_of at i d) w → Ran i w r
    at_node d r e k =
        k ∙ ap (λ (x : Expr). run x w) (sym (tree_at (frames_of fw) i d h.ordered e))

    -- no operand
    leaf_tree : (l : Leaf)
        → result (leaf_in who vs l) (lent_count w) (lent_cells w) ≡ run (tree_of at i (Plain l)) w
    unfolding eval_in leaf_in
    leaf_tree (Leaf.Number m) = refl
    leaf_tree (Leaf.Truth s) = refl
    leaf_tree (Leaf.Variable s) = refl
    leaf_tree (Leaf.SharedCell s) = refl

    pub case_plain : (l : Leaf) (o : Outcome)
        → NodeAt fw i (Plain l) → o ≡ leaf_in who vs l → Ran i w (result_in o w)
    case_plain l o e q =
        at_node (Plain l) _ e (ap (λ (x : Outcome). result_in x w) q ∙ leaf_tree l)

    -- one operand
    using_tree : (u : CellUse) (a : ℕ)
        → and_then_in (run (at a) w) (using_in who u) ≡ run (tree_of at i (OfValue u a)) w
    unfolding eval_in
    using_tree (Make s) a = refl
    using_tree Read a = refl

    pub case_cells : (u : CellUse) (a : ℕ) (x r : Result)
        → NodeAt fw i (OfValue u a) → Ran a w x → r ≡ and_then_in x (using_in who u) → Ran i w r
    case_cells u a x r e q k =
        at_node (OfValue u a) r e
        (k ∙ ap (λ (y : Result). and_then_in y (using_in who u)) q ∙ using_tree u a)

    -- two numbers: the first is refused, or the second is evaluated on what the first left
    pub case_first : (op : Operator) (a b : ℕ) (p : Operand) (r : Outcome) (t : List ℕ)
        → NodeAt fw i (OfNumbers op a b) → RanNumber a w (wanted_in p t)
        → operand_stops p ≡ true → r ≡ outcome_of p → Ran i w (result_in r t)
    unfolding eval_in
    case_first op a b p r t e q s z =
        at_node (OfNumbers op a b) (result_in r t) e
        (ap (λ (o : Outcome). result_in o t) z ∙ go op)
      where
        go : (op : Operator) → result_in (outcome_of p) t ≡ run (tree_of at i (OfNumbers op a b)) w
        go Sum = number_stopped p (run (at a) w) t (second Sum b) q s
        go Less = number_stopped p (run (at a) w) t (second Less b) q s

    -- the same refusal where a number or a truth is wanted
    pub first_as_number : (op : Operator) (a b : ℕ) (p : Operand) (t : List ℕ)
        → NodeAt fw i (OfNumbers op a b) → RanNumber a w (wanted_in p t)
        → operand_stops p ≡ true → RanNumber i w (wanted_in p t)
    first_as_number op a b p t e q s =
        stopped_number p t s ∙ ap wanted_number (case_first op a b p (outcome_of p) t e q s refl)

    pub first_as_truth : (op : Operator) (a b : ℕ) (p : Operand) (r : Outcome) (t : List ℕ)
        → NodeAt fw i (OfNumbers op a b) → RanNumber a w (wanted_in p t)
        → operand_stops p ≡ true → r ≡ outcome_of p → RanTruth i w (result_in r t)
    first_as_truth op a b p r t e q s z =
        stopped_truth i w t r (case_first op a b p r t e q s z)
        (ap outcome_stops z ∙ stops_answer p s)

    pub case_both : (op : Operator) (a b : ℕ) (p q : Operand) (r : Outcome) (t u : List ℕ)
        → NodeAt fw i (OfNumbers op a b) → RanNumber a w (wanted_in p t)
        → operand_stops p ≡ false → RanNumber b t (wanted_in q u)
        → r ≡ both_by op p q → Ran i w (result_in r u)
    unfolding eval_in
    case_both op a b p q r t u e x s y z =
        at_node (OfNumbers op a b) (result_in r u) e
        (ap (λ (o : Outcome). result_in o u) z ∙ go op)
      where
        go : (op : Operator) → result_in (both_by op p q) u ≡ run (tree_of at i (OfNumbers op a b)) w
        go Sum = numbers_ran Sum (eval_in who (at b) vs) (run (at a) w) p q t u x s y
        go Less = numbers_ran Less (eval_in who (at b) vs) (run (at a) w) p q t u x s y

    -- a truth, and after it one of two numbers
    pub case_condition : (a b c : ℕ) (o : Outcome) (t : List ℕ)
        → NodeAt fw i (Choose a b c) → RanTruth a w (result_in o t)
        → outcome_stops o ≡ true → Ran i w (result_in o t)
    unfolding eval_in
    case_condition a b c o t e q s =
        at_node (Choose a b c) (result_in o t) e
        (stopped (result_in o t) (branch b c) s ∙ ap (λ (x : Result). and_then_in x (branch b c)) q)

    pub case_choice : (a b c j : ℕ) (o : Outcome) (p : Operand) (r : Outcome) (t u : List ℕ)
        → NodeAt fw i (Choose a b c) → RanTruth a w (result_in o t)
        → outcome_stops o ≡ false → j ≡ chosen_by o b c → RanNumber j t (wanted_in p u)
        → r ≡ outcome_of p → Ran i w (result_in r u)
    unfolding eval_in
    case_choice a b c j o p r t u e q s d k z =
        at_node (Choose a b c) (result_in r u) e
        (ap (λ (x : Outcome). result_in x u) z
        ∙ choice_ran (λ f m us. eval_in who (at f) vs m us) b c j o p t u s d k
        ∙ ap (λ (x : Result). and_then_in x (branch b c)) q)
