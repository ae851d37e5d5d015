-- `value_at`, `number_at` and `truth_at` meet their contracts: one proof for the cycle. Assumes
-- nothing.
use mathlib.Core.Path.{refl, sym, ◌∙◌}
use Rattle.evaluator.proofs.Nodes.{operands_below, branch_below}
use Rattle.evaluator.proofs.Cases.{case_plain, case_cells, case_first, first_as_number}
use Rattle.evaluator.proofs.Cases.{first_as_truth, case_both, case_condition, case_choice}
use Rattle.evaluator.proofs.Cases.{to_number, to_truth, stopped_truth}
use Rattle.evaluator.proofs.InPlace.{falls_in, again_number}
use Rattle.evaluator.proofs.evaluation.+number_at_truth_at_value_at.Goals as goal

pub number_at-node_at-requires : goal.number_at-node_at-requires
number_at-node_at-requires t c = c.requires.0

pub number_at-leaf_at-requires : goal.number_at-leaf_at-requires
number_at-leaf_at-requires t c =
    c.requires.1

pub number_at-value_at-x-requires : goal.number_at-value_at-x-requires
number_at-value_at-x-requires t c =
    let fs = c.args.frames.now in
    let w = c.args.state.now in
    let is = sym c.in-OfValue.is ∙ c.node_at.ensures in
    let below = operands_below fs _ _ (c.requires.0) is in
    falls_in fs _ _ _ _ w _
    ((c.decreases, c.requires)) below refl

pub number_at-number_at-p-requires : goal.number_at-number_at-p-requires
number_at-number_at-p-requires t c =
    let fs = c.args.frames.now in
    let w = c.args.state.now in
    let is = sym c.in-OfNumbers.is ∙ c.node_at.ensures in
    let below = (operands_below fs _ _ (c.requires.0) is).0 in
    falls_in fs _ _ _ _ w _
    ((c.decreases, c.requires)) below refl

pub number_at-returns-then-number_stops : goal.number_at-returns-then-number_stops
number_at-returns-then-number_stops t c =
    let fs = c.args.frames.now in
    let is = sym c.in-OfNumbers.is ∙ c.node_at.ensures in
    let stops = sym c.number_stops.ensures ∙ c.if-number_stops.true in record {
      found = first_as_number fs _ _ _ _ (c.requires.0) _ _ _
          c.number_at-p.result _ is
          c.number_at-p.ensures.found stops;
      rest = c.number_at-p.ensures.rest;
    }

pub number_at-number_at-q-requires : goal.number_at-number_at-q-requires
number_at-number_at-q-requires t c =
    let fs = c.args.frames.now in
    let w = c.args.state.now in
    let is = sym c.in-OfNumbers.is ∙ c.node_at.ensures in
    let below = (operands_below fs _ _ (c.requires.0) is).1 in
    falls_in fs _ _ _ _ w _
    ((c.decreases, c.requires)) below c.number_at-p.ensures.rest

pub number_at-truth_at-x-requires : goal.number_at-truth_at-x-requires
number_at-truth_at-x-requires t c =
    let fs = c.args.frames.now in
    let w = c.args.state.now in
    let is = sym c.in-Choose.is ∙ c.node_at.ensures in
    let below = (operands_below fs _ _ (c.requires.0) is).0 in
    falls_in fs _ _ _ _ w _
    ((c.decreases, c.requires)) below refl

pub number_at-returns-then-stops : goal.number_at-returns-then-stops
number_at-returns-then-stops t c =
    let fs = c.args.frames.now in
    let is = sym c.in-Choose.is ∙ c.node_at.ensures in
    let stops = sym c.stops.ensures ∙ c.if-stops.true in record {
      found = to_number fs _ _ _ _ _ c.truth_at-x.result _
          (case_condition fs _ _ _ _ (c.requires.0) _ _ _
          c.truth_at-x.result _ is
          c.truth_at-x.ensures.found stops)
          c.as_number-then-stops.ensures;
      rest = c.truth_at-x.ensures.rest;
    }

pub number_at-number_at-p-requires-in-Choose : goal.number_at-number_at-p-requires-in-Choose
number_at-number_at-p-requires-in-Choose t c =
    let fs = c.args.frames.now in
    let w = c.args.state.now in
    let is = sym c.in-Choose.is ∙ c.node_at.ensures in
    let below =
    branch_below fs _ _ _ _ _ c.truth_at-x.result (c.requires.0) is c.branch-x.ensures in
    falls_in fs _ _ _ _ w _
    ((c.decreases, c.requires)) below c.truth_at-x.ensures.rest

pub number_at-returns-in-Plain : goal.number_at-returns-in-Plain
number_at-returns-in-Plain t c =
    let fs = c.args.frames.now in
    let is = sym c.in-Plain.is ∙ c.node_at.ensures in record {
      found = to_number fs _ _ _ _ _ c.leaf_at.result _
          (case_plain fs _ _ _ _ (c.requires.0) _ _ is c.leaf_at.ensures)
          c.as_number.ensures;
      rest = refl;
    }

pub number_at-returns-in-OfValue : goal.number_at-returns-in-OfValue
number_at-returns-in-OfValue t c =
    let fs = c.args.frames.now in
    let is = sym c.in-OfValue.is ∙ c.node_at.ensures in record {
      found = to_number fs _ _ _ _ _ c.then_use.result _
          (case_cells fs _ _ _ _ (c.requires.0) _ _ _ _ is
          c.value_at-x.ensures.found c.then_use.ensures.found)
          c.as_number-in-OfValue.ensures;
      rest = c.then_use.ensures.rest ∙ c.value_at-x.ensures.rest;
    }

pub number_at-returns-else-number_stops : goal.number_at-returns-else-number_stops
number_at-returns-else-number_stops t c =
    let fs = c.args.frames.now in
    let w = c.args.state.now in
    let is = sym c.in-OfNumbers.is ∙ c.node_at.ensures in
    let stops = sym c.number_stops.ensures ∙ c.if-number_stops.false in
    let second =
    again_number fs _ _ w _ _
    (c.requires.1) c.number_at-p.ensures.rest c.number_at-q.ensures.found in record {
      found = to_number fs _ _ _ _ _ c.operated.result _
          (case_both fs _ _ _ _ (c.requires.0) _ _ _
          c.number_at-p.result c.number_at-q.result _ _ _ is
          c.number_at-p.ensures.found stops second c.operated.ensures)
          c.as_number-in-OfNumbers.ensures;
      rest = c.number_at-q.ensures.rest ∙ c.number_at-p.ensures.rest;
    }

pub number_at-returns-else-stops : goal.number_at-returns-else-stops
number_at-returns-else-stops t c =
    let fs = c.args.frames.now in
    let w = c.args.state.now in
    let is = sym c.in-Choose.is ∙ c.node_at.ensures in
    let stops = sym c.stops.ensures ∙ c.if-stops.false in
    let second =
    again_number fs _ _ w _ _
    (c.requires.1) c.truth_at-x.ensures.rest c.number_at-p-in-Choose.ensures.found in record {
      found = to_number fs _ _ _ _ _ c.as_answer.result _
          (case_choice fs _ _ _ _ (c.requires.0) _ _ _ _
          c.truth_at-x.result c.number_at-p-in-Choose.result _ _ _ is
          c.truth_at-x.ensures.found stops c.branch-x.ensures second
          c.as_answer.ensures)
          c.as_number-in-Choose.ensures;
      rest = c.number_at-p-in-Choose.ensures.rest ∙ c.truth_at-x.ensures.rest;
    }

pub truth_at-node_at-requires : goal.truth_at-node_at-requires
truth_at-node_at-requires t c = c.requires.0

pub truth_at-leaf_at-requires : goal.truth_at-leaf_at-requires
truth_at-leaf_at-requires t c =
    c.requires.1

pub truth_at-value_at-x-requires : goal.truth_at-value_at-x-requires
truth_at-value_at-x-requires t c =
    let fs = c.args.frames.now in
    let w = c.args.state.now in
    let is = sym c.in-OfValue.is ∙ c.node_at.ensures in
    let below = operands_below fs _ _ (c.requires.0) is in
    falls_in fs _ _ _ _ w _
    ((c.decreases, c.requires)) below refl

pub truth_at-number_at-p-requires : goal.truth_at-number_at-p-requires
truth_at-number_at-p-requires t c =
    let fs = c.args.frames.now in
    let w = c.args.state.now in
    let is = sym c.in-OfNumbers.is ∙ c.node_at.ensures in
    let below = (operands_below fs _ _ (c.requires.0) is).0 in
    falls_in fs _ _ _ _ w _
    ((c.decreases, c.requires)) below refl

pub truth_at-returns-then-number_stops : goal.truth_at-returns-then-number_stops
truth_at-returns-then-number_stops t c =
    let fs = c.args.frames.now in
    let is = sym c.in-OfNumbers.is ∙ c.node_at.ensures in
    let stops = sym c.number_stops.ensures ∙ c.if-number_stops.true in record {
      found = first_as_truth fs _ _ _ _ (c.requires.0) _ _ _
          c.number_at-p.result _ _ is
          c.number_at-p.ensures.found stops c.as_answer.ensures;
      rest = c.number_at-p.ensures.rest;
    }

pub truth_at-number_at-q-requires : goal.truth_at-number_at-q-requires
truth_at-number_at-q-requires t c =
    let fs = c.args.frames.now in
    let w = c.args.state.now in
    let is = sym c.in-OfNumbers.is ∙ c.node_at.ensures in
    let below = (operands_below fs _ _ (c.requires.0) is).1 in
    falls_in fs _ _ _ _ w _
    ((c.decreases, c.requires)) below c.number_at-p.ensures.rest

pub truth_at-truth_at-x-requires : goal.truth_at-truth_at-x-requires
truth_at-truth_at-x-requires t c =
    let fs = c.args.frames.now in
    let w = c.args.state.now in
    let is = sym c.in-Choose.is ∙ c.node_at.ensures in
    let below = (operands_below fs _ _ (c.requires.0) is).0 in
    falls_in fs _ _ _ _ w _
    ((c.decreases, c.requires)) below refl

pub truth_at-returns-then-stops : goal.truth_at-returns-then-stops
truth_at-returns-then-stops t c =
    let fs = c.args.frames.now in
    let is = sym c.in-Choose.is ∙ c.node_at.ensures in
    let stops = sym c.stops.ensures ∙ c.if-stops.true in record {
      found = stopped_truth fs _ _ _ _ _ c.truth_at-x.result
          (case_condition fs _ _ _ _ (c.requires.0) _ _ _
          c.truth_at-x.result _ is
          c.truth_at-x.ensures.found stops)
          stops;
      rest = c.truth_at-x.ensures.rest;
    }

pub truth_at-number_at-p-requires-in-Choose : goal.truth_at-number_at-p-requires-in-Choose
truth_at-number_at-p-requires-in-Choose t c =
    let fs = c.args.frames.now in
    let w = c.args.state.now in
    let is = sym c.in-Choose.is ∙ c.node_at.ensures in
    let below =
    branch_below fs _ _ _ _ _ c.truth_at-x.result (c.requires.0) is c.branch-x.ensures in
    falls_in fs _ _ _ _ w _
    ((c.decreases, c.requires)) below c.truth_at-x.ensures.rest

pub truth_at-returns-in-Plain : goal.truth_at-returns-in-Plain
truth_at-returns-in-Plain t c =
    let fs = c.args.frames.now in
    let is = sym c.in-Plain.is ∙ c.node_at.ensures in record {
      found = to_truth fs _ _ _ _ _ c.leaf_at.result _
          (case_plain fs _ _ _ _ (c.requires.0) _ _ is c.leaf_at.ensures)
          c.then_truth.ensures;
      rest = refl;
    }

pub truth_at-returns-in-OfValue : goal.truth_at-returns-in-OfValue
truth_at-returns-in-OfValue t c =
    let fs = c.args.frames.now in
    let is = sym c.in-OfValue.is ∙ c.node_at.ensures in record {
      found = to_truth fs _ _ _ _ _ c.then_use.result _
          (case_cells fs _ _ _ _ (c.requires.0) _ _ _ _ is
          c.value_at-x.ensures.found c.then_use.ensures.found)
          c.then_truth-in-OfValue.ensures;
      rest = c.then_use.ensures.rest ∙ c.value_at-x.ensures.rest;
    }

pub truth_at-returns-else-number_stops : goal.truth_at-returns-else-number_stops
truth_at-returns-else-number_stops t c =
    let fs = c.args.frames.now in
    let w = c.args.state.now in
    let is = sym c.in-OfNumbers.is ∙ c.node_at.ensures in
    let stops = sym c.number_stops.ensures ∙ c.if-number_stops.false in
    let second =
    again_number fs _ _ w _ _
    (c.requires.1) c.number_at-p.ensures.rest c.number_at-q.ensures.found in record {
      found = to_truth fs _ _ _ _ _ c.operated.result _
          (case_both fs _ _ _ _ (c.requires.0) _ _ _
          c.number_at-p.result c.number_at-q.result _ _ _ is
          c.number_at-p.ensures.found stops second c.operated.ensures)
          c.then_truth-in-OfNumbers.ensures;
      rest = c.number_at-q.ensures.rest ∙ c.number_at-p.ensures.rest;
    }

pub truth_at-returns-else-stops : goal.truth_at-returns-else-stops
truth_at-returns-else-stops t c =
    let fs = c.args.frames.now in
    let w = c.args.state.now in
    let is = sym c.in-Choose.is ∙ c.node_at.ensures in
    let stops = sym c.stops.ensures ∙ c.if-stops.false in
    let second =
    again_number fs _ _ w _ _
    (c.requires.1) c.truth_at-x.ensures.rest c.number_at-p-in-Choose.ensures.found in record {
      found = to_truth fs _ _ _ _ _ c.as_answer-in-Choose.result _
          (case_choice fs _ _ _ _ (c.requires.0) _ _ _ _
          c.truth_at-x.result c.number_at-p-in-Choose.result _ _ _ is
          c.truth_at-x.ensures.found stops c.branch-x.ensures second
          c.as_answer-in-Choose.ensures)
          c.then_truth-in-Choose.ensures;
      rest = c.number_at-p-in-Choose.ensures.rest ∙ c.truth_at-x.ensures.rest;
    }

pub value_at-node_at-requires : goal.value_at-node_at-requires
value_at-node_at-requires t c = c.requires.0

pub value_at-leaf_at-requires : goal.value_at-leaf_at-requires
value_at-leaf_at-requires t c =
    c.requires.1

pub value_at-value_at-x-requires : goal.value_at-value_at-x-requires
value_at-value_at-x-requires t c =
    let fs = c.args.frames.now in
    let w = c.args.state.now in
    let is = sym c.in-OfValue.is ∙ c.node_at.ensures in
    let below = operands_below fs _ _ (c.requires.0) is in
    falls_in fs _ _ _ _ w _
    ((c.decreases, c.requires)) below refl

pub value_at-number_at-p-requires : goal.value_at-number_at-p-requires
value_at-number_at-p-requires t c =
    let fs = c.args.frames.now in
    let w = c.args.state.now in
    let is = sym c.in-OfNumbers.is ∙ c.node_at.ensures in
    let below = (operands_below fs _ _ (c.requires.0) is).0 in
    falls_in fs _ _ _ _ w _
    ((c.decreases, c.requires)) below refl

pub value_at-returns-then-number_stops : goal.value_at-returns-then-number_stops
value_at-returns-then-number_stops t c =
    let fs = c.args.frames.now in
    let is = sym c.in-OfNumbers.is ∙ c.node_at.ensures in
    let stops = sym c.number_stops.ensures ∙ c.if-number_stops.true in record {
      found = case_first fs _ _ _ _ (c.requires.0) _ _ _
          c.number_at-p.result _ _ is
          c.number_at-p.ensures.found stops c.as_answer.ensures;
      rest = c.number_at-p.ensures.rest;
    }

pub value_at-number_at-q-requires : goal.value_at-number_at-q-requires
value_at-number_at-q-requires t c =
    let fs = c.args.frames.now in
    let w = c.args.state.now in
    let is = sym c.in-OfNumbers.is ∙ c.node_at.ensures in
    let below = (operands_below fs _ _ (c.requires.0) is).1 in
    falls_in fs _ _ _ _ w _
    ((c.decreases, c.requires)) below c.number_at-p.ensures.rest

pub value_at-truth_at-x-requires : goal.value_at-truth_at-x-requires
value_at-truth_at-x-requires t c =
    let fs = c.args.frames.now in
    let w = c.args.state.now in
    let is = sym c.in-Choose.is ∙ c.node_at.ensures in
    let below = (operands_below fs _ _ (c.requires.0) is).0 in
    falls_in fs _ _ _ _ w _
    ((c.decreases, c.requires)) below refl

pub value_at-returns-then-stops : goal.value_at-returns-then-stops
value_at-returns-then-stops t c =
    let fs = c.args.frames.now in
    let is = sym c.in-Choose.is ∙ c.node_at.ensures in
    let stops = sym c.stops.ensures ∙ c.if-stops.true in record {
      found = case_condition fs _ _ _ _ (c.requires.0) _ _ _
          c.truth_at-x.result _ is
          c.truth_at-x.ensures.found stops;
      rest = c.truth_at-x.ensures.rest;
    }

pub value_at-number_at-p-requires-in-Choose : goal.value_at-number_at-p-requires-in-Choose
value_at-number_at-p-requires-in-Choose t c =
    let fs = c.args.frames.now in
    let w = c.args.state.now in
    let is = sym c.in-Choose.is ∙ c.node_at.ensures in
    let below =
    branch_below fs _ _ _ _ _ c.truth_at-x.result (c.requires.0) is c.branch-x.ensures in
    falls_in fs _ _ _ _ w _
    ((c.decreases, c.requires)) below c.truth_at-x.ensures.rest

pub value_at-returns-in-Plain : goal.value_at-returns-in-Plain
value_at-returns-in-Plain t c =
    let fs = c.args.frames.now in
    let is = sym c.in-Plain.is ∙ c.node_at.ensures in record { found = case_plain fs _ _ _ _ (c.requires.0) _ _ is c.leaf_at.ensures; rest = refl }

pub value_at-returns-in-OfValue : goal.value_at-returns-in-OfValue
value_at-returns-in-OfValue t c =
    let fs = c.args.frames.now in
    let is = sym c.in-OfValue.is ∙ c.node_at.ensures in record {
      found = case_cells fs _ _ _ _ (c.requires.0) _ _ _ _ is
          c.value_at-x.ensures.found c.then_use.ensures.found;
      rest = c.then_use.ensures.rest ∙ c.value_at-x.ensures.rest;
    }

pub value_at-returns-else-number_stops : goal.value_at-returns-else-number_stops
value_at-returns-else-number_stops t c =
    let fs = c.args.frames.now in
    let w = c.args.state.now in
    let is = sym c.in-OfNumbers.is ∙ c.node_at.ensures in
    let stops = sym c.number_stops.ensures ∙ c.if-number_stops.false in
    let second =
    again_number fs _ _ w _ _
    (c.requires.1) c.number_at-p.ensures.rest c.number_at-q.ensures.found in record {
      found = case_both fs _ _ _ _ (c.requires.0) _ _ _
          c.number_at-p.result c.number_at-q.result _ _ _ is
          c.number_at-p.ensures.found stops second c.operated.ensures;
      rest = c.number_at-q.ensures.rest ∙ c.number_at-p.ensures.rest;
    }

pub value_at-returns-else-stops : goal.value_at-returns-else-stops
value_at-returns-else-stops t c =
    let fs = c.args.frames.now in
    let w = c.args.state.now in
    let is = sym c.in-Choose.is ∙ c.node_at.ensures in
    let stops = sym c.stops.ensures ∙ c.if-stops.false in
    let second =
    again_number fs _ _ w _ _
    (c.requires.1) c.truth_at-x.ensures.rest c.number_at-p-in-Choose.ensures.found in record {
      found = case_choice fs _ _ _ _ (c.requires.0) _ _ _ _
          c.truth_at-x.result c.number_at-p-in-Choose.result _ _ _ is
          c.truth_at-x.ensures.found stops c.branch-x.ensures second
          c.as_answer-in-Choose.ensures;
      rest = c.number_at-p-in-Choose.ensures.rest ∙ c.truth_at-x.ensures.rest;
    }
