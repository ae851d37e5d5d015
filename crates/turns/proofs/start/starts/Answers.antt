-- `starts` meets its contract.
use mathlib.Core.Path.{◌∙◌}
use borrow.Author.Rules.{rules}
use Rattle.text.specs.Frames.{frames_of}
use Rattle.program.specs.Trees.{expression_at}
use Rattle.operations.specs.Inner.Lent.{lent_count, lent_cells}
use Rattle.evaluator.proofs.InPlace.{lent_again}
use Rattle.acts.proofs.Raised.{raised}
use Rattle.turns.proofs.StartRows.{cells_after, values_again, variables_again}
use Rattle.turns.proofs.StartRows.{starts_none, starts_one, starts_refused, starts_two}
use Rattle.turns.proofs.StartRows.{starts_second_refused}
use Rattle.turns.proofs.start.starts.Goals as goal

pub returns-then-a-eq0 : goal.returns-then-a-eq0
returns-then-a-eq0 c = record { found = search starts_none; rest = search rules }

pub returns-in_err-v : goal.returns-in_err-v
returns-in_err-v c =
    record {
      found = starts_refused (expression_at (frames_of c.args.frames.now)) _ c.args.q _
          (lent_count c.args.state.now) (lent_cells c.args.state.now) _ _ _ c.evaluate-x.result _ _
          c.if-a-eq0.false c.evaluate-x.ensures.found _ c.value_of.ensures _ c.in_err-v.was
          (raised _ _ c.from_residual.ensures.1);
      rest = c.evaluate-x.ensures.rest;
    }

pub returns-then-b-eq0 : goal.returns-then-b-eq0
returns-then-b-eq0 c =
    record {
      found = starts_one (expression_at (frames_of c.args.frames.now)) _ c.args.q _
          (lent_count c.args.state.now) (lent_cells c.args.state.now) _ _ _ c.evaluate-x.result _ _
          c.if-a-eq0.false c.evaluate-x.ensures.found _ c.value_of.ensures _ c.in_ok-v.was _
          c.value_word-first.ensures.0 c.if-b-eq0.true c.starts_with-then-b-eq0.ensures;
      rest = c.evaluate-x.ensures.rest;
    }

pub evaluate-y-requires : goal.evaluate-y-requires
evaluate-y-requires c =
    let words = c.requires.2 in
    let kept = c.evaluate-x.ensures.rest in (
      c.requires.1,
      record {
        lent = lent_again _ _ _ words.lent kept;
        variables = values_again _ _ _ words.lent kept words.variables;
        heap = search cells_after;
      },
    )

pub returns-in_err-w : goal.returns-in_err-w
returns-in_err-w c =
    let kept = c.evaluate-x.ensures.rest in
    let found = c.evaluate-y.ensures.found in record {
      found = starts_second_refused (expression_at (frames_of c.args.frames.now)) _ c.args.q _
          (lent_count c.args.state.now) (lent_cells c.args.state.now) _ _ _ c.evaluate-x.result _ _
          c.if-a-eq0.false c.evaluate-x.ensures.found _ c.value_of.ensures _ c.in_ok-v.was _
          c.value_word-first.ensures.0 c.evaluate-y.result _ _ c.if-b-eq0.false
          (variables_again _ _ _ c.requires.2.lent kept _ _ _ _ found) _ c.value_of-2.ensures _
          c.in_err-w.was (raised _ _ c.from_residual-in_err-w.ensures.1);
      rest = c.evaluate-y.ensures.rest ∙ kept;
    }

pub returns : goal.returns
returns c =
    let kept = c.evaluate-x.ensures.rest in
    let found = c.evaluate-y.ensures.found in record {
      found = starts_two (expression_at (frames_of c.args.frames.now)) _ c.args.q _
          (lent_count c.args.state.now) (lent_cells c.args.state.now) _ _ _ c.evaluate-x.result _ _
          c.if-a-eq0.false c.evaluate-x.ensures.found _ c.value_of.ensures _ c.in_ok-v.was _
          c.value_word-first.ensures.0 c.evaluate-y.result _ _ c.if-b-eq0.false
          (variables_again _ _ _ c.requires.2.lent kept _ _ _ _ found) _ c.value_of-2.ensures _ _
          c.in_ok-w.was c.value_word.ensures.0 c.starts_with-2.ensures;
      rest = c.evaluate-y.ensures.rest ∙ kept;
    }
