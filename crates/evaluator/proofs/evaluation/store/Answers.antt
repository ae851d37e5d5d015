-- `store` meets its contract.
use mathlib.Core.Path.{◌∙◌}
use Rattle.operations.specs.Inner.Results.{result_in}
use Rattle.evaluator.proofs.Agreement.{store_runs, store_keeps}
use Rattle.evaluator.proofs.InPlace.{lent_again, again_value}
use Rattle.evaluator.proofs.evaluation.store.Goals as goal

pub value_at-y-requires : goal.value_at-y-requires
value_at-y-requires c =
    let w = c.args.state.now in (
      c.requires.1,
      lent_again _ w _ c.requires.2.lent c.value_at-x.ensures.rest,
    )

pub returns-in-Is : goal.returns-in-Is
returns-in-Is c =
    let fs = c.args.frames.now in
    let w = c.args.state.now in
    let second =
    again_value fs _ _ w _ _
    c.requires.2.lent c.value_at-x.ensures.rest c.value_at-y.ensures.found in record {
      found = store_runs fs _ _ _ _ _ _ c.requires.2.variables c.requires.2.heap _ _ _ _
          c.value_at-x.ensures.found c.in-Is.is second c.then_store.ensures.found;
      rest = c.then_store.ensures.rest ∙ c.value_at-y.ensures.rest ∙ c.value_at-x.ensures.rest;
    }

pub returns-in-Foreign : goal.returns-in-Foreign
returns-in-Foreign c =
    record {
      found = store_keeps c.args.frames.now _ _ _ _ _ _ c.requires.2.variables
          c.requires.2.heap (result_in _ _) _
          c.value_at-x.ensures.found c.in-Foreign.is tt;
      rest = c.value_at-x.ensures.rest;
    }

pub returns-in-Spent : goal.returns-in-Spent
returns-in-Spent c =
    record {
      found = store_keeps c.args.frames.now _ _ _ _ _ _ c.requires.2.variables
          c.requires.2.heap (result_in _ _) _
          c.value_at-x.ensures.found c.in-Spent.is tt;
      rest = c.value_at-x.ensures.rest;
    }

pub returns-in-Stuck : goal.returns-in-Stuck
returns-in-Stuck c =
    record {
      found = store_keeps c.args.frames.now _ _ _ _ _ _ c.requires.2.variables
          c.requires.2.heap (result_in _ _) _
          c.value_at-x.ensures.found c.in-Stuck.is tt;
      rest = c.value_at-x.ensures.rest;
    }
