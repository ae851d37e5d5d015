-- `events_in_range` meets its contract.
use Rattle.std.proofs.Common.{rules, refl, ◌∙◌}
use Rattle.std.proofs.lemmas.Iterator.{YieldsList-from_range}
use Rattle.std.proofs.lemmas.Iterator.Search.{all_from_yields_List}
use Rattle.ranges.specs.Inner.Passes.{event_passes}
use Rattle.machine.proofs.Alls.{list_all-range}
use Rattle.ranges.proofs.range.events_in_range.Goals as goal

pub returns : goal.returns
unfolding event_passes
returns c =
    let test = event_passes c.args.events c.args.state.now in
    all_from_yields_List test _ _ _ c.all.ensures.ran (YieldsList-from_range 0 16 16 refl refl) (λ x b q k. search rules)
    ∙ list_all-range test 16
