-- `depth_fault` meets its contract.
use Rattle.std.proofs.Common.{rules, arith, refl, ◌∙◌, sym, length, suc, ℕ, Bool}
use Rattle.std.proofs.lemmas.Iterator.{YieldsList-from_range}
use Rattle.std.proofs.lemmas.Iterator.Adapters.{option_map_id}
use Rattle.std.proofs.lemmas.Iterator.Search.{find_from_yields_List}
use Rattle.language.specs.Limits.{most_depth}
use Rattle.forest.specs.Inner.Climbs.{climbs}
use Rattle.forest.proofs.ClimbDepths.{deep_found}
use Rattle.forest.proofs.depth.depth_fault.Goals as goal

pub returns : goal.returns
returns c =
    let ws = c.args.lines.words.now in
    let test : ℕ → Bool = climbs c.users_of.new.users (suc most_depth) in
    sym (option_map_id c.find.result)
    ∙ find_from_yields_List test _ _ _ c.find.ensures.ran
    (YieldsList-from_range 0 (length ws) (length ws) refl (omega arith)) (λ x b q k. search rules)
    ∙ deep_found ws _ c.users_of.ensures.noted c.requires.0 c.requires.1 c.args.lines.most
