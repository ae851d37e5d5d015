-- `depth` meets its contract.
use Rattle.std.proofs.Common.{rules, arith, refl, ◌∙◌, sym, length, ℕ, Bool}
use Rattle.std.proofs.lemmas.Iterator.{YieldsList-from_range}
use Rattle.std.proofs.lemmas.Iterator.Adapters.{option_map_id}
use Rattle.std.proofs.lemmas.Iterator.Search.{find_from_yields_List}
use Rattle.layout.proofs.DepthPass.{is_over, over_found}
use Rattle.layout.proofs.depth.depth.Goals as goal

pub returns : goal.returns
returns c =
    let ws = c.args.lines.words.now in
    let test : ℕ → Bool = is_over c.depths_down.new.u in
    sym (option_map_id c.find.result)
    ∙ find_from_yields_List test _ _ _ c.find.ensures.ran
    (YieldsList-from_range 0 (length ws) (length ws) refl (omega arith)) (λ x b q k. search rules)
    ∙ over_found ws _ c.depths_down.ensures c.requires c.args.lines.some c.args.lines.most
