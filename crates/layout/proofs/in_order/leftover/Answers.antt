-- `leftover` meets its contract.
use Rattle.std.proofs.Common.{rules, arith, refl, ◌∙◌, sym, length, ℕ, Bool}
use Rattle.std.proofs.lemmas.Iterator.{YieldsList-from_range}
use Rattle.std.proofs.lemmas.Iterator.Adapters.{option_map_id}
use Rattle.std.proofs.lemmas.Iterator.Search.{find_from_yields_List}
use Rattle.text.specs.Frames.{frames_of}
use Rattle.layout.proofs.LeftoverPass.{is_left, leftover_found}
use Rattle.layout.proofs.in_order.leftover.Goals as goal

pub returns : goal.returns
returns c =
    let ws = c.args.lines.words.now in
    let test : ℕ → Bool = is_left (frames_of ws) c.count_uses.new.counts in
    sym (option_map_id c.find.result)
    ∙ find_from_yields_List test _ _ _ c.find.ensures.ran
    (YieldsList-from_range 0 (length ws) (length ws) refl (omega arith)) (λ x b q k. search rules)
    ∙ leftover_found ws _ c.count_uses.ensures c.args.lines.most
