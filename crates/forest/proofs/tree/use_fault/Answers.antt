-- `use_fault` meets its contract.
use Rattle.std.proofs.Common.{rules, arith, refl, ◌∙◌, sym, length, ℕ, Bool}
use Rattle.std.proofs.lemmas.Iterator.{YieldsList-from_range}
use Rattle.std.proofs.lemmas.Iterator.Adapters.{option_map_id}
use Rattle.std.proofs.lemmas.Iterator.Search.{find_from_yields_List}
use Rattle.text.specs.Frames.{frames_of}
use Rattle.program.specs.Trees.{frame_at}
use Rattle.fields.proofs.Seeking.{find_lowest}
use Rattle.forest.specs.Inner.FrameTests.{is_use_fault}
use Rattle.forest.proofs.tree.use_fault.Goals as goal

pub returns : goal.returns
returns c =
    let ws = c.args.lines.words.now in
    let test : ℕ → Bool = λ k. is_use_fault (frames_of ws) k (frame_at (frames_of ws) k) in
    sym (option_map_id c.find.result)
    ∙ find_from_yields_List test _ _ _ c.find.ensures.ran
    (YieldsList-from_range 0 (length ws) (length ws) refl (omega arith)) (λ x b q k. search rules)
    ∙ find_lowest (is_use_fault (frames_of ws)) ws test (λ k l. refl)
