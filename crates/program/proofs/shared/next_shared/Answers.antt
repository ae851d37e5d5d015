-- `next_shared` meets its contract.
use Rattle.std.proofs.Common.{rules, refl, ap₂, ◌∙◌, sym, length, get_or, ◌-◌, ℕ, Bool}
use Rattle.std.specs.Option.{unwrap_or}
use Rattle.std.proofs.lemmas.Iterator.{YieldsList-from_range}
use Rattle.std.proofs.lemmas.Iterator.Adapters.{option_map_id}
use Rattle.std.proofs.lemmas.Iterator.Search.{find_from_yields_List}
use Rattle.language.specs.Kinds.{is_shared}
use Rattle.text.specs.Frames.{frame_of_word}
use Rattle.program.proofs.SharedLaws.{next_found}
use Rattle.program.proofs.shared.next_shared.Goals as goal

pub returns : goal.returns
returns c =
    let ws = c.args.frames.now in
    let n : ℕ = length ws - c.args.i in
    let test : ℕ → Bool = λ k. is_shared (frame_of_word (get_or ws k 0)).kind in
    let found = sym (option_map_id c.find.result) ∙ find_from_yields_List test _ _ _ c.find.ensures.ran (YieldsList-from_range c.args.i (length ws) n refl refl) (λ x b q k. search rules) in
    c.unwrap_or.ensures ∙ ap₂ (λ o m. unwrap_or o m) found c.max.ensures ∙ next_found ws n c.args.i refl
