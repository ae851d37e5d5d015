-- `none_present` meets its contract.
use Rattle.std.proofs.Common.{ℕ, Bool, eqb, rules, arith, ◌∙◌}
use Rattle.std.proofs.lemmas.Iterator.{YieldsList-from_slice}
use Rattle.std.proofs.lemmas.Iterator.Search.{all_from_yields_List}
use Rattle.machine.proofs.Alls.{list_all-words}
use Rattle.states.proofs.event.none_present.Goals as goal

pub returns : goal.returns
returns c =
    let test : ℕ → Bool = λ w. eqb w 0 in
    all_from_yields_List test _ _ _ c.all.ensures.ran (YieldsList-from_slice _ c.iter.ensures.rest) (λ x b q k. search rules)
    ∙ list_all-words test c.args.state.now 4562 c.args.n _ (omega arith) (omega arith)
