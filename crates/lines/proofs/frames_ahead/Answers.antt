-- `frames_ahead` meets its contract.
use Rattle.std.proofs.Common.{arith, inl, refl, ◌∙◌}
use Rattle.std.proofs.lemmas.Iterator.Consumers.{count_from_yields_List, YieldsList-from_first}
use Rattle.lines.specs.Readers.{frames_left}
use Rattle.lines.proofs.Counts.{left_length, from_le}
use Rattle.lines.proofs.frames_ahead.Goals as goal

pub count-requires-clause-fits : goal.count-requires-clause-fits
count-requires-clause-fits c =
    let r = c.args.r in
    inl (omega (arith, left_length r.text.now r.next, from_le r.text.now r.next))

pub returns : goal.returns
returns c =
    let r = c.args.r in
    count_from_yields_List r _ c.count.ensures.ran (YieldsList-from_first (λ f. f) frames_left _ refl)
    ∙ left_length r.text.now r.next
