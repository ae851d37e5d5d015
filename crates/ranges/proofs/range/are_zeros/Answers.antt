-- `are_zeros` meets its contract.
use Rattle.std.proofs.Common.{arith, ap, ◌∙◌, ◌≡◌, bit_or, eqb, ℕ}
use Rattle.std.specs.Prelude.{fold}
use Rattle.std.proofs.lemmas.Grind.{common_steps}
use Rattle.ranges.proofs.RangeLaws.{fold-or}
use Rattle.ranges.proofs.range.are_zeros.Goals as goal

pub returns : goal.returns
returns c =
    let by : c.fold.result ≡ fold bit_or 0 c.args.words.now = grind (arith, common_steps) in
    ap (λ (n : ℕ). eqb n 0) by ∙ fold-or 0 c.args.words.now
