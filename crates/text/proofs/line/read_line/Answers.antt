-- `read_line` meets its contract.
use Rattle.std.proofs.Common.{rules}
use Rattle.text.proofs.LineLaws.{taking_start, taking_more}
use Rattle.text.proofs.LineLaws.{times_fits, word_fits, line_laws}
use Rattle.text.proofs.line.read_line.Goals as goal
use Rattle.text.proofs.line.read_line.Goals.{then-bits-ge16-via-then-bits-ge16 as digits_wrong, then-bits-ge16-via-else-bits-ge16+then-bytes-ne-LINE_FEED as feed_wrong}

pub returns-then-bytes-lt-LINE_LENGTH : goal.returns-then-bytes-lt-LINE_LENGTH
returns-then-bytes-lt-LINE_LENGTH c = search line_laws

pub loop-k-init : goal.loop-k-init
loop-k-init c = (search rules, taking_start _)

pub overflow_mul-w : goal.overflow_mul-w
overflow_mul-w c = record { fits = search times_fits }

pub overflow_add-w : goal.overflow_add-w
overflow_add-w c = record { fits = search word_fits }

pub loop-k-preserved : goal.loop-k-preserved
loop-k-preserved c = (search rules, search taking_more)

pub returns-then-bits-ge16 : goal.returns-then-bits-ge16
returns-then-bits-ge16 c =
    elim c.then-bits-ge16.branch [
      | digits_wrong w ↦ search line_laws
      | feed_wrong w ↦ search line_laws
    ]

pub returns : goal.returns
returns c = search line_laws
