-- `next` meets its contract.
use Rattle.std.proofs.Common.{arith, sym, ◌∙◌}
use Rattle.lines.proofs.Counts.{frame_low}
use Rattle.lines.proofs.LineReaderIterator.next.Goals as goal

pub overflow_add-self : goal.overflow_add-self
overflow_add-self c =
    let low = frame_low c.args.self.now.text.now c.args.self.now.next c.in_ok-frame.frame (sym c.frame_at.ensures ∙ c.in_ok-frame.was) in
    record { fits = omega arith }
