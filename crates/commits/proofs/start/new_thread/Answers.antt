-- `new_thread` meets its contract.
use Rattle.std.proofs.Common.{ap, slice_set}
use Rattle.machine.specs.Inner.Blocks.{padded}
use Rattle.machine.specs.Words.{tabulate}
use Rattle.states.specs.declared.thread.ThreadWords.{ThreadWords}
use Rattle.commits.proofs.start.new_thread.Goals as goal

pub returns : goal.returns
unfolding padded tabulate
returns c =
    let args = c.args.args in
    ap
    (λ (x : ThreadWords). record {
      place = x.place;
      starter = x.starter;
      alive = x.alive;
      items = x.items;
      continuation = x.continuation;
      values = args.count;
      variables = slice_set (slice_set x.variables 0 args.first) 1 args.second;
    })
    c.new-thread.ensures
