-- `ThreadWords::new` meets its contract.
use mathlib.Core.Path.{ap}
use Rattle.machine.specs.Inner.Blocks.{padded}
use Rattle.machine.specs.Words.{tabulate}
use Rattle.states.specs.Inner.Starts.{new_words}
use Rattle.states.proofs.thread.ThreadWords.new.Goals as goal

pub returns : goal.returns
unfolding padded tabulate
returns c = ap (λ p. new_words p c.args.starter c.args.item) c.word.ensures
