-- `generate` meets its contract.
use borrow.Author.Rules.{rules}
use Rattle.commits.proofs.SignalLaws.{generated_is}
use Rattle.commits.proofs.signal.generate.Goals as goal

pub wake_on_each-requires : goal.wake_on_each-requires
wake_on_each-requires c = (search rules, search rules, search rules)

pub returns : goal.returns
returns c = search generated_is
