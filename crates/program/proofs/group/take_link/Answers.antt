-- `take_link` meets its contract.
use Rattle.program.proofs.LinkLaws.{link_line}
use Rattle.program.proofs.group.take_link.Goals as goal

pub returns : goal.returns
returns c = search link_line
