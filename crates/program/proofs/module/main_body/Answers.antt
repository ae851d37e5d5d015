-- `main_body` meets its contract.
use borrow.Author.Rules.{rules}
use Rattle.program.proofs.MainLaws.{main_start, main_found, main_more, main_none}
use Rattle.program.proofs.module.main_body.Goals as goal

pub loop-k-init : goal.loop-k-init
loop-k-init c = (search rules, main_start c.args.frames.now)

pub returns-then-is_module : goal.returns-then-is_module
returns-then-is_module c = search main_found

pub loop-k-preserved : goal.loop-k-preserved
loop-k-preserved c = (search rules, search main_more)

pub returns : goal.returns
returns c = search main_none
