-- `list_run` meets its contract.
use borrow.Author.Rules.{rules}
use Rattle.runs.proofs.ListedRun.{listed_run}
use Rattle.runs.proofs.printing.list_run.Goals as goal

pub step_lines-requires : goal.step_lines-requires
step_lines-requires c = (
  record { laid_out = search rules; numbers = search rules; words = search rules },
  search rules,
  search rules,
)

pub returns : goal.returns
returns c =
    listed_run _ _ _ _ _ c.file_of-file.ensures c.requires.1 c.used_of-used.ensures _ _ _ _ _
    c.step_lines.ensures.words c.step_lines.ensures.lines c.last_line-line.ensures
    c.put.ensures (search rules)
