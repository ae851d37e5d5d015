-- `list_frames` meets its contract.
use Rattle.runs.proofs.TextListings.{file_in, listed_frames}
use Rattle.runs.proofs.printing.list_frames.Goals as goal

pub rules_of-requires : goal.rules_of-requires
rules_of-requires c = file_in _ c.requires

pub returns : goal.returns
returns c =
    listed_frames _ c.requires _ c.rules_of.ensures _ _ _ c.check_line-line.ensures c.put.ensures
    _ _ _ _ _ c.list_choices.ensures
