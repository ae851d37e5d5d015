-- `content_of` meets its contract.
use Rattle.language.proofs.Words.{content_rest, unit_some}
use Rattle.language.proofs.type_word.content_of.Goals as goal

pub nonzero_rem-result : goal.nonzero_rem-result
nonzero_rem-result c = search unit_some

pub returns : goal.returns
returns c = search content_rest
