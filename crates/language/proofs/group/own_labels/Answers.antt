-- `own_labels` meets its contract.
use mathlib.Core.Path.{refl}
use Rattle.language.specs.Groups.{label}
use Rattle.language.specs.Inner.Labels.{labels_from}
use Rattle.language.proofs.group.own_labels.Goals as goal

pub returns : goal.returns
unfolding labels_from label
returns c = refl
