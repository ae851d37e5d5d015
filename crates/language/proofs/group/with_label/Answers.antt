-- `with_label` meets its contract.
use Rattle.language.proofs.LabelLaws.{label_laws}
use Rattle.language.proofs.group.with_label.Goals as goal

pub returns-then-label-old : goal.returns-then-label-old
returns-then-label-old c = search label_laws

pub returns-else-label-old : goal.returns-else-label-old
returns-else-label-old c = search label_laws
