-- `list_refusal` meets its contract.
use Rattle.runs.proofs.JudgedChoices.{listed_refusal}
use Rattle.runs.proofs.printing.list_refusal.Goals as goal

pub returns : goal.returns
returns c = search listed_refusal
