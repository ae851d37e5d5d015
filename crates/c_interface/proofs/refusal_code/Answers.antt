-- `refusal_code` meets its contract.
use Rattle.c_interface.proofs.CodeLaws.{refusal_laws}
use Rattle.c_interface.proofs.refusal_code.Goals as goal

pub returns-in-Text : goal.returns-in-Text
returns-in-Text c = search refusal_laws

pub returns-in-Call : goal.returns-in-Call
returns-in-Call c = search refusal_laws
