-- `read_into` meets its contract.
use Rattle.text.proofs.ReadLaws.{reader_start, reader_more, words_laws}
use Rattle.text.proofs.reading.read_into.Goals as goal

pub returns-then-n-eq0 : goal.returns-then-n-eq0
returns-then-n-eq0 c = search words_laws

pub returns-then-n-gt-MOST_BYTES : goal.returns-then-n-gt-MOST_BYTES
returns-then-n-gt-MOST_BYTES c = search words_laws

pub loop-i-init : goal.loop-i-init
loop-i-init c = reader_start _ _ c.requires

pub returns-in_default : goal.returns-in_default
returns-in_default c = search words_laws

pub loop-i-preserved : goal.loop-i-preserved
loop-i-preserved c = search reader_more

pub returns : goal.returns
returns c = search words_laws
