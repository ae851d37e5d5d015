-- What refusals 1 to 7 say of a text: a verdict of which no more is known where nothing is refused.
use Rattle.std.specs.Prelude.{Ok}
use Rattle.language.specs.Verdicts.{Verdict}
pub use Rattle.language.specs.Verdicts.{Rejected}

abbrev pub LayoutVerdict : Type 0
LayoutVerdict = Verdict

pattern abbrev pub LaidOut : LayoutVerdict
LaidOut = Ok tt
