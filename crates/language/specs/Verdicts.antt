-- The verdict on a text, and the numbers that it is: 'check .. prints number and frame ..; accepted
-- is 00 0000', '1 to 13 give number and frame'.
use Rattle.std.specs.Prelude.{Result, Ok, Err}
use Rattle.basics.specs.Prelude.{ℕ}
use Rattle.language.specs.Refusals.{rule_number}
use Rattle.language.specs.declared.refusal.Rule.{Rule}
use Rattle.language.specs.declared.refusal.Refusal.{Refusal}

-- the rule r is broken, of the frame j
abbrev pub refusal : Rule → ℕ → Refusal
refusal r j = record { rule = r; frame = j }

-- nothing is refused, or that is
abbrev pub Verdict : Type 0
Verdict = Result (Unit {0}) Refusal

pattern abbrev pub Accepted : Verdict
Accepted = Ok tt

abbrev pub Rejected : Rule → ℕ → Verdict
Rejected r j = Err (refusal r j)

abbrev pub number_of : Verdict → ℕ
number_of Accepted = 0
number_of (Err r) = rule_number r.rule

abbrev pub frame_of : Verdict → ℕ
frame_of Accepted = 0
frame_of (Err r) = r.frame
