-- The rules and their numbers, and that an answer says all that it is. Assumes nothing.
use Prim.Native.Nat.{ℕ}
use mathlib.Core.Path.{◌≡◌, refl, sym, ap, ◌∙◌}
use mathlib.Core.Bool.{false}
use lib.Dec.{eqb}
use Rattle.std.specs.Prelude.{◌==◌, Ok, Err, if◌then◌else◌}
use Rattle.language.specs.Refusals.{rule_number}
use Rattle.language.specs.declared.refusal.Rule.{Rule}
use Rattle.language.specs.declared.refusal.Rule.TheVariants as R
use Rattle.stepper.specs.declared.answer.CallRefusal.TheVariants.{Text, Call}
use Rattle.stepper.specs.Answers.{Answer, NumberedAnswer, done, rejected, refused, said}

-- the rule of a number, 1 to 21: `rule_number` read backwards
unfoldable pub rule_of : ℕ → Rule
rule_of n =
    if n == 1 then R.EmptyText else
    if n == 2 then R.LongText else
    if n == 3 then R.MalformedText else
    if n == 4 then R.WrongHeader else
    if n == 5 then R.WrongField else
    if n == 6 then R.WrongOrder else
    if n == 7 then R.TooDeep else
    if n == 8 then R.Unbound else
    if n == 9 then R.IllTyped else
    if n == 10 then R.Escaping else
    if n == 11 then R.WrongEffect else
    if n == 12 then R.WhileUnlinked else
    if n == 13 then R.InstantLoop else
    if n == 14 then R.WrongState else
    if n == 15 then R.NoParty else
    if n == 16 then R.NothingReady else
    if n == 17 then R.CellsSpent else
    if n == 18 then R.ThreadsSpent else
    if n == 19 then R.Foreign else
    if n == 20 then R.Stuck else
    R.WrongTree

-- the rule of a rule's number is that rule
pub rule_back : (r : Rule) → rule_of (rule_number r) ≡ r
unfolding rule_of
rule_back R.EmptyText = refl
rule_back R.LongText = refl
rule_back R.MalformedText = refl
rule_back R.WrongHeader = refl
rule_back R.WrongField = refl
rule_back R.WrongOrder = refl
rule_back R.TooDeep = refl
rule_back R.Unbound = refl
rule_back R.IllTyped = refl
rule_back R.Escaping = refl
rule_back R.WrongEffect = refl
rule_back R.WhileUnlinked = refl
rule_back R.InstantLoop = refl
rule_back R.WrongState = refl
rule_back R.NoParty = refl
rule_back R.NothingReady = refl
rule_back R.CellsSpent = refl
rule_back R.ThreadsSpent = refl
rule_back R.Foreign = refl
rule_back R.Stuck = refl
rule_back R.WrongTree = refl

-- and it is not 0
pub rule_counts : (r : Rule) → eqb (rule_number r) 0 ≡ false
rule_counts R.EmptyText = refl
rule_counts R.LongText = refl
rule_counts R.MalformedText = refl
rule_counts R.WrongHeader = refl
rule_counts R.WrongField = refl
rule_counts R.WrongOrder = refl
rule_counts R.TooDeep = refl
rule_counts R.Unbound = refl
rule_counts R.IllTyped = refl
rule_counts R.Escaping = refl
rule_counts R.WrongEffect = refl
rule_counts R.WhileUnlinked = refl
rule_counts R.InstantLoop = refl
rule_counts R.WrongState = refl
rule_counts R.NoParty = refl
rule_counts R.NothingReady = refl
rule_counts R.CellsSpent = refl
rule_counts R.ThreadsSpent = refl
rule_counts R.Foreign = refl
rule_counts R.Stuck = refl
rule_counts R.WrongTree = refl

-- ---- what an answer says is all that it is: the rule of its number is read back
abbrev unsaid : NumberedAnswer → Answer
unsaid (NumberedAnswer.done_by t k) = done t k
unsaid (NumberedAnswer.rejected_with n j) = rejected (rule_of n) j
unsaid (NumberedAnswer.refused_with n t) = refused (rule_of n) t

said_back : (a : Answer) → unsaid (said a) ≡ a
said_back (Ok d) = refl
said_back (Err (Text r)) = ap (λ (x : Rule). rejected x r.frame) (rule_back r.rule)
said_back (Err (Call r t)) = ap (λ (x : Rule). refused x t) (rule_back r)

-- so no two answers say the same
pub said_apart : (a b : Answer) → said a ≡ said b → a ≡ b
said_apart a b e = sym (said_back a) ∙ ap unsaid e ∙ said_back b
