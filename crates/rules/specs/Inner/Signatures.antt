-- How the code keeps arguments and what is known of modules. Assumes nothing: definitions.
use Rattle.std.specs.Prelude.{Result, Ok, Err, [], ◌∷◌, ℕ, ◌+◌, ◌*◌, ◌/◌, ◌%◌, ◌^◌, take}
use Rattle.language.specs.Effects.{no_effect}
use Rattle.language.specs.declared.effect.Effect.{Effect}
use Rattle.rules.specs.Rules.{Signature}
use Rattle.rules.specs.Inner.Checking.{Listed, listed}
use Rattle.rules.specs.declared.start.Arguments.{Arguments}
use Rattle.rules.specs.declared.start.Arguments.TheVariants.{Nothing, One, Two}

abbrev pub no_arguments : {E : Type 0} → Result Listed E
no_arguments = listed [] no_effect

-- what the code's arguments are: one to one (proofs/StartLaws, `argued_once`)
abbrev pub argued_of : {E : Type 0} → Result Arguments E → Result Listed E
argued_of (Ok Nothing) = no_arguments
argued_of (Ok (One x)) = listed (x.type_word ∷ []) x.effect
argued_of (Ok (Two t u e)) = listed (t ∷ u ∷ []) e
argued_of (Err r) = Err r

-- the first `count` of two types, and an effect
abbrev pub signature_with : ℕ → ℕ → ℕ → Effect → Signature
signature_with count first second e = record
    { types = take count (first ∷ second ∷ []); effect = e }

-- a module's signature in one word, from the right: its parameters' types, 16 bits each, the two
-- sets of its effect, 8 bits each, and how many parameters
unfoldable pub signature_word : ℕ → ℕ → ℕ → Effect → ℕ
signature_word count first second e =
    first + second * 2 ^ 16 + e.cells * 2 ^ 32 + e.events * 2 ^ 40 + count * 2 ^ 48

-- what a word of that layout says: it reads back (proofs/StartLaws, `word_says`)
unfoldable pub signature_of : ℕ → Signature
signature_of w =
    signature_with (w / 2 ^ 48 % 3) (w % 2 ^ 16) (w / 2 ^ 16 % 2 ^ 16)
    (record { cells = w / 2 ^ 32 % 2 ^ 8; events = w / 2 ^ 40 % 2 ^ 8 })
