-- The samples that document 01 marks to be proved together ('Bench samples', *). Assumes nothing:
-- definitions.
use Rattle.std.specs.Prelude.{List, [], ◌∷◌, ℕ}
use Prim.Native.String.{String}
use Rattle.language.specs.declared.refusal.Rule.TheVariants.{WrongField, WrongEffect}
use Rattle.language.specs.Verdicts.{Verdict}
use Rattle.language.specs.Verdicts.{Accepted, Rejected}

-- a file, its verdict, choices on its fresh state and their answers
pub record Sample : Type 0 where
  pub file : String
  pub verdict : Verdict
  pub choices : List ℕ
  pub answers : List ℕ

-- a file that is only checked
abbrev checked : String → Verdict → Sample
checked file v = record { file = file; verdict = v; choices = []; answers = [] }

abbrev pub samples : List Sample
samples =
    -- 'Type words of a parameter, two schedulers: 0001, 0021, 0121, 0321 fine; 0211, 0201, 0020,
    -- 0003, 0041 refused with 5': the parameter of the module at frame 2
    checked "0001000000020000\n1000000000000000\n0201000100010000\n1000000000000000\n0200000300000000\n" Accepted ∷
    checked "0001000000020000\n1000000000000000\n0201000100210000\n1000000000000000\n0200000300000000\n" Accepted ∷
    checked "0001000000020000\n1000000000000000\n0201000101210000\n1000000000000000\n0200000300000000\n" Accepted ∷
    checked "0001000000020000\n1000000000000000\n0201000103210000\n1000000000000000\n0200000300000000\n" Accepted ∷
    checked "0001000000020000\n1000000000000000\n0201000102110000\n1000000000000000\n0200000300000000\n" (Rejected WrongField 2) ∷
    checked "0001000000020000\n1000000000000000\n0201000102010000\n1000000000000000\n0200000300000000\n" (Rejected WrongField 2) ∷
    checked "0001000000020000\n1000000000000000\n0201000100200000\n1000000000000000\n0200000300000000\n" (Rejected WrongField 2) ∷
    checked "0001000000020000\n1000000000000000\n0201000100030000\n1000000000000000\n0200000300000000\n" (Rejected WrongField 2) ∷
    checked "0001000000020000\n1000000000000000\n0201000100410000\n1000000000000000\n0200000300000000\n" (Rejected WrongField 2) ∷
    -- the three-line file: 'accepted; choices 02, 02, 02 answer 0, 0, 16'
    record { file = "0001000000010000\n1000000000000000\n0200000100000000\n"; verdict = Accepted; choices = 2 ∷ 2 ∷ 2 ∷ []; answers = 0 ∷ 0 ∷ 16 ∷ [] } ∷
    -- 'R refused with 11; with `1202` in frame 7, accepted'
    checked "0001000000020000\n0102000100000000\n2300000000000000\n2000000100000000\n1700000200030000\n0200000400000000\n1300000000000000\n1203000600000000\n0200000700000000\n" (Rejected WrongEffect 7) ∷
    checked "0001000000020000\n0102000100000000\n2300000000000000\n2000000100000000\n1700000200030000\n0200000400000000\n1300000000000000\n1202000600000000\n0200000700000000\n" Accepted ∷
    []
