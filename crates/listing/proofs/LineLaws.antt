-- What the functions of a line compute. Assumes nothing.
use mathlib.Core.Path.{◌≡◌, refl, sym, ap, ◌∙◌}
use mathlib.Core.List.{List, [], ◌∷◌}
use Prim.Native.Nat.{ℕ}
use lib.ListN.{get_or}
use Rattle.std.specs.Prelude.{Err}
use Rattle.language.specs.Verdicts.{Verdict}
use Rattle.language.specs.Refusals.{rule_number}
use Rattle.language.specs.declared.refusal.Refusal.{Refusal}
use Rattle.listing.specs.Listing.{two_digits, four_digits, hex_digits}
use Rattle.listing.specs.Listing.{refusal_line, check_line, verdict_line, choice_line_of, last_line}
use Rattle.listing.proofs.DigitLaws.{hex_four}

-- the line of a `Refusal` is `check_line`
pub verdict_line_lem : (v : Verdict)
    → verdict_line (λ (r : Refusal). rule_number r.rule) (λ (r : Refusal). r.frame) v ≡ check_line v
verdict_line_lem v = refl

pub refused_line : (v : Verdict) (f : Refusal) (n : ℕ) (r : List ℕ) → v ≡ Err f
    → n ≡ rule_number f.rule → r ≡ refusal_line n f.frame → r ≡ check_line v
refused_line v f n r e q h =
    h ∙ ap (λ (k : ℕ). refusal_line k f.frame) q ∙ ap check_line (sym e)

-- ---- lines, from the arrays of their numbers
module _ (a : List ℕ) (k n : ℕ) (w : k ≡ n) where
  two_of : a ≡ hex_digits 2 k → a ≡ two_digits n
  two_of p = p ∙ ap two_digits w

  four_of : a ≡ hex_digits 4 k → a ≡ four_digits n
  four_of p = p ∙ hex_four k ∙ ap four_digits w

pub refusal_line_lem : (n i j k : ℕ) (a b : List ℕ) → j ≡ n → k ≡ i → a ≡ hex_digits 2 j
    → b ≡ hex_digits 4 k
    → get_or a 0 0 ∷ get_or a 1 0 ∷ 32 ∷ get_or b 0 0 ∷ get_or b 1 0 ∷ get_or b 2 0 ∷ get_or b 3 0 ∷ 10 ∷ []
    ≡ refusal_line n i
refusal_line_lem n i j k a b v w p q = rw (two_of a j n v p, four_of b k i w q)

pub choice_line : (choice answer thread cells accesses c a t n m : ℕ) (cd ad td nd md : List ℕ)
    → c ≡ choice → a ≡ answer → t ≡ thread → n ≡ cells → m ≡ accesses
    → cd ≡ hex_digits 2 c → ad ≡ hex_digits 2 a → td ≡ hex_digits 2 t
    → nd ≡ hex_digits 4 n → md ≡ hex_digits 4 m
    → get_or cd 0 0 ∷ get_or cd 1 0 ∷ 32 ∷ get_or ad 0 0 ∷ get_or ad 1 0 ∷ 32 ∷ get_or td 0 0 ∷ get_or td 1 0 ∷ 32
    ∷ get_or nd 0 0 ∷ get_or nd 1 0 ∷ get_or nd 2 0 ∷ get_or nd 3 0 ∷ 32
    ∷ get_or md 0 0 ∷ get_or md 1 0 ∷ get_or md 2 0 ∷ get_or md 3 0 ∷ 10 ∷ []
    ≡ choice_line_of choice answer thread cells accesses
choice_line choice answer thread cells accesses c a t n m cd ad td nd md v w x y z p q r s u =
    rw (
      two_of cd c choice v p,
      two_of ad a answer w q,
      two_of td t thread x r,
      four_of nd n cells y s,
      four_of md m accesses z u,
    )

pub last_line_lem : (used k : ℕ) (n : List ℕ) → k ≡ used → n ≡ hex_digits 4 k
    → get_or n 0 0 ∷ get_or n 1 0 ∷ get_or n 2 0 ∷ get_or n 3 0 ∷ 10 ∷ [] ≡ last_line used
last_line_lem used k n w p = rw (four_of n k used w p)
