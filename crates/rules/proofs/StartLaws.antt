-- What the functions of a start compute. Assumes nothing.
use Rattle.std.specs.Prelude.{Result, Ok, Err, nat_eq}
use mathlib.Core.Path.{◌≡◌, refl, sym, ap, ap₂, ◌∙◌}
use mathlib.Core.Bool.{Bool, true, false, ◌&&◌, ◌||◌}
use mathlib.Core.List.{List, [], ◌∷◌}
use Prim.Native.Nat.{ℕ, zero, suc, ◌/◌, ◌%◌, ◌^◌, ◌<◌, ◌≤◌}
use native.Mathlib.Omega.{arith}
use lib.Bits.{or_zero_r}
use lib.Dec.{eqb}
use lib.ListN.{take}
use Rattle.basics.specs.Members.{every}
use Rattle.basics.specs.Inner.Searches.{same_numbers}
use Rattle.language.specs.Types.{public}
use Rattle.language.specs.Effects.{no_effect, ◌∪◌}
use Rattle.language.specs.declared.effect.Effect.{Effect}
use Rattle.rules.specs.Inner.Checking.{Listed}
use Rattle.rules.specs.Inner.Signatures.{argued_of, signature_with, signature_word}
use Rattle.rules.specs.Inner.Signatures.{signature_of}
use Rattle.rules.specs.declared.start.Arguments.{Arguments}
use Rattle.rules.specs.declared.start.Arguments.TheVariants.{Nothing, One, Two}

-- the effect of those sets
abbrev sets : ℕ → ℕ → Effect
sets c e = record { cells = c; events = e }

-- ---- arguments

-- one form of each in the code, so that a contract of `argued_of` fixes the result
abbrev form_of : List ℕ → Effect → Arguments
form_of [] e = Nothing
form_of (t ∷ []) e = One (record { type_word = t; effect = e })
form_of (t ∷ u ∷ ts) e = Two t u e

abbrev form : {E : Type 0} → Result Listed E → Result Arguments E
form (Ok a) = Ok (form_of a.types a.effect)
form (Err r) = Err r

one_form : {E : Type 0} (x : Result Arguments E) → form (argued_of x) ≡ x
one_form (Ok Nothing) = refl
one_form (Ok (One x)) = refl
one_form (Ok (Two t u e)) = refl
one_form (Err r) = refl

pub argued_once : {E : Type 0} (x y : Result Arguments E) → argued_of x ≡ argued_of y → x ≡ y
argued_once x y h = sym (one_form x) ∙ ap form h ∙ one_form y

pub with_none : (e : Effect) → e ∪ no_effect ≡ e
with_none e = ap₂ sets (or_zero_r e.cells) (or_zero_r e.events)

-- ---- a signature's word
record_is : (m n : ℕ) (a b c d : ℕ) (e : Effect) (f g : ℕ) → m ≡ n → a ≡ c → b ≡ d → f ≡ e.cells
    → g ≡ e.events
    → signature_with m a b (sets f g) ≡ signature_with n c d e
record_is m n a b c d e f g h k l q r =
    ap₂ (λ (o : ℕ) (p : ℕ). signature_with o p b (sets f g)) h k
    ∙ ap₂ (λ (o : ℕ) (p : ℕ). signature_with n c o (sets p g)) l q
    ∙ ap (λ (o : ℕ). signature_with n c d (sets e.cells o)) r

-- such a word reads back
pub word_says : (count first second : ℕ) (e : Effect) (w : ℕ)
    → w ≡ signature_word count first second e
    → count ≤ 2 → first < 2 ^ 16 → second < 2 ^ 16 → e.cells < 2 ^ 8 → e.events < 2 ^ 8
    → signature_of w ≡ signature_with count first second e
unfolding signature_of signature_word
word_says count first second e w h a b c d f =
    record_is (w / 2 ^ 48 % 3) count (w % 2 ^ 16) (w / 2 ^ 16 % 2 ^ 16) first second
    e (w / 2 ^ 32 % 2 ^ 8) (w / 2 ^ 40 % 2 ^ 8)
    (omega arith) (omega arith) (omega arith) (omega arith) (omega arith)

-- ---- the first n of two types

-- the last test is the answer
last : (x : Bool) → elim x [ true ↦ true | false ↦ false ] ≡ x
last true = refl
last false = refl

-- one test after another
both : (x y z : Bool) → y ≡ z → elim x [ true ↦ y | false ↦ false ] ≡ (x && z)
both true y z h = h
both false y z h = refl

-- either way the lists end apart
short : (x : Bool) → elim x [ true ↦ false | false ↦ false ] ≡ false
short true = refl
short false = refl

pub every_two : (n t u : ℕ) → n ≤ 2
    → every public (take n (t ∷ u ∷ [])) ≡ (nat_eq n 0 || public t && (nat_eq n 1 || public u))
unfolding every
every_two zero t u h = refl
every_two (suc zero) t u h = both (public t) true true refl
every_two (suc (suc zero)) t u h = both (public t) _ (public u) (last (public u))
every_two (suc (suc (suc n))) t u h = absurd (omega arith)

-- so many, and each the same
same_two : (n m t u a b : ℕ) → n ≤ 2 → m ≤ 2
    → same_numbers (take n (t ∷ u ∷ [])) (take m (a ∷ b ∷ []))
    ≡ (nat_eq n m && (nat_eq n 0 || nat_eq t a && (nat_eq n 1 || nat_eq u b)))
unfolding same_numbers
same_two zero zero t u a b h k = refl
same_two zero (suc zero) t u a b h k = refl
same_two zero (suc (suc zero)) t u a b h k = refl
same_two (suc zero) zero t u a b h k = refl
same_two (suc zero) (suc zero) t u a b h k = both (nat_eq t a) true true refl
same_two (suc zero) (suc (suc zero)) t u a b h k = short (nat_eq t a)
same_two (suc (suc zero)) zero t u a b h k = refl
same_two (suc (suc zero)) (suc zero) t u a b h k = short (nat_eq t a)
same_two (suc (suc zero)) (suc (suc zero)) t u a b h k =
    both (nat_eq t a) _ (nat_eq u b) (last (nat_eq u b))
same_two (suc (suc (suc n))) m t u a b h k = absurd (omega arith)
same_two n (suc (suc (suc m))) t u a b h k = absurd (omega arith)

pub same_types : (n t u w : ℕ) → n ≤ 2
    → same_numbers (take n (t ∷ u ∷ [])) (signature_of w).types
    ≡ (nat_eq n (w / 2 ^ 48 % 3)
    && (nat_eq n 0 || nat_eq t (w % 2 ^ 16) && (nat_eq n 1 || nat_eq u (w / 2 ^ 16 % 2 ^ 16))))
unfolding signature_of
same_types n t u w h =
    same_two n (w / 2 ^ 48 % 3) t u (w % 2 ^ 16) (w / 2 ^ 16 % 2 ^ 16) h (omega arith)
