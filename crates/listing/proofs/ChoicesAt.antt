-- What the bytes of choices.txt are where they are choices: three to each line, and line k is
-- choice k. Assumes nothing.
use mathlib.Core.Path.{◌≡◌, refl, sym, ◌∙◌}
use mathlib.Core.Bool.{Bool, true, false, ◌&&◌}
use mathlib.Core.List.{List, [], ◌∷◌}
use Prim.Native.Nat.{ℕ, zero, suc, ◌+◌, ◌*◌, ◌/◌, ◌<◌}
use native.Mathlib.Nat.{mod-eq_of_lt}
use native.Mathlib.Omega.{arith}
use lib.Dec.{ltb, eqb}
use lib.ListN.{length, get_or}
use borrow.Author.Tests.{ltb-true, lt-ltb}
use Rattle.basics.proofs.Ifs.{and_true, yes}
use Rattle.text.specs.Digits.{digit}
use Rattle.listing.specs.Listing.{Choices, choices, malformed, also_choice, is_choice}
use Rattle.listing.specs.Listing.{choices_from}
use Rattle.listing.specs.Inner.Choices.{choice_at}

-- the bytes are the lines of these choices
data Lines : List ℕ → List ℕ → Type 0 where
  none : Lines [] []
  line : {a b c : ℕ} {rest cs : List ℕ} → digit a < 16 → digit b < 16 → Lines rest cs
      → Lines (a ∷ b ∷ c ∷ rest) ((16 * digit a + digit b) ∷ cs)

digits_of : (a b c : ℕ) → is_choice a b c ≡ true → (digit a < 16) × (digit b < 16)
unfolding is_choice
digits_of a b c h =
    let p = and_true (ltb (digit a) 16 && ltb (digit b) 16) (eqb c 10) h in
    let q = and_true (ltb (digit a) 16) (ltb (digit b) 16) p.0 in
    (ltb-true _ _ q.0, ltb-true _ _ q.1)

lines : (bytes : List ℕ) (k : ℕ) (cs : List ℕ) → choices_from k bytes ≡ choices cs → Lines bytes cs
unfolding choices_from
lines [] k cs e = let z : cs ≡ [] = cc in rw z Lines.none
lines (a ∷ []) k cs e = absurd (let z : ◌≡◌ {A = ℕ} 0 1 = cc in omega arith)
lines (a ∷ b ∷ []) k cs e = absurd (let z : ◌≡◌ {A = ℕ} 0 1 = cc in omega arith)
lines (a ∷ b ∷ c ∷ rest) k cs e =
    go (is_choice a b c) refl (choices_from (suc k) rest) refl e (lines rest (suc k))
  where
    go : (t : Bool) → is_choice a b c ≡ t → (r : Choices) → choices_from (suc k) rest ≡ r
        → elim t [ true ↦ also_choice (16 * digit a + digit b) r | false ↦ malformed k ] ≡ choices cs
        → ((ds : List ℕ) → choices_from (suc k) rest ≡ choices ds → Lines rest ds)
        → Lines (a ∷ b ∷ c ∷ rest) cs
    go true h (choices ds) q e more =
        let z : cs ≡ (16 * digit a + digit b) ∷ ds = cc in
        let d = digits_of a b c h in
        rw z (Lines.line d.0 d.1 (more ds q))
    go true h (malformed j) q e more = absurd (let z : ◌≡◌ {A = ℕ} 0 1 = cc in omega arith)
    go false h r q e more = absurd (let z : ◌≡◌ {A = ℕ} 0 1 = cc in omega arith)

count : {bytes cs : List ℕ} → Lines bytes cs → length bytes ≡ 3 * length cs
count Lines.none = refl
count (Lines.line p q l) = let n = count l in omega arith

pub choices_count : (bytes cs : List ℕ) → choices_from 0 bytes ≡ choices cs
    → length bytes ≡ 3 * length cs
choices_count bytes cs e = count (lines bytes 0 cs e)

small : {bytes cs : List ℕ} → Lines bytes cs → (k : ℕ) → k < length cs → get_or cs k 0 < 256
small Lines.none k h = absurd (omega arith)
small (Lines.line p q l) zero h = omega arith
small (Lines.line p q l) (suc k) h = small l k (omega arith)

-- the number of line k
abbrev number : List ℕ → ℕ → ℕ
number bytes k = 16 * digit (get_or bytes (3 * k) 0) + digit (get_or bytes (3 * k + 1) 0)

next : (a b c k : ℕ) (rest : List ℕ) → number (a ∷ b ∷ c ∷ rest) (suc k) ≡ number rest k
next a b c k rest =
    let p : 3 * suc k ≡ suc (suc (suc (3 * k))) = omega arith in
    let q : 3 * suc k + 1 ≡ suc (suc (suc (3 * k + 1))) = omega arith in
    rw (q, p)

at : {bytes cs : List ℕ} → Lines bytes cs → (k : ℕ) → k < length cs → get_or cs k 0 ≡ number bytes k
at Lines.none k h = absurd (omega arith)
at (Lines.line p q l) zero h = refl
at (Lines.line {a = a} {b = b} {c = c} {rest = rest} p q l) (suc k) h = at l k (omega arith) ∙ sym (next a b c k rest)

pub choices_at : (bytes cs : List ℕ) → choices_from 0 bytes ≡ choices cs → (k : ℕ) → k < length cs
    → get_or cs k 0 ≡ choice_at bytes k
unfolding choice_at
choices_at bytes cs e k h =
    let l = lines bytes 0 cs e in
    let n = count l in
    let v = at l k h in
    let s = small l k h in
    yes 0 (lt-ltb k (length bytes / 3) (omega arith)) (v ∙ sym (mod-eq_of_lt (omega arith)))
