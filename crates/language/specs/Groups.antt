-- Schedulers in step. 02, change 7: 'Two clock domains derived from one oscillator must share
-- instants.'
use Rattle.std.specs.Prelude.{◌∷◌, ◌≡◌}
use Rattle.basics.specs.Prelude.{List, [], Bool, true, ℕ, eqb, when◌then◌else◌, In}

-- 'The S byte of K 04 .. names a scheduler, and its A names a lower one with which it is in step'
pub record Link : Type 0 where
  pub upper : ℕ
  pub lower : ℕ

-- 'the relation is carried through chains': the least equivalence that has the two of each link
pub data InStep (ls : List Link) : ℕ → ℕ → Type 0 where
  itself : {p : ℕ} → InStep ls p p
  linked : {l : Link} → In l ls → InStep ls l.upper l.lower
  back : {p q : ℕ} → InStep ls p q → InStep ls q p
  through : {p q r : ℕ} → InStep ls p q → InStep ls q r → InStep ls p r

-- a label for each scheduler, its own number without links: a link gives those that have the label
-- of its upper scheduler the lower one's
unfoldable pub label : List Link → ℕ → ℕ
label [] p = p
label (l ∷ ls) p =
    when eqb (label ls p) (label ls l.upper) then label ls l.lower else label ls p

-- the two have one label
abbrev pub in_step : List Link → ℕ → ℕ → Bool
in_step ls p q = eqb (label ls p) (label ls q)

-- `in_step` computes the relation; proved in proofs/Labels
abbrev pub InStepComputes : Type 0
InStepComputes =
    (ls : List Link) (p q : ℕ)
    → (in_step ls p q ≡ true → InStep ls p q) × (InStep ls p q → in_step ls p q ≡ true)
