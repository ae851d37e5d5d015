-- The conditional, of any type and of a list's first member.
use Rattle.std.specs.Prelude.{Bool, true, false, List, ◌∷◌}

infixr 1 when◌then◌else◌
-- It stays folded in proofs: `Rattle.basics.proofs.Ifs` has its laws
unfoldable pub when◌then◌else◌ {ℓ} : {A : Type ℓ} → Bool → A → A → A
when true then a else b = a
when false then a else b = b

-- x in front of xs, or xs alone
abbrev pub keep_if : {A : Type 0} → Bool → A → List A → List A
keep_if b x xs = elim b [ true ↦ x ∷ xs | false ↦ xs ]
