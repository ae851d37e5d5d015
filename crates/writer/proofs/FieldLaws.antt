-- What the code tells of a field is what the trees say of it. Assumes nothing.
use mathlib.Core.Path.{◌≡◌, refl, sym, ap, ◌∙◌}
use mathlib.Core.Bool.{true, false, not, true≢false}
use mathlib.Core.List.{[], ◌∷◌}
use Prim.Native.Nat.{ℕ, zero, suc}
use native.Mathlib.Omega.{arith}
use lib.Dec.{eqb}
use borrow.Author.Tests.{ne_eqb}
use Rattle.basics.specs.If.{when◌then◌else◌}
use Rattle.basics.specs.Members.{In}
use Rattle.basics.proofs.Ifs.{if_yes, if_no}
use Rattle.language.specs.Kinds.{declaration_uses, statement_uses, expression_uses, uses, child_in}
use Rattle.language.specs.Kinds as kinds
use Rattle.language.specs.declared.kind.Class.{Class}
use Rattle.language.specs.declared.kind.Use.{Use}
use Rattle.drawing.specs.Drawings.{Drawn, kept, child, field_with}
use Rattle.writer.specs.Inner.Fields.{holds_of, names_child, field_by}

-- ---- a field names a child exactly where the code says so
pub data Tells (u : Use) (v : ℕ) : Type 0 where
  keeps : names_child (holds_of u) v ≡ false → child_in u v ≡ [] → Tells u v
  names : (k : Class) → names_child (holds_of u) v ≡ true → child_in u v ≡ kinds.child k v ∷ []
      → Tells u v

argument_names : (v : ℕ) → not (eqb (suc v) 0) ≡ true
argument_names v = ap not (ne_eqb (suc v) 0 (λ e. omega arith))

pub tells : (u : Use) (v : ℕ) → Tells u v
tells Use.Statement v = Tells.names Class.Statement refl refl
tells Use.Expression v = Tells.names Class.Expression refl refl
tells Use.Argument zero = Tells.keeps refl refl
tells Use.Argument (suc v) = Tells.names Class.Expression (argument_names v) refl
tells Use.Further zero = Tells.keeps refl refl
tells Use.Further (suc v) = Tells.names Class.Expression (argument_names v) refl
tells Use.Unused v = Tells.keeps refl refl
tells Use.Free v = Tells.keeps refl refl
tells Use.Truth v = Tells.keeps refl refl
tells Use.Place v = Tells.keeps refl refl
tells Use.Scheduler v = Tells.keeps refl refl
tells Use.Lower v = Tells.keeps refl refl
tells Use.ContentType v = Tells.keeps refl refl
tells Use.FirstContent v = Tells.keeps refl refl
tells Use.Parameters v = Tells.keeps refl refl
tells Use.FirstType v = Tells.keeps refl refl
tells Use.SecondType v = Tells.keeps refl refl

pub field_by_lem : (draw : ℕ → Drawn) (u : Use) (v : ℕ)
    → field_with draw v (child_in u v) ≡ field_by draw (holds_of u) v
unfolding field_by
field_by_lem draw u v = go (tells u v)
  where
    go : Tells u v
        → field_with draw v (child_in u v)
        ≡ (when names_child (holds_of u) v then child (draw v) else kept v)
    go (Tells.keeps p q) = ap (field_with draw v) q ∙ sym (if_no (child (draw v)) (kept v) p)
    go (Tells.names k p q) = ap (field_with draw v) q ∙ sym (if_yes (child (draw v)) (kept v) p)

-- the child that is named
pub record Named (u : Use) (v : ℕ) : Type 0 where
  pub child : kinds.Child
  pub among : In child (child_in u v)
  pub at_it : child.at ≡ v

pub named : (u : Use) (v : ℕ) → names_child (holds_of u) v ≡ true → Named u v
named u v h = go (tells u v)
  where
    go : Tells u v → Named u v
    go (Tells.keeps p q) = absurd (true≢false (sym h ∙ p))
    go (Tells.names k p q) = record { child = kinds.child k v; among = rw q In.first; at_it = refl }
