-- The modules of a file whose frames stand in order: there is one, and the frames of their bodies
-- rise. Assumes nothing.
use mathlib.Core.Path.{◌≡◌, refl, ap, ◌∙◌}
use mathlib.Core.Bool.{Bool, true, false}
use mathlib.Core.List.{List, [], ◌∷◌}
use Prim.Native.Nat.{ℕ, zero, suc, ◌+◌, ◌-◌, ◌<◌}
use native.Mathlib.Omega.{arith}
use lib.ListN.{length}
use Rattle.basics.proofs.Ifs.{and_true}
use Rattle.language.specs.declared.refusal.Rule.TheVariants.{WrongOrder}
use Rattle.language.specs.declared.kind.Kind.{Kind}
use Rattle.language.specs.declared.kind.Kind.TheVariants.{Header, Declared, Module, Statement}
use Rattle.language.specs.declared.kind.Kind.TheVariants.{Expression, Unknown}
use Rattle.language.specs.declared.frame.Frame.{Frame}
use Rattle.program.specs.Trees.{frame_at}
use Rattle.program.specs.Programs.{Part, part_of, modules_from}
use Rattle.program.specs.Inner.Modules.{with_part}
use Rattle.layout.specs.Order.{is_main}
use Rattle.layout.specs.Faults.{Fault}
use Rattle.layout.proofs.Placed.{PlacedM}
use Rattle.layout.proofs.Trees.{is_module_lem, HasTree, From, from_next, from_start, one_of}
use Rattle.layout.proofs.Trees.{row_of}
use Rattle.layout.proofs.Decoded.{placed_stmt}

module _ (fs : List Frame) (trees : (j : ℕ) → j < length fs → HasTree fs j) where
  with_part_lem : (i : ℕ) (k : Kind) → (frame_at fs i).kind ≡ k → HasTree fs i → (ps : List Part)
      → PlacedM ps → PlacedM (with_part fs i (frame_at fs i) k ps)
  with_part_lem i Module e t ps h =
      PlacedM.more (placed_stmt fs _ _ (one_of (row_of Module i _ e t.tree)).tree) h
  with_part_lem i Header e t ps h = h
  with_part_lem i (Declared d) e t ps h = h
  with_part_lem i (Statement k) e t ps h = h
  with_part_lem i (Expression k) e t ps h = h
  with_part_lem i Unknown e t ps h = h

  modules_placed : (tail : List Frame) (i : ℕ) → From fs i tail → PlacedM (modules_from fs i tail)
  unfolding modules_from
  modules_placed [] i w = PlacedM.none
  modules_placed (f ∷ tail) i w =
      let z : i + 0 ≡ i = omega arith in
      let e : f ≡ frame_at fs i = w.same 0 ∙ ap (frame_at fs) z in
      rw e (with_part_lem i (frame_at fs i).kind refl (trees i (let s = w.size in omega arith)) _ (modules_placed tail (suc i) (from_next w)))

  -- where every frame is the root of a tree
  pub placed_modules : PlacedM (modules_from fs 0 fs)
  placed_modules = modules_placed fs 0 (from_start fs)

-- the list has a first member
pub record NonEmpty (ps : List Part) : Type 0 where
  pub head : Part
  pub tail : List Part
  pub same : ps ≡ head ∷ tail

with_some : (fs : List Frame) (i : ℕ) (f : Frame) (k : Kind) (ps : List Part) → NonEmpty ps
    → NonEmpty (with_part fs i f k ps)
with_some fs i f Module ps h = record { head = part_of fs i f; tail = ps; same = refl }
with_some fs i f Header ps h = h
with_some fs i f (Declared d) ps h = h
with_some fs i f (Statement k) ps h = h
with_some fs i f (Expression k) ps h = h
with_some fs i f Unknown ps h = h

some_module : (fs tail : List Frame) (i q : ℕ) → q < length tail → (frame_at tail q).kind ≡ Module
    → NonEmpty (modules_from fs i tail)
unfolding modules_from
some_module fs [] i q l e = absurd (omega arith)
some_module fs (f ∷ tail) i zero l e =
    rw e (record { head = part_of fs i f; tail = modules_from fs (suc i) tail; same = refl })
some_module fs (f ∷ tail) i (suc q) l e =
    with_some fs i f f.kind _ (some_module fs tail (suc i) q (omega arith) e)

-- where no frame has a fault 6, there is a module: main
pub has_main : (fs : List Frame) → 0 < length fs → ((k : ℕ) → Fault fs WrongOrder k → ⊥)
    → NonEmpty (modules_from fs 0 fs)
has_main fs l h = go (is_main (frame_at fs (length fs - 1))) refl
  where
    go : (b : Bool) → is_main (frame_at fs (length fs - 1)) ≡ b → NonEmpty (modules_from fs 0 fs)
    go true e = some_module fs fs 0 (length fs - 1) (omega arith) (is_module_lem _ (and_true _ _ e).0)
    go false e = absurd (h (length fs - 1) (Fault.main (omega arith) e))
