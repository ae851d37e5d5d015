-- The tally of the frames passed: how many shared cells and modules there are, the types of these
-- cells, and what one frame more adds. Assumes nothing.
use mathlib.Core.Path.{◌≡◌, refl, sym, ap, ap₂, ◌∙◌}
use mathlib.Core.Bool.{Bool, true, false, true≢false}
use mathlib.Core.List.{List, [], ◌∷◌, ◌++◌, map, append-nil}
use Prim.Native.Nat.{ℕ, ◌+◌}
use native.Mathlib.Omega.{arith}
use lib.ListN.{length}
use Rattle.basics.specs.If.{when◌then◌else◌}
use Rattle.basics.proofs.Ifs.{if_yes, if_no, if_all}
use Rattle.language.specs.Kinds.{is_shared, is_module}
use Rattle.language.specs.Types.{cell_type}
use Rattle.language.specs.declared.kind.Kind.{Kind}
use Rattle.language.specs.declared.kind.DeclarationKind.{DeclarationKind}
use Rattle.language.specs.declared.kind.DeclarationKind.TheVariants.{Shared, Event, Link}
use Rattle.language.specs.declared.kind.Kind.TheVariants.{Header, Declared, Module, Statement}
use Rattle.language.specs.declared.kind.Kind.TheVariants.{Expression, Unknown}
use Rattle.language.specs.declared.frame.Frame.{Frame}
use Rattle.program.specs.Programs.{type_of_shared, shared_of, cells_of}
use Rattle.program.proofs.OneMore.{shared_no, shared_yes}
use Rattle.fields.specs.Fields.{count_of}
use Rattle.fields.specs.Inner.Tallies.{Counted, tallied, tally_of}

-- ---- shared cells
-- what the code's match says of a declaration's kind
pub declared_as : (k : Kind) (d v : DeclarationKind) → k ≡ Declared d → d ≡ v → k ≡ Declared v
declared_as k d v e h = e ∙ ap Declared h

pub is_shared_lem : (k : Kind) → is_shared k ≡ true → k ≡ Declared Shared
is_shared_lem (Declared Shared) h = refl
is_shared_lem (Declared Event) h = absurd (true≢false (sym h))
is_shared_lem (Declared Link) h = absurd (true≢false (sym h))
is_shared_lem Header h = absurd (true≢false (sym h))
is_shared_lem Module h = absurd (true≢false (sym h))
is_shared_lem (Statement k) h = absurd (true≢false (sym h))
is_shared_lem (Expression k) h = absurd (true≢false (sym h))
is_shared_lem Unknown h = absurd (true≢false (sym h))

-- as the code asks
pub told_shared : (k : Kind) (x : Bool) → x ≡ is_shared k → x ≡ true → k ≡ Declared Shared
told_shared k x p t = is_shared_lem k (sym p ∙ t)

is_module_lem : (k : Kind) → is_module k ≡ true → k ≡ Module
is_module_lem Module h = refl
is_module_lem (Declared d) h = absurd (true≢false (sym h))
is_module_lem Header h = absurd (true≢false (sym h))
is_module_lem (Statement k) h = absurd (true≢false (sym h))
is_module_lem (Expression k) h = absurd (true≢false (sym h))
is_module_lem Unknown h = absurd (true≢false (sym h))

pub told_module : (k : Kind) (x : Bool) → x ≡ is_module k → x ≡ true → k ≡ Module
told_module k x p t = is_module_lem k (sym p ∙ t)

-- a frame adds its type to those of the cells after it, if it is one
cells_first : (f : Frame) (gs : List Frame)
    → cells_of (f ∷ gs)
    ≡ (when is_shared f.kind then cell_type f.s f.a ∷ cells_of gs else cells_of gs)
cells_first f gs =
    if_all (λ (ts : List ℕ). cells_of (f ∷ gs) ≡ ts) (is_shared f.kind) _ _
    (λ e. ap (map type_of_shared) (shared_yes f gs e))
    (λ e. ap (map type_of_shared) (shared_no f gs e))

pub count_cells : (gs : List Frame) → count_of is_shared gs ≡ length (cells_of gs)
unfolding count_of shared_of when◌then◌else◌
count_cells [] = refl
count_cells (f ∷ gs) = go (is_shared f.kind) (count_cells gs) ∙ sym (ap length (cells_first f gs))
  where
    go : (b : Bool) → count_of is_shared gs ≡ length (cells_of gs)
        → (when b then 1 else 0) + count_of is_shared gs
        ≡ length (when b then cell_type f.s f.a ∷ cells_of gs else cells_of gs)
    go true h = omega arith
    go false h = omega arith

-- ---- what a tally says
module _ (gs : List Frame) (t : Counted) (h : t ≡ tally_of gs) where
  pub types_are : t.types ≡ cells_of gs
  unfolding tally_of
  types_are = ap (λ (x : Counted). x.types) h

  pub tally_cells : length t.types ≡ count_of is_shared gs
  tally_cells = ap length types_are ∙ sym (count_cells gs)

  pub tally_modules : t.modules ≡ count_of is_module gs
  unfolding tally_of
  tally_modules = ap (λ (x : Counted). x.modules) h

-- ---- one frame more
count_more : (test : Kind → Bool) (gs : List Frame) (f : Frame)
    → count_of test (gs ++ (f ∷ [])) ≡ count_of test gs + (when test f.kind then 1 else 0)
unfolding count_of
count_more test [] f = omega arith
count_more test (g ∷ gs) f = let h = count_more test gs f in omega arith

cells_more : (gs : List Frame) (f : Frame)
    → cells_of (gs ++ (f ∷ [])) ≡ cells_of gs ++ cells_of (f ∷ [])
unfolding shared_of when◌then◌else◌
cells_more [] f = refl
cells_more (g ∷ gs) f =
    cells_first g (gs ++ (f ∷ [])) ∙ go (is_shared g.kind) (cells_more gs f)
    ∙ sym (ap (λ (ts : List ℕ). ts ++ cells_of (f ∷ [])) (cells_first g gs))
  where
    go : (b : Bool) → cells_of (gs ++ (f ∷ [])) ≡ cells_of gs ++ cells_of (f ∷ [])
        → (when b then cell_type g.s g.a ∷ cells_of (gs ++ (f ∷ [])) else cells_of (gs ++ (f ∷ [])))
        ≡ (when b then cell_type g.s g.a ∷ cells_of gs else cells_of gs) ++ cells_of (f ∷ [])
    go true h = ap (λ (ts : List ℕ). cell_type g.s g.a ∷ ts) h
    go false h = h

cells_one : (gs : List Frame) (f : Frame) → is_shared f.kind ≡ true
    → cells_of (gs ++ (f ∷ [])) ≡ cells_of gs ++ (cell_type f.s f.a ∷ [])
unfolding shared_of
cells_one gs f s =
    cells_more gs f ∙ ap (λ (ts : List ℕ). cells_of gs ++ ts) (cells_first f [] ∙ if_yes _ _ s)

cells_same : (gs : List Frame) (f : Frame) → is_shared f.kind ≡ false
    → cells_of (gs ++ (f ∷ [])) ≡ cells_of gs
unfolding shared_of
cells_same gs f s =
    cells_more gs f ∙ ap (λ (ts : List ℕ). cells_of gs ++ ts) (cells_first f [] ∙ if_no _ _ s)
    ∙ append-nil (cells_of gs)

pub counted_one : (test : Kind → Bool) (gs : List Frame) (f : Frame) → test f.kind ≡ true
    → count_of test (gs ++ (f ∷ [])) ≡ count_of test gs + 1
counted_one test gs f h = count_more test gs f ∙ ap (λ (n : ℕ). count_of test gs + n) (if_yes 1 0 h)

pub counted_none : (test : Kind → Bool) (gs : List Frame) (f : Frame) → test f.kind ≡ false
    → count_of test (gs ++ (f ∷ [])) ≡ count_of test gs
counted_none test gs f h =
    let a : count_of test gs + 0 ≡ count_of test gs = omega arith in
    count_more test gs f ∙ ap (λ (n : ℕ). count_of test gs + n) (if_no 1 0 h) ∙ a

module _ (gs : List Frame) (f : Frame) (t : Counted) (h : t ≡ tally_of gs) where
  pub tally_other : is_shared f.kind ≡ false → is_module f.kind ≡ false
      → t ≡ tally_of (gs ++ (f ∷ []))
  unfolding tally_of
  tally_other s m = h ∙ ap₂ tallied (sym (cells_same gs f s)) (sym (counted_none is_module gs f m))

  pub tally_module : is_shared f.kind ≡ false → is_module f.kind ≡ true
      → tallied t.types (t.modules + 1) ≡ tally_of (gs ++ (f ∷ []))
  unfolding tally_of
  tally_module s m =
      ap₂ tallied (types_are gs t h ∙ sym (cells_same gs f s))
      (ap (λ (n : ℕ). n + 1) (tally_modules gs t h) ∙ sym (counted_one is_module gs f m))

  pub tally_cell : is_shared f.kind ≡ true → is_module f.kind ≡ false
      → tallied (t.types ++ (cell_type f.s f.a ∷ [])) t.modules ≡ tally_of (gs ++ (f ∷ []))
  unfolding tally_of
  tally_cell s m =
      ap₂ tallied
      (ap (λ (ts : List ℕ). ts ++ (cell_type f.s f.a ∷ [])) (types_are gs t h)
      ∙ sym (cells_one gs f s))
      (tally_modules gs t h ∙ sym (counted_none is_module gs f m))
