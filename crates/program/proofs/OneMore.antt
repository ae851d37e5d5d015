-- The shared cells and the modules of a file, with one frame more at its head. Assumes nothing.
use mathlib.Core.Path.{◌≡◌, refl, sym, ap, ◌∙◌}
use mathlib.Core.List.{List, [], ◌∷◌, ◌++◌}
use mathlib.Core.Bool.{true, false, true≢false}
use Prim.Native.Nat.{ℕ}
use Rattle.language.specs.Kinds.{is_shared, is_module}
use Rattle.language.specs.declared.kind.Kind.{Kind}
use Rattle.language.specs.declared.kind.DeclarationKind.TheVariants.{Shared, Event, Link}
use Rattle.language.specs.declared.kind.Kind.TheVariants.{Header, Declared, Module, Statement}
use Rattle.language.specs.declared.kind.Kind.TheVariants.{Expression, Unknown}
use Rattle.language.specs.declared.frame.Frame.{Frame}
use Rattle.program.specs.Programs.{SharedCell, cell_of, shared_of, Part, part_of}
use Rattle.program.specs.Inner.Modules.{with_part}

-- ---- shared cells

-- the cell that a frame of the kind k is, if it is one
abbrev pub cell_in : Frame → Kind → List SharedCell
cell_in f (Declared Shared) = cell_of f ∷ []
cell_in f (Declared Event) = []
cell_in f (Declared Link) = []
cell_in f Header = []
cell_in f Module = []
cell_in f (Statement k) = []
cell_in f (Expression k) = []
cell_in f Unknown = []

pub shared_more : (f : Frame) (fs : List Frame)
    → shared_of (f ∷ fs) ≡ cell_in f f.kind ++ shared_of fs
unfolding shared_of
shared_more f fs = go f.kind
  where
    go : (k : Kind)
        → shared_of (record { kind = k; s = f.s; a = f.a; b = f.b; c = f.c } ∷ fs)
        ≡ cell_in f k ++ shared_of fs
    go (Declared Shared) = refl
    go (Declared Event) = refl
    go (Declared Link) = refl
    go Header = refl
    go Module = refl
    go (Statement k) = refl
    go (Expression k) = refl
    go Unknown = refl

cell_none : (f : Frame) (k : Kind) → is_shared k ≡ false → cell_in f k ≡ []
cell_none f (Declared Shared) e = absurd (true≢false e)
cell_none f (Declared Event) e = refl
cell_none f (Declared Link) e = refl
cell_none f Header e = refl
cell_none f Module e = refl
cell_none f (Statement k) e = refl
cell_none f (Expression k) e = refl
cell_none f Unknown e = refl

cell_one : (f : Frame) (k : Kind) → is_shared k ≡ true → cell_in f k ≡ cell_of f ∷ []
cell_one f (Declared Shared) e = refl
cell_one f (Declared Event) e = absurd (true≢false (sym e))
cell_one f (Declared Link) e = absurd (true≢false (sym e))
cell_one f Header e = absurd (true≢false (sym e))
cell_one f Module e = absurd (true≢false (sym e))
cell_one f (Statement k) e = absurd (true≢false (sym e))
cell_one f (Expression k) e = absurd (true≢false (sym e))
cell_one f Unknown e = absurd (true≢false (sym e))

pub shared_no : (f : Frame) (fs : List Frame) → is_shared f.kind ≡ false
    → shared_of (f ∷ fs) ≡ shared_of fs
shared_no f fs e =
    shared_more f fs ∙ ap (λ (cs : List SharedCell). cs ++ shared_of fs) (cell_none f f.kind e)

pub shared_yes : (f : Frame) (fs : List Frame) → is_shared f.kind ≡ true
    → shared_of (f ∷ fs) ≡ cell_of f ∷ shared_of fs
shared_yes f fs e =
    shared_more f fs ∙ ap (λ (cs : List SharedCell). cs ++ shared_of fs) (cell_one f f.kind e)

-- ---- modules
pub part_no : (fs : List Frame) (i : ℕ) (f : Frame) (k : Kind) (ps : List Part) → is_module k ≡ false
    → with_part fs i f k ps ≡ ps
part_no fs i f Module ps e = absurd (true≢false e)
part_no fs i f Header ps e = refl
part_no fs i f (Declared d) ps e = refl
part_no fs i f (Statement k) ps e = refl
part_no fs i f (Expression k) ps e = refl
part_no fs i f Unknown ps e = refl

pub part_yes : (fs : List Frame) (i : ℕ) (f : Frame) (k : Kind) (ps : List Part) → is_module k ≡ true
    → with_part fs i f k ps ≡ part_of fs i f ∷ ps
part_yes fs i f Module ps e = refl
part_yes fs i f Header ps e = absurd (true≢false (sym e))
part_yes fs i f (Declared d) ps e = absurd (true≢false (sym e))
part_yes fs i f (Statement k) ps e = absurd (true≢false (sym e))
part_yes fs i f (Expression k) ps e = absurd (true≢false (sym e))
part_yes fs i f Unknown ps e = absurd (true≢false (sym e))
