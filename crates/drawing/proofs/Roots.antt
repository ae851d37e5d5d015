-- The roots of a file in order: by rank they come as they stand in the file. Assumes nothing.
use mathlib.Core.Path.{◌≡◌, refl, sym, ap, ◌∙◌}
use mathlib.Core.Bool.{Bool, true, false}
use mathlib.Core.List.{List, [], ◌∷◌, ◌++◌}
use Prim.Native.Nat.{ℕ, zero, suc, ◌≤◌, ◌<◌}
use native.Mathlib.Omega.{arith}
use lib.Dec.{eqb, ltb}
use lib.ListN.{length}
use borrow.Author.Tests.{ne_eqb, eqb-true, eqb-false, lt-ltb, le-ltb, ltb-true, ltb-false}
use Rattle.basics.specs.If.{when◌then◌else◌}
use Rattle.basics.proofs.Ifs.{if_yes, if_no, and_true}
use Rattle.language.specs.declared.refusal.Rule.TheVariants.{WrongField, WrongOrder}
use Rattle.language.specs.Kinds.{declaration_rank, declarations, file_rank}
use Rattle.language.specs.declared.kind.Kind.{Kind}
use Rattle.language.specs.declared.kind.DeclarationKind.{DeclarationKind}
use Rattle.language.specs.declared.kind.DeclarationKind.TheVariants.{Shared, Event, Link}
use Rattle.language.specs.declared.kind.Kind.TheVariants.{Header, Declared, Module, Statement}
use Rattle.language.specs.declared.kind.Kind.TheVariants.{Expression, Unknown}
use Rattle.language.specs.declared.frame.Frame.{Frame}
use Rattle.program.specs.Trees.{frame_at}
use Rattle.fields.specs.Fields.{frame_fine, kind_fine}
use Rattle.layout.specs.Faults.{Fault, NoFault}
use Rattle.drawing.specs.Drawings.{rank, ranks, numbered, roots_to}

abbrev pub rank_of : Frame → ℕ
rank_of f = rank f.kind

-- no declaration comes after the last kind of them
pub declared_rank : (d : DeclarationKind) → declaration_rank d ≤ declarations
declared_rank Shared = omega arith
declared_rank Event = omega arith
declared_rank Link = omega arith

-- the numbers of the frames of the ranks below r, as they stand; the list stands from i on
unfoldable pub below : ℕ → ℕ → List Frame → List ℕ
below r i [] = []
below r i (f ∷ fs) = (when ltb (rank_of f) r then i ∷ [] else []) ++ below r (suc i) fs

-- ---- of ranks up to r: after a frame of such a rank stands none of a lower one
abbrev pub Sorted : ℕ → List Frame → Type 0
Sorted r fs =
    (i j : ℕ) → i < j → j < length fs → rank_of (frame_at fs i) < r → rank_of (frame_at fs i) ≤ rank_of (frame_at fs j)

-- no frame of a lower rank
none_below : (r i : ℕ) (fs : List Frame) → ((j : ℕ) → j < length fs → r ≤ rank_of (frame_at fs j))
    → below r i fs ≡ []
unfolding below
none_below r i [] h = refl
none_below r i (f ∷ fs) h =
    ap (λ (l : List ℕ). l ++ below r (suc i) fs) (if_no (i ∷ []) [] (le-ltb (rank_of f) r (h 0 (omega arith))))
    ∙ none_below r (suc i) fs (λ j l. h (suc j) (omega arith))

merge : (r m i : ℕ) (fs : List Frame) → r < m → Sorted m fs
    → below r i fs ++ numbered r i fs ≡ below (suc r) i fs
unfolding below numbered
merge r m i [] l s = refl
merge r m i (f ∷ fs) l s =
    go (ltb (rank_of f) r) refl (eqb (rank_of f) r) refl (merge r m (suc i) fs l (λ a b p q. s (suc a) (suc b) (omega arith) (omega arith)))
  where
    go : (x : Bool) → ltb (rank_of f) r ≡ x → (y : Bool) → eqb (rank_of f) r ≡ y
        → below r (suc i) fs ++ numbered r (suc i) fs ≡ below (suc r) (suc i) fs
        → ((when ltb (rank_of f) r then i ∷ [] else []) ++ below r (suc i) fs) ++ ((when eqb (rank_of f) r then i ∷ [] else []) ++ numbered r (suc i) fs) ≡ (when ltb (rank_of f) (suc r) then i ∷ [] else []) ++ below (suc r) (suc i) fs
    go true a y b h =
        let p = ltb-true (rank_of f) r a in
        rw (if_yes (i ∷ []) [] a, if_no (i ∷ []) [] (ne_eqb (rank_of f) r (λ e. omega arith)), if_yes (i ∷ []) [] (lt-ltb (rank_of f) (suc r) (omega arith))) (ap (λ (t : List ℕ). i ∷ t) h)
    go false a true b h =
        let e = eqb-true (rank_of f) r b in
        let z = none_below r (suc i) fs (λ j q. (let g = s 0 (suc j) (omega arith) (omega arith) (omega arith) in omega arith)) in
        rw (if_no (i ∷ []) [] a, if_yes (i ∷ []) [] b, if_yes (i ∷ []) [] (lt-ltb (rank_of f) (suc r) (omega arith)), z) (ap (λ (t : List ℕ). i ∷ t) (ap (λ (t : List ℕ). t ++ numbered r (suc i) fs) (sym z) ∙ h))
    go false a false b h =
        let p = ltb-false (rank_of f) r a in
        let q = eqb-false (rank_of f) r b in
        rw (if_no (i ∷ []) [] a, if_no (i ∷ []) [] b, if_no (i ∷ []) [] (le-ltb (rank_of f) (suc r) (omega (arith, q)))) h

pub as_they_stand : (m r : ℕ) (fs : List Frame) → r ≤ m → Sorted m fs → roots_to r fs ≡ below r 0 fs
unfolding roots_to
as_they_stand m zero fs l s = sym (none_below 0 0 fs (λ j q. omega arith))
as_they_stand m (suc r) fs l s =
    ap (λ (t : List ℕ). t ++ numbered r 0 fs) (as_they_stand m r fs (omega arith) s)
    ∙ merge r m 0 fs (omega arith) s

-- ---- where a file's rules want a frame, and where it is laid out: they differ only in that there
-- a statement or an expression stands before its module
pub file_rank_lem : (k : Kind) → file_rank k ≤ rank k
file_rank_lem Header = omega arith
file_rank_lem (Declared d) = omega arith
file_rank_lem Module = omega arith
file_rank_lem (Statement k) = omega arith
file_rank_lem (Expression k) = omega arith
file_rank_lem Unknown = omega arith

early_rank : (k : Kind) (n : ℕ) → file_rank k ≤ n → n ≤ declarations → rank k ≤ n
early_rank Header n l m = omega arith
early_rank (Declared d) n l m = l
early_rank Module n l m = absurd (omega arith)
early_rank (Statement k) n l m = absurd (omega arith)
early_rank (Expression k) n l m = absurd (omega arith)
early_rank Unknown n l m = absurd (omega arith)

-- ---- a file without fault stands by ranks: refusal 6
pub kind_fine_lem : (fs : List Frame) → ((j : ℕ) → Fault fs WrongField j → ⊥) → (j : ℕ) → j < length fs
    → kind_fine fs j (frame_at fs j).kind ≡ true
unfolding frame_fine
kind_fine_lem fs h j l = go (frame_fine fs j (frame_at fs j)) refl
  where
    go : (b : Bool) → frame_fine fs j (frame_at fs j) ≡ b → kind_fine fs j (frame_at fs j).kind ≡ true
    go true e = (and_true _ _ (and_true _ _ (and_true _ _ (and_true _ _ e).0).0).0).0
    go false e = absurd (h j (Fault.field l e))

pub sorted : (fs : List Frame) → NoFault fs → Sorted ranks fs
sorted fs h i j l k r = go (frame_at fs j).kind refl
  where
    in_place : (d : DeclarationKind) → (frame_at fs j).kind ≡ Declared d
        → file_rank (frame_at fs i).kind ≤ declaration_rank d
    in_place d e = by (ltb (declaration_rank d) (file_rank (frame_at fs i).kind)) refl
      where
        by : (b : Bool) → ltb (declaration_rank d) (file_rank (frame_at fs i).kind) ≡ b
            → file_rank (frame_at fs i).kind ≤ declaration_rank d
        by true q = absurd (h WrongOrder j (Fault.misplaced {d = d} l k e (ltb-true _ _ q)))
        by false q = ltb-false _ _ q

    go : (x : Kind) → (frame_at fs j).kind ≡ x → rank_of (frame_at fs i) ≤ rank (frame_at fs j).kind
    go Header e =
        absurd (let z : eqb j 0 ≡ true = ap (kind_fine fs j) (sym e) ∙ kind_fine_lem fs (λ j f. h WrongField j f) j k in let y = eqb-true j 0 z in omega arith)
    go (Declared d) e = rw e (early_rank (frame_at fs i).kind (declaration_rank d) (in_place d e) (declared_rank d))
    go Module e = rw e (omega arith)
    go (Statement x) e = rw e (omega arith)
    go (Expression x) e = rw e (omega arith)
    go Unknown e = rw e (omega arith)
