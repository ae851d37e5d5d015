-- The shared cells of a file that passes refusals 4 to 7, each with the ones before it. Assumes
-- nothing.
use mathlib.Core.Path.{◌≡◌, refl, sym, ap, subst, ◌∙◌}
use mathlib.Core.Bool.{true}
use mathlib.Core.List.{List, [], ◌∷◌, ◌++◌, map, append_assoc, append-nil}
use Prim.Native.Nat.{ℕ, ◌+◌, ◌≤◌, ◌<◌}
use native.Mathlib.Omega.{arith}
use borrow.Author.Tests.{ltb-true}
use lib.ListN.{length, take, length-append, length-map}
use lib.Seq.{take_at, get_or-append_seam}
use Rattle.language.specs.Kinds.{is_shared}
use Rattle.language.specs.Places.{has_scheduler}
use Rattle.language.specs.Types.{content_word}
use Rattle.language.specs.declared.kind.Kind.{Kind}
use Rattle.language.specs.declared.kind.DeclarationKind.TheVariants.{Shared, Event, Link}
use Rattle.language.specs.declared.kind.Kind.TheVariants.{Header, Declared, Module, Statement}
use Rattle.language.specs.declared.kind.Kind.TheVariants.{Expression, Unknown}
use Rattle.language.specs.declared.frame.Frame.{Frame}
use Rattle.program.specs.Trees.{frame_at, no_frame}
use Rattle.program.specs.Programs.{SharedCell, type_of_shared, cell_of, shared_of}
use Rattle.program.proofs.OneMore.{cell_in, shared_more}
use Rattle.fields.specs.Fields.{schedulers_of, first_content_fine, count_of}
use Rattle.fields.proofs.Tallies.{count_cells}
use Rattle.layout.specs.Faults.{NoFault}
use Rattle.reach.proofs.Passed.{fields}

-- x is as refusal 5 wants it after the cells `before`, in a file of n schedulers, and its first
-- content has Q
pub record CellFine (Q : ℕ → Type 0) (n : ℕ) (before : List SharedCell) (x : SharedCell) : Type 0 where
  pub few : length before < 16
  pub owner : has_scheduler n x.owner ≡ true
  pub content : content_word n x.content ≡ true
  pub first : first_content_fine (map type_of_shared before) x.content x.first ≡ true
  pub size : Q x.first

-- each of the cells is, after those before it
pub data CellsFine (Q : ℕ → Type 0) (n : ℕ) : List SharedCell → List SharedCell → Type 0 where
  none : {before : List SharedCell} → CellsFine Q n before []
  more : {before : List SharedCell} {x : SharedCell} {xs : List SharedCell} → CellFine Q n before x
      → CellsFine Q n (before ++ (x ∷ [])) xs → CellsFine Q n before (x ∷ xs)

-- 'shared cells (at most 16)'
pub cells_few : {Q : ℕ → Type 0} {n : ℕ} {before xs : List SharedCell} → CellsFine Q n before xs
    → length before ≤ 16 → length before + length xs ≤ 16
cells_few CellsFine.none h = omega arith
cells_few {before = before} (CellsFine.more {x = x} f r) h =
    let l = length-append before (x ∷ []) in
    let k = f.few in
    let m = cells_few r (omega arith) in
    omega arith

-- ---- the shared cells of one more frame
shared_append : (xs ys : List Frame) → shared_of (xs ++ ys) ≡ shared_of xs ++ shared_of ys
unfolding shared_of
shared_append [] ys = refl
shared_append (f ∷ xs) ys =
    shared_more f (xs ++ ys)
    ∙ ap (λ (l : List SharedCell). cell_in f f.kind ++ l) (shared_append xs ys)
    ∙ sym (append_assoc (cell_in f f.kind) (shared_of xs) (shared_of ys))
    ∙ ap (λ (l : List SharedCell). l ++ shared_of ys) (sym (shared_more f xs))

shared_snoc : (xs : List Frame) (f : Frame)
    → shared_of (xs ++ (f ∷ [])) ≡ shared_of xs ++ cell_in f f.kind
unfolding shared_of
shared_snoc xs f =
    shared_append xs (f ∷ [])
    ∙ ap (λ (l : List SharedCell). shared_of xs ++ l)
    (shared_more f [] ∙ append-nil (cell_in f f.kind))

count_shared : (fs : List Frame) → count_of is_shared fs ≡ length (shared_of fs)
count_shared fs = count_cells fs ∙ length-map (shared_of fs) type_of_shared

module _ (Q : ℕ → Type 0) {fs : List Frame} (fine : NoFault fs) (each : (j : ℕ) → Q (frame_at fs j).b) where
  -- the frame f after the frames `before`
  cell_fine : (before : List Frame) (f : Frame) → length before < length fs
      → frame_at fs (length before) ≡ f → take (length before) fs ≡ before
      → f.kind ≡ Declared Shared
      → CellFine Q (schedulers_of fs) (shared_of before) (cell_of f)
  cell_fine before f l e t k =
      let r = fields fine (length before) l (Declared Shared) (ap (λ (g : Frame). g.kind) e ∙ k) in
      record {
        few = subst (λ (m : ℕ). m < 16) (ap (count_of is_shared) t ∙ count_shared before) (ltb-true _ 16 r.kind);
        owner = subst (λ (g : Frame). has_scheduler (schedulers_of fs) g.s ≡ true) e r.s;
        content = subst (λ (g : Frame). content_word (schedulers_of fs) g.a ≡ true) e r.a;
        first = subst (λ (xs : List Frame). first_content_fine (map type_of_shared (shared_of xs)) f.a f.b ≡ true) t
            (subst (λ (g : Frame). first_content_fine (map type_of_shared (shared_of (take (length before) fs))) g.a g.b ≡ true) e r.b);
        size = subst (λ (g : Frame). Q g.b) e (each (length before));
      }

  cells_from : (before tail : List Frame) → fs ≡ before ++ tail
      → CellsFine Q (schedulers_of fs) (shared_of before) (shared_of tail)
  unfolding shared_of
  cells_from before [] e = CellsFine.none
  cells_from before (f ∷ tail) e =
      subst (CellsFine Q (schedulers_of fs) (shared_of before)) (sym (shared_more f tail))
      (go f.kind refl (subst (λ (l : List SharedCell). CellsFine Q (schedulers_of fs) l (shared_of tail)) (shared_snoc before f) (cells_from (before ++ (f ∷ [])) tail (e ∙ sym (append_assoc before (f ∷ []) tail)))))
    where
      here : frame_at fs (length before) ≡ f
      here =
          ap (λ (l : List Frame). frame_at l (length before)) e
          ∙ get_or-append_seam before f tail no_frame

      upto : take (length before) fs ≡ before
      upto = ap (take (length before)) e ∙ take_at before (f ∷ tail) (length before) refl

      inside : length before < length fs
      inside = let l = ap length e in let m = length-append before (f ∷ tail) in omega arith

      on : CellsFine Q (schedulers_of fs) (shared_of before ++ []) (shared_of tail)
          → CellsFine Q (schedulers_of fs) (shared_of before) (shared_of tail)
      on r = rw append-nil at r

      go : (k : Kind) → f.kind ≡ k
          → CellsFine Q (schedulers_of fs) (shared_of before ++ cell_in f k) (shared_of tail)
          → CellsFine Q (schedulers_of fs) (shared_of before) (cell_in f k ++ shared_of tail)
      go (Declared Shared) q r = CellsFine.more (cell_fine before f inside here upto q) r
      go (Declared Event) q r = on r
      go (Declared Link) q r = on r
      go Header q r = on r
      go Module q r = on r
      go (Statement k) q r = on r
      go (Expression k) q r = on r
      go Unknown q r = on r

  pub shared_fine : CellsFine Q (schedulers_of fs) [] (shared_of fs)
  unfolding shared_of
  shared_fine = cells_from [] fs refl
