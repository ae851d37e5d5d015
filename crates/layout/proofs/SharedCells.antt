-- What a file without fault has of shared cells: at most 16, right after the header, each with an
-- owner that is a place and with room around its content. Assumes nothing.
use mathlib.Core.Path.{◌≡◌, refl, sym, ap, ◌∙◌}
use mathlib.Core.Bool.{Bool, true, false, true≢false}
use mathlib.Core.List.{List, [], ◌∷◌, ◌++◌}
use Prim.Native.Nat.{ℕ, zero, suc, ◌≤◌, ◌<◌}
use native.Mathlib.Omega.{arith}
use lib.ListN.{length, take, length-map}
use lib.Seq.{take-suc, take-length}
use borrow.Author.Tests.{eqb-true}
use Rattle.language.specs.Kinds.{file_rank, is_header, is_shared}
use Rattle.language.specs.Limits.{most_shared}
use Rattle.language.specs.declared.refusal.Rule.TheVariants.{WrongHeader, WrongOrder}
use Rattle.language.specs.declared.kind.DeclarationKind.TheVariants.{Shared, Event, Link}
use Rattle.language.specs.declared.kind.Kind.{Kind}
use Rattle.language.specs.declared.kind.Kind.TheVariants.{Header, Declared, Module}
use Rattle.language.specs.declared.kind.Kind.TheVariants.{Statement, Expression, Unknown}
use Rattle.language.specs.declared.frame.Frame.{Frame}
use Rattle.program.specs.Trees.{no_frame, frame_at}
use Rattle.program.specs.Programs.{shared_of, type_of_shared}
use Rattle.program.specs.Inner.Shared.{SharedFirst}
use Rattle.fields.specs.Fields.{header_fine, count_of, kind_fine}
use Rattle.fields.proofs.FieldLaws.{fine_header}
use Rattle.fields.proofs.Tallies.{is_shared_lem, count_cells, counted_one, counted_none}
use Rattle.fields.proofs.FramePass.{fine_parts, shared_few, owner_place, content_room}
use Rattle.layout.specs.Faults.{Fault, NoFault}
use Rattle.layout.proofs.Scopes.{frame_right}

is_header_lem : (k : Kind) → is_header k ≡ true → k ≡ Header
is_header_lem Header e = refl
is_header_lem (Declared d) e = absurd (true≢false (sym e))
is_header_lem Module e = absurd (true≢false (sym e))
is_header_lem (Statement k) e = absurd (true≢false (sym e))
is_header_lem (Expression k) e = absurd (true≢false (sym e))
is_header_lem Unknown e = absurd (true≢false (sym e))

module _ (fs : List Frame) (fine : NoFault fs) where
  -- ---- how many: each has fewer than 16 before it
  counts : (n : ℕ) → n ≤ length fs → count_of is_shared (take n fs) ≤ most_shared
  counts zero l = unfold count_of in omega arith
  counts (suc n) l = go (is_shared (frame_at fs n).kind) refl (counts n (omega arith))
    where
      more : take (suc n) fs ≡ take n fs ++ (frame_at fs n ∷ [])
      more = take-suc fs n no_frame l

      go : (b : Bool) → is_shared (frame_at fs n).kind ≡ b
          → count_of is_shared (take n fs) ≤ most_shared
          → count_of is_shared (take (suc n) fs) ≤ most_shared
      go true e m =
          let f = frame_at fs n in
          let a = ap (count_of is_shared) more ∙ counted_one is_shared (take n fs) f e in
          let b = shared_few fs n f (frame_right fs fine n l) (is_shared_lem _ e) in
          omega arith
      go false e m =
          let a = ap (count_of is_shared) more ∙ counted_none is_shared (take n fs) (frame_at fs n) e in
          omega arith

  cells_most : length (shared_of fs) ≤ most_shared
  cells_most =
      let a = counts (length fs) (omega arith) in
      let e = ap (count_of is_shared) (take-length fs) in
      let b = count_cells fs in
      let c = length-map (shared_of fs) type_of_shared in
      omega arith

  -- ---- where: 'Frames stand as header, shared cells .., then the rest'
  pub header_there : header_fine fs ≡ true
  header_there = go (header_fine fs) refl
    where
      go : (b : Bool) → header_fine fs ≡ b → b ≡ true
      go true e = refl
      go false e = absurd (fine WrongHeader 0 (Fault.header e))

  header_first : (frame_at fs 0).kind ≡ Header
  header_first = is_header_lem _ (fine_header fs header_there).kind

  -- before a cell, and after frame 0, stand cells: 5 refuses another header, 6 all other kinds
  no_gap : (i j : ℕ) → 0 < i → i < j → j < length fs → is_shared (frame_at fs j).kind ≡ true
      → is_shared (frame_at fs i).kind ≡ true
  no_gap i j p l m s = go (frame_at fs i).kind refl
    where
      late : (k : Kind) → (frame_at fs i).kind ≡ k → 1 < file_rank k → ⊥
      late k e o =
          fine WrongOrder j (Fault.misplaced {d = Shared} l m (is_shared_lem _ s) (rw e o))

      go : (k : Kind) → (frame_at fs i).kind ≡ k → is_shared (frame_at fs i).kind ≡ true
      go (Declared Shared) e = ap is_shared e
      go (Declared Event) e = absurd (late (Declared Event) e (omega arith))
      go (Declared Link) e = absurd (late (Declared Link) e (omega arith))
      go Module e = absurd (late Module e (omega arith))
      go (Statement k) e = absurd (late (Statement k) e (omega arith))
      go (Expression k) e = absurd (late (Expression k) e (omega arith))
      go Unknown e = absurd (late Unknown e (omega arith))
      go Header e =
          let g = (fine_parts fs i (frame_at fs i) (frame_right fs fine i (omega arith))).0 in
          absurd (let z = eqb-true i 0 (sym (ap (kind_fine fs i) e) ∙ g) in omega arith)

  pub shared_first : SharedFirst fs
  shared_first =
      record {
        header = ap is_shared header_first;
        together = no_gap;
        few = cells_most;
        owner = λ i l s. owner_place fs i _ (frame_right fs fine i l) (is_shared_lem _ s);
        content = λ i l s. content_room fs i _ (frame_right fs fine i l) (is_shared_lem _ s);
      }
