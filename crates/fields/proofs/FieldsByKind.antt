-- How the code tests the fields of a frame by its kind. Assumes nothing.
use mathlib.Core.Path.{◌≡◌, refl, sym, ap, ap₂, ◌∙◌}
use mathlib.Core.Bool.{Bool, true, false, ◌&&◌}
use mathlib.Core.List.{List}
use Prim.Native.Nat.{ℕ}
use lib.Dec.{ltb, leb, eqb}
use lib.ListN.{length, take}
use Rattle.basics.specs.If.{when◌then◌else◌}
use Rattle.language.specs.Places.{has_scheduler}
use Rattle.language.specs.Types.{type_word, content_word}
use Rattle.language.specs.Kinds.{is_module, declaration_uses, statement_uses}
use Rattle.language.specs.Kinds.{expression_uses, uses}
use Rattle.language.specs.declared.kind.DeclarationKind.TheVariants.{Shared, Event, Link}
use Rattle.language.specs.declared.kind.StatementKind.{StatementKind}
use Rattle.language.specs.declared.kind.ExpressionKind.{ExpressionKind}
use Rattle.language.specs.declared.kind.Kind.{Kind}
use Rattle.language.specs.declared.kind.Kind.TheVariants.{Header, Declared, Module, Statement}
use Rattle.language.specs.declared.kind.Kind.TheVariants.{Expression, Unknown}
use Rattle.language.specs.declared.frame.Frame.{Frame}
use Rattle.program.specs.Trees.{frame_at}
use Rattle.fields.specs.Fields.{schedulers_of, first_content_fine, field_fine, count_of, kind_fine}
use Rattle.fields.specs.Fields.{frame_fine}
use Rattle.fields.specs.Inner.Scans.{fields_fine}
use Rattle.fields.specs.Inner.Tallies.{Counted, tally_of}
use Rattle.fields.proofs.Tallies.{tally_cells, tally_modules, types_are}

-- ---- a shared cell, a module
abbrev fine_as : List Frame → ℕ → Frame → Kind → Bool
fine_as fs i f k = kind_fine fs i k && field_fine fs i f (uses k).s f.s && field_fine fs i f (uses k).a f.a && field_fine fs i f (uses k).b f.b && field_fine fs i f (uses k).c f.c

fine_as_lem : (fs : List Frame) (i : ℕ) (f : Frame) (k : Kind) → f.kind ≡ k
    → fine_as fs i f k ≡ frame_fine fs i f
unfolding frame_fine
fine_as_lem fs i f k e = ap (fine_as fs i f) (sym e)

-- b is how many schedulers there are, t the tally of the frames before f
module _ (fs : List Frame) (i b : ℕ) (f : Frame) (t : Counted) (q : t ≡ tally_of (take i fs))
    (e : b ≡ schedulers_of fs) where
  pub cell_split : f.kind ≡ Declared Shared
      → frame_fine fs i f
      ≡ (ltb (length t.types) 16 && has_scheduler b f.s && content_word b f.a
      && first_content_fine t.types f.a f.b && eqb f.c 0)
  cell_split k =
      sym (fine_as_lem fs i f (Declared Shared) k)
      ∙ ap₂ (λ (n : ℕ) (ts : List ℕ). ltb n 16 && has_scheduler (schedulers_of fs) f.s && content_word (schedulers_of fs) f.a && first_content_fine ts f.a f.b && eqb f.c 0)
      (sym (tally_cells (take i fs) t q)) (sym (types_are (take i fs) t q))
      ∙ ap (λ (n : ℕ). ltb (length t.types) 16 && has_scheduler n f.s && content_word n f.a && first_content_fine t.types f.a f.b && eqb f.c 0) (sym e)

  pub module_split : f.kind ≡ Module
      → frame_fine fs i f
      ≡ (ltb t.modules 16 && leb f.s 2 && (when leb 1 f.s then type_word b f.b else eqb f.b 0)
      && (when leb 2 f.s then type_word b f.c else eqb f.c 0))
  module_split k =
      sym (fine_as_lem fs i f Module k)
      ∙ ap (λ (x : Bool). x && (when leb 1 f.s then type_word (schedulers_of fs) f.b else eqb f.b 0) && (when leb 2 f.s then type_word (schedulers_of fs) f.c else eqb f.c 0)) (child (ltb (count_of is_module (take i fs)) 16 && leb f.s 2))
      ∙ ap₂ (λ (m n : ℕ). ltb m 16 && leb f.s 2 && (when leb 1 f.s then type_word n f.b else eqb f.b 0) && (when leb 2 f.s then type_word n f.c else eqb f.c 0))
      (sym (tally_modules (take i fs) t q)) (sym e)
    where
      -- A names a child, whatever it is
      child : (x : Bool) → (x && true) ≡ x
      child true = refl
      child false = refl

-- ---- a frame, by its kind
module _ (fs : List Frame) (i : ℕ) (f : Frame) (r : Bool) (e : f ≡ frame_at fs i) where
  pub frame_here : r ≡ frame_fine fs i f → r ≡ frame_fine fs i (frame_at fs i)
  frame_here h = h ∙ ap (frame_fine fs i) e

  pub frame_header : f.kind ≡ Header → r ≡ eqb i 0 → r ≡ frame_fine fs i (frame_at fs i)
  frame_header k h = frame_here (h ∙ go (eqb i 0) ∙ fine_as_lem fs i f Header k)
    where
      go : (b : Bool) → b ≡ (b && true && true && true && true)
      go true = refl
      go false = refl

  pub frame_unknown : f.kind ≡ Unknown → r ≡ false → r ≡ frame_fine fs i (frame_at fs i)
  frame_unknown k h = frame_here (h ∙ fine_as_lem fs i f Unknown k)

  -- none of their fields asks for the frame's number
  pub frame_event : f.kind ≡ Declared Event → r ≡ fields_fine fs 0 f (declaration_uses Event)
      → r ≡ frame_fine fs i (frame_at fs i)
  frame_event k h = frame_here (h ∙ fine_as_lem fs i f (Declared Event) k)

  pub frame_link : f.kind ≡ Declared Link → r ≡ fields_fine fs 0 f (declaration_uses Link)
      → r ≡ frame_fine fs i (frame_at fs i)
  frame_link k h = frame_here (h ∙ fine_as_lem fs i f (Declared Link) k)

  pub frame_statement : (k : StatementKind) → f.kind ≡ Statement k
      → r ≡ fields_fine fs 0 f (statement_uses k) → r ≡ frame_fine fs i (frame_at fs i)
  frame_statement k q h = frame_here (h ∙ go k ∙ fine_as_lem fs i f (Statement k) q)
    where
      go : (k : StatementKind) → fields_fine fs 0 f (statement_uses k) ≡ fine_as fs i f (Statement k)
      go StatementKind.Nothing = refl
      go StatementKind.Then = refl
      go StatementKind.DoAt = refl
      go StatementKind.Start = refl
      go StatementKind.StartWait = refl
      go StatementKind.Cooperate = refl
      go StatementKind.Let = refl
      go StatementKind.Store = refl
      go StatementKind.If = refl
      go StatementKind.While = refl
      go StatementKind.Generate = refl
      go StatementKind.Await = refl

  pub frame_expression : (k : ExpressionKind) → f.kind ≡ Expression k
      → r ≡ fields_fine fs 0 f (expression_uses k) → r ≡ frame_fine fs i (frame_at fs i)
  frame_expression k q h = frame_here (h ∙ go k ∙ fine_as_lem fs i f (Expression k) q)
    where
      go : (k : ExpressionKind)
          → fields_fine fs 0 f (expression_uses k) ≡ fine_as fs i f (Expression k)
      go ExpressionKind.Number = refl
      go ExpressionKind.Truth = refl
      go ExpressionKind.Variable = refl
      go ExpressionKind.SharedCell = refl
      go ExpressionKind.NewCell = refl
      go ExpressionKind.Content = refl
      go ExpressionKind.Sum = refl
      go ExpressionKind.Less = refl
      go ExpressionKind.Choose = refl
