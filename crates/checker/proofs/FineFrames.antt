-- What refusal 5 leaves of a laid_out file: few modules with few parameters, and places where
-- frames name some. Assumes nothing.
use mathlib.Core.Path.{◌≡◌, sym, ap, subst, ◌∙◌}
use mathlib.Core.Bool.{true}
use mathlib.Core.List.{List}
use Prim.Native.Nat.{ℕ, ◌≤◌, ◌<◌}
use lib.ListN.{length, take, get_or, length-map}
use borrow.Author.Tests.{ltb-true, leb-true}
use Rattle.language.specs.Kinds.{is_module, uses}
use Rattle.language.specs.Inner.Reads.{NamesPlace}
use Rattle.language.specs.declared.kind.Kind.{Kind}
use Rattle.language.specs.declared.kind.Kind.TheVariants.{Module}
use Rattle.language.specs.declared.frame.Frame.{Frame}
use Rattle.text.specs.Frames.{frame_of_word, frames_of}
use Rattle.text.proofs.FrameWords.{frame_at_lem}
use Rattle.program.specs.Trees.{frame_at, no_frame}
use Rattle.program.specs.declared.node.CellUse.{CellUse}
use Rattle.program.specs.declared.node.ExpressionNode.{ExpressionNode}
use Rattle.program.specs.declared.node.ExpressionNode.TheVariants.{OfValue}
use Rattle.program.proofs.NodeTrees.{Owned, owner_placed}
use Rattle.fields.specs.Fields.{count_of, kind_fine, field_fine}
use Rattle.fields.proofs.FramePass.{fine_parts}
use Rattle.layout.specs.Faults.{NoFault}
use Rattle.layout.proofs.Scopes.{frame_right, placed}
use Rattle.rules.specs.Inner.NodeRules.{OwnerPlaced}
use Rattle.checker.specs.Inner.Frames.{FileIn}
use Rattle.checker.proofs.NodeLaws.{AtExpression}

module _ (fs : List Frame) (clean : NoFault fs) where
  -- ---- modules
  module _ (i : ℕ) (h : i < length fs) (e : (frame_at fs i).kind ≡ Module) where
    pub few_modules : count_of is_module (take i fs) < 16
    few_modules =
        let k = (fine_parts fs i (frame_at fs i) (frame_right fs clean i h)).0 in
        ltb-true _ _ (ap (kind_fine fs i) (sym e) ∙ k)

    pub few_parameters : (frame_at fs i).s ≤ 2
    few_parameters =
        let f = frame_at fs i in
        let s = (fine_parts fs i f (frame_right fs clean i h)).1 in
        leb-true _ _ (subst (λ (k : Kind). field_fine fs i f (uses k).s f.s ≡ true) e s)

-- ---- places: the code took the word at i for the frame f
pub names_place : (ws : List ℕ) (i : ℕ) (f : Frame)
    → f ≡ frame_of_word (get_or ws i 0) → FileIn ws → i < length ws → NamesPlace f
names_place ws i f e g l =
    subst NamesPlace (frame_at_lem ws i no_frame l ∙ sym e)
    (placed (frames_of ws) g.laid_out i (rw length-map l))

-- the owner of a new cell is a place
owned_use : (u : CellUse) (a : ℕ) → Owned (OfValue u a) → OwnerPlaced u
owned_use (CellUse.Make s) a h = h
owned_use CellUse.Read a h = tt

pub owner_place : (ws : List ℕ) (i : ℕ) (f : Frame) (n : ExpressionNode) (u : CellUse) (a : ℕ)
    → AtExpression ws i f n (OfValue u a) (OwnerPlaced u)
owner_place ws i f n u a h k e g l =
    owned_use u a (owner_placed f (OfValue u a) (names_place ws i f e g l) (sym h ∙ k))
