-- The node that the code has at a frame of a laid_out file. Assumes nothing.
use mathlib.Core.Path.{◌≡◌, sym, ap, ◌∙◌}
use mathlib.Core.List.{List}
use Prim.Native.Nat.{ℕ, ◌<◌}
use lib.ListN.{length, get_or}
use Rattle.language.specs.declared.frame.Frame.{Frame}
use Rattle.language.specs.declared.refusal.Rule.TheVariants.{WrongOrder}
use Rattle.text.specs.Frames.{frame_of_word, frames_of}
use Rattle.text.proofs.FrameWords.{frame_at_lem}
use Rattle.program.specs.Trees.{frame_at, no_frame}
use Rattle.program.specs.Inner.Ordered.{Ordered}
use Rattle.layout.proofs.Order.{is_ordered}
use Rattle.program.specs.Inner.Nodes.{expression_node, statement_node}
use Rattle.checker.specs.Inner.Frames.{FileIn}
use Rattle.program.specs.declared.node.ExpressionNode.{ExpressionNode}
use Rattle.program.specs.declared.node.StatementNode.{StatementNode}

pub ordered : (ws : List ℕ) → FileIn ws → Ordered (frames_of ws)
ordered ws g = is_ordered (frames_of ws) (λ k x. g.laid_out WrongOrder k x)

-- ---- the node at a frame

-- C, where the code took the word at i for the frame f and f for the node n, which is v: the
-- premises of each law about a node. The equations come first, since a search takes the arguments
-- of a law from them
abbrev pub AtExpression : List ℕ → ℕ → Frame → ExpressionNode → ExpressionNode → Type 0 → Type 0
AtExpression ws i f n v C =
    n ≡ v → n ≡ expression_node f → f ≡ frame_of_word (get_or ws i 0) → FileIn ws
    → i < length ws → C

abbrev pub AtStatement : List ℕ → ℕ → Frame → StatementNode → StatementNode → Type 0 → Type 0
AtStatement ws i f n v C =
    n ≡ v → n ≡ statement_node f → f ≡ frame_of_word (get_or ws i 0) → FileIn ws
    → i < length ws → C

-- v is the node of the file's frame i
pub expression_here : (ws : List ℕ) (i : ℕ) (f : Frame) (n v : ExpressionNode)
    → AtExpression ws i f n v (expression_node (frame_at (frames_of ws) i) ≡ v)
expression_here ws i f n v h k e g l =
    ap expression_node (frame_at_lem ws i no_frame l ∙ sym e) ∙ sym k ∙ h

pub statement_here : (ws : List ℕ) (i : ℕ) (f : Frame) (n v : StatementNode)
    → AtStatement ws i f n v (statement_node (frame_at (frames_of ws) i) ≡ v)
statement_here ws i f n v h k e g l =
    ap statement_node (frame_at_lem ws i no_frame l ∙ sym e) ∙ sym k ∙ h
