-- The node at a frame, as the code reads it from the frame's word, and that its operands stand
-- before it. Assumes nothing.
use mathlib.Core.Path.{◌≡◌, sym, ap, ◌∙◌, subst}
use mathlib.Core.List.{List}
use Prim.Native.Nat.{ℕ, ◌<◌}
use lib.ListN.{get_or, length-map}
use Rattle.basics.proofs.Ifs.{if_all}
use Rattle.language.specs.Inner.Reads.{NamesPlace}
use Rattle.language.specs.declared.frame.Frame.{Frame}
use Rattle.text.specs.Frames.{frame_of_word, frames_of}
use Rattle.text.proofs.FrameWords.{frame_at_lem}
use Rattle.program.specs.Trees.{frame_at, no_frame}
use Rattle.program.specs.Inner.Nodes.{expression_node}
use Rattle.program.specs.declared.node.ExpressionNode.{ExpressionNode}
use Rattle.program.specs.declared.node.ExpressionNode.TheVariants.{Choose}
use Rattle.program.proofs.NodeTrees as trees
use Rattle.program.proofs.NodeTrees.{Below}
use Rattle.machine.specs.declared.value.Value.{Value}
use Rattle.machine.specs.declared.value.Value.TheVariants.{Number, Truth, Cell}
use Rattle.machine.specs.declared.value.Outcome.{Outcome}
use Rattle.machine.specs.declared.value.Outcome.TheVariants.{Is, Foreign, Spent, Stuck}
use Rattle.operations.specs.Inner.ByWords.{chosen, chosen_by}
use Rattle.evaluator.specs.Inner.Results.{FrameWords}

-- the node of the frame that word i is
abbrev pub NodeAt : List ℕ → ℕ → ExpressionNode → Type 0
NodeAt ws i d = d ≡ expression_node (frame_at (frames_of ws) i)

pub node_read : (ws : List ℕ) (i : ℕ) (f : Frame) (d : ExpressionNode)
    → d ≡ expression_node f → f ≡ frame_of_word (get_or ws i 0) → FrameWords ws i → NodeAt ws i d
node_read ws i f d h e w = h ∙ ap expression_node (e ∙ sym (frame_at_lem ws i no_frame w.there))

-- what reading it requires: where S is to name a place, it names one
pub frame_named : (ws : List ℕ) (i : ℕ) (f : Frame)
    → FrameWords ws i → f ≡ frame_of_word (get_or ws i 0) → NamesPlace f
frame_named ws i f h e =
    subst NamesPlace (frame_at_lem ws i no_frame h.there ∙ sym e)
    (h.placed i (rw length-map h.there))

-- the frame number falls in the recursion
pub operands_below : (ws : List ℕ) (i : ℕ) (d : ExpressionNode) → FrameWords ws i → NodeAt ws i d
    → Below i d
operands_below ws i d h e =
    trees.operands_below (frames_of ws) i d h.ordered (rw length-map h.there) e

-- 28's two branches: the one that is chosen, whatever became of the condition
chosen_below : (v : Value) (b c i : ℕ) → b < i → c < i → chosen v b c < i
chosen_below (Truth t) b c i l k = if_all (λ (x : ℕ). x < i) t b c (λ _. l) (λ _. k)
chosen_below (Number n) b c i l k = k
chosen_below (Cell j) b c i l k = k

chosen_by_below : (o : Outcome) (b c i : ℕ) → b < i → c < i → chosen_by o b c < i
chosen_by_below (Is v) b c i l k = chosen_below v b c i l k
chosen_by_below Foreign b c i l k = k
chosen_by_below Spent b c i l k = k
chosen_by_below Stuck b c i l k = k

pub branch_below : (ws : List ℕ) (i a b c j : ℕ) (o : Outcome)
    → FrameWords ws i → NodeAt ws i (Choose a b c) → j ≡ chosen_by o b c → j < i
branch_below ws i a b c j o h e q =
    let u = operands_below ws i (Choose a b c) h e in
    subst (λ (k : ℕ). k < i) (sym q) (chosen_by_below o b c i u.1 u.2)
