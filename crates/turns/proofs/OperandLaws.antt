-- What a statement's turn requires of the file: its frame names a place where it is to, and the
-- expressions that it evaluates are frames of the file. Assumes nothing.
use mathlib.Core.Path.{◌≡◌, sym, ap, subst, ◌∙◌}
use mathlib.Core.List.{List, [], ◌++◌}
use Prim.Native.Nat.{ℕ, zero, suc, ◌<◌}
use native.Mathlib.Omega.{arith}
use lib.ListN.{length, get_or, length-map}
use Rattle.basics.specs.Members.{All}
use Rattle.language.specs.Inner.Reads.{NamesPlace}
use Rattle.language.specs.Kinds.{Child, children, child_in}
use Rattle.language.specs.declared.kind.StatementKind.{StatementKind}
use Rattle.language.specs.declared.kind.StatementKind.TheVariants as S
use Rattle.language.specs.declared.kind.Kind.{Kind}
use Rattle.language.specs.declared.kind.Kind.TheVariants.{Header, Declared, Module, Statement}
use Rattle.language.specs.declared.kind.Kind.TheVariants.{Expression, Unknown}
use Rattle.language.specs.declared.kind.Use.{Use}
use Rattle.language.specs.declared.frame.Frame.{Frame}
use Rattle.text.specs.Frames.{frame_of_word, frames_of}
use Rattle.text.proofs.FrameWords.{frame_at_lem}
use Rattle.program.specs.Trees.{frame_at, no_frame}
use Rattle.program.specs.Inner.Nodes.{statement_node_of, statement_node_in, statement_node}
use Rattle.program.specs.declared.node.StatementNode.{StatementNode}
use Rattle.program.specs.declared.node.StatementNode.TheVariants as Y
use Rattle.program.proofs.NodeLaws.{children_as}
use Rattle.operations.specs.declared.Who.{Who}
use Rattle.evaluator.specs.Inner.Results.{FrameWords}
use Rattle.evaluator.proofs.Nodes.{frame_named}
use Rattle.turns.specs.declared.counts.Counts.{Counts}
use Rattle.turns.specs.Inner.Acts.{TurnWords}

-- the expressions that the turn evaluates, where m is how many frames there are
abbrev Under : ℕ → StatementNode → Type 0
Under m Y.Nothing = Unit {0}
Under m Y.Cooperate = Unit {0}
Under m (Y.Seq a b) = Unit {0}
Under m (Y.DoAt q a) = Unit {0}
Under m (Y.Start s a b) = (a < m) × (b < m)
Under m (Y.StartWait s a b) = (a < m) × (b < m)
Under m (Y.LetIn a b) = a < m
Under m (Y.Store a b) = (a < m) × (b < m)
Under m (Y.IfElse a b c) = a < m
Under m (Y.While a b) = a < m
Under m (Y.Generate e) = Unit {0}
Under m (Y.Await e) = Unit {0}

-- ---- children stand before frame i
module _ (m i : ℕ) (l : i < m) where
  under_arguments : (a b : ℕ)
      → All (λ (c : Child). c.at < i) (child_in Use.Argument a ++ child_in Use.Further b ++ [])
      → (a < m) × (b < m)
  under_arguments zero zero h = (omega arith, omega arith)
  under_arguments zero (suc b) (All.more x h) = (omega arith, omega arith)
  under_arguments (suc a) zero (All.more x h) = (omega arith, omega arith)
  under_arguments (suc a) (suc b) (All.more x (All.more y h)) = (omega arith, omega arith)

  under_statement : (f : Frame) (k : StatementKind)
      → All (λ (c : Child). c.at < i) (children_as (Statement k) f)
      → Under m (statement_node_of k f.s f.a f.b f.c)
  under_statement f S.Nothing h = tt
  under_statement f S.Then h = tt
  under_statement f S.DoAt h = tt
  under_statement f S.Start h = under_arguments f.a f.b h
  under_statement f S.StartWait h = under_arguments f.a f.b h
  under_statement f S.Cooperate h = tt
  under_statement f S.Let (All.more x h) = omega arith
  under_statement f S.Store (All.more x (All.more y h)) = (omega arith, omega arith)
  under_statement f S.If (All.more x h) = omega arith
  under_statement f S.While (All.more x h) = omega arith
  under_statement f S.Generate h = tt
  under_statement f S.Await h = tt

  under_kind : (f : Frame) (k : Kind) → All (λ (c : Child). c.at < i) (children_as k f)
      → Under m (statement_node_in k f)
  under_kind f Header h = tt
  under_kind f (Declared d) h = tt
  under_kind f Module h = tt
  under_kind f (Statement k) h = under_statement f k h
  under_kind f (Expression k) h = tt
  under_kind f Unknown h = tt

  under_frame : (f : Frame) → All (λ (c : Child). c.at < i) (children f)
      → Under m (statement_node f)
  unfolding children
  under_frame f h = under_kind f f.kind h

-- ---- at frame i, whose node the code has read as d
pub frame_words : (fw : List ℕ) (who : Who) (counts : Counts) (w : List ℕ) (i : ℕ)
    → TurnWords fw who counts w → i < length fw → FrameWords fw i
frame_words fw who counts w i g l =
    record { ordered = g.ordered; placed = g.placed; there = l }

module _
    (fw : List ℕ) (who : Who) (counts : Counts) (w : List ℕ) (i : ℕ)
    (f : Frame) (e : f ≡ frame_of_word (get_or fw i 0))
    (g : TurnWords fw who counts w) (l : i < length fw) where
  pub statement_named : NamesPlace f
  statement_named = frame_named fw i f (frame_words fw who counts w i g l) e

  module _ (d : StatementNode) (k : d ≡ statement_node f) where
    under : (y : StatementNode) → d ≡ y → Under (length fw) y
    under y h =
        subst (Under (length fw)) (ap statement_node (frame_at_lem fw i no_frame l ∙ sym e) ∙ sym k ∙ h)
        (under_frame (length fw) i l (frame_at (frames_of fw) i) (g.ordered i (rw length-map l)))

    there : {j : ℕ} → j < length fw → FrameWords fw j
    there {j} h = frame_words fw who counts w j g h

    pub start_a : (s a b : ℕ) → d ≡ Y.Start s a b → FrameWords fw a
    start_a s a b h = there (under (Y.Start s a b) h).0

    pub start_b : (s a b : ℕ) → d ≡ Y.Start s a b → FrameWords fw b
    start_b s a b h = there (under (Y.Start s a b) h).1

    pub wait_a : (s a b : ℕ) → d ≡ Y.StartWait s a b → FrameWords fw a
    wait_a s a b h = there (under (Y.StartWait s a b) h).0

    pub wait_b : (s a b : ℕ) → d ≡ Y.StartWait s a b → FrameWords fw b
    wait_b s a b h = there (under (Y.StartWait s a b) h).1

    pub let_a : (a b : ℕ) → d ≡ Y.LetIn a b → FrameWords fw a
    let_a a b h = there (under (Y.LetIn a b) h)

    pub store_a : (a b : ℕ) → d ≡ Y.Store a b → FrameWords fw a
    store_a a b h = there (under (Y.Store a b) h).0

    pub store_b : (a b : ℕ) → d ≡ Y.Store a b → FrameWords fw b
    store_b a b h = there (under (Y.Store a b) h).1

    pub if_a : (a b c : ℕ) → d ≡ Y.IfElse a b c → FrameWords fw a
    if_a a b c h = there (under (Y.IfElse a b c) h)

    pub while_a : (a b : ℕ) → d ≡ Y.While a b → FrameWords fw a
    while_a a b h = there (under (Y.While a b) h)

pub ruleset under_laws = (start_a, start_b, wait_a, wait_b, let_a, store_a, store_b, if_a, while_a)
