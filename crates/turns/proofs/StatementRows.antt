-- The returns of `act_statement`: what the code does by the statement's node is the act of its
-- tree. Assumes nothing.
use mathlib.Core.Path.{◌≡◌, refl, sym, ap, ap₂, ◌∙◌}
use mathlib.Core.Bool.{true, false}
use mathlib.Core.List.{List}
use Prim.Native.Nat.{ℕ, ◌<◌}
use lib.ListN.{length, get_or}
use Rattle.language.specs.declared.Place.{Place}
use Rattle.language.specs.declared.kind.StatementKind.{StatementKind}
use Rattle.language.specs.declared.kind.StatementKind.TheVariants as S
use Rattle.language.specs.declared.kind.Kind.{Kind}
use Rattle.language.specs.declared.kind.Kind.TheVariants.{Header, Declared, Module, Statement}
use Rattle.language.specs.declared.kind.Kind.TheVariants.{Expression, Unknown}
use Rattle.language.specs.declared.frame.Frame.{Frame}
use Rattle.text.specs.Frames.{frame_of_word, frames_of}
use Rattle.text.proofs.FrameWords.{frame_at_lem}
use Rattle.program.specs.Trees.{Expr, Stmt, frame_at, arguments, expression_at, root_s}
use Rattle.program.specs.Trees.{statement_of}
use Rattle.program.specs.Trees.{statement_at, no_frame}
use Rattle.program.specs.Inner.Nodes.{statement_node_of, statement_node_in, statement_node}
use Rattle.program.specs.declared.node.StatementNode.{StatementNode}
use Rattle.program.specs.declared.node.StatementNode.TheVariants as Y
use Rattle.program.proofs.Decoding.{statement_at_lem}
use Rattle.program.proofs.Roots.{statement_root}
use Rattle.machine.specs.declared.value.Outcome.{Outcome}
use Rattle.operations.specs.declared.Who.{Who}
use Rattle.operations.specs.Inner.Results.{Result, result}
use Rattle.evaluator.specs.Inner.Results.{evaluated_on, stored_on}
use Rattle.acts.specs.declared.act.Transition.TheVariants.{Stays}
use Rattle.acts.specs.declared.act.Transition.TheVariants.{Generates, Awaits}
use Rattle.acts.specs.declared.act.Change.TheVariants.{Same}
use Rattle.acts.specs.Inner.Transitions.{TurnAnswer, action}
use Rattle.turns.specs.declared.counts.Counts.{Counts}
use Rattle.turns.specs.Inner.Acts.{request, TurnWords}
use Rattle.turns.specs.Inner.Actions.{ActResult, act_result, place_at, two_more, do_there}
use Rattle.turns.specs.Inner.Actions.{cooperation}
use Rattle.turns.specs.Inner.Actions.{after_value, let_after, store_after, choose_after}
use Rattle.turns.specs.Inner.Actions.{loop_after, act_after, start_act, statement_act}

-- ---- the act that a node says
module _
    (fw : List ℕ) (who : Who) (counts : Counts) (vs : List ℕ) (n : ℕ) (ws : List ℕ) (i : ℕ) where
  abbrev expr : ℕ → Expr
  expr = expression_at (frames_of fw)

  abbrev stmt : ℕ → Stmt
  stmt = statement_at (frames_of fw)

  abbrev value : ℕ → Result
  value a = evaluated_on who (expr a) vs n ws

  abbrev act_by : StatementNode → ActResult
  act_by Y.Nothing = act_result (action Stays Same) n ws
  act_by Y.Cooperate = act_result (cooperation who.place) n ws
  act_by (Y.Seq a b) = act_result (two_more counts a b) n ws
  act_by (Y.DoAt q a) = act_result (do_there who.place counts q a) n ws
  act_by (Y.Start m a b) = start_act who (request false m) (arguments expr a b) vs n ws
  act_by (Y.StartWait m a b) = start_act who (request true m) (arguments expr a b) vs n ws
  act_by (Y.LetIn a b) = act_after (value a) (let_after counts b)
  act_by (Y.Store a b) = act_after (stored_on who (expr a) (expr b) vs n ws) store_after
  act_by (Y.IfElse a b c) = act_after (value a) (choose_after counts b c)
  act_by (Y.While a b) = act_after (value a) (loop_after counts b i)
  act_by (Y.Generate e) = act_result (action (Generates e) Same) n ws
  act_by (Y.Await e) = act_result (action (Awaits e) Same) n ws

  root : (j : ℕ) → root_s (stmt j) ≡ j
  root = statement_root (frames_of fw)

  by_statement : (f : Frame) (k : StatementKind)
      → statement_act who counts (statement_of expr stmt i f (Statement k)) vs n ws
      ≡ act_by (statement_node_of k f.s f.a f.b f.c)
  by_statement f S.Nothing = refl
  by_statement f S.Then =
      ap₂ (λ (x y : ℕ). act_result (two_more counts x y) n ws) (root f.a) (root f.b)
  by_statement f S.DoAt =
      ap (λ (x : ℕ). act_result (do_there who.place counts (place_at f.s) x) n ws) (root f.a)
  by_statement f S.Start = refl
  by_statement f S.StartWait = refl
  by_statement f S.Cooperate = refl
  by_statement f S.Let = ap (λ (x : ℕ). act_after (value f.a) (let_after counts x)) (root f.b)
  by_statement f S.Store = refl
  by_statement f S.If =
      ap₂ (λ (x y : ℕ). act_after (value f.a) (choose_after counts x y)) (root f.b)
      (root f.c)
  by_statement f S.While =
      ap (λ (x : ℕ). act_after (value f.a) (loop_after counts x i)) (root f.b)
  by_statement f S.Generate = refl
  by_statement f S.Await = refl

  by_kind : (f : Frame) (k : Kind)
      → statement_act who counts (statement_of expr stmt i f k) vs n ws ≡ act_by (statement_node_in k f)
  by_kind f Header = refl
  by_kind f (Declared d) = refl
  by_kind f Module = refl
  by_kind f (Statement k) = by_statement f k
  by_kind f (Expression k) = refl
  by_kind f Unknown = refl

  -- ---- d is the node that the code has read at frame i, r the act, with m cells in use after it,
  -- whose words are us
  module _
      (f : Frame) (d : StatementNode) (k : d ≡ statement_node f)
      (e : f ≡ frame_of_word (get_or fw i 0)) (w : List ℕ) (g : TurnWords fw who counts w)
      (l : i < length fw) (r : TurnAnswer) where
    abbrev Acts : ℕ → List ℕ → Type 0
    Acts m us = act_result r m us ≡ statement_act who counts (statement_at (frames_of fw) i) vs n ws

    at : (y : StatementNode) (m : ℕ) (us : List ℕ) → d ≡ y → act_result r m us ≡ act_by y → Acts m us
    at y m us h z =
        z
        ∙ sym (ap (λ (s : Stmt). statement_act who counts s vs n ws)
        (statement_at_lem (frames_of fw) g.ordered i)
        ∙ by_kind (frame_at (frames_of fw) i) (frame_at (frames_of fw) i).kind
        ∙ ap (λ (x : Frame). act_by (statement_node x)) (frame_at_lem fw i no_frame l ∙ sym e)
        ∙ ap act_by (sym k ∙ h))

    act_is : {a : TurnAnswer} (m : ℕ) (us : List ℕ) → r ≡ a → act_result r m us ≡ act_result a m us
    act_is m us z = ap (λ (x : TurnAnswer). act_result x m us) z

    pub acts_nothing : d ≡ Y.Nothing → r ≡ action Stays Same → Acts n ws
    acts_nothing h z = at Y.Nothing n ws h (act_is n ws z)

    pub acts_cooperate : d ≡ Y.Cooperate → r ≡ cooperation who.place → Acts n ws
    acts_cooperate h z = at Y.Cooperate n ws h (act_is n ws z)

    pub acts_generate : (s : ℕ) → d ≡ Y.Generate s → r ≡ action (Generates s) Same → Acts n ws
    acts_generate s h z = at (Y.Generate s) n ws h (act_is n ws z)

    pub acts_await : (s : ℕ) → d ≡ Y.Await s → r ≡ action (Awaits s) Same → Acts n ws
    acts_await s h z = at (Y.Await s) n ws h (act_is n ws z)

    pub acts_seq : (a b : ℕ) → d ≡ Y.Seq a b → r ≡ two_more counts a b → Acts n ws
    acts_seq a b h z = at (Y.Seq a b) n ws h (act_is n ws z)

    pub acts_do : (q : Place) (a : ℕ) → d ≡ Y.DoAt q a → r ≡ do_there who.place counts q a
        → Acts n ws
    acts_do q a h z = at (Y.DoAt q a) n ws h (act_is n ws z)

    pub acts_start : (s a b m : ℕ) (us : List ℕ) → d ≡ Y.Start s a b
        → act_result r m us ≡ start_act who (request false s) (arguments expr a b) vs n ws → Acts m us
    acts_start s a b m us h z = at (Y.Start s a b) m us h z

    pub acts_wait : (s a b m : ℕ) (us : List ℕ) → d ≡ Y.StartWait s a b
        → act_result r m us ≡ start_act who (request true s) (arguments expr a b) vs n ws → Acts m us
    acts_wait s a b m us h z = at (Y.StartWait s a b) m us h z

    -- after an evaluation, whose outcome is x and which leaves so many cells and these words
    module _ (x : Outcome) (m : ℕ) (us : List ℕ) where
      pub acts_let : (a b : ℕ) → d ≡ Y.LetIn a b → result x m us ≡ value a
          → r ≡ after_value x (let_after counts b) → Acts m us
      acts_let a b h q z =
          at (Y.LetIn a b) m us h
          (act_is m us z ∙ ap (λ (y : Result). act_after y (let_after counts b)) q)

      pub acts_store : (a b : ℕ) → d ≡ Y.Store a b
          → result x m us ≡ stored_on who (expr a) (expr b) vs n ws
          → r ≡ after_value x store_after → Acts m us
      acts_store a b h q z =
          at (Y.Store a b) m us h (act_is m us z ∙ ap (λ (y : Result). act_after y store_after) q)

      pub acts_if : (a b c : ℕ) → d ≡ Y.IfElse a b c → result x m us ≡ value a
          → r ≡ after_value x (choose_after counts b c) → Acts m us
      acts_if a b c h q z =
          at (Y.IfElse a b c) m us h
          (act_is m us z ∙ ap (λ (y : Result). act_after y (choose_after counts b c)) q)

      pub acts_while : (a b : ℕ) → d ≡ Y.While a b → result x m us ≡ value a
          → r ≡ after_value x (loop_after counts b i) → Acts m us
      acts_while a b h q z =
          at (Y.While a b) m us h
          (act_is m us z ∙ ap (λ (y : Result). act_after y (loop_after counts b i)) q)
