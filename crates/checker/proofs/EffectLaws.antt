-- What the rules find of a statement, from the node at its root and what they find of its children:
-- one law for each arm of `effect_of`, and those of its helpers. Assumes nothing.
use Rattle.std.specs.Prelude.{Option, Result, Ok, Err}
use mathlib.Core.Path.{◌≡◌, refl, sym, ap, subst, ◌∙◌}
use mathlib.Core.Logic.{◌⊎◌, inl, inr}
use mathlib.Core.Bool.{Bool, true, false, not}
use mathlib.Core.List.{List, [], ◌∷◌, ◌++◌, map}
use Prim.Native.Nat.{ℕ, zero, suc, ◌+◌, ◌-◌, ◌<◌}
use native.Mathlib.Omega.{arith}
use lib.ListN.{length, take, get_or}
use lib.Dec.{eqb}
use Rattle.basics.proofs.Ifs.{if_all}
use Rattle.language.specs.Places.{Standing, linked, unlinked, standing_at}
use Rattle.language.specs.Effects.{no_effect, within}
use Rattle.language.specs.Inner.Labels.{within_in}
use Rattle.language.specs.declared.Place.{Place}
use Rattle.language.specs.declared.effect.Effect.{Effect}
use Rattle.language.specs.declared.refusal.Refusal.{Refusal}
use Rattle.language.specs.declared.kind.StatementKind.{StatementKind}
use Rattle.language.specs.declared.kind.StatementKind.TheVariants as S
use Rattle.language.specs.declared.kind.Kind.{Kind}
use Rattle.language.specs.declared.kind.Kind.TheVariants.{Header, Declared, Module, Statement}
use Rattle.language.specs.declared.kind.Kind.TheVariants.{Expression, Unknown}
use Rattle.language.specs.declared.frame.Frame.{Frame}
use Rattle.text.specs.Frames.{frame_of_word, frames_of}
use Rattle.program.specs.Trees.{frame_at, expression_at, arguments, statement_of, statement_at}
use Rattle.layout.specs.Inner.Scope.{Room}
use Rattle.program.specs.Programs.{program_of}
use Rattle.program.specs.Inner.Events.{event_in}
use Rattle.program.proofs.Decoding.{statement_at_lem}
use Rattle.rules.specs.Rules.{Setting, Signature}
use Rattle.rules.specs.Inner.Checking.{Argued, argue, types_in, is_linked, start_rule}
use Rattle.rules.specs.Inner.Checking.{cooperate_rule}
use Rattle.rules.specs.Inner.Checking.{seq_rule, do_rule, join_rule, let_rule, store_rule}
use Rattle.rules.specs.Inner.Checking.{if_else_rule}
use Rattle.rules.specs.Inner.Checking.{while_rule, signal_rule, signal_of, effect_in, EffectTest}
use Rattle.rules.specs.Inner.Standings.{standing}
use Rattle.rules.specs.Inner.Signatures.{no_arguments, argued_of, signature_of}
use Rattle.program.specs.Inner.Nodes.{statement_node_of, statement_node_in, statement_node}
use Rattle.checker.specs.Inner.Frames.{FileIn}
use Rattle.checker.specs.Inner.Settings.{setting_in, LabelsOf}
use Rattle.rules.specs.declared.start.Arguments.{Arguments}
use Rattle.rules.specs.declared.start.Arguments.TheVariants as A
use Rattle.program.specs.declared.node.StatementNode.{StatementNode}
use Rattle.program.specs.declared.node.StatementNode.TheVariants as Y
use Rattle.rules.specs.declared.finding.Typed.{Typed}
use Rattle.rules.specs.Inner.Findings.{Typing, StatementEffect, ending}
use Rattle.checker.proofs.NodeLaws.{ordered, AtStatement, statement_here}
use Rattle.checker.proofs.TypingLaws.{type_at}
use Rattle.checker.proofs.DescentLaws.{lower_in}
use Rattle.checker.proofs.LabelLaws.{same_test}

-- ---- where a statement stands
pub linked_at : (s : ℕ) (x : Bool) → x ≡ eqb s 1 → not x ≡ is_linked (standing_at s)
unfolding standing_at
linked_at s x e =
    let b = eqb s 1 in
    ap not e ∙ if_all (λ (z : Standing). not b ≡ is_linked z) b unlinked linked (ap not) (ap not)

standing_is : (z : Standing) → standing (is_linked z) ≡ z
standing_is linked = refl
standing_is unlinked = refl

-- ---- the arguments of a start
abbrev argue_at : List ℕ → List ℕ → List ℕ → ℕ → ℕ → Argued
argue_at cells Γ ws a b = types_in cells Γ (arguments (expression_at (frames_of ws)) a b)

one_more : (m : ℕ) → (m ≡ 0 → ⊥) → (k : ℕ) × (m ≡ suc k)
one_more zero h = absurd (h refl)
one_more (suc k) h = (k, refl)

module _ (cells Γ ws : List ℕ) (a b : ℕ) where
  pub arguments_none : a ≡ 0 → argued_of (Ok A.Nothing) ≡ argue_at cells Γ ws a b
  unfolding types_in
  arguments_none h = ap (λ (m : ℕ). argue_at cells Γ ws m b) (sym h)

  pub arguments_one : (x : Typing) (r : Result Arguments Refusal) → (a ≡ 0 → ⊥) → b ≡ 0
      → x ≡ type_at cells Γ ws a
      → argued_of r ≡ argue x no_arguments → argued_of r ≡ argue_at cells Γ ws a b
  unfolding types_in
  arguments_one x r n z h k =
      let m = one_more a n in
      k ∙ ap (λ (t : Typing). argue t no_arguments) (h ∙ ap (type_at cells Γ ws) m.1)
      ∙ sym (ap (λ (p : ℕ). argue_at cells Γ ws p b) m.1 ∙ ap (argue_at cells Γ ws (suc m.0)) z)

  pub arguments_two : (x y : Typing) (r : Result Arguments Refusal) → (a ≡ 0 → ⊥) → (b ≡ 0 → ⊥)
      → x ≡ type_at cells Γ ws a → y ≡ type_at cells Γ ws b
      → argued_of r ≡ argue x (argue y no_arguments) → argued_of r ≡ argue_at cells Γ ws a b
  unfolding types_in
  arguments_two x y r n o h l k =
      let m = one_more a n in
      let p = one_more b o in
      k ∙ ap (λ (t : Typing). argue t (argue y no_arguments)) (h ∙ ap (type_at cells Γ ws) m.1) ∙ ap
      (λ (t : Typing). argue (type_at cells Γ ws (suc m.0)) (argue t no_arguments))
      (l ∙ ap (type_at cells Γ ws) p.1)
      ∙ sym (ap (λ (q : ℕ). argue_at cells Γ ws q b) m.1 ∙ ap (argue_at cells Γ ws (suc m.0)) p.1)

pub ruleset arguments_laws = (arguments_none, arguments_one, arguments_two)

pub argument_in : (ws : List ℕ) (i a : ℕ) → i < length ws → ((a ≡ 0 → ⊥) → a < i)
    → (a ≡ 0 → ⊥) → a < length ws
argument_in ws i a g h n = lower_in ws i a g (h n)

pub further_in : (ws : List ℕ) (i a b : ℕ) → i < length ws
    → ((a ≡ 0 → ⊥) → (b ≡ 0 → ⊥) → b < i) → (a ≡ 0 → ⊥) → (b ≡ 0 → ⊥) → b < length ws
further_in ws i a b g h n o = lower_in ws i b g (h n o)

-- ---- the definition by nodes: what is found at frame i, where T, R and As say what is found of
-- the expressions, the statements and the arguments at its children, and `allows` is the test of
-- 12. The body of a let is asked with a variable more, so `let_in` is a parameter of its own. os
-- are the owners of the events
abbrev effect_by : EffectTest → (ℕ → Typing) → (ℕ → List ℕ → Standing → StatementEffect)
    → (ℕ → ℕ → Argued) → List ℕ → List Signature → List ℕ → Standing → ℕ → StatementNode
    → (ℕ → Typing → StatementEffect) → StatementEffect
effect_by allows T R As os below Γ at i Y.Nothing let_in = ending no_effect true
effect_by allows T R As os below Γ at i Y.Cooperate let_in = cooperate_rule at i
effect_by allows T R As os below Γ at i (Y.Seq a b) let_in = seq_rule (R a Γ at) (R b Γ at)
effect_by allows T R As os below Γ at i (Y.DoAt s a) let_in =
    do_rule allows at s.number i (R a Γ (standing_at s.number))
effect_by allows T R As os below Γ at i (Y.Start s a b) let_in = start_rule true below at s i
    (As a b)
effect_by allows T R As os below Γ at i (Y.StartWait s a b) let_in = start_rule false below at s i
    (As a b)
effect_by allows T R As os below Γ at i (Y.LetIn a b) let_in = let_in b (T a)
effect_by allows T R As os below Γ at i (Y.Store a b) let_in = store_rule i (T a) (T b)
effect_by allows T R As os below Γ at i (Y.IfElse a b c) let_in = if_else_rule i (T a) (R b Γ at)
    (R c Γ at)
effect_by allows T R As os below Γ at i (Y.While a b) let_in = while_rule i (T a) (R b Γ at)
effect_by allows T R As os below Γ at i (Y.Generate s) let_in = signal_of os s i
effect_by allows T R As os below Γ at i (Y.Await s) let_in = signal_of os s i

-- ---- at a frame of a laid-out file
abbrev run_at : Setting → List Signature → List ℕ → ℕ → List ℕ → Standing → StatementEffect
run_at env below ws i Γ at = effect_in env below Γ at (statement_at (frames_of ws) i)

module _ (env : Setting) (below : List Signature) (ws Γ : List ℕ) (at : Standing) (i : ℕ) where
  abbrev By : StatementNode → StatementEffect
  By n = effect_by (within env.links) (type_at env.cells Γ ws) (run_at env below ws)
      (argue_at env.cells Γ ws) env.events below Γ at i n
      (λ b x. let_rule (λ Δ. run_at env below ws b Δ at) Γ x)

  by_statement : (f : Frame) (k : StatementKind)
      → effect_in env below Γ at
      (statement_of (λ j. expression_at (frames_of ws) j)
      (λ j. statement_at (frames_of ws) j) i f (Statement k))
      ≡ By (statement_node_of k f.s f.a f.b f.c)
  unfolding effect_in
  by_statement f S.Nothing = refl
  by_statement f S.Then = refl
  by_statement f S.DoAt = refl
  by_statement f S.Start = refl
  by_statement f S.StartWait = refl
  by_statement f S.Cooperate = refl
  by_statement f S.Let = refl
  by_statement f S.Store = refl
  by_statement f S.If = refl
  by_statement f S.While = refl
  by_statement f S.Generate = refl
  by_statement f S.Await = refl

  by_kind : (f : Frame) (k : Kind)
      → effect_in env below Γ at
      (statement_of (λ j. expression_at (frames_of ws) j)
      (λ j. statement_at (frames_of ws) j) i f k)
      ≡ By (statement_node_in k f)
  unfolding effect_in
  by_kind f Header = refl
  by_kind f (Declared d) = refl
  by_kind f Module = refl
  by_kind f (Statement k) = by_statement f k
  by_kind f (Expression k) = refl
  by_kind f Unknown = refl

  run_by : (f : Frame) (n v : StatementNode)
      → AtStatement ws i f n v (run_at env below ws i Γ at ≡ By v)
  run_by f n v h k e g j =
      ap (effect_in env below Γ at) (statement_at_lem (frames_of ws) (ordered ws g) i)
      ∙ by_kind (frame_at (frames_of ws) i) (frame_at (frames_of ws) i).kind
      ∙ ap By (statement_here ws i f n v h k e g j)

-- ---- a let adds a variable, and takes it away
one_longer : (Γ : List ℕ) (t : ℕ) → length (Γ ++ (t ∷ [])) ≡ length Γ + 1
one_longer [] t = refl
one_longer (u ∷ Γ) t = let h = one_longer Γ t in omega arith

front : (Γ Δ : List ℕ) → take (length Γ) (Γ ++ Δ) ≡ Γ
front [] Δ = refl
front (u ∷ Γ) Δ = ap (λ (Θ : List ℕ). u ∷ Θ) (front Γ Δ)

pub let_room : (ws Γ Δ : List ℕ) (b t : ℕ) → Δ ≡ Γ ++ (t ∷ [])
    → Room (frames_of ws) b (length Γ + 1) → Room (frames_of ws) b (length Δ)
let_room ws Γ Δ b t e r =
    subst (λ (n : ℕ). Room (frames_of ws) b n) (sym (ap length e ∙ one_longer Γ t)) r

pub let_some : (Γ Δ Θ : List ℕ) (t : ℕ) → Δ ≡ Γ ++ (t ∷ []) → Θ ≡ Δ → 0 < length Θ
let_some Γ Δ Θ t e h =
    let n : length Θ ≡ length Γ + 1 = ap length h ∙ ap length e ∙ one_longer Γ t in omega arith

pub let_leaves : (Γ Δ Θ out : List ℕ) (t : ℕ) → Δ ≡ Γ ++ (t ∷ []) → Θ ≡ Δ
    → out ≡ take (length Θ - 1) Θ → out ≡ Γ
let_leaves Γ Δ Θ out t e h o =
    let n : length Θ ≡ length Γ + 1 = ap length h ∙ ap length e ∙ one_longer Γ t in
    let m : length Θ - 1 ≡ length Γ = omega arith in
    o ∙ ap (λ (k : ℕ). take k Θ) m ∙ ap (take (length Γ)) (h ∙ e) ∙ front Γ (t ∷ [])

-- ---- the code's returns: l says whether the thread is linked, Γ are the variables
module _ (env : Setting) (sigs ws Γ : List ℕ) (i : ℕ) (l : Bool) (f : Frame)
    (n : StatementNode) where
  abbrev Where : StatementNode → Type 0 → Type 0
  Where v C = AtStatement ws i f n v C

  -- what is found of the statement at frame a, and x is that; x is what is found of the expression
  -- there
  abbrev found : ℕ → StatementEffect
  found a = run_at env (map signature_of sigs) ws a Γ (standing l)

  abbrev R : ℕ → StatementEffect → Type 0
  R a x = x ≡ found a

  abbrev T : ℕ → Typing → Type 0
  T a x = x ≡ type_at env.cells Γ ws a

  by_node : (v : StatementNode) (r : StatementEffect)
      → Where v (r ≡ By env (map signature_of sigs) ws Γ (standing l) i v → R i r)
  by_node v r h k e g j q =
      q ∙ sym (run_by env (map signature_of sigs) ws Γ (standing l) i f n v h k e g j)

  pub run_nothing : (e : Effect) → Where Y.Nothing (e ≡ no_effect → R i (ending e true))
  run_nothing e h k q g j z =
      by_node Y.Nothing (ending e true) h k q g j (ap (λ (o : Effect). ending o true) z)

  pub run_cooperate : (r : StatementEffect) → Where Y.Cooperate
      (r ≡ cooperate_rule (standing l) i → R i r)
  run_cooperate r h k q g j z = by_node Y.Cooperate r h k q g j z

  -- what is found in variables Δ that are those of Γ
  same_found : (a : ℕ) (x : StatementEffect) (Δ : List ℕ) → Δ ≡ Γ
      → x ≡ run_at env (map signature_of sigs) ws a Δ (standing l) → R a x
  same_found a x Δ d v =
      v ∙ ap (λ (Θ : List ℕ). run_at env (map signature_of sigs) ws a Θ (standing l)) d

  pub run_seq : (a b : ℕ) (x y r : StatementEffect) (Δ : List ℕ) → r ≡ seq_rule x y
      → Where (Y.Seq a b) (R a x → Δ ≡ Γ
      → y ≡ run_at env (map signature_of sigs) ws b Δ (standing l) → R i r)
  run_seq a b x y r Δ z h k q g j u d v =
      by_node (Y.Seq a b) r h k q g j
      (z ∙ ap (λ (c : StatementEffect). seq_rule c y) u ∙ ap (seq_rule (found a))
      (same_found b y Δ d v))

  pub run_start : (s a b : ℕ) (x : Result Arguments Refusal) (r : StatementEffect)
      → Where (Y.Start s a b)
      (argued_of x ≡ argue_at env.cells Γ ws a b → r ≡ start_rule true (map signature_of sigs)
      (standing l) s i (argued_of x) → R i r)
  run_start s a b x r h k q g j d z = by_node (Y.Start s a b) r h k q g j
      (z ∙ ap (start_rule true (map signature_of sigs) (standing l) s i) d)

  pub run_wait : (s a b : ℕ) (x : Result Arguments Refusal) (r : StatementEffect)
      → Where (Y.StartWait s a b)
      (argued_of x ≡ argue_at env.cells Γ ws a b → r ≡ start_rule false (map signature_of sigs)
      (standing l) s i (argued_of x) → R i r)
  run_wait s a b x r h k q g j d z = by_node (Y.StartWait s a b) r h k q g j
      (z ∙ ap (start_rule false (map signature_of sigs) (standing l) s i) d)

  pub run_store : (a b : ℕ) (x y : Typing) (r : StatementEffect)
      → Where (Y.Store a b) (T a x → T b y → r ≡ store_rule i x y → R i r)
  run_store a b x y r h k q g j u v z = by_node (Y.Store a b) r h k q g j
      (z ∙ ap (λ (c : Typing). store_rule i c y) u ∙ ap (store_rule i (type_at env.cells Γ ws a)) v)

  pub run_if : (a b c : ℕ) (x : Typing) (y w r : StatementEffect) (Δ : List ℕ)
      → r ≡ if_else_rule i x y w
      → Where (Y.IfElse a b c) (T a x → R b y → Δ ≡ Γ
      → w ≡ run_at env (map signature_of sigs) ws c Δ (standing l) → R i r)
  run_if a b c x y w r Δ z h k q g j u v e t =
      let o = type_at env.cells Γ ws a in
      by_node (Y.IfElse a b c) r h k q g j
      (z ∙ ap (λ (d : Typing). if_else_rule i d y w) u
      ∙ ap (λ (d : StatementEffect). if_else_rule i o d w) v
      ∙ ap (if_else_rule i o (found b)) (same_found c w Δ e t))

  pub run_while : (a b : ℕ) (x : Typing) (y r : StatementEffect)
      → Where (Y.While a b) (T a x → R b y → r ≡ while_rule i x y → R i r)
  run_while a b x y r h k q g j u v z = by_node (Y.While a b) r h k q g j
      (z ∙ ap (λ (d : Typing). while_rule i d y) u ∙ ap (while_rule i (type_at env.cells Γ ws a)) v)

  -- a let, whose body is found at b in the variables Δ
  abbrev let_at : ℕ → Typing → StatementEffect
  let_at b x = let_rule (λ Δ. run_at env (map signature_of sigs) ws b Δ (standing l)) Γ x

  let_by : (a b : ℕ) (x v : Typing) → x ≡ v → T a x
      → let_at b v ≡ let_at b (type_at env.cells Γ ws a)
  let_by a b x v h u = ap (let_at b) (sym h ∙ u)

  pub run_let_fault : (a b : ℕ) (x : Typing) (p : Refusal)
      → Where (Y.LetIn a b) (T a x → x ≡ Err p → R i (Err p))
  run_let_fault a b x p h k q g j u z =
      by_node (Y.LetIn a b) (Err p) h k q g j (let_by a b x (Err p) z u)

  pub run_let : (a b : ℕ) (x : Typing) (t : Typed) (y r : StatementEffect) (Δ : List ℕ)
      → r ≡ join_rule t.effect y
      → Where (Y.LetIn a b) (T a x → x ≡ Ok t → Δ ≡ Γ ++ (t.type_word ∷ [])
      → y ≡ run_at env (map signature_of sigs) ws b Δ (standing l) → R i r)
  run_let a b x t y r Δ o h k q g j u z d v =
      by_node (Y.LetIn a b) r h k q g j
      (o
      ∙ ap (join_rule t.effect)
      (v ∙ ap (λ (Θ : List ℕ). run_at env (map signature_of sigs) ws b Θ (standing l)) d)
      ∙ let_by a b x (Ok t) z u)

-- what is asked of the file beside its shared cells
module _ (cells sigs ws Γ : List ℕ) (i : ℕ) (l : Bool) (f : Frame) (n : StatementNode) where
  -- 12: the test is by the labels
  pub run_do : (s : Place) (a : ℕ) (o : Bool) (x r : StatementEffect) (labels : List ℕ)
      → AtStatement ws i f n (Y.DoAt s a) (o ≡ is_linked (standing_at s.number)
      → x ≡ run_at (setting_in ws cells) (map signature_of sigs) ws a Γ (standing o)
      → r ≡ do_rule (within_in labels) (standing l) s.number i x → LabelsOf ws labels
      → r ≡ run_at (setting_in ws cells) (map signature_of sigs) ws i Γ (standing l))
  run_do s a o x r labels h k q g j d u z m =
      let env = setting_in ws cells in
      let e = ap standing d ∙ standing_is (standing_at s.number) in
      by_node env sigs ws Γ i l f n (Y.DoAt s a) r h k q g j
      (z
      ∙ ap (λ (test : EffectTest). do_rule test (standing l) s.number i x) (same_test ws labels m)
      ∙ ap (do_rule (within env.links) (standing l) s.number i)
      (u ∙ ap (run_at env (map signature_of sigs) ws a Γ) e))

  -- 1A and 1B: x is the owner of event s among the frames
  signal_found : (s : ℕ) (x : Option ℕ) (r : StatementEffect)
      → x ≡ event_in (program_of (frames_of ws)) s → r ≡ signal_rule x i
      → r ≡ signal_of (setting_in ws cells).events s i
  unfolding event_in program_of
  signal_found s x r e z = z ∙ ap (λ (y : Option ℕ). signal_rule y i) e

  pub run_signal : (s : ℕ) (x : Option ℕ) (r : StatementEffect)
      → (n ≡ Y.Generate s) ⊎ (n ≡ Y.Await s) → n ≡ statement_node f
      → f ≡ frame_of_word (get_or ws i 0) → FileIn ws → i < length ws
      → x ≡ event_in (program_of (frames_of ws)) s → r ≡ signal_rule x i
      → r ≡ run_at (setting_in ws cells) (map signature_of sigs) ws i Γ (standing l)
  run_signal s x r (inl h) k q g j e z =
      by_node (setting_in ws cells) sigs ws Γ i l f n (Y.Generate s) r h k q g j
      (signal_found s x r e z)
  run_signal s x r (inr h) k q g j e z =
      by_node (setting_in ws cells) sigs ws Γ i l f n (Y.Await s) r h k q g j (signal_found s x r e z)
