-- Which rule a program breaks first: refusals 8 to 13 over a whole file. Nothing is computed here.
use Rattle.std.specs.Prelude.{Err}
use Rattle.std.specs.Prelude.{◌∷◌, ◌++◌, ◌≤◌, ◌<◌, ◌≡◌, ◌⊎◌}
use Rattle.basics.specs.Prelude.{List, [], Bool, false, ℕ, In}
use Rattle.language.specs.{Places.home, Places.Standing, Places.linked, Places.standing_at}
use Rattle.language.specs.{Effects.within, declared.effect.Effect.Effect}
use Rattle.language.specs.{Verdicts.Verdict}
use Rattle.language.specs.{Verdicts.Accepted}
use Rattle.language.specs.{Refusals.rule_number, declared.refusal.Rule.Rule}
use Rattle.language.specs.declared.refusal.Rule.TheVariants.{WrongEffect}
use Rattle.program.specs.Trees.{Expr, Stmt, root_e, root_s}
use Rattle.program.specs.Programs.{Part, Program}
use Rattle.rules.specs.Rules.{Setting, setting_of, Signature, signature, HasType, HasEffect}
use Rattle.rules.specs.Rules.{Keeps}
use Rattle.rules.specs.Breaks.{BreaksE, BreaksS, Starts}

-- y is a child of the expression x
pub data ChildE : Expr → Expr → Type 0 where
  new : {i s : ℕ} {x : Expr} → ChildE (Expr.new i s x) x
  content : {i : ℕ} {x : Expr} → ChildE (Expr.content i x) x
  sum_a : {i : ℕ} {x y : Expr} → ChildE (Expr.sum i x y) x
  sum_b : {i : ℕ} {x y : Expr} → ChildE (Expr.sum i x y) y
  less_a : {i : ℕ} {x y : Expr} → ChildE (Expr.less i x y) x
  less_b : {i : ℕ} {x y : Expr} → ChildE (Expr.less i x y) y
  choose_a : {i : ℕ} {x y z : Expr} → ChildE (Expr.choose i x y z) x
  choose_b : {i : ℕ} {x y z : Expr} → ChildE (Expr.choose i x y z) y
  choose_c : {i : ℕ} {x y z : Expr} → ChildE (Expr.choose i x y z) z

-- x is a child of the statement p, and an expression
pub data Operand : Stmt → Expr → Type 0 where
  argument : {p : Stmt} {s : ℕ} {xs : List Expr} {x : Expr} → Starts p s xs → In x xs → Operand p x
  let_in : {i : ℕ} {x : Expr} {p : Stmt} → Operand (Stmt.let_in i x p) x
  store_a : {i : ℕ} {x y : Expr} → Operand (Stmt.store i x y) x
  store_b : {i : ℕ} {x y : Expr} → Operand (Stmt.store i x y) y
  if_else : {i : ℕ} {x : Expr} {p q : Stmt} → Operand (Stmt.if_else i x p q) x
  while : {i : ℕ} {x : Expr} {p : Stmt} → Operand (Stmt.while i x p) x

-- `ChildS env Γ at p Δ by q`: q is a child of the statement p, and a statement; where p stands in
-- the variables Γ and `at`, q stands in Δ and `by`
pub data ChildS (env : Setting) : List ℕ → Standing → Stmt → List ℕ → Standing → Stmt → Type 0 where
  seq_a : {Γ : List ℕ} {at : Standing} {i : ℕ} {p q : Stmt}
      → ChildS env Γ at (Stmt.seq i p q) Γ at p
  seq_b : {Γ : List ℕ} {at : Standing} {i : ℕ} {p q : Stmt}
      → ChildS env Γ at (Stmt.seq i p q) Γ at q
  do_at : {Γ : List ℕ} {at : Standing} {i s : ℕ} {p : Stmt}
      → ChildS env Γ at (Stmt.do_at i s p) Γ (standing_at s) p
  let_in : {Γ : List ℕ} {at : Standing} {i t : ℕ} {x : Expr} {p : Stmt} {e : Effect}
      → HasType env.cells Γ x t e
      → ChildS env Γ at (Stmt.let_in i x p) (Γ ++ (t ∷ [])) at p
  if_else_b : {Γ : List ℕ} {at : Standing} {i : ℕ} {x : Expr} {p q : Stmt}
      → ChildS env Γ at (Stmt.if_else i x p q) Γ at p
  if_else_c : {Γ : List ℕ} {at : Standing} {i : ℕ} {x : Expr} {p q : Stmt}
      → ChildS env Γ at (Stmt.if_else i x p q) Γ at q
  while : {Γ : List ℕ} {at : Standing} {i : ℕ} {x : Expr} {p : Stmt}
      → ChildS env Γ at (Stmt.while i x p) Γ at p

-- `BrokenE cells Γ x n j`: in the expression x, frame j breaks rule n
pub data BrokenE (cells Γ : List ℕ) : Expr → Rule → ℕ → Type 0 where
  here : {x : Expr} {n : Rule} → BreaksE cells Γ x n → BrokenE cells Γ x n (root_e x)
  under : {x y : Expr} {n : Rule} {j : ℕ}
      → ChildE x y → BrokenE cells Γ y n j
      → BrokenE cells Γ x n j

-- `BrokenS env below Γ at p n j`: in the statement p, frame j breaks rule n
pub data BrokenS (env : Setting) (below : List Signature)
    : List ℕ → Standing → Stmt → Rule → ℕ → Type 0 where
  here : {Γ : List ℕ} {at : Standing} {p : Stmt} {n : Rule}
      → BreaksS env below Γ at p n
      → BrokenS env below Γ at p n (root_s p)
  operand : {Γ : List ℕ} {at : Standing} {p : Stmt} {x : Expr} {n : Rule} {j : ℕ}
      → Operand p x → BrokenE env.cells Γ x n j
      → BrokenS env below Γ at p n j
  under : {Γ Δ : List ℕ} {at by : Standing} {p q : Stmt} {n : Rule} {j : ℕ}
      → ChildS env Γ at p Δ by q → BrokenS env below Δ by q n j
      → BrokenS env below Γ at p n j

-- `BrokenM env below ms n j`: in the modules ms, which stand after modules with the signatures
-- `below`, frame j breaks rule n
pub data BrokenM (env : Setting) : List Signature → List Part → Rule → ℕ → Type 0 where
  body : {below : List Signature} {m : Part} {ms : List Part} {n : Rule} {j : ℕ}
      → BrokenS env below m.types linked m.body n j
      → BrokenM env below (m ∷ ms) n j
  later : {below : List Signature} {m : Part} {ms : List Part} {e : Effect} {b : Bool} {n : Rule}
      {j : ℕ}
      → HasEffect env below m.types linked m.body e b
      → BrokenM env (below ++ (signature m e ∷ [])) ms n j
      → BrokenM env below (m ∷ ms) n j
  -- 11 'effect, .. at main': main is the last
  main : {below : List Signature} {m : Part} {e : Effect} {b : Bool}
      → HasEffect env below m.types linked m.body e b → within env.links home e ≡ false
      → BrokenM env below (m ∷ []) WrongEffect m.frame

-- in the program, frame j breaks rule n
abbrev pub Broken : Program → Rule → ℕ → Type 0
Broken file n j = BrokenM (setting_of file) [] file.modules n j

-- rule n at frame j comes no later than rule m at frame k: 'First frame in file order; there, the
-- smallest number.'
abbrev pub NoLater : Rule → ℕ → Rule → ℕ → Type 0
NoLater n j m k = (j < k) ⊎ ((j ≡ k) × (rule_number n ≤ rule_number m))

-- rule n is broken at frame j, and nothing comes before it
pub record FirstBroken (file : Program) (n : Rule) (j : ℕ) : Type 0 where
  pub broken : Broken file n j
  pub least : (m : Rule) (k : ℕ) → Broken file m k → NoLater n j m k

-- what refusals 8 to 13 say of the program
abbrev pub RulesSay : Program → Verdict → Type 0
RulesSay file Accepted = Keeps file
RulesSay file (Err r) = FirstBroken file r.rule r.frame
