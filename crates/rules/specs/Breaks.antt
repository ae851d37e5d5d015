-- What it is for a frame to break a rule, from what its children are: refusals 8 to 13. Nothing is
-- computed here.
use Rattle.std.specs.Prelude.{◌≤◌, ◌<◌, ◌≡◌}
use Rattle.basics.specs.Prelude.{List, Bool, true, false, ℕ, length}
use Rattle.language.specs.Places.{private, Standing, unlinked, standing_at}
use Rattle.language.specs.Types.{number_type, truth_type, is_cell, content_of, room_around, public}
use Rattle.language.specs.Effects.{within}
use Rattle.language.specs.declared.effect.Effect.{Effect}
use Rattle.language.specs.declared.refusal.Rule.{Rule}
use Rattle.language.specs.declared.refusal.Rule.TheVariants.{Unbound, IllTyped, Escaping}
use Rattle.language.specs.declared.refusal.Rule.TheVariants.{WrongEffect, WhileUnlinked}
use Rattle.language.specs.declared.refusal.Rule.TheVariants.{InstantLoop}
use Rattle.program.specs.Trees.{Expr, Stmt}
use Rattle.rules.specs.Rules.{Setting, Signature, signature_at, HasType, HaveTypes, AllPublic}
use Rattle.rules.specs.Rules.{HasEffect}

-- `BreaksE cells Γ x n`: the root of the expression x breaks rule n, its children having types
pub data BreaksE (cells Γ : List ℕ) : Expr → Rule → Type 0 where
  -- 8 'no such variable or shared cell'
  variable : {i s : ℕ} → length Γ ≤ s → BreaksE cells Γ (Expr.variable i s) Unbound
  shared : {i s : ℕ} → length cells ≤ s → BreaksE cells Γ (Expr.shared i s) Unbound
  -- 9 'types'
  new_deep : {i s t : ℕ} {x : Expr} {e : Effect}
      → HasType cells Γ x t e → room_around t ≡ false
      → BreaksE cells Γ (Expr.new i s x) IllTyped
  content : {i t : ℕ} {x : Expr} {e : Effect}
      → HasType cells Γ x t e → is_cell t ≡ false
      → BreaksE cells Γ (Expr.content i x) IllTyped
  sum : {i t u : ℕ} {x y : Expr} {e f : Effect}
      → HasType cells Γ x t e → HasType cells Γ y u f → ((t ≡ number_type) × (u ≡ number_type) → ⊥)
      → BreaksE cells Γ (Expr.sum i x y) IllTyped
  less : {i t u : ℕ} {x y : Expr} {e f : Effect}
      → HasType cells Γ x t e → HasType cells Γ y u f → ((t ≡ number_type) × (u ≡ number_type) → ⊥)
      → BreaksE cells Γ (Expr.less i x y) IllTyped
  choose : {i t u v : ℕ} {x y z : Expr} {e f g : Effect}
      → HasType cells Γ x t e → HasType cells Γ y u f → HasType cells Γ z v g
      → ((t ≡ truth_type) × (u ≡ number_type) × (v ≡ number_type) → ⊥)
      → BreaksE cells Γ (Expr.choose i x y z) IllTyped
  -- 10 'a private cell in a public new cell'
  new_escapes : {i s t : ℕ} {x : Expr} {e : Effect}
      → (s ≡ private → ⊥) → HasType cells Γ x t e → public t ≡ false
      → BreaksE cells Γ (Expr.new i s x) Escaping

-- `Starts p s xs`: the statement p, a 13 or a 14, starts module s with the arguments xs
pub data Starts : Stmt → ℕ → List Expr → Type 0 where
  start : {i s : ℕ} {xs : List Expr} → Starts (Stmt.start i s xs) s xs
  start_wait : {i s : ℕ} {xs : List Expr} → Starts (Stmt.start_wait i s xs) s xs

-- `Signals p s`: the statement p, a 1A or a 1B, generates or awaits event s
pub data Signals : Stmt → ℕ → Type 0 where
  generate : {i s : ℕ} → Signals (Stmt.generate i s) s
  await : {i s : ℕ} → Signals (Stmt.await i s) s

-- `BreaksS env below Γ at p n`: the root of the statement p breaks rule n
pub data BreaksS (env : Setting) (below : List Signature)
    : List ℕ → Standing → Stmt → Rule → Type 0 where
  -- 8 'a module not below the one it stands in'
  start_module : {Γ : List ℕ} {at : Standing} {p : Stmt} {s : ℕ} {xs : List Expr}
      → Starts p s xs → length below ≤ s
      → BreaksS env below Γ at p Unbound
  -- 02, change 5: 'a missing event is 8'
  event : {Γ : List ℕ} {at : Standing} {p : Stmt} {s : ℕ}
      → Signals p s → length env.events ≤ s
      → BreaksS env below Γ at p Unbound
  -- 9 'types or the count of arguments'
  start_types : {Γ : List ℕ} {at : Standing} {p : Stmt} {s : ℕ} {xs : List Expr}
      {ts : List ℕ} {e : Effect}
      → Starts p s xs → s < length below → HaveTypes env.cells Γ xs ts e
      → (ts ≡ (signature_at below s).types → ⊥)
      → BreaksS env below Γ at p IllTyped
  store : {Γ : List ℕ} {at : Standing} {i t u : ℕ} {x y : Expr} {e f : Effect}
      → HasType env.cells Γ x t e → HasType env.cells Γ y u f
      → ((is_cell t ≡ true) × (u ≡ content_of t) → ⊥)
      → BreaksS env below Γ at (Stmt.store i x y) IllTyped
  if_else : {Γ : List ℕ} {at : Standing} {i t : ℕ} {x : Expr} {p q : Stmt} {e : Effect}
      → HasType env.cells Γ x t e → (t ≡ truth_type → ⊥)
      → BreaksS env below Γ at (Stmt.if_else i x p q) IllTyped
  while : {Γ : List ℕ} {at : Standing} {i t : ℕ} {x : Expr} {p : Stmt} {e : Effect}
      → HasType env.cells Γ x t e → (t ≡ truth_type → ⊥)
      → BreaksS env below Γ at (Stmt.while i x p) IllTyped
  -- 10 'a private cell .. as argument'
  start_escapes : {Γ : List ℕ} {at : Standing} {p : Stmt} {s : ℕ} {xs : List Expr}
      {ts : List ℕ} {e : Effect}
      → Starts p s xs → HaveTypes env.cells Γ xs ts e → (AllPublic ts → ⊥)
      → BreaksS env below Γ at p Escaping
  -- 11 'effect, at the 12'
  do_effect : {Γ : List ℕ} {at : Standing} {i s : ℕ} {p : Stmt} {e : Effect} {a : Bool}
      → HasEffect env below Γ (standing_at s) p e a → within env.links s e ≡ false
      → BreaksS env below Γ at (Stmt.do_at i s p) WrongEffect
  -- 12 'while loose, a 13, 14, 15 or a 12 with S 1'
  start_unlinked : {Γ : List ℕ} {p : Stmt} {s : ℕ} {xs : List Expr}
      → Starts p s xs
      → BreaksS env below Γ unlinked p WhileUnlinked
  cooperate_unlinked : {Γ : List ℕ} {i : ℕ}
      → BreaksS env below Γ unlinked (Stmt.cooperate i) WhileUnlinked
  do_unlinked : {Γ : List ℕ} {i : ℕ} {p : Stmt}
      → BreaksS env below Γ unlinked (Stmt.do_at i private p) WhileUnlinked
  -- 13 'a loop body that can end at once'
  while_body : {Γ : List ℕ} {at : Standing} {i : ℕ} {x : Expr} {p : Stmt} {e : Effect}
      → HasEffect env below Γ at p e true
      → BreaksS env below Γ at (Stmt.while i x p) InstantLoop
