-- Typing at a place, which is what demand 3's proof needs of the rules: an expression or a
-- statement keeps them on place p, its effect within p. Assumes nothing: definitions.
use mathlib.Core.Path.{◌≡◌}
use mathlib.Core.Logic.{◌⊎◌}
use mathlib.Core.List.{List, [], ◌∷◌, ◌++◌}
use mathlib.Core.Option.{Option}
use Prim.Native.Nat.{ℕ, zero, suc, ◌≤◌, ◌<◌}
use lib.ListN.{length}
use Rattle.language.specs.Groups.{InStep}
use Rattle.program.specs.Trees.{Expr, Stmt}
use Rattle.program.specs.Programs.{Program, owner_of_event, module_at}

-- types, as the type words say them: a number, a truth, a cell of that owner around a type
pub data Ty : Type 0 where
  num tru : Ty
  cell : ℕ → Ty → Ty

-- 'Public: the outermost owner isn't 1.'
abbrev pub Pub : Ty → Type 0
Pub num = Unit {0}
Pub tru = Unit {0}
Pub (cell o τ) = 2 ≤ o

-- a cell's owner, and the type of its content
pub record CellTyping : Type 0 where
  pub own : ℕ
  pub ty : Ty

-- a store typing: one for each cell in use
abbrev pub Store : Type 0
Store = ℕ → Option CellTyping

-- the member at that index
pub data At {A : Type 0} : List A → ℕ → A → Type 0 where
  here : {a : A} {l : List A} → At (a ∷ l) zero a
  there : {a b : A} {l : List A} {j : ℕ} → At l j a → At (b ∷ l) (suc j) a

-- an owner whose cells a thread on p may access, by an effect within p: private, or the scheduler p
abbrev pub Allowed : ℕ → ℕ → Type 0
Allowed p o = (o ≡ 1) ⊎ ((2 ≤ p) × (o ≡ p))

-- expression x has that type, where the shared cells are sh and the variables Γ, and its effect is
-- within p
pub data TypedE (sh : List CellTyping) (Γ : List Ty) (p : ℕ) : Expr → Ty → Type 0 where
  t_number : {i n : ℕ} → TypedE sh Γ p (Expr.number i n) num
  t_truth : {i n : ℕ} → TypedE sh Γ p (Expr.truth i n) tru
  t_variable : {i s : ℕ} {τ : Ty} → At Γ s τ → TypedE sh Γ p (Expr.variable i s) τ
  t_shared : {i s : ℕ} {k : CellTyping} → At sh s k
      → TypedE sh Γ p (Expr.shared i s) (cell k.own k.ty)
  t_new : {i o : ℕ} {x : Expr} {τ : Ty} → Allowed p o → p ≤ 9 → (2 ≤ o → Pub τ) → TypedE sh Γ p x τ
      → TypedE sh Γ p (Expr.new i o x) (cell o τ)
  t_content : {i o : ℕ} {x : Expr} {τ : Ty} → Allowed p o → TypedE sh Γ p x (cell o τ)
      → TypedE sh Γ p (Expr.content i x) τ
  t_sum : {i : ℕ} {x y : Expr} → TypedE sh Γ p x num → TypedE sh Γ p y num
      → TypedE sh Γ p (Expr.sum i x y) num
  t_less : {i : ℕ} {x y : Expr} → TypedE sh Γ p x num → TypedE sh Γ p y num
      → TypedE sh Γ p (Expr.less i x y) tru
  t_choose : {i : ℕ} {x y z : Expr} → TypedE sh Γ p x tru → TypedE sh Γ p y num
      → TypedE sh Γ p z num → TypedE sh Γ p (Expr.choose i x y z) num

-- arguments and their types, which are public
pub data Args (sh : List CellTyping) (Γ : List Ty) (p : ℕ) : List Expr → List Ty → Type 0 where
  none : Args sh Γ p [] []
  more : {x : Expr} {xs : List Expr} {τ : Ty} {τs : List Ty} → TypedE sh Γ p x τ → Pub τ
      → Args sh Γ p xs τs → Args sh Γ p (x ∷ xs) (τ ∷ τs)

-- event e is there, and p is the scheduler that owns it, or one in step with that
pub record OwnEvent (P : Program) (p e : ℕ) : Type 0 where
  pub scheduler : 2 ≤ p
  pub there : e < length P.events
  pub owner : InStep P.links (owner_of_event P e) p

-- the statement keeps the rules on p, over variables Γ: its effect is within p, and p is 1 where it
-- is unlinked
pub data TypedS (P : Program) (sh : List CellTyping) : List Ty → ℕ → Stmt → Type 0 where
  s_nothing : {Γ : List Ty} {p i : ℕ} → TypedS P sh Γ p (Stmt.nothing i)
  s_seq : {Γ : List Ty} {p i : ℕ} {a b : Stmt} → TypedS P sh Γ p a → TypedS P sh Γ p b
      → TypedS P sh Γ p (Stmt.seq i a b)
  s_do : {Γ : List Ty} {p i q : ℕ} {a : Stmt} → (p ≡ 1 → q ≡ 1 → ⊥) → TypedS P sh Γ q a
      → TypedS P sh Γ p (Stmt.do_at i q a)
  s_start : {Γ Δ : List Ty} {p i m : ℕ} {xs : List Expr} → 2 ≤ p → m < length P.modules
      → Args sh Γ p xs Δ → length Δ ≡ length (module_at P m).types
      → TypedS P sh Δ p (module_at P m).body → TypedS P sh Γ p (Stmt.start i m xs)
  s_start_wait : {Γ Δ : List Ty} {p i m : ℕ} {xs : List Expr} → 2 ≤ p → m < length P.modules
      → Args sh Γ p xs Δ → length Δ ≡ length (module_at P m).types
      → TypedS P sh Δ p (module_at P m).body → TypedS P sh Γ p (Stmt.start_wait i m xs)
  s_cooperate : {Γ : List Ty} {p i : ℕ} → 2 ≤ p → TypedS P sh Γ p (Stmt.cooperate i)
  s_let : {Γ : List Ty} {p i : ℕ} {x : Expr} {τ : Ty} {a : Stmt} → TypedE sh Γ p x τ
      → TypedS P sh (Γ ++ (τ ∷ [])) p a → TypedS P sh Γ p (Stmt.let_in i x a)
  s_store : {Γ : List Ty} {p i o : ℕ} {x y : Expr} {τ : Ty} → Allowed p o
      → TypedE sh Γ p x (cell o τ) → TypedE sh Γ p y τ → TypedS P sh Γ p (Stmt.store i x y)
  s_if : {Γ : List Ty} {p i : ℕ} {x : Expr} {a b : Stmt} → TypedE sh Γ p x tru → TypedS P sh Γ p a
      → TypedS P sh Γ p b → TypedS P sh Γ p (Stmt.if_else i x a b)
  s_while : {Γ : List Ty} {p i : ℕ} {x : Expr} {a : Stmt} → TypedE sh Γ p x tru → TypedS P sh Γ p a
      → TypedS P sh Γ p (Stmt.while i x a)
  s_generate : {Γ : List Ty} {p i e : ℕ} → OwnEvent P p e → TypedS P sh Γ p (Stmt.generate i e)
  s_await : {Γ : List Ty} {p i e : ℕ} → OwnEvent P p e → TypedS P sh Γ p (Stmt.await i e)
