-- The tree at a frame has that frame at its root, whatever stands there. Assumes nothing.
use mathlib.Core.Path.{◌≡◌, refl}
use mathlib.Core.List.{List}
use Prim.Native.Nat.{ℕ, zero, suc}
use Rattle.language.specs.declared.kind.StatementKind.TheVariants.{Nothing, Then, DoAt, Start}
use Rattle.language.specs.declared.kind.StatementKind.TheVariants.{StartWait, Cooperate, Let}
use Rattle.language.specs.declared.kind.StatementKind.TheVariants.{Store, If, While, Generate}
use Rattle.language.specs.declared.kind.StatementKind.TheVariants.{Await}
use Rattle.language.specs.declared.kind.ExpressionKind.TheVariants.{Number, Truth, Variable}
use Rattle.language.specs.declared.kind.ExpressionKind.TheVariants.{SharedCell, NewCell, Content}
use Rattle.language.specs.declared.kind.ExpressionKind.TheVariants.{Sum, Less, Choose}
use Rattle.language.specs.declared.kind.Kind.{Kind}
use Rattle.language.specs.declared.kind.Kind.TheVariants.{Header, Declared, Module, Statement}
use Rattle.language.specs.declared.kind.Kind.TheVariants.{Expression, Unknown}
use Rattle.language.specs.declared.frame.Frame.{Frame}
use Rattle.program.specs.Trees.{Expr, Stmt, root_e, root_s, frame_at, expression_of, expression_to}
use Rattle.program.specs.Trees.{expression_at, statement_of, statement_to, statement_at}

-- ---- expressions
expression_root_of : (rec : ℕ → Expr) (i : ℕ) (f : Frame) (k : Kind)
    → root_e (expression_of rec i f k) ≡ i
expression_root_of rec i f Header = refl
expression_root_of rec i f (Declared d) = refl
expression_root_of rec i f Module = refl
expression_root_of rec i f Unknown = refl
expression_root_of rec i f (Statement k) = refl
expression_root_of rec i f (Expression Number) = refl
expression_root_of rec i f (Expression Truth) = refl
expression_root_of rec i f (Expression Variable) = refl
expression_root_of rec i f (Expression SharedCell) = refl
expression_root_of rec i f (Expression NewCell) = refl
expression_root_of rec i f (Expression Content) = refl
expression_root_of rec i f (Expression Sum) = refl
expression_root_of rec i f (Expression Less) = refl
expression_root_of rec i f (Expression Choose) = refl

pub expression_root_to : (n : ℕ) (fs : List Frame) (i : ℕ) → root_e (expression_to n fs i) ≡ i
unfolding expression_to
expression_root_to zero fs i = refl
expression_root_to (suc n) fs i =
    expression_root_of (λ j. expression_to n fs j) i (frame_at fs i) (frame_at fs i).kind

pub expression_root : (fs : List Frame) (i : ℕ) → root_e (expression_at fs i) ≡ i
unfolding expression_at
expression_root fs i = expression_root_to (suc i) fs i

-- ---- statements
statement_root_of : (expr : ℕ → Expr) (rec : ℕ → Stmt) (i : ℕ) (f : Frame) (k : Kind)
    → root_s (statement_of expr rec i f k) ≡ i
statement_root_of expr rec i f Header = refl
statement_root_of expr rec i f (Declared d) = refl
statement_root_of expr rec i f Module = refl
statement_root_of expr rec i f Unknown = refl
statement_root_of expr rec i f (Expression k) = refl
statement_root_of expr rec i f (Statement Nothing) = refl
statement_root_of expr rec i f (Statement Then) = refl
statement_root_of expr rec i f (Statement DoAt) = refl
statement_root_of expr rec i f (Statement Start) = refl
statement_root_of expr rec i f (Statement StartWait) = refl
statement_root_of expr rec i f (Statement Cooperate) = refl
statement_root_of expr rec i f (Statement Let) = refl
statement_root_of expr rec i f (Statement Store) = refl
statement_root_of expr rec i f (Statement If) = refl
statement_root_of expr rec i f (Statement While) = refl
statement_root_of expr rec i f (Statement Generate) = refl
statement_root_of expr rec i f (Statement Await) = refl

pub statement_root_to : (n : ℕ) (fs : List Frame) (i : ℕ) → root_s (statement_to n fs i) ≡ i
unfolding statement_to
statement_root_to zero fs i = refl
statement_root_to (suc n) fs i = statement_root_of (λ j. expression_at fs j) (λ j. statement_to n fs j) i (frame_at fs i) (frame_at fs i).kind

pub statement_root : (fs : List Frame) (i : ℕ) → root_s (statement_at fs i) ≡ i
unfolding statement_at
statement_root fs i = statement_root_to (suc i) fs i
