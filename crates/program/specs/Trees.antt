-- Statements and expressions as trees. Each node carries its frame's number, which refusals name
-- and continuations hold.
use Rattle.std.specs.Prelude.{◌∷◌}
use Rattle.basics.specs.Prelude.{List, [], ℕ, zero, suc, get_or}
use Rattle.language.specs.declared.frame.Frame.{Frame}
use kind.{StatementKind.StatementKind, ExpressionKind.ExpressionKind, Kind.Kind}
use kind.StatementKind.TheVariants.{Nothing, Then, DoAt, Start, StartWait, Cooperate, Let, Store}
use kind.StatementKind.TheVariants.{If, While, Generate, Await}
use kind.ExpressionKind.TheVariants.{Number, Truth, Variable, SharedCell, NewCell, Content, Sum}
use kind.ExpressionKind.TheVariants.{Less, Choose}
use kind.Kind.TheVariants.{Header, Declared, Module, Statement, Expression, Unknown}
use Rattle.language.specs.declared.kind as kind

-- K 20 to 28. The first number is the frame's; the second, where there is one, is the number, the
-- truth, the index of the variable or of the shared cell, or the new cell's owner
pub data Expr : Type 0 where
  number truth variable shared : ℕ → ℕ → Expr
  new : ℕ → ℕ → Expr → Expr
  content : ℕ → Expr → Expr
  sum less : ℕ → Expr → Expr → Expr
  choose : ℕ → Expr → Expr → Expr → Expr

-- K 10 to 1B. The second number of do_at is the place, of start and start_wait the module, of
-- generate and await the event
pub data Stmt : Type 0 where
  nothing cooperate : ℕ → Stmt
  seq : ℕ → Stmt → Stmt → Stmt
  do_at : ℕ → ℕ → Stmt → Stmt
  start start_wait : ℕ → ℕ → List Expr → Stmt
  let_in : ℕ → Expr → Stmt → Stmt
  store : ℕ → Expr → Expr → Stmt
  if_else : ℕ → Expr → Stmt → Stmt → Stmt
  while : ℕ → Expr → Stmt → Stmt
  generate await : ℕ → ℕ → Stmt

-- the root's frame
abbrev pub root_e : Expr → ℕ
root_e (number i v) = i
root_e (truth i v) = i
root_e (variable i v) = i
root_e (shared i v) = i
root_e (new i o x) = i
root_e (content i x) = i
root_e (sum i x y) = i
root_e (less i x y) = i
root_e (choose i x y z) = i

abbrev pub root_s : Stmt → ℕ
root_s (nothing i) = i
root_s (cooperate i) = i
root_s (seq i p q) = i
root_s (do_at i s p) = i
root_s (start i s xs) = i
root_s (start_wait i s xs) = i
root_s (let_in i x p) = i
root_s (store i x y) = i
root_s (if_else i x p q) = i
root_s (while i x p) = i
root_s (generate i s) = i
root_s (await i s) = i

-- ---- from frames to trees. After refusals 1 to 7 every child is of its class and below its parent
-- (elsewhere a wrong one reads as number 0 or as nothing)

abbrev pub no_frame : Frame
no_frame = record { kind = Unknown; s = 0; a = 0; b = 0; c = 0 }

abbrev pub frame_at : List Frame → ℕ → Frame
frame_at fs i = get_or fs i no_frame

-- the expression that frame f, of number i, is; `rec` gives its children
abbrev pub expression_with : (ℕ → Expr) → ℕ → Frame → ExpressionKind → Expr
expression_with rec i f Number = number i f.a
expression_with rec i f Truth = truth i f.s
expression_with rec i f Variable = variable i f.s
expression_with rec i f SharedCell = shared i f.s
expression_with rec i f NewCell = new i f.s (rec f.a)
expression_with rec i f Content = content i (rec f.a)
expression_with rec i f Sum = sum i (rec f.a) (rec f.b)
expression_with rec i f Less = less i (rec f.a) (rec f.b)
expression_with rec i f Choose = choose i (rec f.a) (rec f.b) (rec f.c)

abbrev pub expression_of : (ℕ → Expr) → ℕ → Frame → Kind → Expr
expression_of rec i f (Expression k) = expression_with rec i f k
expression_of rec i f (Statement k) = number i 0
expression_of rec i f Header = number i 0
expression_of rec i f (Declared d) = number i 0
expression_of rec i f Module = number i 0
expression_of rec i f Unknown = number i 0

-- the tree to a depth of d
unfoldable pub expression_to : ℕ → List Frame → ℕ → Expr
expression_to zero fs i = number i 0
expression_to (suc d) fs i =
    expression_of (λ j. expression_to d fs j) i (frame_at fs i) (frame_at fs i).kind

-- a child's number is below its parent's, so that depth is enough
unfoldable pub expression_at : List Frame → ℕ → Expr
expression_at fs i = expression_to (suc i) fs i

-- 'In 13 and 14 a 0 is no argument, and B needs A.'
abbrev pub arguments : (ℕ → Expr) → ℕ → ℕ → List Expr
arguments expr zero b = []
arguments expr (suc a) zero = expr (suc a) ∷ []
arguments expr (suc a) (suc b) = expr (suc a) ∷ expr (suc b) ∷ []

-- the statement that frame f is; `expr` and `rec` give its children
abbrev pub statement_with : (ℕ → Expr) → (ℕ → Stmt) → ℕ → Frame → StatementKind → Stmt
statement_with expr rec i f Nothing = nothing i
statement_with expr rec i f Then = seq i (rec f.a) (rec f.b)
statement_with expr rec i f DoAt = do_at i f.s (rec f.a)
statement_with expr rec i f Start = start i f.s (arguments expr f.a f.b)
statement_with expr rec i f StartWait = start_wait i f.s (arguments expr f.a f.b)
statement_with expr rec i f Cooperate = cooperate i
statement_with expr rec i f Let = let_in i (expr f.a) (rec f.b)
statement_with expr rec i f Store = store i (expr f.a) (expr f.b)
statement_with expr rec i f If = if_else i (expr f.a) (rec f.b) (rec f.c)
statement_with expr rec i f While = while i (expr f.a) (rec f.b)
statement_with expr rec i f Generate = generate i f.s
statement_with expr rec i f Await = await i f.s

abbrev pub statement_of : (ℕ → Expr) → (ℕ → Stmt) → ℕ → Frame → Kind → Stmt
statement_of expr rec i f (Statement k) = statement_with expr rec i f k
statement_of expr rec i f (Expression k) = nothing i
statement_of expr rec i f Header = nothing i
statement_of expr rec i f (Declared d) = nothing i
statement_of expr rec i f Module = nothing i
statement_of expr rec i f Unknown = nothing i

unfoldable pub statement_to : ℕ → List Frame → ℕ → Stmt
statement_to zero fs i = nothing i
statement_to (suc d) fs i =
    let f = frame_at fs i in
    statement_of (λ j. expression_at fs j) (λ j. statement_to d fs j) i f f.kind

unfoldable pub statement_at : List Frame → ℕ → Stmt
statement_at fs i = statement_to (suc i) fs i
