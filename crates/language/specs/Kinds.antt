-- The table of kinds: each kind's number, and what each of its fields holds.
use Rattle.std.specs.Prelude.{◌∷◌, ◌++◌}
use Rattle.basics.specs.Prelude.{List, [], Bool, true, false, ℕ, zero, suc, eqb}
use Rattle.basics.specs.Prelude.{when◌then◌else◌}
use Rattle.language.specs.declared.kind as kind
use kind.{DeclarationKind.DeclarationKind, DeclarationKind.TheVariants.Shared}
use kind.DeclarationKind.TheVariants.{Event, Link}
use kind.StatementKind.{StatementKind}
use kind.StatementKind.TheVariants.{Nothing, Then, DoAt, Start, StartWait, Cooperate, Let}
use kind.StatementKind.TheVariants.{Store, If, While, Generate, Await}
use kind.ExpressionKind.{ExpressionKind}
use kind.ExpressionKind.TheVariants.{Number, Truth, Variable, SharedCell, NewCell, Content}
use kind.ExpressionKind.TheVariants.{Sum, Less, Choose}
use kind.Kind.TheVariants.{Header, Declared, Module, Statement, Expression, Unknown}
use kind.{Kind.Kind, Class.Class, Use.Use, Uses.Uses}
use Rattle.language.specs.declared.frame.Frame.{Frame}

-- the kind that a number names: 01's table, 'K and S above are hexadecimal', and 02's changes 5
-- and 7
unfoldable pub kind_of : ℕ → Kind
kind_of k =
    when eqb k 0x00 then Header else
    when eqb k 0x01 then Declared Shared else
    when eqb k 0x02 then Module else
    when eqb k 0x03 then Declared Event else
    when eqb k 0x04 then Declared Link else
    when eqb k 0x10 then Statement Nothing else
    when eqb k 0x11 then Statement Then else
    when eqb k 0x12 then Statement DoAt else
    when eqb k 0x13 then Statement Start else
    when eqb k 0x14 then Statement StartWait else
    when eqb k 0x15 then Statement Cooperate else
    when eqb k 0x16 then Statement Let else
    when eqb k 0x17 then Statement Store else
    when eqb k 0x18 then Statement If else
    when eqb k 0x19 then Statement While else
    when eqb k 0x1A then Statement Generate else
    when eqb k 0x1B then Statement Await else
    when eqb k 0x20 then Expression Number else
    when eqb k 0x21 then Expression Truth else
    when eqb k 0x22 then Expression Variable else
    when eqb k 0x23 then Expression SharedCell else
    when eqb k 0x24 then Expression NewCell else
    when eqb k 0x25 then Expression Content else
    when eqb k 0x26 then Expression Sum else
    when eqb k 0x27 then Expression Less else
    when eqb k 0x28 then Expression Choose else
    Unknown

-- ---- 'Frames stand as header, shared cells .., then the rest'; 02, change 5: 'K 03 .. stands
-- after the shared cells', change 7: 'K 04, which stands after the events'. The declarations come
-- after the header, one kind after the other
abbrev pub declaration_rank : DeclarationKind → ℕ
declaration_rank Shared = 1
declaration_rank Event = 2
declaration_rank Link = 3

-- the last of these ranks
abbrev pub declarations : ℕ
declarations = 3

-- in which order the kinds stand
abbrev pub file_rank : Kind → ℕ
file_rank Header = 0
file_rank (Declared d) = declaration_rank d
file_rank Module = suc declarations
file_rank (Statement k) = suc declarations
file_rank (Expression k) = suc declarations
file_rank Unknown = suc declarations

-- ---- the kinds that stand outside the trees: 00 header, 01 shared cell, 02 module, 03 event, 04
-- two schedulers in step
abbrev pub is_header : Kind → Bool
is_header Header = true
is_header (Declared d) = false
is_header Module = false
is_header (Statement k) = false
is_header (Expression k) = false
is_header Unknown = false

-- of a declaration: it is one of that sort
abbrev pub declares : DeclarationKind → Kind → Bool
declares d Header = false
declares d (Declared e) = eqb (declaration_rank e) (declaration_rank d)
declares d Module = false
declares d (Statement k) = false
declares d (Expression k) = false
declares d Unknown = false

abbrev pub is_shared : Kind → Bool
is_shared k = declares Shared k

abbrev pub is_event : Kind → Bool
is_event k = declares Event k

abbrev pub is_link : Kind → Bool
is_link k = declares Link k

abbrev pub is_module : Kind → Bool
is_module Header = false
is_module (Declared d) = false
is_module Module = true
is_module (Statement k) = false
is_module (Expression k) = false
is_module Unknown = false

-- ---- what S, A, B and C hold. 'Unused fields are 0.'
abbrev sabc : Use → Use → Use → Use → Uses
sabc s a b c = record { s = s; a = a; b = b; c = c }

-- 01 shared cell: S owner (a scheduler), A content type, B first content. 02, change 5: 'K 03
-- declares an event with owner S, a scheduler'; change 7: 'The S byte of K 04 .. names a scheduler,
-- and its A names a lower one'
abbrev pub declaration_uses : DeclarationKind → Uses
declaration_uses Shared = sabc Use.Scheduler Use.ContentType Use.FirstContent Use.Unused
declaration_uses Event = sabc Use.Scheduler Use.Unused Use.Unused Use.Unused
declaration_uses Link = sabc Use.Scheduler Use.Lower Use.Unused Use.Unused

-- 10 nothing; 11 A, then B; 12 do A at place S; 13 start module S with arguments A, B; 14 the same,
-- then wait; 15 cooperate; 16 let the next variable be A, in B; 17 store B in cell A; 18 if A then
-- B else C; 19 while A do B. 02, change 5: 'K 1A generates event S and K 1B awaits it'
abbrev pub statement_uses : StatementKind → Uses
statement_uses Nothing = sabc Use.Unused Use.Unused Use.Unused Use.Unused
statement_uses Then = sabc Use.Unused Use.Statement Use.Statement Use.Unused
statement_uses DoAt = sabc Use.Place Use.Statement Use.Unused Use.Unused
statement_uses Start = sabc Use.Free Use.Argument Use.Further Use.Unused
statement_uses StartWait = sabc Use.Free Use.Argument Use.Further Use.Unused
statement_uses Cooperate = sabc Use.Unused Use.Unused Use.Unused Use.Unused
statement_uses Let = sabc Use.Unused Use.Expression Use.Statement Use.Unused
statement_uses Store = sabc Use.Unused Use.Expression Use.Expression Use.Unused
statement_uses If = sabc Use.Unused Use.Expression Use.Statement Use.Statement
statement_uses While = sabc Use.Unused Use.Expression Use.Statement Use.Unused
statement_uses Generate = sabc Use.Free Use.Unused Use.Unused Use.Unused
statement_uses Await = sabc Use.Free Use.Unused Use.Unused Use.Unused

-- 20 number A; 21 truth S (0 or 1); 22 variable S; 23 shared cell S; 24 new cell, owner S, content
-- A; 25 content of cell A; 26 sum of numbers A, B; 27 number A is less than number B; 28 if truth
-- A, number B, else number C
abbrev pub expression_uses : ExpressionKind → Uses
expression_uses Number = sabc Use.Unused Use.Free Use.Unused Use.Unused
expression_uses Truth = sabc Use.Truth Use.Unused Use.Unused Use.Unused
expression_uses Variable = sabc Use.Free Use.Unused Use.Unused Use.Unused
expression_uses SharedCell = sabc Use.Free Use.Unused Use.Unused Use.Unused
expression_uses NewCell = sabc Use.Place Use.Expression Use.Unused Use.Unused
expression_uses Content = sabc Use.Unused Use.Expression Use.Unused Use.Unused
expression_uses Sum = sabc Use.Unused Use.Expression Use.Expression Use.Unused
expression_uses Less = sabc Use.Unused Use.Expression Use.Expression Use.Unused
expression_uses Choose = sabc Use.Unused Use.Expression Use.Expression Use.Expression

abbrev pub uses : Kind → Uses
-- 00: its faults have a number of their own, 4
uses Header = sabc Use.Free Use.Free Use.Free Use.Free
uses (Declared k) = declaration_uses k
-- 02 module: S parameters, A body, B and C their types
uses Module = sabc Use.Parameters Use.Statement Use.FirstType Use.SecondType
uses (Statement k) = statement_uses k
uses (Expression k) = expression_uses k
-- the kind is the fault
uses Unknown = sabc Use.Free Use.Free Use.Free Use.Free

-- '10 to 19 are statements, 20 to 28 expressions.' 02, change 5: 'Both statements', of 1A and 1B
abbrev pub class_of : Kind → Class
class_of Header = Class.Neither
class_of (Declared d) = Class.Neither
class_of Module = Class.Neither
class_of (Statement k) = Class.Statement
class_of (Expression k) = Class.Expression
class_of Unknown = Class.Neither

-- ---- children
-- a child: the class that it is to be of, and its frame's number
pub record Child : Type 0 where
  pub class : Class
  pub at : ℕ

abbrev pub child : Class → ℕ → Child
child k n = record { class = k; at = n }

-- the child that a field names, if it names one: 'In 13 and 14 a 0 is no argument'
abbrev pub child_in : Use → ℕ → List Child
child_in Use.Statement n = child Class.Statement n ∷ []
child_in Use.Expression n = child Class.Expression n ∷ []
child_in Use.Argument zero = []
child_in Use.Argument (suc n) = child Class.Expression (suc n) ∷ []
child_in Use.Further zero = []
child_in Use.Further (suc n) = child Class.Expression (suc n) ∷ []
child_in Use.Unused n = []
child_in Use.Free n = []
child_in Use.Truth n = []
child_in Use.Place n = []
child_in Use.Scheduler n = []
child_in Use.Lower n = []
child_in Use.ContentType n = []
child_in Use.FirstContent n = []
child_in Use.Parameters n = []
child_in Use.FirstType n = []
child_in Use.SecondType n = []

-- a frame's children, in order
unfoldable pub children : Frame → List Child
children f =
    let u = uses f.kind in
    child_in u.a f.a ++ child_in u.b f.b ++ child_in u.c f.c
