-- The trees of a file that passes refusals 4 to 7: their owners and places are the file's, and they
-- are at most 24 deep. Assumes nothing.
use mathlib.Core.Path.{◌≡◌, refl, sym, subst}
use mathlib.Core.Bool.{true}
use mathlib.Core.List.{List}
use Prim.Native.Nat.{ℕ, zero, suc, ◌+◌, ◌≤◌, ◌<◌}
use native.Mathlib.Omega.{arith}
use Rattle.basics.specs.Members.{In, All}
use Rattle.language.specs.Places.{has_place}
use Rattle.language.specs.declared.kind.StatementKind.TheVariants.{Nothing, Then, DoAt, Start}
use Rattle.language.specs.declared.kind.StatementKind.TheVariants.{StartWait, Cooperate, Let}
use Rattle.language.specs.declared.kind.StatementKind.TheVariants.{Store, If, While, Generate}
use Rattle.language.specs.declared.kind.StatementKind.TheVariants.{Await}
use Rattle.language.specs.declared.kind.ExpressionKind.TheVariants.{Number, Truth, Variable}
use Rattle.language.specs.declared.kind.ExpressionKind.TheVariants.{SharedCell, NewCell, Content}
use Rattle.language.specs.declared.kind.ExpressionKind.TheVariants.{Sum, Less, Choose}
use Rattle.language.specs.declared.kind.Kind.{Kind}
use Rattle.language.specs.declared.kind.Kind.TheVariants.{Header, Declared, Module, Statement}
use Rattle.language.specs.declared.kind.Kind.TheVariants.{Expression, Unknown}
use Rattle.language.specs.declared.frame.Frame.{Frame}
use Rattle.program.specs.Trees.{Expr, Stmt, frame_at, expression_of, expression_at, arguments}
use Rattle.program.specs.Trees.{statement_of, statement_at}
use Rattle.program.proofs.Decoding.{expression_at_lem, statement_at_lem}
use Rattle.fields.specs.Fields.{schedulers_of}
use Rattle.layout.specs.Depths.{Depth}
use Rattle.layout.specs.Faults.{NoFault}
use Rattle.layout.proofs.Trees.{tree_le, One, Two, Three, one_of, two_of, three_of}
use Rattle.machine.proofs.Depth.{deep}
use Rattle.reach.proofs.Passed.{child_depth, fields, row_at, order, inside, not_deeper}

-- an expression whose owners are places of a file of n schedulers, and whose numbers have Q. What
-- refusals 1 to 3 say of numbers is a premise apart, `each`: Q is below 2^32 for the state's
-- spaces, and nothing for demand 3
pub data LaidE (Q : ℕ → Type 0) (n : ℕ) : Expr → Type 0 where
  number : {i v : ℕ} → Q v → LaidE Q n (Expr.number i v)
  truth : {i v : ℕ} → LaidE Q n (Expr.truth i v)
  variable : {i v : ℕ} → LaidE Q n (Expr.variable i v)
  shared : {i v : ℕ} → LaidE Q n (Expr.shared i v)
  new : {i o : ℕ} {x : Expr} → has_place n o ≡ true → LaidE Q n x → LaidE Q n (Expr.new i o x)
  content : {i : ℕ} {x : Expr} → LaidE Q n x → LaidE Q n (Expr.content i x)
  sum : {i : ℕ} {x y : Expr} → LaidE Q n x → LaidE Q n y → LaidE Q n (Expr.sum i x y)
  less : {i : ℕ} {x y : Expr} → LaidE Q n x → LaidE Q n y → LaidE Q n (Expr.less i x y)
  choose : {i : ℕ} {x y z : Expr} → LaidE Q n x → LaidE Q n y → LaidE Q n z
      → LaidE Q n (Expr.choose i x y z)

-- a statement of such expressions, whose places are the file's, at most d deep
pub data LaidS (Q : ℕ → Type 0) (n : ℕ) : ℕ → Stmt → Type 0 where
  nothing : {d i : ℕ} → LaidS Q n (suc d) (Stmt.nothing i)
  cooperate : {d i : ℕ} → LaidS Q n (suc d) (Stmt.cooperate i)
  seq : {d i : ℕ} {a b : Stmt} → LaidS Q n d a → LaidS Q n d b → LaidS Q n (suc d) (Stmt.seq i a b)
  do_at : {d i q : ℕ} {a : Stmt} → has_place n q ≡ true → LaidS Q n d a
      → LaidS Q n (suc d) (Stmt.do_at i q a)
  start : {d i m : ℕ} {xs : List Expr} → All (LaidE Q n) xs → LaidS Q n (suc d) (Stmt.start i m xs)
  start_wait : {d i m : ℕ} {xs : List Expr} → All (LaidE Q n) xs
      → LaidS Q n (suc d) (Stmt.start_wait i m xs)
  let_in : {d i : ℕ} {x : Expr} {a : Stmt} → LaidE Q n x → LaidS Q n d a
      → LaidS Q n (suc d) (Stmt.let_in i x a)
  store : {d i : ℕ} {x y : Expr} → LaidE Q n x → LaidE Q n y → LaidS Q n (suc d) (Stmt.store i x y)
  if_else : {d i : ℕ} {x : Expr} {a b : Stmt} → LaidE Q n x → LaidS Q n d a → LaidS Q n d b
      → LaidS Q n (suc d) (Stmt.if_else i x a b)
  while : {d i : ℕ} {x : Expr} {a : Stmt} → LaidE Q n x → LaidS Q n d a
      → LaidS Q n (suc d) (Stmt.while i x a)
  generate : {d i e : ℕ} → LaidS Q n (suc d) (Stmt.generate i e)
  await : {d i e : ℕ} → LaidS Q n (suc d) (Stmt.await i e)

-- 24 at most, by `laid_stmt`
pub laid_deep : {Q : ℕ → Type 0} {n d : ℕ} {x : Stmt} → LaidS Q n d x → deep x ≤ d
unfolding deep
laid_deep LaidS.nothing = omega arith
laid_deep LaidS.cooperate = omega arith
laid_deep (LaidS.seq p q) = let a = laid_deep p in let b = laid_deep q in omega arith
laid_deep (LaidS.do_at h p) = let a = laid_deep p in omega arith
laid_deep (LaidS.start xs) = omega arith
laid_deep (LaidS.start_wait xs) = omega arith
laid_deep (LaidS.let_in x p) = let a = laid_deep p in omega arith
laid_deep (LaidS.store x y) = omega arith
laid_deep (LaidS.if_else x p q) = let a = laid_deep p in let b = laid_deep q in omega arith
laid_deep (LaidS.while x p) = let a = laid_deep p in omega arith
laid_deep LaidS.generate = omega arith
laid_deep LaidS.await = omega arith

module _ (Q : ℕ → Type 0) {fs : List Frame} (fine : NoFault fs) (none : Q 0) (each : (j : ℕ) → Q (frame_at fs j).a) where
  abbrev Fine : Expr → Type 0
  Fine x = LaidE Q (schedulers_of fs) x

  abbrev At : ℕ → Expr
  At j = expression_at fs j

  -- ---- expressions; `rec` says it of the frames before
  module _ (j : ℕ) (rec : (i : ℕ) → i < j → Fine (At i)) where
    from_one : {x : Expr} {lo a : ℕ} → (Fine (At a) → Fine x) → One fs lo j a → Fine x
    from_one {a = a} make r = let l = r.last in make (rec a (omega arith))

    from_two : {x : Expr} {lo a b : ℕ} → (Fine (At a) → Fine (At b) → Fine x) → Two fs lo j a b
        → Fine x
    from_two {a = a} {b = b} make r = let l = r.last in let k = tree_le r.next in make (rec a (omega arith)) (rec b (omega arith))

    from_three : {x : Expr} {lo a b c : ℕ} → (Fine (At a) → Fine (At b) → Fine (At c) → Fine x)
        → Three fs lo j a b c → Fine x
    from_three {a = a} {b = b} {c = c} make r =
        let l = r.last in
        let k = tree_le r.next in
        let m = tree_le r.third in
        make (rec a (omega arith)) (rec b (omega arith)) (rec c (omega arith))

    e_kind : (k : Kind) → (frame_at fs j).kind ≡ k → Fine (expression_of At j (frame_at fs j) k)
    e_kind Header e = LaidE.number none
    e_kind (Declared d) e = LaidE.number none
    e_kind Module e = LaidE.number none
    e_kind Unknown e = LaidE.number none
    e_kind (Statement k) e = LaidE.number none
    e_kind (Expression Number) e = LaidE.number (each j)
    e_kind (Expression Truth) e = LaidE.truth
    e_kind (Expression Variable) e = LaidE.variable
    e_kind (Expression SharedCell) e = LaidE.shared
    e_kind (Expression NewCell) e =
        let l = inside fine j _ e refl in
        from_one (LaidE.new (fields fine j l _ e).s) (one_of (row_at fine j l _ e))
    e_kind (Expression Content) e =
        from_one LaidE.content (one_of (row_at fine j (inside fine j _ e refl) _ e))
    e_kind (Expression Sum) e =
        from_two LaidE.sum (two_of (row_at fine j (inside fine j _ e refl) _ e))
    e_kind (Expression Less) e =
        from_two LaidE.less (two_of (row_at fine j (inside fine j _ e refl) _ e))
    e_kind (Expression Choose) e =
        from_three LaidE.choose (three_of (row_at fine j (inside fine j _ e refl) _ e))

  laid_to : (m j : ℕ) → j < m → Fine (At j)
  laid_to zero j l = absurd (omega arith)
  laid_to (suc m) j l = subst Fine (sym (expression_at_lem fs (order fine) j)) (e_kind j (λ i k. laid_to m i (omega arith)) (frame_at fs j).kind refl)

  pub laid_expr : (j : ℕ) → Fine (expression_at fs j)
  laid_expr j = laid_to (suc j) j (omega arith)

  pub laid_arguments : (a b : ℕ)
      → All (LaidE Q (schedulers_of fs)) (arguments (λ j. expression_at fs j) a b)
  laid_arguments zero b = All.none
  laid_arguments (suc a) zero = All.more (laid_expr (suc a)) All.none
  laid_arguments (suc a) (suc b) =
      All.more (laid_expr (suc a)) (All.more (laid_expr (suc b)) All.none)

  -- ---- statements; `rec` says it of the frames one deeper
  module _ (d j e : ℕ) (at : Depth fs j e) (rec : (i : ℕ) → Depth fs i (suc e) → LaidS Q (schedulers_of fs) d (statement_at fs i)) where
    s_kind : (k : Kind) → (frame_at fs j).kind ≡ k
        → LaidS Q (schedulers_of fs) (suc d)
        (statement_of (λ i. expression_at fs i) (λ i. statement_at fs i) j (frame_at fs j) k)
    s_kind Header q = LaidS.nothing
    s_kind (Declared d) q = LaidS.nothing
    s_kind Module q = LaidS.nothing
    s_kind Unknown q = LaidS.nothing
    s_kind (Expression k) q = LaidS.nothing
    s_kind (Statement Nothing) q = LaidS.nothing
    s_kind (Statement Then) q = LaidS.seq (rec _ (child_depth (Statement Then) q at In.first)) (rec _ (child_depth (Statement Then) q at (In.later In.first)))
    s_kind (Statement DoAt) q = LaidS.do_at (fields fine j (inside fine j _ q refl) _ q).s (rec _ (child_depth (Statement DoAt) q at In.first))
    s_kind (Statement Start) q = LaidS.start (laid_arguments (frame_at fs j).a (frame_at fs j).b)
    s_kind (Statement StartWait) q =
        LaidS.start_wait (laid_arguments (frame_at fs j).a (frame_at fs j).b)
    s_kind (Statement Cooperate) q = LaidS.cooperate
    s_kind (Statement Let) q =
        LaidS.let_in (laid_expr _) (rec _ (child_depth (Statement Let) q at (In.later In.first)))
    s_kind (Statement Store) q = LaidS.store (laid_expr _) (laid_expr _)
    s_kind (Statement If) q = LaidS.if_else (laid_expr _) (rec _ (child_depth (Statement If) q at (In.later In.first))) (rec _ (child_depth (Statement If) q at (In.later (In.later In.first))))
    s_kind (Statement While) q =
        LaidS.while (laid_expr _) (rec _ (child_depth (Statement While) q at (In.later In.first)))
    s_kind (Statement Generate) q = LaidS.generate
    s_kind (Statement Await) q = LaidS.await

  pub laid_stmt : (d j e : ℕ) → e + d ≡ 25 → Depth fs j e
      → LaidS Q (schedulers_of fs) d (statement_at fs j)
  laid_stmt zero j e s h = absurd (not_deeper fine h (omega arith))
  laid_stmt (suc d) j e s h =
      subst (LaidS Q (schedulers_of fs) (suc d)) (sym (statement_at_lem fs (order fine) j))
      (s_kind d j e h (λ i k. laid_stmt d i (suc e) (omega arith) k) (frame_at fs j).kind refl)
