-- Trees whose frames rise: a child before its parent, and an earlier child before a later one, so
-- that a walk through a tree, children first, goes in file order. The trees of a file that passes
-- refusals 1 to 7 are such (proofs/Decoded, proofs/Parts). Assumes nothing: definitions.
use mathlib.Core.List.{List, [], ◌∷◌}
use Prim.Native.Nat.{ℕ, suc, ◌≤◌, ◌<◌}
use Rattle.program.specs.Trees.{Expr, Stmt, root_e, root_s}
use Rattle.program.specs.Programs.{Part}

-- `PlacedE lo x`: no frame of x is below lo, and they rise
pub data PlacedE : ℕ → Expr → Type 0 where
  number : {lo i v : ℕ} → lo ≤ i → PlacedE lo (Expr.number i v)
  truth : {lo i v : ℕ} → lo ≤ i → PlacedE lo (Expr.truth i v)
  variable : {lo i s : ℕ} → lo ≤ i → PlacedE lo (Expr.variable i s)
  shared : {lo i s : ℕ} → lo ≤ i → PlacedE lo (Expr.shared i s)
  new : {lo i s : ℕ} {x : Expr} → PlacedE lo x → root_e x < i → PlacedE lo (Expr.new i s x)
  content : {lo i : ℕ} {x : Expr} → PlacedE lo x → root_e x < i → PlacedE lo (Expr.content i x)
  sum : {lo i : ℕ} {x y : Expr} → PlacedE lo x → PlacedE (suc (root_e x)) y → root_e y < i
      → PlacedE lo (Expr.sum i x y)
  less : {lo i : ℕ} {x y : Expr} → PlacedE lo x → PlacedE (suc (root_e x)) y → root_e y < i
      → PlacedE lo (Expr.less i x y)
  choose : {lo i : ℕ} {x y z : Expr} → PlacedE lo x → PlacedE (suc (root_e x)) y
      → PlacedE (suc (root_e y)) z → root_e z < i → PlacedE lo (Expr.choose i x y z)

-- `PlacedEs lo xs stop`: so do those of the expressions xs, one after another, and they end before
-- `stop`
pub data PlacedEs : ℕ → List Expr → ℕ → Type 0 where
  none : {lo stop : ℕ} → lo ≤ stop → PlacedEs lo [] stop
  more : {lo stop : ℕ} {x : Expr} {xs : List Expr} → PlacedE lo x → PlacedEs (suc (root_e x)) xs stop
      → PlacedEs lo (x ∷ xs) stop

-- `PlacedS lo p`: the same of a statement
pub data PlacedS : ℕ → Stmt → Type 0 where
  nothing : {lo i : ℕ} → lo ≤ i → PlacedS lo (Stmt.nothing i)
  cooperate : {lo i : ℕ} → lo ≤ i → PlacedS lo (Stmt.cooperate i)
  generate : {lo i s : ℕ} → lo ≤ i → PlacedS lo (Stmt.generate i s)
  await : {lo i s : ℕ} → lo ≤ i → PlacedS lo (Stmt.await i s)
  seq : {lo i : ℕ} {p q : Stmt} → PlacedS lo p → PlacedS (suc (root_s p)) q → root_s q < i
      → PlacedS lo (Stmt.seq i p q)
  do_at : {lo i s : ℕ} {p : Stmt} → PlacedS lo p → root_s p < i → PlacedS lo (Stmt.do_at i s p)
  start : {lo i s : ℕ} {xs : List Expr} → PlacedEs lo xs i → PlacedS lo (Stmt.start i s xs)
  start_wait : {lo i s : ℕ} {xs : List Expr} → PlacedEs lo xs i → PlacedS lo (Stmt.start_wait i s xs)
  let_in : {lo i : ℕ} {x : Expr} {p : Stmt} → PlacedE lo x → PlacedS (suc (root_e x)) p → root_s p < i
      → PlacedS lo (Stmt.let_in i x p)
  store : {lo i : ℕ} {x y : Expr} → PlacedE lo x → PlacedE (suc (root_e x)) y → root_e y < i
      → PlacedS lo (Stmt.store i x y)
  if_else : {lo i : ℕ} {x : Expr} {p q : Stmt} → PlacedE lo x → PlacedS (suc (root_e x)) p
      → PlacedS (suc (root_s p)) q → root_s q < i → PlacedS lo (Stmt.if_else i x p q)
  while : {lo i : ℕ} {x : Expr} {p : Stmt} → PlacedE lo x → PlacedS (suc (root_e x)) p → root_s p < i
      → PlacedS lo (Stmt.while i x p)

-- so do those of each module's body
pub data PlacedM : List Part → Type 0 where
  none : PlacedM []
  more : {lo : ℕ} {m : Part} {ms : List Part} → PlacedS lo m.body → PlacedM ms → PlacedM (m ∷ ms)
