-- A body at most 24 deep has room: it takes at most 24 items of a continuation and 23 variables,
-- and of each there are 25. Assumes nothing.
use Prim.Native.Nat.{ℕ, ◌+◌, ◌≤◌, ◌<◌, max}
use native.Mathlib.Omega.{arith}
use lib.ListN.{length}
use Rattle.program.specs.Trees.{Stmt, nothing, seq, do_at, start, start_wait, cooperate, let_in, store}
use Rattle.program.specs.Trees.{if_else, while}
use Rattle.program.specs.Trees.{generate, await}
use Rattle.program.specs.Programs.{Program, module_at}
use Rattle.machine.proofs.Continuations.{height, lets}

-- how deep the statements go; the expressions under them do not count
unfoldable pub deep : Stmt → ℕ
deep (nothing i) = 1
deep (seq i a b) = 1 + max (deep a) (deep b)
deep (do_at i q a) = 1 + deep a
deep (start i m xs) = 1
deep (start_wait i m xs) = 1
deep (cooperate i) = 1
deep (let_in i x a) = 1 + deep a
deep (store i x y) = 1
deep (if_else i x a b) = 1 + max (deep a) (deep b)
deep (while i x a) = 1 + deep a
deep (generate i e) = 1
deep (await i e) = 1

-- each statement takes at most one item of the continuation, and at most one variable, for each
-- level of depth
pub height-deep : (x : Stmt) → height x ≤ deep x
unfolding height deep
height-deep (nothing i) = omega arith
height-deep (seq i a b) = let f = height-deep a in let g = height-deep b in omega arith
height-deep (do_at i q a) = let f = height-deep a in omega arith
height-deep (start i m xs) = omega arith
height-deep (start_wait i m xs) = omega arith
height-deep (cooperate i) = omega arith
height-deep (let_in i x a) = let f = height-deep a in omega arith
height-deep (store i x y) = omega arith
height-deep (if_else i x a b) = let f = height-deep a in let g = height-deep b in omega arith
height-deep (while i x a) = let f = height-deep a in omega arith
height-deep (generate i e) = omega arith
height-deep (await i e) = omega arith

pub lets-deep : (x : Stmt) → lets x < deep x
unfolding lets deep
lets-deep (nothing i) = omega arith
lets-deep (seq i a b) = let f = lets-deep a in let g = lets-deep b in omega arith
lets-deep (do_at i q a) = let f = lets-deep a in omega arith
lets-deep (start i m xs) = omega arith
lets-deep (start_wait i m xs) = omega arith
lets-deep (cooperate i) = omega arith
lets-deep (let_in i x a) = let f = lets-deep a in omega arith
lets-deep (store i x y) = omega arith
lets-deep (if_else i x a b) = let f = lets-deep a in let g = lets-deep b in omega arith
lets-deep (while i x a) = let f = lets-deep a in omega arith
lets-deep (generate i e) = omega arith
lets-deep (await i e) = omega arith

-- beside two parameters at most
pub deep_fits : (x : Stmt) (n : ℕ) → deep x ≤ 24 → n ≤ 2 → (height x ≤ 25) × (n + lets x ≤ 25)
deep_fits x n d p = let f = height-deep x in let g = lets-deep x in (omega arith, omega arith)

-- each body has room for its items and, beside the module's parameters, for its variables
abbrev pub BodiesFit : Program → Type 0
BodiesFit P = (m : ℕ) → m < length P.modules → (height (module_at P m).body ≤ 25) × (length (module_at P m).types + lets (module_at P m).body ≤ 25)
