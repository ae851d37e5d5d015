-- Trees whose frames rise: in which frames they lie, and so what is broken in them. Assumes
-- nothing.
use mathlib.Core.List.{List}
use Prim.Native.Nat.{ℕ, ◌≤◌, ◌<◌}
use native.Mathlib.Omega.{arith}
use Rattle.basics.specs.Members.{In}
use Rattle.language.specs.Places.{Standing}
use Rattle.language.specs.declared.refusal.Rule.{Rule}
use Rattle.program.specs.Trees.{Expr, root_e, Stmt, root_s}
use Rattle.layout.proofs.Placed.{PlacedE, PlacedEs, PlacedS}
use Rattle.rules.specs.Rules.{Setting, Signature}
use Rattle.rules.specs.Breaks.{Starts}
use Rattle.rules.specs.Broken.{ChildE, BrokenE, Operand, ChildS, BrokenS}

-- ---- no frame of a tree is below the first
pub root_above_e : {lo : ℕ} {x : Expr} → PlacedE lo x → lo ≤ root_e x
root_above_e (PlacedE.number h) = h
root_above_e (PlacedE.truth h) = h
root_above_e (PlacedE.variable h) = h
root_above_e (PlacedE.shared h) = h
root_above_e (PlacedE.new p e) = let a = root_above_e p in omega arith
root_above_e (PlacedE.content p e) = let a = root_above_e p in omega arith
root_above_e (PlacedE.sum p q e) = let a = root_above_e p in let b = root_above_e q in omega arith
root_above_e (PlacedE.less p q e) = let a = root_above_e p in let b = root_above_e q in omega arith
root_above_e (PlacedE.choose p q r e) =
    let a = root_above_e p in let b = root_above_e q in let c = root_above_e r in omega arith

end_above_es : {lo stop : ℕ} {xs : List Expr} → PlacedEs lo xs stop → lo ≤ stop
end_above_es (PlacedEs.none h) = h
end_above_es (PlacedEs.more p q) = let a = root_above_e p in let b = end_above_es q in omega arith

pub root_above_s : {lo : ℕ} {p : Stmt} → PlacedS lo p → lo ≤ root_s p
root_above_s (PlacedS.nothing h) = h
root_above_s (PlacedS.cooperate h) = h
root_above_s (PlacedS.generate h) = h
root_above_s (PlacedS.await h) = h
root_above_s (PlacedS.seq p q e) = let a = root_above_s p in let b = root_above_s q in omega arith
root_above_s (PlacedS.do_at p e) = let a = root_above_s p in omega arith
root_above_s (PlacedS.start p) = end_above_es p
root_above_s (PlacedS.start_wait p) = end_above_es p
root_above_s (PlacedS.let_in p q e) = let a = root_above_e p in let b = root_above_s q in
    omega arith
root_above_s (PlacedS.store p q e) = let a = root_above_e p in let b = root_above_e q in omega arith
root_above_s (PlacedS.if_else p q r e) =
    let a = root_above_e p in let b = root_above_s q in let c = root_above_s r in omega arith
root_above_s (PlacedS.while p q e) = let a = root_above_e p in let b = root_above_s q in omega arith

-- ---- what is broken in a tree lies among its frames
pub range_e : {cells Γ : List ℕ} {lo j : ℕ} {n : Rule} {x : Expr} → BrokenE cells Γ x n j
    → PlacedE lo x
    → (lo ≤ j) × (j ≤ root_e x)
range_e (BrokenE.here b) p = let a = root_above_e p in omega arith
range_e (BrokenE.under ChildE.new b) (PlacedE.new p e) = let r = range_e b p in omega arith
range_e (BrokenE.under ChildE.content b) (PlacedE.content p e) = let r = range_e b p in omega arith
range_e (BrokenE.under ChildE.sum_a b) (PlacedE.sum p q e) =
    let r = range_e b p in let l = root_above_e q in omega arith
range_e (BrokenE.under ChildE.sum_b b) (PlacedE.sum p q e) =
    let r = range_e b q in let l = root_above_e p in omega arith
range_e (BrokenE.under ChildE.less_a b) (PlacedE.less p q e) =
    let r = range_e b p in let l = root_above_e q in omega arith
range_e (BrokenE.under ChildE.less_b b) (PlacedE.less p q e) =
    let r = range_e b q in let l = root_above_e p in omega arith
range_e (BrokenE.under ChildE.choose_a b) (PlacedE.choose p q r e) =
    let a = range_e b p in let l = root_above_e q in let m = root_above_e r in omega arith
range_e (BrokenE.under ChildE.choose_b b) (PlacedE.choose p q r e) =
    let a = range_e b q in let l = root_above_e p in let m = root_above_e r in omega arith
range_e (BrokenE.under ChildE.choose_c b) (PlacedE.choose p q r e) =
    let a = range_e b r in let l = root_above_e p in let m = root_above_e q in omega arith

pub range_es : {cells Γ : List ℕ} {x : Expr} {lo stop j : ℕ} {n : Rule} {xs : List Expr} → In x xs
    → BrokenE cells Γ x n j → PlacedEs lo xs stop → (lo ≤ j) × (j < stop)
range_es In.first b (PlacedEs.more p q) = let a = range_e b p in let c = end_above_es q in
    omega arith
range_es (In.later i) b (PlacedEs.more p q) =
    let a = range_es i b q in let c = root_above_e p in omega arith

pub range_s : {env : Setting} {below : List Signature} {Γ : List ℕ} {at : Standing} {lo j : ℕ}
    {n : Rule} {p : Stmt}
    → BrokenS env below Γ at p n j → PlacedS lo p → (lo ≤ j) × (j ≤ root_s p)
range_s (BrokenS.here b) p = let a = root_above_s p in omega arith
range_s (BrokenS.operand (Operand.argument Starts.start i) b) (PlacedS.start p) =
    let a = range_es i b p in omega arith
range_s (BrokenS.operand (Operand.argument Starts.start_wait i) b) (PlacedS.start_wait p) =
    let a = range_es i b p in omega arith
range_s (BrokenS.operand Operand.let_in b) (PlacedS.let_in p q e) =
    let a = range_e b p in let c = root_above_s q in omega arith
range_s (BrokenS.operand Operand.store_a b) (PlacedS.store p q e) =
    let a = range_e b p in let c = root_above_e q in omega arith
range_s (BrokenS.operand Operand.store_b b) (PlacedS.store p q e) =
    let a = range_e b q in let c = root_above_e p in omega arith
range_s (BrokenS.operand Operand.if_else b) (PlacedS.if_else p q r e) =
    let a = range_e b p in let c = root_above_s q in let d = root_above_s r in omega arith
range_s (BrokenS.operand Operand.while b) (PlacedS.while p q e) =
    let a = range_e b p in let c = root_above_s q in omega arith
range_s (BrokenS.under ChildS.seq_a b) (PlacedS.seq p q e) =
    let a = range_s b p in let c = root_above_s q in omega arith
range_s (BrokenS.under ChildS.seq_b b) (PlacedS.seq p q e) =
    let a = range_s b q in let c = root_above_s p in omega arith
range_s (BrokenS.under ChildS.do_at b) (PlacedS.do_at p e) = let a = range_s b p in omega arith
range_s (BrokenS.under (ChildS.let_in h) b) (PlacedS.let_in p q e) =
    let a = range_s b q in let c = root_above_e p in omega arith
range_s (BrokenS.under ChildS.if_else_b b) (PlacedS.if_else p q r e) =
    let a = range_s b q in let c = root_above_e p in let d = root_above_s r in omega arith
range_s (BrokenS.under ChildS.if_else_c b) (PlacedS.if_else p q r e) =
    let a = range_s b r in let c = root_above_e p in let d = root_above_s q in omega arith
range_s (BrokenS.under ChildS.while b) (PlacedS.while p q e) =
    let a = range_s b q in let c = root_above_e p in omega arith
