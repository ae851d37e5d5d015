-- Why no continuation and no variable space is ever full (20) from a fresh state on: a continuation
-- with all the room that it will take, `Roomy`, fits its space, its drops find their variables, and
-- each item taken from it leaves such a continuation. Assumes nothing.
use mathlib.Core.Path.{◌≡◌, ap, ◌∙◌}
use mathlib.Core.List.{List, [], ◌∷◌}
use mathlib.Core.Bool.{true}
use Prim.Native.Nat.{ℕ, suc, ◌+◌, ◌≤◌, ◌<◌, max}
use native.Mathlib.Omega.{arith}
use lib.ListN.{length}
use borrow.Author.Tests.{le-leb}
use Rattle.basics.proofs.Ifs.{and_both}
use Rattle.program.specs.Trees.{Expr, Stmt, nothing, seq, do_at, start, start_wait, cooperate, let_in}
use Rattle.program.specs.Trees.{store, if_else, while}
use Rattle.program.specs.Trees.{generate, await}
use Rattle.machine.specs.State.{Item, run, back, drop}
use Rattle.machine.specs.Turns.{holds, Spaces, state_spaces, fits}
use Rattle.machine.specs.declared.value.Value.{Value}

-- ---- the room that a statement takes

-- how many items of a continuation running it takes, itself among them
unfoldable pub height : Stmt → ℕ
height (nothing i) = 1
height (seq i a b) = max (1 + height a) (height b)
height (do_at i q a) = 1 + height a
height (start i m xs) = 1
height (start_wait i m xs) = 1
height (cooperate i) = 1
height (let_in i x a) = 1 + height a
height (store i x y) = 1
height (if_else i x a b) = max (height a) (height b)
height (while i x a) = 1 + height a
height (generate i e) = 1
height (await i e) = 1

-- how many variables: the lets around its innermost statement
unfoldable pub lets : Stmt → ℕ
lets (nothing i) = 0
lets (seq i a b) = max (lets a) (lets b)
lets (do_at i q a) = lets a
lets (start i m xs) = 0
lets (start_wait i m xs) = 0
lets (cooperate i) = 0
lets (let_in i x a) = 1 + lets a
lets (store i x y) = 0
lets (if_else i x a b) = max (lets a) (lets b)
lets (while i x a) = lets a
lets (generate i e) = 0
lets (await i e) = 0

pub height_pos : (x : Stmt) → 1 ≤ height x
unfolding height
height_pos (nothing i) = omega arith
height_pos (seq i a b) = omega arith
height_pos (do_at i q a) = omega arith
height_pos (start i m xs) = omega arith
height_pos (start_wait i m xs) = omega arith
height_pos (cooperate i) = omega arith
height_pos (let_in i x a) = omega arith
height_pos (store i x y) = omega arith
height_pos (if_else i x a b) = let g = height_pos a in omega arith
height_pos (while i x a) = omega arith
height_pos (generate i e) = omega arith
height_pos (await i e) = omega arith

-- ---- a continuation over n variables with all the room that it will take: for each statement in
-- it, above what lies below
pub data Roomy : ℕ → List Item → Type 0 where
  no_items : {n : ℕ} → n ≤ 25 → Roomy n []
  run_item : {n : ℕ} {x : Stmt} {l : List Item} → length l + height x ≤ 25 → n + lets x ≤ 25
      → Roomy n l → Roomy n (run x ∷ l)
  back_item : {n q : ℕ} {l : List Item} → length l < 25 → Roomy n l → Roomy n (back q ∷ l)
  drop_item : {n : ℕ} {l : List Item} → length l < 25 → n < 25 → Roomy n l
      → Roomy (suc n) (drop ∷ l)

pub roomy_fits : {n : ℕ} {l : List Item} → Roomy n l → (length l ≤ 25) × (n ≤ 25)
roomy_fits (no_items h) = (omega arith, h)
roomy_fits (run_item {x = x} h g r) = let p = height_pos x in (omega arith, omega arith)
roomy_fits (back_item h r) = (omega arith, (roomy_fits r).1)
roomy_fits (drop_item h g r) = (omega arith, omega arith)

pub fits-true : (z : Spaces) → z ≡ state_spaces → (l : List Item) (vs : List Value)
    → Roomy (length vs) l → fits z l vs ≡ true
unfolding fits
fits-true z e l vs r =
    let (a, b) = roomy_fits r in
    ap (λ (y : Spaces). fits y l vs) e
    ∙ and_both (holds state_spaces.items (length l)) (holds state_spaces.values (length vs))
    (le-leb (length l) _ (omega arith)) (le-leb (length vs) _ (omega arith))

-- ---- it stays so when a statement is taken apart

-- run_item with its data given, from which omega knows what to show
run_above : (n : ℕ) (x : Stmt) (l : List Item) → length l + height x ≤ 25 → n + lets x ≤ 25
    → Roomy n l → Roomy n (run x ∷ l)
run_above n x l h g r = run_item h g r

pub roomy_seq : {n i : ℕ} {a b : Stmt} {l : List Item} → Roomy n (run (seq i a b) ∷ l)
    → Roomy n (run a ∷ run b ∷ l)
unfolding height lets
roomy_seq {n} {a = a} {b = b} {l = l} (run_item h g r) = run_above n a (run b ∷ l) (omega arith) (omega arith) (run_above n b l (omega arith) (omega arith) r)

pub roomy_do : {n i q : ℕ} {a : Stmt} {l : List Item} (p : ℕ) → Roomy n (run (do_at i q a) ∷ l)
    → Roomy n (run a ∷ back p ∷ l)
unfolding height lets
roomy_do {n} {a = a} {l = l} p (run_item h g r) = let k = height_pos a in run_above n a (back p ∷ l) (omega arith) (omega arith) (back_item (omega arith) r)

pub roomy_let : {n i : ℕ} {x : Expr} {a : Stmt} {l : List Item} → Roomy n (run (let_in i x a) ∷ l)
    → Roomy (suc n) (run a ∷ drop ∷ l)
unfolding height lets
roomy_let {n} {a = a} {l = l} (run_item h g r) = let k = height_pos a in run_above (suc n) a (drop ∷ l) (omega arith) (omega arith) (drop_item (omega arith) (omega arith) r)

pub roomy_while : {n i : ℕ} {x : Expr} {a : Stmt} {l : List Item} → Roomy n (run (while i x a) ∷ l)
    → Roomy n (run a ∷ run (while i x a) ∷ l)
unfolding height lets
roomy_while {n} {i} {x} {a} {l} (run_item h g r) = run_above n a (run (while i x a) ∷ l) (omega arith) (omega arith) (run_above n (while i x a) l h g r)

pub roomy_then : {n i : ℕ} {x : Expr} {a b : Stmt} {l : List Item}
    → Roomy n (run (if_else i x a b) ∷ l) → Roomy n (run a ∷ l)
unfolding height lets
roomy_then {n} {a = a} {l = l} (run_item h g r) = run_above n a l (omega arith) (omega arith) r

pub roomy_else : {n i : ℕ} {x : Expr} {a b : Stmt} {l : List Item}
    → Roomy n (run (if_else i x a b) ∷ l) → Roomy n (run b ∷ l)
unfolding height lets
roomy_else {n} {b = b} {l = l} (run_item h g r) = run_above n b l (omega arith) (omega arith) r

-- ---- and what lies below an item is such a continuation

pub below_run : {n : ℕ} {x : Stmt} {l : List Item} → Roomy n (run x ∷ l) → Roomy n l
below_run (run_item h g r) = r

pub below_back : {n q : ℕ} {l : List Item} → Roomy n (back q ∷ l) → Roomy n l
below_back (back_item h r) = r

pub below_drop : {n : ℕ} {l : List Item} → Roomy (suc n) (drop ∷ l) → Roomy n l
below_drop (drop_item h g r) = r

-- a drop finds its variable
pub drop_finds : {n : ℕ} {l : List Item} → Roomy n (drop ∷ l) → 1 ≤ n
drop_finds (drop_item h g r) = omega arith
