-- An evaluation has at most one access for each node of its expression; a store has one more. From
-- at most 256 cells on, both leave at most 256. Assumes nothing.
use mathlib.Core.List.{List, [], ◌∷◌}
use mathlib.Core.Bool.{true, false}
use Prim.Native.Nat.{ℕ, ◌+◌, ◌≤◌}
use native.Mathlib.Omega.{arith}
use lib.Dec.{ltb}
use lib.ListN.{length, length-append}
use borrow.Author.Tests.{ltb-true}
use Rattle.basics.proofs.Ifs.{if_all}
use Rattle.program.specs.Trees.{Expr, number, truth, variable, shared, new, content, sum, less}
use Rattle.program.specs.Trees.{choose}
use Rattle.program.specs.Inner.Sizes.{expr_size}
use Rattle.machine.specs.State.{Stored, is_used, used_cells}
use Rattle.machine.specs.Evaluation.{Here, EvalResult, Evaluation, gives, with_accesses}
use Rattle.machine.specs.Evaluation.{and_then, ◌>>=◌, is_own, access_of, accessing, at_cell}
use Rattle.machine.specs.Evaluation.{read_variable, shared_cell, add_cell, new_owner, make_cell}
use Rattle.machine.specs.Evaluation.{read_cell, put_in, store_cell, of_numbers, plus, less_than}
use Rattle.machine.specs.Evaluation.{by_truth, a_number, eval, storing}
use Rattle.machine.specs.declared.value.Value.{Value}
use Rattle.machine.specs.declared.value.Value.TheVariants.{Number, Truth, Cell}
use Rattle.machine.specs.declared.value.Outcome.{Outcome}
use Rattle.machine.specs.declared.value.Outcome.TheVariants.{Is, Foreign, Spent, Stuck}
use Rattle.machine.proofs.UsedCells.{count_new, put_count}

-- ---- what is claimed, and that it holds of one evaluation after the other

-- r, which came from the cells cs, has at most n accesses, and no 257th cell
record Small (cs : List Stored) (n : ℕ) (r : EvalResult) : Type 0 where
  few : length r.accesses ≤ n
  room : used_cells cs ≤ 256 → used_cells r.cells ≤ 256

small_gives : (n : ℕ) (o : Outcome) (cs : List Stored) → Small cs n (gives o cs)
small_gives n o cs = record { few = omega arith; room = λ l. l }

small_most : {cs : List Stored} {m n : ℕ} (r : EvalResult) → m ≤ n → Small cs m r → Small cs n r
small_most r l h = let a = h.few in record { few = omega arith; room = h.room }

small_and_then : (cs : List Stored) (m n : ℕ) (k : Value → Evaluation) (r : EvalResult) (o : Outcome)
    → Small cs m r → ((v : Value) (ds : List Stored) → Small ds n (k v ds))
    → Small cs (m + n) (and_then k r o)
small_and_then cs m n k r (Is v) h f =
    let a = length-append r.accesses (k v r.cells).accesses in
    let b = h.few in
    let c = (f v r.cells).few in
    record { few = omega arith; room = λ l. (f v r.cells).room (h.room l) }
small_and_then cs m n k r Foreign h f = small_most r (omega arith) h
small_and_then cs m n k r Spent h f = small_most r (omega arith) h
small_and_then cs m n k r Stuck h f = small_most r (omega arith) h

small_then : {m n : ℕ} (p : ℕ) (e : Evaluation) (k : Value → Evaluation) (cs : List Stored)
    → Small cs m (e cs) → ((v : Value) (ds : List Stored) → Small ds n (k v ds)) → m + n ≤ p
    → Small cs p ((e >>= k) cs)
small_then {m} {n} p e k cs h f l =
    small_most ((e >>= k) cs) l (small_and_then cs m n k (e cs) (e cs).outcome h f)

-- ---- an access: one, and what follows it has none

small_accessing : (h : Here) (c o : ℕ) (r : Evaluation) (cs : List Stored) → Small cs 0 (r cs)
    → Small cs 1 (accessing h c o r cs)
unfolding accessing
small_accessing h c o r cs g =
    if_all (λ (x : EvalResult). Small cs 1 (with_accesses (access_of h c o ∷ []) x)) (is_own h o)
    (r cs) (gives Foreign cs)
    (λ _. let a = g.few in record { few = omega arith; room = g.room })
    (λ _. record { few = omega arith; room = λ l. l })

small_at : (h : Here) (c : ℕ) (r : Evaluation) (cs : List Stored) → Small cs 0 (r cs)
    → Small cs 1 (at_cell h c r cs)
unfolding at_cell
small_at h c r cs g =
    if_all (Small cs 1) (is_used cs c) _ _ (λ _. small_accessing h c _ r cs g)
    (λ _. small_gives 1 Stuck cs)

-- ---- one law for each kind, after its operands

small_add : (o : ℕ) (v : Value) (cs : List Stored) → Small cs 0 (add_cell o v cs)
unfolding add_cell
small_add o v cs =
    if_all (Small cs 0) (ltb (used_cells cs) 256) _ _
    (λ e. let a = ltb-true (used_cells cs) 256 e in
    let b = count_new cs (record { owner = o; content = v }) in
    record { few = omega arith; room = λ _. omega arith })
    (λ _. small_gives 0 Spent cs)

small_make : (h : Here) (s : ℕ) (v : Value) (cs : List Stored) → Small cs 1 (make_cell h s v cs)
unfolding make_cell
small_make h s v cs =
    small_accessing h _ _ (add_cell (new_owner h s) v) cs (small_add (new_owner h s) v cs)

small_read : (h : Here) (v : Value) (cs : List Stored) → Small cs 1 (read_cell h v cs)
unfolding read_cell
small_read h (Cell c) cs = small_at h c _ cs (small_gives 0 _ cs)
small_read h (Number n) cs = small_gives 1 Stuck cs
small_read h (Truth b) cs = small_gives 1 Stuck cs

small_store : (h : Here) (v w : Value) (cs : List Stored) → Small cs 1 (store_cell h v w cs)
unfolding store_cell
small_store h (Cell c) w cs =
    small_at h c (put_in c w) cs
    (let a = put_count cs c w in record { few = omega arith; room = λ l. omega arith })
small_store h (Number n) w cs = small_gives 1 Stuck cs
small_store h (Truth b) w cs = small_gives 1 Stuck cs

small_numbers : (f : ℕ → ℕ → Value) (v w : Value) (cs : List Stored)
    → Small cs 0 (of_numbers f v w cs)
unfolding of_numbers
small_numbers f (Number m) (Number n) cs = small_gives 0 _ cs
small_numbers f (Number m) (Truth b) cs = small_gives 0 Stuck cs
small_numbers f (Number m) (Cell c) cs = small_gives 0 Stuck cs
small_numbers f (Truth b) w cs = small_gives 0 Stuck cs
small_numbers f (Cell c) w cs = small_gives 0 Stuck cs

-- one of the two, or neither
small_by : {m n : ℕ} (v : Value) (a b : Evaluation) (cs : List Stored) → Small cs m (a cs)
    → Small cs n (b cs) → Small cs (m + n) (by_truth v a b cs)
unfolding by_truth
small_by (Truth true) a b cs f g = small_most (a cs) (omega arith) f
small_by (Truth false) a b cs f g = small_most (b cs) (omega arith) g
small_by (Number n) a b cs f g = small_gives _ Stuck cs
small_by (Cell c) a b cs f g = small_gives _ Stuck cs

small_number : (v : Value) (cs : List Stored) → Small cs 0 (a_number v cs)
unfolding a_number
small_number (Number n) cs = small_gives 0 _ cs
small_number (Truth b) cs = small_gives 0 Stuck cs
small_number (Cell c) cs = small_gives 0 Stuck cs

-- ---- expressions, and 17's store

small_eval : (h : Here) (x : Expr) (cs : List Stored) → Small cs (expr_size x) (eval h x cs)
unfolding eval read_variable shared_cell expr_size
small_eval h (number i n) cs = small_gives _ _ cs
small_eval h (truth i n) cs = small_gives _ _ cs
small_eval h (variable i s) cs =
    if_all (λ (m : Evaluation). Small cs 1 (m cs)) (ltb s (length h.variables)) _ _
    (λ _. small_gives 1 _ cs) (λ _. small_gives 1 Stuck cs)
small_eval h (shared i s) cs =
    if_all (λ (m : Evaluation). Small cs 1 (m cs)) (ltb s h.shared) _ _
    (λ _. small_gives 1 _ cs) (λ _. small_gives 1 Stuck cs)
small_eval h (new i s x) cs =
    small_then _ (eval h x) _ cs (small_eval h x cs) (λ v ds. small_make h s v ds) (omega arith)
small_eval h (content i x) cs =
    small_then _ (eval h x) _ cs (small_eval h x cs) (λ v ds. small_read h v ds) (omega arith)
small_eval h (sum i x y) cs =
    small_then _ (eval h x) _ cs (small_eval h x cs)
    (λ v ds. small_then (expr_size y) (eval h y) _ ds (small_eval h y ds)
    (λ w es. small_numbers plus v w es) (omega arith)) (omega arith)
small_eval h (less i x y) cs =
    small_then _ (eval h x) _ cs (small_eval h x cs)
    (λ v ds. small_then (expr_size y) (eval h y) _ ds (small_eval h y ds)
    (λ w es. small_numbers less_than v w es) (omega arith)) (omega arith)
small_eval h (choose i x y z) cs =
    small_then _ (eval h x) _ cs (small_eval h x cs)
    (λ v ds. small_then (expr_size y + expr_size z) (by_truth v (eval h y) (eval h z)) _ ds
    (small_by v (eval h y) (eval h z) ds (small_eval h y ds) (small_eval h z ds))
    (λ w es. small_number w es) (omega arith)) (omega arith)

small_storing : (h : Here) (x y : Expr) (cs : List Stored)
    → Small cs (expr_size x + expr_size y + 1) (storing h x y cs)
small_storing h x y cs =
    small_then _ (eval h x) _ cs (small_eval h x cs)
    (λ v ds. small_then (expr_size y + 1) (eval h y) _ ds (small_eval h y ds)
    (λ w es. small_store h v w es) (omega arith)) (omega arith)

-- ---- at most one access for each node; a store, one more
pub eval_few : (h : Here) (x : Expr) (cs : List Stored)
    → length (eval h x cs).accesses ≤ expr_size x
eval_few h x cs = (small_eval h x cs).few

pub storing_few : (h : Here) (x y : Expr) (cs : List Stored)
    → length (storing h x y cs).accesses ≤ expr_size x + expr_size y + 1
storing_few h x y cs = (small_storing h x y cs).few

-- ---- at most 256 cells stay so
pub cells_few : (h : Here) (x : Expr) (cs : List Stored) → used_cells cs ≤ 256
    → used_cells (eval h x cs).cells ≤ 256
cells_few h x cs l = (small_eval h x cs).room l

pub storing_cells_few : (h : Here) (x y : Expr) (cs : List Stored) → used_cells cs ≤ 256
    → used_cells (storing h x y cs).cells ≤ 256
storing_cells_few h x y cs l = (small_storing h x y cs).room l
