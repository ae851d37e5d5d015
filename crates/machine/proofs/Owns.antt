-- Whatever the expression and the cells: unless it is foreign, an evaluation accessed only cells of
-- its thread or its place. Assumes nothing.
use mathlib.Core.Path.{◌≡◌, refl, sym, subst}
use mathlib.Core.Logic.{inl, inr, ⊎_elim}
use mathlib.Core.List.{List, [], ◌∷◌}
use mathlib.Core.Bool.{true, false}
use Prim.Native.Nat.{ℕ}
use lib.Dec.{leb, eqb}
use borrow.Author.Tests.{leb-true, eqb-true}
use Rattle.basics.specs.Members.{All, none, more}
use Rattle.basics.proofs.Ifs.{if_all, and_true, or_true}
use Rattle.program.specs.Trees.{Expr, number, truth, variable, shared, new, content, sum, less}
use Rattle.program.specs.Trees.{choose}
use Rattle.machine.specs.Accesses.{Access, Own}
use Rattle.machine.specs.State.{Stored, thread_owner}
use Rattle.machine.specs.Evaluation.{Here, EvalResult, Evaluation, gives, with_accesses, and_then}
use Rattle.machine.specs.Evaluation.{◌>>=◌, is_own, access_of, accessing, read_variable}
use Rattle.machine.specs.Evaluation.{shared_cell, add_cell, new_owner, make_cell, at_cell}
use Rattle.machine.specs.Evaluation.{read_cell, store_cell, of_numbers, by_truth, a_number, plus}
use Rattle.machine.specs.Evaluation.{less_than, eval, storing}
use Rattle.machine.specs.declared.value.Value.{Value}
use Rattle.machine.specs.declared.value.Value.TheVariants.{Number, Truth, Cell}
use Rattle.machine.specs.declared.value.Outcome.{Outcome}
use Rattle.machine.specs.declared.value.Outcome.TheVariants.{Is, Foreign, Spent, Stuck}
use Rattle.machine.proofs.Lists.{all_append}

-- ---- what is claimed, and that it holds of one evaluation after the other

abbrev pub IsForeign : Outcome → Type 0
IsForeign (Is v) = ⊥
IsForeign Foreign = Unit {0}
IsForeign Spent = ⊥
IsForeign Stuck = ⊥

-- unless it was foreign, what it accessed was its own
abbrev pub Owns : EvalResult → Type 0
Owns r = (IsForeign r.outcome → ⊥) → All Own r.accesses

owns_after : {ts : List Access} (r : EvalResult) → All Own ts → Owns r → Owns (with_accesses ts r)
owns_after r h g = λ n. all_append h (g n)

owns_and_then : (k : Value → Evaluation) (r : EvalResult) (o : Outcome) → r.outcome ≡ o → Owns r
    → ((v : Value) (cs : List Stored) → Owns (k v cs)) → Owns (and_then k r o)
owns_and_then k r (Is v) e h g = owns_after (k v r.cells) (h (subst (λ (x : Outcome). IsForeign x → ⊥) (sym e) (λ z. z))) (g v r.cells)
owns_and_then k r Foreign e h g = h
owns_and_then k r Spent e h g = h
owns_and_then k r Stuck e h g = h

pub owns_then : (m : Evaluation) (k : Value → Evaluation) → ((cs : List Stored) → Owns (m cs))
    → ((v : Value) (cs : List Stored) → Owns (k v cs)) → (cs : List Stored) → Owns ((m >>= k) cs)
owns_then m k h g cs = owns_and_then k (m cs) (m cs).outcome refl (h cs) g

-- ---- an access: the test on the owner makes it one to a cell of one's own, or foreign

pub is_own_lem : (h : Here) (c o : ℕ) → is_own h o ≡ true → Own (access_of h c o)
unfolding is_own
is_own_lem h c o e =
    ⊎_elim (λ a. inl (eqb-true o (thread_owner h.thread) a))
    (λ a. let b = and_true (leb 2 h.place) (eqb o h.place) a in inr (leb-true 2 h.place b.0, eqb-true o h.place b.1))
    (or_true (eqb o (thread_owner h.thread)) _ e)

owns_accessing : (h : Here) (c o : ℕ) (r : Evaluation) (cs : List Stored) → Owns (r cs)
    → Owns (accessing h c o r cs)
unfolding accessing
owns_accessing h c o r cs g =
    if_all (λ x. Owns (with_accesses (access_of h c o ∷ []) x)) (is_own h o) (r cs) (gives Foreign cs)
    (λ e. owns_after (r cs) (more (is_own_lem h c o e) none) g)
    (λ e n. absurd (n tt))

-- ---- one law for each kind, after its operands

owns_variable : (h : Here) (s : ℕ) (cs : List Stored) → Owns (read_variable h s cs)
unfolding read_variable
owns_variable h s cs = if_all (λ (m : Evaluation). Owns (m cs)) _ _ _ (λ _ _. none) (λ _ _. none)

owns_shared : (h : Here) (s : ℕ) (cs : List Stored) → Owns (shared_cell h s cs)
unfolding shared_cell
owns_shared h s cs = if_all (λ (m : Evaluation). Owns (m cs)) _ _ _ (λ _ _. none) (λ _ _. none)

owns_add : (o : ℕ) (v : Value) (cs : List Stored) → Owns (add_cell o v cs)
unfolding add_cell
owns_add o v cs = if_all Owns _ _ _ (λ _ _. none) (λ _ _. none)

owns_make : (h : Here) (s : ℕ) (v : Value) (cs : List Stored) → Owns (make_cell h s v cs)
unfolding make_cell
owns_make h s v cs = owns_accessing h _ _ (add_cell (new_owner h s) v) cs (owns_add _ v cs)

owns_at : (h : Here) (c : ℕ) (r : Evaluation) → ((cs : List Stored) → Owns (r cs))
    → (cs : List Stored) → Owns (at_cell h c r cs)
unfolding at_cell
owns_at h c r g cs = if_all Owns _ _ _ (λ _. owns_accessing h c _ r cs (g cs)) (λ _ _. none)

owns_content : (h : Here) (v : Value) (cs : List Stored) → Owns (read_cell h v cs)
unfolding read_cell
owns_content h (Cell c) cs = owns_at h c _ (λ _ _. none) cs
owns_content h (Number n) cs = λ _. none
owns_content h (Truth b) cs = λ _. none

owns_store : (h : Here) (v w : Value) (cs : List Stored) → Owns (store_cell h v w cs)
unfolding store_cell
owns_store h (Cell c) w cs = owns_at h c _ (λ _ _. none) cs
owns_store h (Number n) w cs = λ _. none
owns_store h (Truth b) w cs = λ _. none

owns_numbers : (f : ℕ → ℕ → Value) (v w : Value) (cs : List Stored) → Owns (of_numbers f v w cs)
unfolding of_numbers
owns_numbers f (Number m) (Number n) cs = λ _. none
owns_numbers f (Number m) (Truth b) cs = λ _. none
owns_numbers f (Number m) (Cell c) cs = λ _. none
owns_numbers f (Truth b) w cs = λ _. none
owns_numbers f (Cell c) w cs = λ _. none

owns_by : (v : Value) (a b : Evaluation) → ((cs : List Stored) → Owns (a cs))
    → ((cs : List Stored) → Owns (b cs)) → (cs : List Stored) → Owns (by_truth v a b cs)
unfolding by_truth
owns_by (Truth true) a b f g cs = f cs
owns_by (Truth false) a b f g cs = g cs
owns_by (Number n) a b f g cs = λ _. none
owns_by (Cell c) a b f g cs = λ _. none

owns_number : (v : Value) (cs : List Stored) → Owns (a_number v cs)
unfolding a_number
owns_number (Number n) cs = λ _. none
owns_number (Truth b) cs = λ _. none
owns_number (Cell c) cs = λ _. none

-- ---- expressions, and 17's store

pub owns_eval : (h : Here) (x : Expr) (cs : List Stored) → Owns (eval h x cs)
unfolding eval
owns_eval h (number i n) cs = λ _. none
owns_eval h (truth i b) cs = λ _. none
owns_eval h (variable i s) cs = owns_variable h s cs
owns_eval h (shared i s) cs = owns_shared h s cs
owns_eval h (new i s x) cs = owns_then (eval h x) (make_cell h s) (owns_eval h x) (owns_make h s) cs
owns_eval h (content i x) cs = owns_then (eval h x) (read_cell h) (owns_eval h x) (owns_content h) cs
owns_eval h (sum i x y) cs =
    owns_then (eval h x) (λ v. eval h y >>= of_numbers plus v) (owns_eval h x)
    (λ v. owns_then (eval h y) (of_numbers plus v) (owns_eval h y) (owns_numbers plus v)) cs
owns_eval h (less i x y) cs =
    owns_then (eval h x) (λ v. eval h y >>= of_numbers less_than v) (owns_eval h x)
    (λ v. owns_then (eval h y) (of_numbers less_than v) (owns_eval h y) (owns_numbers less_than v)) cs
owns_eval h (choose i x y z) cs =
    owns_then (eval h x) (λ v. by_truth v (eval h y) (eval h z) >>= a_number) (owns_eval h x)
    (λ v. owns_then (by_truth v (eval h y) (eval h z)) a_number (owns_by v (eval h y) (eval h z) (owns_eval h y) (owns_eval h z)) owns_number) cs

pub owns_storing : (h : Here) (x y : Expr) (cs : List Stored) → Owns (storing h x y cs)
owns_storing h x y = owns_then (eval h x) (λ v. eval h y >>= store_cell h v) (owns_eval h x) (λ v. owns_then (eval h y) (store_cell h v) (owns_eval h y) (owns_store h v))
