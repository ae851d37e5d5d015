-- An evaluation only adds cells, and a store that is refused has only added some: so a refused step
-- is taken back by forgetting those after the old ones. Assumes nothing.
use mathlib.Core.Path.{◌≡◌, refl, sym, ap, ◌∙◌}
use mathlib.Core.List.{List, [], ◌∷◌, ◌++◌, append_assoc, append-nil}
use mathlib.Core.Bool.{true, false}
use Prim.Native.Nat.{ℕ}
use lib.Dec.{ltb}
use lib.ListN.{length}
use Rattle.basics.proofs.Ifs.{if_all}
use Rattle.program.specs.Trees.{Expr, number, truth, variable, shared, new, content, sum, less}
use Rattle.program.specs.Trees.{choose}
use Rattle.machine.specs.State.{Stored, cell_at, is_used, free_number, used_cells}
use Rattle.machine.specs.Evaluation.{Here, EvalResult, Evaluation, gives, with_accesses, and_then}
use Rattle.machine.specs.Evaluation.{◌>>=◌}
use Rattle.machine.specs.Evaluation.{is_own, access_of, accessing, at_cell, read_variable}
use Rattle.machine.specs.Evaluation.{shared_cell}
use Rattle.machine.specs.Evaluation.{add_cell, new_owner, make_cell, read_cell, store_cell, put_in}
use Rattle.machine.specs.Evaluation.{of_numbers, plus, less_than, by_truth, a_number, eval, storing}
use Rattle.machine.specs.declared.value.Value.{Value}
use Rattle.machine.specs.declared.value.Value.TheVariants.{Number, Truth, Cell}
use Rattle.machine.specs.declared.value.Outcome.{Outcome}
use Rattle.machine.specs.declared.value.Outcome.TheVariants.{Is, Foreign, Spent, Stuck}

-- the cells ds are cs and more
pub record Grown (cs ds : List Stored) : Type 0 where
  pub more : List Stored
  pub is : ds ≡ cs ++ more

pub grown_same : (cs : List Stored) → Grown cs cs
grown_same cs = record { more = []; is = sym (append-nil cs) }

pub grown_on : {cs ds es : List Stored} → Grown cs ds → Grown ds es → Grown cs es
grown_on {cs} g h = record { more = g.more ++ h.more; is = h.is ∙ ap (λ (l : List Stored). l ++ h.more) g.is ∙ append_assoc cs g.more h.more }

-- ---- evaluations
abbrev Grows : List Stored → EvalResult → Type 0
Grows cs r = Grown cs r.cells

grows_and_then : (cs : List Stored) (k : Value → Evaluation) (r : EvalResult) (o : Outcome)
    → Grows cs r → ((v : Value) (ds : List Stored) → Grows ds (k v ds)) → Grows cs (and_then k r o)
grows_and_then cs k r (Is v) g f = grown_on g (f v r.cells)
grows_and_then cs k r Foreign g f = g
grows_and_then cs k r Spent g f = g
grows_and_then cs k r Stuck g f = g

grows_then : (m : Evaluation) (k : Value → Evaluation) (cs : List Stored) → Grows cs (m cs)
    → ((v : Value) (ds : List Stored) → Grows ds (k v ds)) → Grows cs ((m >>= k) cs)
grows_then m k cs g f = grows_and_then cs k (m cs) (m cs).outcome g f

grows_accessing : (h : Here) (c o : ℕ) (r : Evaluation) (cs : List Stored) → Grows cs (r cs)
    → Grows cs (accessing h c o r cs)
unfolding accessing
grows_accessing h c o r cs g = if_all (λ (x : EvalResult). Grows cs (with_accesses (access_of h c o ∷ []) x)) (is_own h o) (r cs) (gives Foreign cs) (λ _. g) (λ _. grown_same cs)

grows_at : (h : Here) (c : ℕ) (r : Evaluation) (cs : List Stored) → Grows cs (r cs)
    → Grows cs (at_cell h c r cs)
unfolding at_cell
grows_at h c r cs g =
    if_all (Grows cs) (is_used cs c) _ _ (λ _. grows_accessing h c _ r cs g) (λ _. grown_same cs)

grows_make : (h : Here) (s : ℕ) (v : Value) (cs : List Stored) → Grows cs (make_cell h s v cs)
unfolding make_cell add_cell
grows_make h s v cs =
    grows_accessing h (free_number cs) _ _ cs (if_all (Grows cs) (ltb (used_cells cs) 256) _ _ (λ _. record { more = record { owner = new_owner h s; content = v } ∷ []; is = refl }) (λ _. grown_same cs))

grows_read : (h : Here) (v : Value) (cs : List Stored) → Grows cs (read_cell h v cs)
unfolding read_cell
grows_read h (Cell c) cs = grows_at h c _ cs (grown_same cs)
grows_read h (Number n) cs = grown_same cs
grows_read h (Truth b) cs = grown_same cs

grows_numbers : (f : ℕ → ℕ → Value) (v w : Value) (cs : List Stored) → Grows cs (of_numbers f v w cs)
unfolding of_numbers
grows_numbers f (Number m) (Number n) cs = grown_same cs
grows_numbers f (Number m) (Truth b) cs = grown_same cs
grows_numbers f (Number m) (Cell c) cs = grown_same cs
grows_numbers f (Truth b) w cs = grown_same cs
grows_numbers f (Cell c) w cs = grown_same cs

grows_by : (v : Value) (a b : Evaluation) (cs : List Stored) → Grows cs (a cs) → Grows cs (b cs)
    → Grows cs (by_truth v a b cs)
unfolding by_truth
grows_by (Truth true) a b cs f g = f
grows_by (Truth false) a b cs f g = g
grows_by (Number n) a b cs f g = grown_same cs
grows_by (Cell c) a b cs f g = grown_same cs

grows_number : (v : Value) (cs : List Stored) → Grows cs (a_number v cs)
unfolding a_number
grows_number (Number n) cs = grown_same cs
grows_number (Truth b) cs = grown_same cs
grows_number (Cell c) cs = grown_same cs

pub grows_eval : (h : Here) (x : Expr) (cs : List Stored) → Grown cs (eval h x cs).cells
unfolding eval read_variable shared_cell
grows_eval h (number i n) cs = grown_same cs
grows_eval h (truth i n) cs = grown_same cs
grows_eval h (variable i s) cs = if_all (λ (m : Evaluation). Grows cs (m cs)) (ltb s (length h.variables)) _ _ (λ _. grown_same cs) (λ _. grown_same cs)
grows_eval h (shared i s) cs = if_all (λ (m : Evaluation). Grows cs (m cs)) (ltb s h.shared) _ _ (λ _. grown_same cs) (λ _. grown_same cs)
grows_eval h (new i s x) cs =
    grows_then (eval h x) (make_cell h s) cs (grows_eval h x cs) (λ v ds. grows_make h s v ds)
grows_eval h (content i x) cs =
    grows_then (eval h x) (read_cell h) cs (grows_eval h x cs) (λ v ds. grows_read h v ds)
grows_eval h (sum i x y) cs =
    grows_then (eval h x) (λ v. eval h y >>= of_numbers plus v) cs (grows_eval h x cs)
    (λ v ds. grows_then (eval h y) (of_numbers plus v) ds (grows_eval h y ds) (λ w es. grows_numbers plus v w es))
grows_eval h (less i x y) cs =
    grows_then (eval h x) (λ v. eval h y >>= of_numbers less_than v) cs (grows_eval h x cs)
    (λ v ds. grows_then (eval h y) (of_numbers less_than v) ds (grows_eval h y ds) (λ w es. grows_numbers less_than v w es))
grows_eval h (choose i x y z) cs =
    grows_then (eval h x) (λ v. by_truth v (eval h y) (eval h z) >>= a_number) cs (grows_eval h x cs)
    (λ v ds. grows_then (by_truth v (eval h y) (eval h z)) a_number ds (grows_by v (eval h y) (eval h z) ds (grows_eval h y ds) (grows_eval h z ds)) (λ w es. grows_number w es))

-- ---- 17's store changes an old cell only where it gives a value: unless it does, the cells have
-- only grown
abbrev pub UnlessValue : Outcome → Type 0 → Type 0
UnlessValue (Is v) A = Unit {0}
UnlessValue Foreign A = A
UnlessValue Spent A = A
UnlessValue Stuck A = A

abbrev Unless : List Stored → EvalResult → Type 0
Unless cs r = UnlessValue r.outcome (Grown cs r.cells)

pub unless_on : (o : Outcome) (cs ds es : List Stored) → Grown cs ds → UnlessValue o (Grown ds es)
    → UnlessValue o (Grown cs es)
unless_on (Is v) cs ds es g h = tt
unless_on Foreign cs ds es g h = grown_on g h
unless_on Spent cs ds es g h = grown_on g h
unless_on Stuck cs ds es g h = grown_on g h

pub unless_grown : (o : Outcome) {cs ds : List Stored} → Grown cs ds → UnlessValue o (Grown cs ds)
unless_grown (Is v) g = tt
unless_grown Foreign g = g
unless_grown Spent g = g
unless_grown Stuck g = g

unless_and_then : (cs : List Stored) (k : Value → Evaluation) (r : EvalResult) (o : Outcome)
    → r.outcome ≡ o → Grown cs r.cells → ((v : Value) (ds : List Stored) → Unless ds (k v ds))
    → Unless cs (and_then k r o)
unless_and_then cs k r (Is v) e g f =
    unless_on (k v r.cells).outcome cs r.cells (k v r.cells).cells g (f v r.cells)
unless_and_then cs k r Foreign e g f = unless_grown r.outcome g
unless_and_then cs k r Spent e g f = unless_grown r.outcome g
unless_and_then cs k r Stuck e g f = unless_grown r.outcome g

unless_store : (h : Here) (v w : Value) (cs : List Stored) → Unless cs (store_cell h v w cs)
unfolding store_cell at_cell accessing
unless_store h (Cell c) w cs =
    if_all (Unless cs) (is_used cs c) _ _
    (λ _. if_all (λ (x : EvalResult). Unless cs (with_accesses (access_of h c (cell_at cs c).owner ∷ []) x)) (is_own h (cell_at cs c).owner) (put_in c w cs) (gives Foreign cs) (λ _. tt) (λ _. grown_same cs))
    (λ _. grown_same cs)
unless_store h (Number n) w cs = grown_same cs
unless_store h (Truth b) w cs = grown_same cs

pub grows_storing : (h : Here) (x y : Expr) (cs : List Stored)
    → UnlessValue (storing h x y cs).outcome (Grown cs (storing h x y cs).cells)
grows_storing h x y cs =
    unless_and_then cs (λ v. eval h y >>= store_cell h v) (eval h x cs) (eval h x cs).outcome refl (grows_eval h x cs)
    (λ v ds. unless_and_then ds (store_cell h v) (eval h y ds) (eval h y ds).outcome refl (grows_eval h y ds) (λ w es. unless_store h v w es))
