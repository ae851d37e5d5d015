-- Evaluation keeps the cells in shape and gives values in shape. Assumes nothing.
use Prim.Native.Nat.{ℕ, ◌+◌, ◌%◌, ◌^◌, ◌<◌, ◌≤◌}
use mathlib.Core.Path.{◌≡◌, refl, sym, ap, ◌∙◌, subst}
use mathlib.Core.List.{List, [], ◌∷◌, ◌++◌}
use mathlib.Core.Bool.{Bool, true, false}
use native.Mathlib.Omega.{arith}
use native.Mathlib.Decide.{ℕ_discrete}
use lib.ListN.{get_or, length, set, length-set, length-append, get_or-append}
use lib.Seq.{get_or-set_same, get_or-set_other, get_or_at}
use lib.Dec.{ltb, leb, eqb}
use borrow.Author.Tests.{ltb-true, ltb-false, eqb-false, le-leb}
use Rattle.basics.specs.Members.{All}
use Rattle.basics.proofs.Ifs.{if_all, and_both, or_left, or_right}
use Rattle.language.specs.Places.{has_place, has_scheduler}
use Rattle.language.proofs.PlaceLaws.{place_scheduler}
use Rattle.program.specs.Trees.{Expr}
use Rattle.machine.specs.Accesses.{Access}
use Rattle.machine.specs.State.{Stored, cell_at, no_cell, is_used, used_cells, with_new_cell}
use Rattle.machine.specs.State.{thread_owner}
use Rattle.machine.specs.Evaluation.{Here, EvalResult, Evaluation, gives, with_accesses, and_then}
use Rattle.machine.specs.Evaluation.{◌>>=◌, is_own, access_of, accessing, at_cell, read_variable}
use Rattle.machine.specs.Evaluation.{shared_cell, add_cell, new_owner, make_cell, read_cell, put_in}
use Rattle.machine.specs.Evaluation.{store_cell, of_numbers, plus, less_than, by_truth, a_number}
use Rattle.machine.specs.Evaluation.{eval, storing}
use Rattle.machine.specs.Shapes.{owner_in_range, ValueFits, number, truth, cell, CellFits}
use Rattle.machine.specs.Shapes.{IsThread}
use Rattle.machine.specs.declared.value.Value.{Value}
use Rattle.machine.specs.declared.value.Value.TheVariants.{Number, Truth, Cell}
use Rattle.machine.specs.declared.value.Outcome.{Outcome}
use Rattle.machine.specs.declared.value.Outcome.TheVariants.{Is, Foreign, Spent, Stuck}
use Rattle.machine.proofs.Lists.{all_get_d}

-- ---- a list with a member replaced, and with one more, where Q holds of each by its index

pub each_set : {A : Type 0} (Q : A → Type 0) (xs : List A) (i : ℕ) (x d : A)
    → ((k : ℕ) → k < length xs → Q (get_or xs k d)) → (i < length xs → Q x)
    → (k : ℕ) → k < length (set xs i x) → Q (get_or (set xs i x) k d)
each_set {A} Q xs i x d h q k g = go (ℕ_discrete k i)
  where
    l : k < length xs
    l = rw (length-set xs i x) at g

    go : Dec (k ≡ i) → Q (get_or (set xs i x) k d)
    go (yes e) =
        let m : i < length xs = subst (λ (j : ℕ). j < length xs) e l in
        subst Q (sym (ap (λ (j : ℕ). get_or (set xs i x) j d) e ∙ get_or-set_same xs i x d m)) (q m)
    go (no e) = subst Q (sym (get_or-set_other xs i k x d e)) (h k l)

pub each_snoc : {A : Type 0} (Q : A → Type 0) (xs : List A) (x d : A)
    → ((k : ℕ) → k < length xs → Q (get_or xs k d)) → Q x
    → (k : ℕ) → k < length (xs ++ (x ∷ [])) → Q (get_or (xs ++ (x ∷ [])) k d)
each_snoc {A} Q xs x d h q k g = go (ltb k (length xs)) refl
  where
    l : length (xs ++ (x ∷ [])) ≡ length xs + 1
    l = length-append xs (x ∷ [])

    last : length xs ≤ k → k < length (xs ++ (x ∷ [])) → length (xs ++ (x ∷ [])) ≡ length xs + 1
        → length xs ≡ k
    last a b c = omega arith

    go : (b : Bool) → ltb k (length xs) ≡ b → Q (get_or (xs ++ (x ∷ [])) k d)
    go true e = subst Q (sym (get_or-append xs (x ∷ []) d k (ltb-true k (length xs) e))) (h k (ltb-true k (length xs) e))
    go false e = subst Q (sym (get_or_at xs x [] d k (last (ltb-false k (length xs) e) g l))) q

-- ---- cells and expressions in shape

pub record CellsFit (n : ℕ) (cs : List Stored) : Type 0 where
  pub room : length cs ≤ 256
  pub each : (k : ℕ) → k < length cs → CellFits n (get_or cs k no_cell)

-- who evaluates
pub record HereFits (h : Here) : Type 0 where
  pub thread : IsThread h.thread
  pub values : All ValueFits h.variables
  pub shared : h.shared ≤ 256

-- what refusals 3 and 5 leave of an expression: numbers of 32 bits, owners that the file has
pub data ExprFits (n : ℕ) : Expr → Type 0 where
  a_numeral : {i v : ℕ} → v < 2 ^ 32 → ExprFits n (Expr.number i v)
  a_truth : {i v : ℕ} → ExprFits n (Expr.truth i v)
  a_variable : {i v : ℕ} → ExprFits n (Expr.variable i v)
  a_shared : {i v : ℕ} → ExprFits n (Expr.shared i v)
  a_new : {i o : ℕ} {x : Expr} → has_place n o ≡ true → ExprFits n x → ExprFits n (Expr.new i o x)
  a_content : {i : ℕ} {x : Expr} → ExprFits n x → ExprFits n (Expr.content i x)
  a_sum : {i : ℕ} {x y : Expr} → ExprFits n x → ExprFits n y → ExprFits n (Expr.sum i x y)
  a_less : {i : ℕ} {x y : Expr} → ExprFits n x → ExprFits n y → ExprFits n (Expr.less i x y)
  a_choice : {i : ℕ} {x y z : Expr} → ExprFits n x → ExprFits n y → ExprFits n z
      → ExprFits n (Expr.choose i x y z)

-- what an evaluation gives: cells in shape, and a value in shape or a refusal
pub data OutcomeFits : Outcome → Type 0 where
  is_value : {v : Value} → ValueFits v → OutcomeFits (Is v)
  is_foreign : OutcomeFits Foreign
  is_spent : OutcomeFits Spent
  is_stuck : OutcomeFits Stuck

pub record EvalFits (n : ℕ) (r : EvalResult) : Type 0 where
  pub cells : CellsFit n r.cells
  pub outcome : OutcomeFits r.outcome

-- ---- one after the other

fit_after : {n : ℕ} (ts : List Access) (r : EvalResult) → EvalFits n r → EvalFits n (with_accesses ts r)
fit_after ts r h = record { cells = h.cells; outcome = h.outcome }

fit_and_then : {n : ℕ} (k : Value → Evaluation) (r : EvalResult) (o : Outcome) → EvalFits n r
    → OutcomeFits o
    → ((v : Value) (ds : List Stored) → ValueFits v → CellsFit n ds → EvalFits n (k v ds))
    → EvalFits n (and_then k r o)
fit_and_then k r (Is v) h (is_value w) f =
    fit_after r.accesses (k v r.cells) (f v r.cells w h.cells)
fit_and_then k r Foreign h o f = h
fit_and_then k r Spent h o f = h
fit_and_then k r Stuck h o f = h

fit_then : {n : ℕ} (m : Evaluation) (k : Value → Evaluation) (cs : List Stored) → EvalFits n (m cs)
    → ((v : Value) (ds : List Stored) → ValueFits v → CellsFit n ds → EvalFits n (k v ds))
    → EvalFits n ((m >>= k) cs)
fit_then m k cs h f = fit_and_then k (m cs) (m cs).outcome h h.outcome f

fit_stuck : {n : ℕ} (cs : List Stored) → CellsFit n cs → EvalFits n (gives Stuck cs)
fit_stuck cs c = record { cells = c; outcome = is_stuck }

fit_is : {n : ℕ} (v : Value) (cs : List Stored) → CellsFit n cs → ValueFits v
    → EvalFits n (gives (Is v) cs)
fit_is v cs c w = record { cells = c; outcome = is_value w }

-- ---- one law for each kind, after its operands

fit_accessing : {n : ℕ} (h : Here) (c o : ℕ) (r : Evaluation) (cs : List Stored) → CellsFit n cs
    → EvalFits n (r cs) → EvalFits n (accessing h c o r cs)
unfolding accessing
fit_accessing {n} h c o r cs d f =
    fit_after (access_of h c o ∷ []) _ (if_all (EvalFits n) (is_own h o) (r cs) (gives Foreign cs) (λ _. f) (λ _. record { cells = d; outcome = is_foreign }))

fit_at : {n : ℕ} (h : Here) (c : ℕ) (r : Evaluation) (cs : List Stored) → CellsFit n cs
    → (is_used cs c ≡ true → EvalFits n (r cs)) → EvalFits n (at_cell h c r cs)
unfolding at_cell
fit_at {n} h c r cs d f =
    if_all (EvalFits n) (is_used cs c) _ _ (λ e. fit_accessing h c _ r cs d (f e))
    (λ _. fit_stuck cs d)

fit_read : {n : ℕ} (h : Here) (v : Value) (cs : List Stored) → CellsFit n cs
    → EvalFits n (read_cell h v cs)
unfolding read_cell
fit_read h (Cell c) cs d =
    fit_at h c _ cs d (λ e. fit_is _ cs d (d.each c (ltb-true c (length cs) e)).value)
fit_read h (Number m) cs d = fit_stuck cs d
fit_read h (Truth b) cs d = fit_stuck cs d

fit_store : {n : ℕ} (h : Here) (v w : Value) (cs : List Stored) → CellsFit n cs → ValueFits w
    → EvalFits n (store_cell h v w cs)
unfolding store_cell
fit_store {n} h (Cell c) w cs d g =
    fit_at h c (put_in c w) cs d
    (λ l. record {
      cells = record {
        room = rw (length-set cs c (record { owner = (cell_at cs c).owner; content = w })) d.room;
        each = each_set (CellFits n) cs c (record { owner = (cell_at cs c).owner; content = w }) no_cell d.each (λ m. record { owner = (d.each c m).owner; value = g });
      };
      outcome = is_value g;
    })
fit_store h (Number m) w cs d g = fit_stuck cs d
fit_store h (Truth b) w cs d g = fit_stuck cs d

-- an owner that the file has, or the thread's own
fit_owner : (n : ℕ) (h : Here) (s : ℕ) → IsThread h.thread → has_place n s ≡ true
    → owner_in_range n (new_owner h s) ≡ true
unfolding new_owner owner_in_range
fit_owner n h s t p =
    if_all (λ (o : ℕ). owner_in_range n o ≡ true) (eqb s 1) (thread_owner h.thread) s
    (λ _. let a = t.0 in let b = t.1 in
    or_right (has_scheduler n (16 + h.thread)) _
    (and_both (leb 17 (16 + h.thread)) (leb (16 + h.thread) 80) (le-leb 17 (16 + h.thread) (omega arith)) (le-leb (16 + h.thread) 80 (omega arith))))
    (λ e. or_left (has_scheduler n s) _ (place_scheduler n s p (eqb-false s 1 e)))

fit_add : (n o : ℕ) (v : Value) (cs : List Stored) → CellsFit n cs → owner_in_range n o ≡ true
    → ValueFits v → EvalFits n (add_cell o v cs)
unfolding add_cell
fit_add n o v cs d p w =
    if_all (EvalFits n) (ltb (used_cells cs) 256) _ _
    (λ e. let l : length cs < 256 = ltb-true (length cs) 256 e in
    let m : length (with_new_cell cs x) ≡ length cs + 1 = length-append cs (x ∷ []) in
    record {
      cells = record { room = omega arith; each = each_snoc (CellFits n) cs x no_cell d.each (record { owner = p; value = w }) };
      outcome = is_value (cell l);
    })
    (λ _. record { cells = d; outcome = is_spent })
  where
    x : Stored
    x = record { owner = o; content = v }

fit_make : (n : ℕ) (h : Here) (s : ℕ) (v : Value) (cs : List Stored) → HereFits h
    → has_place n s ≡ true → CellsFit n cs → ValueFits v → EvalFits n (make_cell h s v cs)
unfolding make_cell
fit_make n h s v cs k p d w = fit_accessing h _ _ (add_cell (new_owner h s) v) cs d (fit_add n (new_owner h s) v cs d (fit_owner n h s k.thread p) w)

fit_numbers : {n : ℕ} (f : ℕ → ℕ → Value) (v w : Value) (cs : List Stored)
    → ((a b : ℕ) → ValueFits (f a b)) → CellsFit n cs → EvalFits n (of_numbers f v w cs)
unfolding of_numbers
fit_numbers f (Number a) (Number b) cs g d = fit_is (f a b) cs d (g a b)
fit_numbers f (Number a) (Truth b) cs g d = fit_stuck cs d
fit_numbers f (Number a) (Cell c) cs g d = fit_stuck cs d
fit_numbers f (Truth b) w cs g d = fit_stuck cs d
fit_numbers f (Cell c) w cs g d = fit_stuck cs d

fit_by : {n : ℕ} (v : Value) (a b : Evaluation) (cs : List Stored) → CellsFit n cs
    → EvalFits n (a cs) → EvalFits n (b cs) → EvalFits n (by_truth v a b cs)
unfolding by_truth
fit_by (Truth true) a b cs d f g = f
fit_by (Truth false) a b cs d f g = g
fit_by (Number m) a b cs d f g = fit_stuck cs d
fit_by (Cell c) a b cs d f g = fit_stuck cs d

fit_number : {n : ℕ} (v : Value) (cs : List Stored) → CellsFit n cs → ValueFits v
    → EvalFits n (a_number v cs)
unfolding a_number
fit_number (Number m) cs d w = fit_is (Number m) cs d w
fit_number (Truth b) cs d w = fit_stuck cs d
fit_number (Cell c) cs d w = fit_stuck cs d

fit_plus : (a b : ℕ) → ValueFits (plus a b)
fit_plus a b = number (below (a + b))
  where
    below : (m : ℕ) → m % 2 ^ 32 < 2 ^ 32
    below m = omega arith

-- ---- expressions, and 17's store

pub fit_eval : {n : ℕ} {x : Expr} (h : Here) (cs : List Stored) → HereFits h → CellsFit n cs
    → ExprFits n x → EvalFits n (eval h x cs)
unfolding eval read_variable shared_cell
fit_eval h cs k d (a_numeral l) = fit_is _ cs d (number l)
fit_eval h cs k d a_truth = fit_is _ cs d truth
fit_eval {n} h cs k d (a_variable {v = s}) =
    if_all (λ (m : Evaluation). EvalFits n (m cs)) (ltb s (length h.variables)) _ _
    (λ e. fit_is _ cs d (all_get_d ValueFits h.variables (Number 0) s k.values (ltb-true s (length h.variables) e))) (λ _. fit_stuck cs d)
fit_eval {n} h cs k d (a_shared {v = s}) =
    if_all (λ (m : Evaluation). EvalFits n (m cs)) (ltb s h.shared) _ _
    (λ e. let l = ltb-true s h.shared e in let m = k.shared in fit_is _ cs d (cell (omega arith))) (λ _. fit_stuck cs d)
fit_eval {n} h cs k d (a_new {o = o} {x = x} p e) =
    fit_then (eval h x) _ cs (fit_eval h cs k d e) (λ v ds w f. fit_make n h o v ds k p f w)
fit_eval h cs k d (a_content {x =
    x} e) = fit_then (eval h x) _ cs (fit_eval h cs k d e) (λ v ds w f. fit_read h v ds f)
fit_eval h cs k d (a_sum {x = x} {y = y} e g) =
    fit_then (eval h x) _ cs (fit_eval h cs k d e)
    (λ v ds w f. fit_then (eval h y) _ ds (fit_eval h ds k f g) (λ u es z i. fit_numbers plus v u es fit_plus i))
fit_eval h cs k d (a_less {x = x} {y = y} e g) =
    fit_then (eval h x) _ cs (fit_eval h cs k d e)
    (λ v ds w f. fit_then (eval h y) _ ds (fit_eval h ds k f g) (λ u es z i. fit_numbers less_than v u es (λ _ _. truth) i))
fit_eval h cs k d (a_choice {x = x} {y = y} {z = z} e g j) =
    fit_then (eval h x) _ cs (fit_eval h cs k d e)
    (λ v ds w f. fit_then (by_truth v (eval h y) (eval h z)) _ ds
    (fit_by v (eval h y) (eval h z) ds f (fit_eval h ds k f g) (fit_eval h ds k f j)) (λ u es q i. fit_number u es i q))

pub fit_storing : {n : ℕ} {x y : Expr} (h : Here) (cs : List Stored) → HereFits h → CellsFit n cs
    → ExprFits n x → ExprFits n y → EvalFits n (storing h x y cs)
fit_storing {x = x} {y = y} h cs k d e g =
    fit_then (eval h x) _ cs (fit_eval h cs k d e)
    (λ v ds w f. fit_then (eval h y) _ ds (fit_eval h ds k f g) (λ u es z i. fit_store h v u es i z))
