-- A typed expression, evaluated on its place over good cells, is neither foreign nor stuck: it
-- gives a value of its type and good cells, or 17. Assumes nothing.
use mathlib.Core.Path.{◌≡◌, refl, sym, subst, ◌∙◌}
use mathlib.Core.Logic.{inl, inr, ⊎_elim}
use mathlib.Core.List.{List, [], ◌∷◌}
use mathlib.Core.Option.{some}
use mathlib.Core.Bool.{true, false}
use Prim.Native.Nat.{ℕ, ◌≤◌}
use native.Mathlib.Omega.{arith}
use lib.Dec.{leb, ltb, eqb}
use lib.ListN.{length}
use borrow.Author.Tests.{lt-ltb, le-leb, eq-eqb, eqb-true, eqb-false}
use Rattle.basics.proofs.Ifs.{if_all, and_both, or_left, or_right}
use Rattle.program.specs.Trees.{Expr}
use Rattle.machine.specs.State.{Stored, cell_at, is_used, free_number, used_cells, thread_owner}
use Rattle.machine.specs.Evaluation.{Here, EvalResult, Evaluation, gives, with_accesses, and_then, ◌>>=◌}
use Rattle.machine.specs.Evaluation.{is_own, access_of, accessing, read_variable, shared_cell, add_cell}
use Rattle.machine.specs.Evaluation.{new_owner, make_cell, at_cell, read_cell, store_cell, of_numbers}
use Rattle.machine.specs.Evaluation.{by_truth, a_number, plus, less_than, eval, storing}
use Rattle.machine.specs.declared.value.Value.{Value}
use Rattle.machine.specs.declared.value.Outcome.{Outcome}
use Rattle.machine.specs.declared.value.Outcome.TheVariants.{Is, Foreign, Spent}
use Rattle.machine.proofs.Tests.{taken}
use Rattle.safety.proofs.Typing.{Ty, num, tru, cell, Pub, CellTyping, Store, Allowed, TypedE}
use Rattle.safety.proofs.Typing.{t_number, t_truth, t_variable, t_shared, t_new, t_content}
use Rattle.safety.proofs.Typing.{t_sum, t_less, t_choose}
use Rattle.safety.proofs.Heap.{Seen, Val, is_num, is_tru, is_a_cell, Held, GoodCells, More}
use Rattle.safety.proofs.Heap.{Vals, SharedOk, val_more, vals_more, shared_more, held_val}
use Rattle.safety.proofs.Heap.{val_held, val_public, at_below, vals_at, typing_new}
use Rattle.safety.proofs.Heap.{typed_used, with_typing, new_more, new_good, put_good}

-- an evaluation that went well, under a larger store typing, or spent the cells: never foreign,
-- never stuck
pub data FineO (Σ : Store) (t : ℕ) (τ : Ty) (cs : List Stored) : Outcome → Type 0 where
  well : {v : Value} (Σ' : Store) → More Σ Σ' → GoodCells Σ' cs → Val Σ' t v τ
      → FineO Σ t τ cs (Is v)
  spent : FineO Σ t τ cs Spent

abbrev pub Fine : Store → ℕ → Ty → EvalResult → Type 0
Fine Σ t τ r = FineO Σ t τ r.cells r.outcome

-- ---- one after the other: the second under the store typing that the first leaves

widen : {Σ Σ' : Store} {t : ℕ} {τ : Ty} {cs : List Stored} {o : Outcome} → More Σ Σ'
    → FineO Σ' t τ cs o → FineO Σ t τ cs o
widen m (well Σ'' n g v) = well Σ'' (λ c k a. n c k (m c k a)) g v
widen m spent = spent

fine_and_then : {Σ : Store} {t : ℕ} {τ σ : Ty} (k : Value → Evaluation) (r : EvalResult) (o : Outcome)
    → r.outcome ≡ o → FineO Σ t τ r.cells o
    → ((Σ' : Store) (v : Value) (ds : List Stored) → More Σ Σ' → GoodCells Σ' ds → Val Σ' t v τ → Fine Σ' t σ (k v ds))
    → Fine Σ t σ (and_then k r o)
fine_and_then k r (Is v) e (well Σ' m g w) h = widen m (h Σ' v r.cells m g w)
fine_and_then {Σ} {t} {τ} {σ} k r Spent e spent h =
    subst (λ (x : Outcome). FineO Σ t σ r.cells x) (sym e) spent
fine_and_then {Σ = Σ} {t = t} {τ = τ} {σ = σ} k r Foreign e x3 h = elim x3 [ ]
fine_and_then {Σ = Σ} {t = t} {τ = τ} {σ = σ} k r Rattle.machine.specs.declared.value.Outcome.TheVariants.Stuck e x4 h = elim x4 [ ]

pub fine_then : {Σ : Store} {t : ℕ} {τ σ : Ty} (m : Evaluation) (k : Value → Evaluation) (cs : List Stored)
    → Fine Σ t τ (m cs)
    → ((Σ' : Store) (v : Value) (ds : List Stored) → More Σ Σ' → GoodCells Σ' ds → Val Σ' t v τ → Fine Σ' t σ (k v ds))
    → Fine Σ t σ ((m >>= k) cs)
fine_then m k cs f h = fine_and_then k (m cs) (m cs).outcome refl f h

-- ---- accesses

-- a cell that the thread sees as one of an allowed owner is its own
own_seen : (h : Here) (o own : ℕ) → Allowed h.place o → Seen h.thread o own
    → is_own h own ≡ true
unfolding is_own
own_seen h o own r s =
    ⊎_elim (λ a. or_left _ _ (eq-eqb own (thread_owner h.thread) a.1))
    (λ a. ⊎_elim (λ b. absurd (omega (arith, b, a.0)))
    (λ b. or_right (eqb own (thread_owner h.thread)) _ (and_both (leb 2 h.place) _ (le-leb 2 h.place b.0) (eq-eqb own h.place (a.2 ∙ b.1)))) r) s

fine_accessing : {Σ : Store} {τ : Ty} (h : Here) (c o own : ℕ) (r : Evaluation) (cs : List Stored)
    → Allowed h.place o → Seen h.thread o own
    → Fine Σ h.thread τ (r cs) → Fine Σ h.thread τ (accessing h c own r cs)
unfolding accessing
fine_accessing {Σ} {τ} h c o own r cs a s f =
    taken (λ (x : EvalResult). Fine Σ h.thread τ (with_accesses (access_of h c own ∷ []) x))
    (is_own h own) (r cs) (gives Foreign cs) (own_seen h o own a s) f

fine_at : {Σ : Store} {τ : Ty} (h : Here) (c o : ℕ) (k : CellTyping) (r : Evaluation) (cs : List Stored)
    → Allowed h.place o → GoodCells Σ cs → Σ c ≡ some k → Seen h.thread o k.own
    → Fine Σ h.thread τ (r cs) → Fine Σ h.thread τ (at_cell h c r cs)
unfolding at_cell
fine_at {Σ} {τ} h c o k r cs a g b s f =
    taken (Fine Σ h.thread τ) (is_used cs c) _ _ (typed_used c g b)
    (fine_accessing h c o (cell_at cs c).owner r cs a (subst (Seen h.thread o) (sym (g.each c k b).0) s) f)

-- ---- one law for each kind, after its operands

fine_content : {Σ : Store} {τ : Ty} {v : Value} (h : Here) (o : ℕ) (cs : List Stored)
    → Allowed h.place o → GoodCells Σ cs → Val Σ h.thread v (cell o τ)
    → Fine Σ h.thread τ (read_cell h v cs)
unfolding read_cell
fine_content {Σ} h o cs a g (is_a_cell {c = c} {k = k} b s) =
    fine_at h c o k _ cs a g b s
    (well Σ (λ _ _ x. x) g (held_val h.thread o s (g.each c k b).1))

fine_store : {Σ : Store} {τ : Ty} {v w : Value} (h : Here) (o : ℕ) (cs : List Stored)
    → Allowed h.place o → GoodCells Σ cs → Val Σ h.thread v (cell o τ)
    → Val Σ h.thread w τ → Fine Σ h.thread τ (store_cell h v w cs)
unfolding store_cell
fine_store {Σ} {w = w} h o cs a g (is_a_cell {c = c} {k = k} b s) x =
    fine_at h c o k _ cs a g b s
    (well Σ (λ _ _ y. y) (put_good Σ cs c k w g b (keeps (g.each c k b).1)) x)
  where
    keeps : Held Σ k (cell_at cs c).content → Held Σ k w
    keeps (Held.by_thread t e _) = Held.by_thread t e (⊎_elim (λ q. subst (λ (n : ℕ). Val Σ n w k.ty) (omega (arith, q.1, e)) x) (λ q. absurd (omega (arith, q.1, q.2, e))) s)
    keeps (Held.by_place i j p _) = Held.by_place i j p (λ t. val_public t p x)

-- a new cell is seen as one of the owner that its frame names
pub seen_owner : (h : Here) (o : ℕ) → Allowed h.place o → h.place ≤ 9
    → Seen h.thread o (new_owner h o)
unfolding new_owner
seen_owner h o a l =
    if_all (λ (n : ℕ). Seen h.thread o n) (eqb o 1) _ _ (λ e. inl (eqb-true o 1 e, refl))
    (λ e. ⊎_elim (λ b. absurd (eqb-false o 1 e b)) (λ b. inr (omega (arith, b.0, b.1), omega (arith, l, b.1), refl)) a)

fine_numbers : {Σ : Store} {v w : Value} {τ : Ty} (h : Here) (f : ℕ → ℕ → Value) (cs : List Stored)
    → ((m n : ℕ) → Val Σ h.thread (f m n) τ) → GoodCells Σ cs
    → Val Σ h.thread v num → Val Σ h.thread w num → Fine Σ h.thread τ (of_numbers f v w cs)
unfolding of_numbers
fine_numbers {Σ} h f cs q g is_num is_num = well Σ (λ _ _ a. a) g (q _ _)

fine_number : {Σ : Store} {v : Value} (h : Here) (cs : List Stored) → GoodCells Σ cs
    → Val Σ h.thread v num → Fine Σ h.thread num (a_number v cs)
unfolding a_number
fine_number {Σ} h cs g is_num = well Σ (λ _ _ a. a) g is_num

fine_by : {Σ : Store} {v : Value} {τ : Ty} (h : Here) (a b : Evaluation) (cs : List Stored)
    → Val Σ h.thread v tru → Fine Σ h.thread τ (a cs) → Fine Σ h.thread τ (b cs)
    → Fine Σ h.thread τ (by_truth v a b cs)
unfolding by_truth
fine_by h a b cs (is_tru {b = true}) f g = f
fine_by h a b cs (is_tru {b = false}) f g = g

fine_make : {Σ : Store} {τ : Ty} {v : Value} (h : Here) (o : ℕ) (cs : List Stored)
    → Allowed h.place o → h.place ≤ 9 → (2 ≤ o → Pub τ) → GoodCells Σ cs → Val Σ h.thread v τ
    → Fine Σ h.thread (cell o τ) (make_cell h o v cs)
unfolding make_cell add_cell
fine_make {Σ} {τ} {v} h o cs a l p g w =
    fine_accessing h (free_number cs) o (new_owner h o) (add_cell (new_owner h o) v) cs a seen
    (if_all (Fine Σ h.thread (cell o τ)) (ltb (used_cells cs) 256) _ _
    (λ _. well (with_typing Σ (free_number cs) k) (new_more Σ cs k g) (new_good Σ cs k (record { owner = new_owner h o; content = v }) g refl (val_held h.thread o seen p w))
    (is_a_cell {k = k} (typing_new Σ (free_number cs) k) seen))
    (λ _. spent))
  where
    k : CellTyping
    k = record { own = new_owner h o; ty = τ }

    seen : Seen h.thread o (new_owner h o)
    seen = seen_owner h o a l

-- ---- expressions, and 17's store

pub fine_eval : {sh : List CellTyping} {Γ : List Ty} (h : Here) {Σ : Store} {x : Expr} {τ : Ty} (cs : List Stored)
    → length sh ≡ h.shared → SharedOk Σ sh → Vals Σ h.thread h.variables Γ
    → GoodCells Σ cs → TypedE sh Γ h.place x τ → Fine Σ h.thread τ (eval h x cs)
unfolding eval read_variable shared_cell of_numbers a_number
fine_eval h {Σ = Σ} cs n s vs g t_number = well Σ (λ _ _ a. a) g is_num
fine_eval h {Σ = Σ} cs n s vs g t_truth = well Σ (λ _ _ a. a) g is_tru
fine_eval h {Σ = Σ} cs n s vs g (t_variable {s = i} {τ = τ} a) =
    let q = vals_at vs a in
    taken (λ (m : Evaluation). Fine Σ h.thread τ (m cs)) _ _ _
    (lt-ltb i (length h.variables) q.0) (well Σ (λ _ _ b. b) g q.1)
fine_eval {sh = sh} h {Σ = Σ} cs n s vs g (t_shared {s = i} {k = k} a) =
    let q = at_below a in let b = s i k a in
    taken (λ (m : Evaluation). Fine Σ h.thread (cell k.own k.ty) (m cs)) _ _ _
    (lt-ltb i h.shared (omega arith))
    (well Σ (λ _ _ c. c) g (is_a_cell b.0 (inr (b.1, b.2, refl))))
fine_eval h cs n s vs g (t_new {o = o} {x = x} r l p d) =
    fine_then (eval h x) (make_cell h o) cs (fine_eval h cs n s vs g d)
    (λ Σ' v ds m gd w. fine_make h o ds r l p gd w)
fine_eval h cs n s vs g (t_content {o = o} {x = x} r d) =
    fine_then (eval h x) (read_cell h) cs (fine_eval h cs n s vs g d)
    (λ Σ' v ds m gd w. fine_content h o ds r gd w)
fine_eval h cs n s vs g (t_sum {x = x} {y = y} d e) =
    fine_then (eval h x) (λ v. eval h y >>= of_numbers plus v) cs (fine_eval h cs n s vs g d)
    (λ Σ' v ds m gd w. fine_then (eval h y) (of_numbers plus v) ds (fine_eval h ds n (shared_more m s) (vals_more m vs) gd e)
    (λ Σ'' u es m' ge z. fine_numbers h plus es (λ _ _. is_num) ge (val_more m' w) z))
fine_eval h cs n s vs g (t_less {x = x} {y = y} d e) =
    fine_then (eval h x) (λ v. eval h y >>= of_numbers less_than v) cs (fine_eval h cs n s vs g d)
    (λ Σ' v ds m gd w. fine_then (eval h y) (of_numbers less_than v) ds (fine_eval h ds n (shared_more m s) (vals_more m vs) gd e)
    (λ Σ'' u es m' ge z. fine_numbers h less_than es (λ _ _. is_tru) ge (val_more m' w) z))
fine_eval h cs n s vs g (t_choose {x = x} {y = y} {z = z} d e f) =
    fine_then (eval h x) (λ v. by_truth v (eval h y) (eval h z) >>= a_number) cs (fine_eval h cs n s vs g d)
    (λ Σ' v ds m gd w. fine_then (by_truth v (eval h y) (eval h z)) a_number ds
    (fine_by h (eval h y) (eval h z) ds w (fine_eval h ds n (shared_more m s) (vals_more m vs) gd e) (fine_eval h ds n (shared_more m s) (vals_more m vs) gd f))
    (λ Σ'' u es m' ge q. fine_number h es ge q))

pub fine_storing : {Σ : Store} {sh : List CellTyping} {Γ : List Ty} {x y : Expr} {o : ℕ} {τ : Ty} (h : Here) (cs : List Stored)
    → length sh ≡ h.shared → SharedOk Σ sh
    → Vals Σ h.thread h.variables Γ → GoodCells Σ cs → Allowed h.place o
    → TypedE sh Γ h.place x (cell o τ) → TypedE sh Γ h.place y τ
    → Fine Σ h.thread τ (storing h x y cs)
fine_storing {x = x} {y = y} {o = o} h cs n s vs g r d e =
    fine_then (eval h x) (λ v. eval h y >>= store_cell h v) cs (fine_eval h cs n s vs g d)
    (λ Σ' v ds m gd w. fine_then (eval h y) (store_cell h v) ds (fine_eval h ds n (shared_more m s) (vals_more m vs) gd e)
    (λ Σ'' u es m' ge z. fine_store h o es r ge (val_more m' w) z))
