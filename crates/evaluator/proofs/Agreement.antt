-- On words that hold cells, the evaluator's recursion gives what `eval` gives on the cells
-- (`agree`), and so do the contracts of `evaluate` and `store`. Assumes nothing.
use mathlib.Core.Path.{◌≡◌, refl, sym, ap, ◌∙◌, subst}
use mathlib.Core.List.{List, [], ◌∷◌, ◌++◌, map}
use mathlib.Core.Bool.{Bool, true, false, not}
use Prim.Native.Nat.{ℕ, ◌+◌, ◌%◌, ◌^◌, ◌<◌}
use native.Mathlib.Omega.{arith}
use lib.Dec.{ltb, leb}
use lib.ListN.{length, get_or, set, length-map, length-append, get_or-map}
use borrow.Author.Tests.{ltb-true, ltb-false, lt-ltb, lt-leb, le-leb}
use Rattle.basics.specs.If.{when◌then◌else◌}
use Rattle.basics.proofs.Ifs.{if_all, if_yes, if_no}
use Rattle.text.specs.Frames.{frames_of}
use Rattle.program.specs.Trees.{Expr, number, truth, variable, shared, new, content, sum, less}
use Rattle.program.specs.Trees.{choose, expression_at}
use Rattle.machine.specs.Accesses.{Access}
use Rattle.machine.specs.State.{Stored, cell_at, is_used, free_number, used_cells, with_new_cell}
use Rattle.machine.specs.Evaluation as def
use Rattle.machine.specs.Evaluation.{Here, EvalResult, Evaluation, gives, access_of, accessing}
use Rattle.machine.specs.Evaluation.{at_cell, is_own, new_owner, read_variable, shared_cell, add_cell}
use Rattle.machine.specs.Evaluation.{make_cell, read_cell, store_cell, of_numbers, plus, less_than}
use Rattle.machine.specs.Evaluation.{by_truth, eval, storing, ◌>>=◌}
use Rattle.machine.specs.Words.{word_value}
use Rattle.machine.specs.declared.value.Value.{Value}
use Rattle.machine.specs.declared.value.Value.TheVariants.{Number, Truth, Cell}
use Rattle.machine.specs.declared.value.Outcome.{Outcome}
use Rattle.machine.specs.declared.value.Outcome.TheVariants.{Is, Foreign, Spent, Stuck}
use Rattle.machine.specs.Shapes as shape
use Rattle.machine.specs.Shapes.{ValueFits}
use Rattle.machine.proofs.KeptCells.{OutcomeFits, is_value, is_foreign, is_spent, is_stuck}
use Rattle.operations.specs.declared.Who.{Who}
use Rattle.operations.specs.Inner.Heaps.{cells_in, accesses_in, heap_word, with_access}
use Rattle.operations.specs.Inner.Results.{Result, result, then_by, and_then_in, keeping}
use Rattle.evaluator.specs.Inner.Results.{here_of, counted_from, on_heap, cells_from}
use Rattle.evaluator.specs.Inner.Results.{HeapWords, ValueWords}
use Rattle.operations.specs.Inner.ByWords.{value_in, owner_in, content_in, cell_word_of, own_in, new_owner_in}
use Rattle.operations.specs.Inner.ByWords.{variable_in, shared_in, make_in, access_in, read_in, accessed_by, reading_in}
use Rattle.operations.specs.Inner.ByWords.{put_word_in, store_in, a_truth, chosen}
use Rattle.evaluator.specs.Inner.ByWords.{numbers_of, a_number_in, eval_in, storing_in}
use Rattle.operations.proofs.HeapLaws.{access_cells, access_counts, cell_cells, cell_counts, heap_is}
use Rattle.operations.proofs.HeapLaws.{sum_wraps}
use Rattle.operations.proofs.Chains.{Refused, then_is, then_keeps}
use Rattle.evaluator.proofs.Chains.{regroup}
use Rattle.operations.proofs.WordLaws.{value_same, value_fits, owner_back, content_back}
use Rattle.evaluator.proofs.SmallNumbers.{Small, small_at}
use Rattle.evaluator.proofs.Holding.{Holds, holds_at, holds_from, holds_words, holds_push}
use Rattle.evaluator.proofs.Holding.{holds_put}

-- what the recursion gives on words, and what the definition gives on cells
record Agrees (h : ℕ) (l : Result) (r : EvalResult) : Type 0 where
  pub outcome : l.outcome ≡ r.outcome
  pub cells : Holds (cells_in l.used) l.words r.cells
  pub accesses : accesses_in l.used ≡ (accesses_in h + length r.accesses) % 2 ^ 48
  pub fits : OutcomeFits r.outcome

-- the words ws hold the cells that h counts, and there is room for the accesses that it counts
record Held (h : ℕ) (ws : List ℕ) (cs : List Stored) : Type 0 where
  pub cells : Holds (cells_in h) ws cs
  pub few : accesses_in h < 2 ^ 48

-- ---- one after the other: what agrees after what agrees
agree_left : {h : ℕ} {l k : Result} {r : EvalResult} → l ≡ k → Agrees h k r → Agrees h l r
agree_left {h} {r = r} e a = subst (λ (x : Result). Agrees h x r) (sym e) a

-- what agrees may be gone on from
agree_held : {h : ℕ} {l : Result} {r : EvalResult} → Agrees h l r
    → Held l.used l.words r.cells
agree_held a = record { cells = a.cells; few = (let e = a.accesses in omega arith) }

-- a chain of the accesses xs, then ys
then_counts : (a b c : ℕ) (xs ys : List Access) → b ≡ (a + length xs) % 2 ^ 48
    → c ≡ (b + length ys) % 2 ^ 48 → c ≡ (a + length (xs ++ ys)) % 2 ^ 48
then_counts a b c xs ys e f =
    let z : length (xs ++ ys) ≡ length xs + length ys = length-append xs ys in
    f
    ∙ ap (λ (i : ℕ). (i + length ys) % 2 ^ 48) e
    ∙ sum_wraps a (length xs) (length ys)
    ∙ ap (λ (i : ℕ). (a + i) % 2 ^ 48) (sym z)

agree_at : (h : ℕ) (f : Value → ℕ → List ℕ → Result) (k : Value → Evaluation) (n : ℕ) (ws : List ℕ) (r : EvalResult) (o : Outcome)
    → r.outcome ≡ o → OutcomeFits o → Held n ws r.cells
    → accesses_in n ≡ (accesses_in h + length r.accesses) % 2 ^ 48
    → ((v : Value) (m : ℕ) (us : List ℕ) (ds : List Stored) → ValueFits v → Held m us ds → Agrees m (f v m us) (k v ds))
    → Agrees h (then_by o n ws f) (def.and_then k r o)
agree_at h f k n ws r (Is v) e (is_value w) q z g =
    let a = g v n ws r.cells w q in
    record {
      outcome = a.outcome;
      cells = a.cells;
      accesses = then_counts _ _ _ r.accesses (k v r.cells).accesses z a.accesses;
      fits = a.fits;
    }
agree_at h f k n ws r Foreign e x q z g =
    record { outcome = sym e; cells = q.cells; accesses = z; fits = subst OutcomeFits (sym e) x }
agree_at h f k n ws r Spent e x q z g =
    record { outcome = sym e; cells = q.cells; accesses = z; fits = subst OutcomeFits (sym e) x }
agree_at h f k n ws r Stuck e x q z g =
    record { outcome = sym e; cells = q.cells; accesses = z; fits = subst OutcomeFits (sym e) x }

agree_then : {h : ℕ} (l : Result) (m : Evaluation) (f : Value → ℕ → List ℕ → Result) (k : Value → Evaluation) (cs : List Stored)
    → Agrees h l (m cs)
    → ((v : Value) (n : ℕ) (us : List ℕ) (ds : List Stored) → ValueFits v → Held n us ds → Agrees n (f v n us) (k v ds))
    → Agrees h (and_then_in l f) ((m >>= k) cs)
agree_then {h} l m f k cs a g =
    subst (λ (o : Outcome). Agrees h (then_by o l.used l.words f) (def.and_then k (m cs) (m cs).outcome)) (sym a.outcome)
    (agree_at h f k l.used l.words (m cs) (m cs).outcome refl a.fits (agree_held a) a.accesses g)

plus_fits : (a b : ℕ) → ValueFits (plus a b)
plus_fits a b = shape.number (below (a + b))
  where
    below : (m : ℕ) → m % 2 ^ 32 < 2 ^ 32
    below m = omega arith

module _ (who : Who) (vs : List ℕ) where
  abbrev here : Here
  here = here_of who vs

  own_same : (o : ℕ) (b : Bool) → is_own here o ≡ b → own_in who o ≡ b
  unfolding is_own own_in
  own_same o b e = e

  -- the default of the one, the number 0, is the value of the default of the other, the word 0
  variable_at : (s : ℕ) → get_or (map word_value vs) s (Number 0) ≡ word_value (get_or vs s 0)
  unfolding word_value
  variable_at s =
      ap (get_or (map word_value vs) s) (sym (if_yes _ _ refl)) ∙ get_or-map word_value vs s 0

  module _ (n : ℕ) (ws : List ℕ) (cs : List Stored) (held : Held n ws cs) where
    abbrev used : ℕ
    used = cells_in n

    holds : Holds (cells_in n) ws cs
    holds = held.cells

    -- an outcome that changes no cell, without an access
    unchanged : (o : Outcome) → OutcomeFits o → Agrees n (result o n ws) (gives o cs)
    unchanged o f = record { outcome = refl; cells = holds; accesses = none held.few; fits = f }
      where
        none : {a : ℕ} → a < 2 ^ 48 → a ≡ (a + 0) % 2 ^ 48
        none l = omega arith

    stuck : Agrees n (result Stuck n ws) (gives Stuck cs)
    stuck = unchanged Stuck is_stuck

    -- an access that changes no cell
    accessed_same : Holds (cells_in (with_access n)) ws cs
    accessed_same = subst (λ (i : ℕ). Holds i ws cs) (sym (access_cells n)) holds

    -- cells in use, by the words and by the cells
    in_use : (c : ℕ) (b : Bool) → is_used cs c ≡ b → ltb c used ≡ b
    in_use c b e = ap (ltb c) holds.count ∙ e

    there : (c : ℕ) → is_used cs c ≡ true → leb used c ≡ false
    there c e = lt-leb used c (ltb-true c used (in_use c true e))

    missing : (c : ℕ) → is_used cs c ≡ false → leb used c ≡ true
    missing c e = le-leb used c (ltb-false c used (in_use c false e))

    -- ---- each kind of expression, after its operands
    agree_variable : (s : ℕ) → ValueWords vs
        → Agrees n (result (variable_in vs s) n ws) (read_variable here s cs)
    unfolding read_variable variable_in
    agree_variable s w =
        if_all (λ (m : Evaluation). Agrees n (result (variable_in vs s) n ws) (m cs))
        (ltb s (length (map word_value vs))) _ _
        (λ e. let l : s < length vs = rw length-map at (ltb-true s (length (map word_value vs)) e) in
        let q : value_in (get_or vs s 0) ≡ word_value (get_or vs s 0) = value_same (get_or vs s 0) (w s l) in
        agree_left (ap (λ (o : Outcome). result o n ws) (if_yes _ _ (lt-ltb s (length vs) l) ∙ ap Is (q ∙ sym (variable_at s))))
        (unchanged _ (is_value (subst ValueFits (sym (variable_at s)) (value_fits (get_or vs s 0) (w s l))))))
        (λ e. agree_left (ap (λ (o : Outcome). result o n ws) (if_no _ _ (ap (ltb s) (sym (length-map vs word_value)) ∙ e))) stuck)

    agree_shared : (s : ℕ) → s < 256 → Agrees n (result (shared_in who s) n ws) (shared_cell here s cs)
    unfolding shared_cell shared_in
    agree_shared s l =
        if_all (λ (m : Evaluation). Agrees n (result (shared_in who s) n ws) (m cs))
        (ltb s who.shared) _ _
        (λ e. agree_left (ap (λ (o : Outcome). result o n ws) (if_yes _ _ e)) (unchanged _ (is_value (shape.cell l))))
        (λ e. agree_left (ap (λ (o : Outcome). result o n ws) (if_no _ _ e)) stuck)

    agree_make : (s : ℕ) (v : Value) → ValueFits v
        → Agrees n (make_in who s v n ws) (make_cell here s v cs)
    unfolding make_in make_cell accessing add_cell new_owner_in new_owner
    agree_make s v f =
        if_all (λ (r : EvalResult). Agrees n (make_in who s v n ws) (def.with_accesses (access_of here (free_number cs) o ∷ []) r)) (is_own here o) _ _
        (λ e. if_all (λ (r : EvalResult). Agrees n (make_in who s v n ws) (def.with_accesses (access_of here (free_number cs) o ∷ []) r)) (ltb (used_cells cs) 256) _ _
        (λ q. let m : used_cells cs < 256 = ltb-true (used_cells cs) 256 q in
        let k : cells_in n < 256 = inside m holds.count in
        agree_left
        (if_yes _ _ (own_same o true e) ∙ if_yes _ _ (lt-ltb used 256 k))
        (record {
          outcome = ap (λ (k : ℕ). Is (Cell k)) holds.count;
          cells =
              subst (λ (i : ℕ). Holds i (set ws used (cell_word_of o v)) (with_new_cell cs new))
              (sym (cell_cells n k)) (holds_push used ws cs new holds m f);
          accesses = cell_counts n k;
          fits = is_value (shape.cell m);
        }))
        (λ q. agree_left (if_yes _ _ (own_same o true e) ∙ if_no _ _ (ap (λ (k : ℕ). ltb k 256) holds.count ∙ q)) (record { outcome = refl; cells = accessed_same; accesses = access_counts n; fits = is_spent })))
        (λ e. agree_left (if_no _ _ (own_same o false e)) (record { outcome = refl; cells = accessed_same; accesses = access_counts n; fits = is_foreign }))
      where
        o : ℕ
        o = new_owner here s

        new : Stored
        new = record { owner = new_owner here s; content = v }

        inside : {i : ℕ} → used_cells cs < 256 → i ≡ used_cells cs → i < 256
        inside m e = omega arith

    -- at a cell that is there: the word's owner and content are the cell's
    module _ (c : ℕ) (l : c < length cs) where
      owner_at : owner_in (get_or ws c 0) ≡ (cell_at cs c).owner
      owner_at =
          ap owner_in (holds_at used ws cs c holds l) ∙ owner_back (cell_at cs c) (holds.each c l)

      content_at : content_in (get_or ws c 0) ≡ (cell_at cs c).content
      content_at =
          ap content_in (holds_at used ws cs c holds l) ∙ content_back (cell_at cs c) (holds.each c l)

      own_at : (b : Bool) → is_own here (cell_at cs c).owner ≡ b
          → own_in who (owner_in (get_or ws c 0)) ≡ b
      own_at b e = ap (own_in who) owner_at ∙ own_same (cell_at cs c).owner b e

    -- an access: not there, foreign, or allowed
    access_missing : (c : ℕ) (v : Value) → is_used cs c ≡ false
        → access_in who c used (get_or ws c 0) v ≡ Stuck
    unfolding access_in
    access_missing c v e = if_yes _ _ (missing c e)

    access_by : (c : ℕ) (v : Value) (b : Bool) → is_used cs c ≡ true
        → is_own here (cell_at cs c).owner ≡ b
        → access_in who c used (get_or ws c 0) v ≡ (when not b then Foreign else Is v)
    unfolding access_in
    access_by c v b e q =
        if_no _ _ (there c e)
        ∙ ap (λ (t : Bool). when not t then Foreign else Is v)
        (own_at c (ltb-true c (length cs) e) b q)

    access_foreign : (c : ℕ) (v : Value) → is_used cs c ≡ true
        → is_own here (cell_at cs c).owner ≡ false → access_in who c used (get_or ws c 0) v ≡ Foreign
    access_foreign c v e q = access_by c v false e q ∙ if_yes _ _ refl

    access_is : (c : ℕ) (v : Value) → is_used cs c ≡ true → is_own here (cell_at cs c).owner ≡ true
        → access_in who c used (get_or ws c 0) v ≡ Is v
    access_is c v e q = access_by c v true e q ∙ if_no _ _ refl

    agree_read : (v : Value) → Agrees n (reading_in who v n ws) (read_cell here v cs)
    unfolding read_in read_cell at_cell accessing
    agree_read (Cell c) =
        if_all (Agrees n (reading_in who (Cell c) n ws)) (is_used cs c) _ _
        (λ e. let l : c < length cs = ltb-true c (length cs) e in
        if_all (λ (r : EvalResult). Agrees n (reading_in who (Cell c) n ws) (def.with_accesses (access_of here c (cell_at cs c).owner ∷ []) r)) (is_own here (cell_at cs c).owner) _ _
        (λ q. agree_left
        (ap (λ (o : Outcome). accessed_by o n ws) (access_is c _ e q ∙ ap Is (content_at c l)))
        (record { outcome = refl; cells = accessed_same; accesses = access_counts n; fits = is_value (holds.each c l) }))
        (λ q. agree_left (ap (λ (o : Outcome). accessed_by o n ws) (access_foreign c _ e q))
        (record { outcome = refl; cells = accessed_same; accesses = access_counts n; fits = is_foreign })))
        (λ e. agree_left (ap (λ (o : Outcome). accessed_by o n ws) (access_missing c _ e)) stuck)
    agree_read (Number m) = stuck
    agree_read (Truth b) = stuck

    agree_store : (v u : Value) → ValueFits u
        → Agrees n (store_in who v u n ws) (store_cell here v u cs)
    unfolding store_in store_cell at_cell accessing
    agree_store (Cell c) u f =
        if_all (Agrees n (store_in who (Cell c) u n ws)) (is_used cs c) _ _
        (λ e. let l : c < length cs = ltb-true c (length cs) e in
        if_all (λ (r : EvalResult). Agrees n (store_in who (Cell c) u n ws) (def.with_accesses (access_of here c (cell_at cs c).owner ∷ []) r)) (is_own here (cell_at cs c).owner) _ _
        (λ q. agree_left
        (by_access (access_is c u e q)
        ∙ ap (λ (o : ℕ). result (Is u) (with_access n) (set ws c (cell_word_of o u))) (owner_at c l))
        (record {
          outcome = refl;
          cells = holds_put (cells_in (with_access n)) ws cs c
              (record { owner = (cell_at cs c).owner; content = u }) accessed_same l f;
          accesses = access_counts n;
          fits = is_value f;
        }))
        (λ q. agree_left (by_access (access_foreign c u e q))
        (record { outcome = refl; cells = accessed_same; accesses = access_counts n; fits = is_foreign })))
        (λ e. agree_left (by_access (access_missing c u e)) stuck)
      where
        by_access : {o : Outcome} → access_in who c used (get_or ws c 0) u ≡ o
            → and_then_in (accessed_by (access_in who c used (get_or ws c 0) u) n ws) (put_word_in c)
            ≡ and_then_in (accessed_by o n ws) (put_word_in c)
        by_access e = ap (λ (o : Outcome). and_then_in (accessed_by o n ws) (put_word_in c)) e
    agree_store (Number m) u f = stuck
    agree_store (Truth b) u f = stuck

    agree_numbers : (g : ℕ → ℕ → Value) → ((a b : ℕ) → ValueFits (g a b)) → (v u : Value)
        → Agrees n (keeping (numbers_of g v) u n ws) (of_numbers g v u cs)
    unfolding of_numbers
    agree_numbers g f (Number a) (Number b) = unchanged _ (is_value (f a b))
    agree_numbers g f (Number a) (Truth b) = stuck
    agree_numbers g f (Number a) (Cell c) = stuck
    agree_numbers g f (Truth b) u = stuck
    agree_numbers g f (Cell c) u = stuck

    agree_number : (v : Value) → ValueFits v → Agrees n (keeping a_number_in v n ws) (def.a_number v cs)
    unfolding def.a_number
    agree_number (Number m) f = unchanged _ (is_value f)
    agree_number (Truth b) f = stuck
    agree_number (Cell c) f = stuck

  -- ---- 28
  agree_choice : {h : ℕ} (t : Bool) (l k : Result) (m e : Evaluation) (cs : List Stored)
      → Agrees h l (m cs) → Agrees h k (e cs)
      → Agrees h (chosen (Truth t) l k) (by_truth (Truth t) m e cs)
  unfolding by_truth
  agree_choice true l k m e cs a b = agree_left (if_yes l k refl) a
  agree_choice false l k m e cs a b = agree_left (if_no l k refl) b

  -- a condition that is no truth is stuck: apart from `branches`, where `by_truth` stays folded
  stuck_number : (k : ℕ) (y z : Evaluation) (m : ℕ) (us : List ℕ) (ds : List Stored) → Held m us ds
      → Agrees m (result Stuck m us) ((by_truth (Number k) y z >>= def.a_number) ds)
  unfolding by_truth
  stuck_number k y z m us ds q = stuck m us ds q

  stuck_cell : (k : ℕ) (y z : Evaluation) (m : ℕ) (us : List ℕ) (ds : List Stored) → Held m us ds
      → Agrees m (result Stuck m us) ((by_truth (Cell k) y z >>= def.a_number) ds)
  unfolding by_truth
  stuck_cell k y z m us ds q = stuck m us ds q

  branches : (y z : Expr) (v : Value) (m : ℕ) (us : List ℕ) (ds : List Stored)
      → Agrees m (eval_in who y vs m us) (eval here y ds)
      → Agrees m (eval_in who z vs m us) (eval here z ds) → Held m us ds
      → Agrees m (and_then_in (keeping a_truth v m us) (λ v m us. and_then_in (chosen v (eval_in who y vs m us) (eval_in who z vs m us)) (keeping a_number_in)))
      ((by_truth v (eval here y) (eval here z) >>= def.a_number) ds)
  branches y z (Truth t) m us ds a b q =
      agree_then (chosen (Truth t) (eval_in who y vs m us) (eval_in who z vs m us))
      (by_truth (Truth t) (eval here y) (eval here z)) (keeping a_number_in) def.a_number ds
      (agree_choice t (eval_in who y vs m us) (eval_in who z vs m us) (eval here y) (eval here z) ds a b)
      (λ u k ts es f r. agree_number k ts es r u f)
  branches y z (Number k) m us ds a b q = stuck_number k (eval here y) (eval here z) m us ds q
  branches y z (Cell k) m us ds a b q = stuck_cell k (eval here y) (eval here z) m us ds q

  -- ---- the agreement
  module _ (w : ValueWords vs) where
    agree : (x : Expr) (n : ℕ) (ws : List ℕ) (cs : List Stored) → Small x → Held n ws cs
        → Agrees n (eval_in who x vs n ws) (eval here x cs)
    unfolding eval_in eval
    agree (number i m) n ws cs s g = unchanged n ws cs g (Is (Number m)) (is_value (shape.number s))
    agree (truth i m) n ws cs s g = unchanged n ws cs g _ (is_value shape.truth)
    agree (variable i k) n ws cs s g = agree_variable n ws cs g k w
    agree (shared i k) n ws cs s g = agree_shared n ws cs g k s
    agree (new i k x) n ws cs s g =
        agree_then (eval_in who x vs n ws) (eval here x) (make_in who k) _ cs (agree x n ws cs s g)
        (λ v m us ds f q. agree_make m us ds q k v f)
    agree (content i x) n ws cs s g =
        agree_then (eval_in who x vs n ws) (eval here x) (reading_in who) _ cs (agree x n ws cs s g)
        (λ v m us ds f q. agree_read m us ds q v)
    agree (sum i x y) n ws cs s g =
        agree_then (eval_in who x vs n ws) (eval here x) _ _ cs (agree x n ws cs s.0 g)
        (λ v m us ds f q. agree_then (eval_in who y vs m us) (eval here y) (keeping (numbers_of plus v)) _ ds (agree y m us ds s.1 q)
        (λ u k ts es z r. agree_numbers k ts es r plus plus_fits v u))
    agree (less i x y) n ws cs s g =
        agree_then (eval_in who x vs n ws) (eval here x) _ _ cs (agree x n ws cs s.0 g)
        (λ v m us ds f q. agree_then (eval_in who y vs m us) (eval here y) (keeping (numbers_of less_than v)) _ ds (agree y m us ds s.1 q)
        (λ u k ts es z r. agree_numbers k ts es r less_than (λ _ _. shape.truth) v u))
    agree (choose i x y z) n ws cs s g =
        agree_left (regroup (eval_in who x vs n ws) (keeping a_truth) (λ v m us. and_then_in (chosen v (eval_in who y vs m us) (eval_in who z vs m us)) (keeping a_number_in)))
        (agree_then (eval_in who x vs n ws) (eval here x) _ _ cs (agree x n ws cs s.0 g) (λ v m us ds f q. branches y z v m us ds (agree y m us ds s.1 q) (agree z m us ds s.2 q) q))

    agree_storing : (x y : Expr) (n : ℕ) (ws : List ℕ) (cs : List Stored) → Small x → Small y
        → Held n ws cs → Agrees n (storing_in who x y vs n ws) (storing here x y cs)
    agree_storing x y n ws cs s t g =
        agree_then (eval_in who x vs n ws) (eval here x) _ _ cs (agree x n ws cs s g)
        (λ v m us ds f q. agree_then (eval_in who y vs m us) (eval here y) (store_in who v) _ ds (agree y m us ds t q)
        (λ u k ts es z r. agree_store k ts es r v u z))

-- ---- as equations, for the contracts
equation : (h : ℕ) (l : Result) (r : EvalResult) → Agrees h l r → l ≡ counted_from h r
equation h l r a =
    let word = heap_word (used_cells r.cells) (accesses_in h + length r.accesses) in
    ap (λ (o : Outcome). result o l.used l.words) a.outcome
    ∙ ap (λ (n : ℕ). result r.outcome n l.words)
    (heap_is l.used (used_cells r.cells) _ a.cells.count a.accesses)
    ∙ ap (λ (ws : List ℕ). result r.outcome word ws) a.cells.words

-- the words that a caller lends
held_from : (h : ℕ) (ws : List ℕ) → HeapWords h ws → Held h ws (cells_from (cells_in h) ws)
held_from h ws g = record { cells = holds_from (cells_in h) ws g.cells; few = g.few }

pub eval_on : (fw vs : List ℕ) (who : Who) (i n : ℕ) (ws : List ℕ) (r : Result)
    → ValueWords vs → HeapWords n ws → r ≡ eval_in who (expression_at (frames_of fw) i) vs n ws
    → r ≡ on_heap (eval (here_of who vs) (expression_at (frames_of fw) i)) n ws
unfolding on_heap
eval_on fw vs who i n ws r w g e =
    let x = expression_at (frames_of fw) i in
    let cs = cells_from (cells_in n) ws in
    e ∙ equation n _ _ (agree who vs w x n ws cs (small_at fw i) (held_from n ws g))

storing_on : (fw vs : List ℕ) (who : Who) (a b n : ℕ) (ws : List ℕ) → ValueWords vs → HeapWords n ws
    → storing_in who (expression_at (frames_of fw) a) (expression_at (frames_of fw) b) vs n ws
    ≡ on_heap
    (storing (here_of who vs) (expression_at (frames_of fw) a) (expression_at (frames_of fw) b)) n ws
unfolding on_heap
storing_on fw vs who a b n ws w g =
    let x = expression_at (frames_of fw) a in
    let y = expression_at (frames_of fw) b in
    let cs = cells_from (cells_in n) ws in
    equation n _ _
    (agree_storing who vs w x y n ws cs (small_at fw a) (small_at fw b) (held_from n ws g))

-- ---- for a caller that goes on: what `evaluate` leaves may be lent again
pub eval_leaves : (fw vs : List ℕ) (who : Who) (i n : ℕ) (ws : List ℕ) (x : Result) → ValueWords vs
    → HeapWords n ws
    → x ≡ on_heap (eval (here_of who vs) (expression_at (frames_of fw) i)) n ws
    → HeapWords x.used x.words
unfolding on_heap
eval_leaves fw vs who i n ws x w g e =
    let cs = cells_from (cells_in n) ws in
    let at = expression_at (frames_of fw) i in
    let a = agree who vs w at n ws cs (small_at fw i) (held_from n ws g) in
    subst (λ (y : Result). HeapWords y.used y.words) (equation n _ _ a ∙ sym e)
    (record { cells = holds_words _ _ _ a.cells; few = (agree_held a).few })

-- ---- the returns of `store`
module _ (fw vs : List ℕ) (who : Who) (a b n : ℕ) (ws : List ℕ) (w : ValueWords vs) (g : HeapWords n ws) where
  second : Value → ℕ → List ℕ → Result
  second v m us = and_then_in (eval_in who (expression_at (frames_of fw) b) vs m us) (store_in who v)

  pub store_runs : (x y r : Result) (v : Value)
      → x ≡ eval_in who (expression_at (frames_of fw) a) vs n ws → x.outcome ≡ Is v
      → y ≡ eval_in who (expression_at (frames_of fw) b) vs x.used x.words
      → r ≡ and_then_in y (store_in who v)
      → r
      ≡ on_heap
      (storing (here_of who vs) (expression_at (frames_of fw) a) (expression_at (frames_of fw) b)) n ws
  unfolding second
  store_runs x y r v e o k z =
      then_is x v second r o (z ∙ ap (λ (u : Result). and_then_in u (store_in who v)) k)
      ∙ ap (λ (u : Result). and_then_in u second) e ∙ storing_on fw vs who a b n ws w g

  pub store_keeps : (x : Result) (o : Outcome)
      → x ≡ eval_in who (expression_at (frames_of fw) a) vs n ws → x.outcome ≡ o → Refused o
      → x
      ≡ on_heap
      (storing (here_of who vs) (expression_at (frames_of fw) a) (expression_at (frames_of fw) b)) n ws
  unfolding second
  store_keeps x o e q t =
      then_keeps x second o q t ∙ ap (λ (u : Result). and_then_in u second) e
      ∙ storing_on fw vs who a b n ws w g
