-- Why no list is ever full (20) from a fresh state on: the entries of all lists and the unlinked
-- threads are no more than the threads, of which there are 64 at most, and each choice keeps it so.
-- Assumes nothing.
use mathlib.Core.Path.{◌≡◌, refl, sym, ap, ◌∙◌}
use mathlib.Core.Logic.{◌⊎◌, inl, inr, ⊎_elim}
use mathlib.Core.List.{List, [], ◌∷◌, ◌++◌}
use mathlib.Core.Bool.{Bool, true, false, not, ◌&&◌, true≢false}
use Prim.Native.Nat.{ℕ, zero, suc, ◌+◌, ◌-◌, ◌≤◌, ◌<◌}
use native.Mathlib.Omega.{arith}
use lib.Dec.{leb, eqb}
use lib.ListN.{length, get_or, set, length-set, length-append, replicate}
use borrow.Author.Tests.{leb-false, le-leb}
use borrow.Author.Tests.{leb-true, ne_eqb}
use Rattle.basics.specs.If.{when◌then◌else◌}
use Rattle.basics.proofs.Ifs.{if_all, and_true}
use Rattle.program.specs.Trees.{Expr, Stmt, nothing, seq, do_at, start, start_wait, cooperate, let_in}
use Rattle.program.specs.Trees.{store, if_else, while}
use Rattle.program.specs.Trees.{generate, await}
use Rattle.program.specs.Programs.{Program, module_at}
use Rattle.program.specs.Programs.{owner_of_event}
use Rattle.machine.specs.State.{State, Item, run, back, drop, Thread, Scheduler, Entry, plain}
use Rattle.machine.specs.State.{no_thread, no_scheduler, nth, set_nth, scheduler_at, thread_at}
use Rattle.machine.specs.State.{with_new, enlist}
use Rattle.machine.specs.State.{with_present}
use Rattle.machine.specs.Words.{bit}
use Rattle.basics.specs.If.{keep_if}
use Rattle.machine.specs.Waits.{entry_thread}
use Rattle.machine.specs.Waits.{threads_where, entries_except, is_awaiting}
use Rattle.machine.specs.Inner.Families.{is_ready}
use Rattle.machine.specs.Fresh.{fresh}
use Rattle.machine.specs.Evaluation.{Here, EvalResult, Evaluation, eval, storing}
use Rattle.machine.specs.Turns.{Spaces, holds, state_spaces, StepResult, Turn, here, variables}
use Rattle.machine.specs.Turns.{after_eval, evaluator, go_on, with_value, with_values, by_condition}
use Rattle.machine.specs.Turns.{self_at, settled, after_first, is_scheduler_of, leave, room}
use Rattle.machine.specs.Turns.{unlinked_here, stay, move, go_to}
use Rattle.machine.specs.Steps.{is_unlinked, step_thread_within, end_on, end_on_each, end_instant}
use Rattle.machine.specs.Steps.{step}
use Rattle.machine.specs.Groups.{members}
use Rattle.machine.proofs.GroupLaws.{every_all, woken_threads, ended_threads}
use Rattle.language.specs.Groups.{in_step}
use Rattle.machine.specs.Steps.{step_within}
use Rattle.machine.specs.Inner.Parts.{step_items, step_thread, turn, step_scheduler}
use Rattle.machine.specs.Statements.{ends, drops, goes_back, step_nothing, step_seq, step_do}
use Rattle.machine.specs.Statements.{started, starting, step_start, started_wait, step_start_wait}
use Rattle.machine.specs.Statements.{step_cooperate, step_let, step_store, step_if, step_while}
use Rattle.machine.specs.Statements.{step_statement}
use Rattle.machine.specs.Statements.{with_signal, is_own_event, signalling, wake, wake_on_each}
use Rattle.machine.specs.Statements.{event_group, room_to_wake_on, room_to_wake}
use Rattle.machine.specs.Statements.{step_generate, step_await}
use Rattle.machine.specs.declared.value.Value.{Value}
use Rattle.machine.specs.declared.value.Value.TheVariants.{Number, Truth, Cell}
use Rattle.machine.specs.declared.value.Outcome.{Outcome}
use Rattle.machine.specs.declared.value.Outcome.TheVariants.{Is, Foreign, Spent, Stuck}

-- the entries of a scheduler's two lists
unfoldable pub weight : Scheduler → ℕ
weight x = length x.active + length x.next

-- the entries of all lists
unfoldable pub total : List Scheduler → ℕ
total [] = 0
total (x ∷ xs) = weight x + total xs

-- a thread that stands in no list: unlinked, and not ended
unfoldable pub is_free : Thread → Bool
is_free x = eqb x.place 1 && not x.ended

unfoldable pub free : Thread → ℕ
free x = bit (is_free x)

-- how many of them there are
unfoldable pub unlinked_count : List Thread → ℕ
unlinked_count [] = 0
unlinked_count (x ∷ xs) = free x + unlinked_count xs

-- ---- these sums when one scheduler or one thread is replaced

total-set_le : (xs : List Scheduler) (i k : ℕ) (x : Scheduler)
    → weight x ≤ weight (get_or xs i no_scheduler) + k → total (set xs i x) ≤ total xs + k
unfolding total
total-set_le [] i k x h = omega arith
total-set_le (y ∷ xs) zero k x h = omega arith
total-set_le (y ∷ xs) (suc i) k x h = let g = total-set_le xs i k x h in omega arith

total-set_less : (xs : List Scheduler) (i : ℕ) (x : Scheduler)
    → suc (weight x) ≡ weight (get_or xs i no_scheduler) → suc (total (set xs i x)) ≡ total xs
unfolding total weight
total-set_less [] i x h = absurd (omega arith)
total-set_less (y ∷ xs) zero x h = omega arith
total-set_less (y ∷ xs) (suc i) x h = let g = total-set_less xs i x h in omega arith

next_le : (xs : List Scheduler) (i : ℕ) → length (get_or xs i no_scheduler).next ≤ total xs
unfolding total weight
next_le [] i = omega arith
next_le (y ∷ xs) zero = omega arith
next_le (y ∷ xs) (suc i) = let g = next_le xs i in omega arith

active_le : (xs : List Scheduler) (i : ℕ) → length (get_or xs i no_scheduler).active ≤ total xs
unfolding total weight
active_le [] i = omega arith
active_le (y ∷ xs) zero = omega arith
active_le (y ∷ xs) (suc i) = let g = active_le xs i in omega arith

both_le : (xs : List Scheduler) (i j : ℕ)
    → length (get_or xs i no_scheduler).active + length (get_or xs j no_scheduler).next ≤ total xs
unfolding total weight
both_le [] i j = omega arith
both_le (y ∷ xs) zero zero = omega arith
both_le (y ∷ xs) zero (suc j) = let g = next_le xs j in omega arith
both_le (y ∷ xs) (suc i) zero = let g = active_le xs i in omega arith
both_le (y ∷ xs) (suc i) (suc j) = let g = both_le xs i j in omega arith

unlinked_set_le : (xs : List Thread) (i k : ℕ) (x : Thread) → free x ≤ free (get_or xs i no_thread) + k
    → unlinked_count (set xs i x) ≤ unlinked_count xs + k
unfolding unlinked_count
unlinked_set_le [] i k x h = omega arith
unlinked_set_le (y ∷ xs) zero k x h = omega arith
unlinked_set_le (y ∷ xs) (suc i) k x h = let g = unlinked_set_le xs i k x h in omega arith

unlinked_set_less : (xs : List Thread) (i : ℕ) (x : Thread) → free (get_or xs i no_thread) ≡ 1
    → suc (unlinked_count (set xs i x)) ≡ unlinked_count xs + free x
unfolding unlinked_count free is_free
unlinked_set_less [] i x h = absurd (omega arith)
unlinked_set_less (y ∷ xs) zero x h = omega arith
unlinked_set_less (y ∷ xs) (suc i) x h = let g = unlinked_set_less xs i x h in omega arith

unlinked_pos : (xs : List Thread) (i : ℕ) → free (get_or xs i no_thread) ≡ 1 → 1 ≤ unlinked_count xs
unfolding unlinked_count free is_free
unlinked_pos [] i h = absurd (omega arith)
unlinked_pos (y ∷ xs) zero h = omega arith
unlinked_pos (y ∷ xs) (suc i) h = let g = unlinked_pos xs i h in omega arith

-- the same, threads counting from 1
pub nth_length : (xs : List Thread) (t : ℕ) (x : Thread) → length (set_nth xs t x) ≡ length xs
nth_length xs zero x = refl
nth_length xs (suc i) x = length-set xs i x

nth_le : (xs : List Thread) (t k : ℕ) (x : Thread) → free x ≤ free (nth xs t) + k
    → unlinked_count (set_nth xs t x) ≤ unlinked_count xs + k
nth_le xs zero k x h = omega arith
nth_le xs (suc i) k x h = unlinked_set_le xs i k x h

nth_less : (xs : List Thread) (t : ℕ) (x : Thread) → free (nth xs t) ≡ 1
    → suc (unlinked_count (set_nth xs t x)) ≡ unlinked_count xs + free x
unfolding free is_free
nth_less xs zero x h = absurd (omega arith)
nth_less xs (suc i) x h = unlinked_set_less xs i x h

nth_pos : (xs : List Thread) (t : ℕ) → free (nth xs t) ≡ 1 → 1 ≤ unlinked_count xs
unfolding free is_free
nth_pos xs zero h = absurd (omega arith)
nth_pos xs (suc i) h = unlinked_pos xs i h

unlinked_snoc : (xs : List Thread) (x : Thread)
    → unlinked_count (xs ++ (x ∷ [])) ≡ unlinked_count xs + free x
unfolding unlinked_count
unlinked_snoc [] x = omega arith
unlinked_snoc (y ∷ xs) x = let g = unlinked_snoc xs x in omega arith

enlist-total : (q : ℕ) (e : Entry) (s : State)
    → total (enlist q e s).schedulers ≤ total s.schedulers + 1
unfolding enlist weight
enlist-total q e s = total-set_le s.schedulers (q - 2) 1 _ (let g = length-append (scheduler_at s q).next (e ∷ []) in omega arith)

-- ---- the invariant: entries and unlinked threads together are no more than threads, so a list of
-- 64 has room for each

pub record Counted (s : State) : Type 0 where
  pub most : length s.threads ≤ 64
  pub count : total s.schedulers + unlinked_count s.threads ≤ length s.threads

-- the acting thread is one of those counted: first of the chosen scheduler, or unlinked
abbrev Stands : Turn → Type 0
Stands u =
    ((is_scheduler_of u.program u.choice ≡ true) × (1 ≤ length (scheduler_at u.state u.choice).active))
    ⊎ ((is_scheduler_of u.program u.choice ≡ false) × (free (thread_at u.state u.thread) ≡ 1))

-- a turn of such a thread, in a state that keeps the invariant; `same`: what is left of it stands
-- as it stood
pub record Acting (u : Turn) : Type 0 where
  pub counted : Counted u.state
  pub stands : Stands u
  pub same : free u.self ≡ free (thread_at u.state u.thread)
  pub spaces : u.spaces ≡ state_spaces

-- ---- so one more entry has room, and two where there is room for one more thread

next_room : (u : Turn) → Acting u → (q : ℕ)
    → suc (length (scheduler_at u.state q).next) ≤ length u.state.threads
next_room u a q =
    let c = a.counted.count in
    ⊎_elim
    (λ h. let g = both_le u.state.schedulers (u.choice - 2) (q - 2) in let k = h.1 in omega arith)
    (λ h. let g = next_le u.state.schedulers (q - 2) in let k = nth_pos u.state.threads u.thread h.1 in omega arith)
    a.stands

-- as many as there are threads have room in a next list, in the spaces that a state has
in_entries : (u : Turn) → Acting u → (n : ℕ) → n ≤ 64 → holds u.spaces.entries n ≡ true
in_entries u a n h = ap (λ (z : Spaces). holds z.entries n) a.spaces ∙ le-leb n _ (omega arith)

pub room_one : (u : Turn) → Acting u → (q : ℕ) → room u 1 q ≡ true
unfolding room
room_one u a q =
    let g = next_room u a q in
    let m = a.counted.most in
    in_entries u a (length (scheduler_at u.state q).next + 1) (omega arith)

pub room_two : (u : Turn) → Acting u → (q : ℕ) → length u.state.threads < 64 → room u 2 q ≡ true
unfolding room
room_two u a q l =
    let g = next_room u a q in
    in_entries u a (length (scheduler_at u.state q).next + 2) (omega arith)

-- ---- the changes of the state that a turn makes keep it

-- the acting thread replaced, where it stays
stay_counted : (u : Turn) → Acting u → (x : Thread) → free x ≡ free u.self
    → Counted (settled u x)
stay_counted u a x e =
    let c = a.counted.count in let m = a.counted.most in let f = a.same in
    let n = nth_length u.state.threads u.thread x in
    let l = nth_le u.state.threads u.thread 0 x (omega arith) in
    record { most = omega arith; count = omega arith }

first_less : (x : Scheduler) → 1 ≤ length x.active
    → suc (weight (record { active = after_first x.active; next = x.next })) ≡ weight x
unfolding weight
first_less x h = go x.active h
  where
    go : (l : List ℕ) → 1 ≤ length l
        → suc (length (after_first l) + length x.next) ≡ length l + length x.next
    go [] h = absurd (omega arith)
    go (t ∷ l) h = omega arith

leave-total : (u : Turn) (s : State) → is_scheduler_of u.program u.choice ≡ true
    → 1 ≤ length (scheduler_at s u.choice).active
    → suc (total (leave u s).schedulers) ≡ total s.schedulers
unfolding leave
leave-total u s e h =
    if_all (λ (r : State). suc (total r.schedulers) ≡ total s.schedulers)
    (is_scheduler_of u.program u.choice) _ s
    (λ _. total-set_less s.schedulers (u.choice - 2) _ (first_less (scheduler_at s u.choice) h))
    (λ f. absurd (true≢false (sym e ∙ f)))

leave-total_same : (u : Turn) (s : State) → is_scheduler_of u.program u.choice ≡ false
    → total (leave u s).schedulers ≡ total s.schedulers
unfolding leave
leave-total_same u s e =
    if_all (λ (r : State). total r.schedulers ≡ total s.schedulers)
    (is_scheduler_of u.program u.choice) _ s
    (λ f. absurd (true≢false (sym f ∙ e))) (λ _. refl)

pub leave_threads : (u : Turn) (s : State) → (leave u s).threads ≡ s.threads
unfolding leave
leave_threads u s = if_all (λ (r : State). r.threads ≡ s.threads) (is_scheduler_of u.program u.choice) _ s (λ _. refl) (λ _. refl)

-- the acting thread replaced by x, and gone from its list: there is one to spare, but for x itself
-- if it is unlinked
pub left_count : (u : Turn) → Acting u → (x : Thread)
    → suc (total (leave u (settled u x)).schedulers + unlinked_count (leave u (settled u x)).threads) ≤ length u.state.threads + free x
left_count u a x =
    let c = a.counted.count in
    let t = ap unlinked_count (leave_threads u (settled u x)) in
    ⊎_elim
    (λ h.
    let g = leave-total u (settled u x) h.0 h.1 in
    let l = nth_le u.state.threads u.thread (free x) x (omega arith) in omega arith)
    (λ h.
    let g = leave-total_same u (settled u x) h.0 in
    let l = nth_less u.state.threads u.thread x h.1 in omega arith)
    a.stands

left_length : (u : Turn) (x : Thread)
    → length (leave u (settled u x)).threads ≡ length u.state.threads
left_length u x =
    ap (length {A = Thread}) (leave_threads u (settled u x))
    ∙ nth_length u.state.threads u.thread x

free_le : (x : Thread) → free x ≤ 1
unfolding free
free_le x = go (is_free x)
  where
    go : (b : Bool) → bit b ≤ 1
    go true = omega arith
    go false = omega arith

left_counted : (u : Turn) → Acting u → (x : Thread) → Counted (leave u (settled u x))
left_counted u a x =
    let c = left_count u a x in let m = a.counted.most in let n = left_length u x in let f = free_le x in
    record { most = omega arith; count = omega arith }

pub enlist_threads : (q : ℕ) (e : Entry) (s : State) → (enlist q e s).threads ≡ s.threads
unfolding enlist
enlist_threads q e s = refl

enlisted_counted : (u : Turn) → Acting u → (x : Thread) (q : ℕ) (e : Entry) → free x ≡ 0
    → Counted (enlist q e (leave u (settled u x)))
enlisted_counted u a x q e z =
    let c = left_count u a x in let m = a.counted.most in let n = left_length u x in
    let g = enlist-total q e (leave u (settled u x)) in
    let t = ap (length {A = Thread}) (enlist_threads q e (leave u (settled u x))) in
    let l = ap unlinked_count (enlist_threads q e (leave u (settled u x))) in
    record { most = omega arith; count = omega arith }

-- a thread that stands on a scheduler is not among the unlinked
not_free : (x : Thread) → eqb x.place 1 ≡ false → free x ≡ 0
unfolding free is_free
not_free x e = ap (λ (b : Bool). bit (b && not x.ended)) e

new_unlinked : (s : State) (x : Thread)
    → unlinked_count (with_new x s).threads ≡ unlinked_count s.threads + free x
new_unlinked s x = unlinked_snoc s.threads x

new_length : (s : State) (x : Thread) → length (with_new x s).threads ≡ length s.threads + 1
new_length s x = length-append s.threads (x ∷ [])

start_counted : (u : Turn) → Acting u → (x : Thread) (q : ℕ) (e : Entry) → free x ≡ 0
    → length u.state.threads < 64
    → Counted (enlist q e (with_new x (settled u u.self)))
start_counted u a x q e z r =
    let b = settled u u.self in
    let c = (stay_counted u a u.self refl).count in
    let k = nth_length u.state.threads u.thread u.self in
    let g = enlist-total q e (with_new x b) in
    let t = ap (length {A = Thread}) (enlist_threads q e (with_new x b)) in
    let l = ap unlinked_count (enlist_threads q e (with_new x b)) in
    let nl = new_unlinked b x in let nn = new_length b x in
    record { most = omega arith; count = omega arith }

wait_counted : (u : Turn) → Acting u → (x : Thread) (q : ℕ) (e f : Entry) → free x ≡ 0
    → free u.self ≡ 0 → length u.state.threads < 64
    → Counted (enlist q f (enlist q e (with_new x (leave u (settled u u.self)))))
wait_counted u a x q e f z y r =
    let b = leave u (settled u u.self) in
    let c = left_count u a u.self in
    let k = left_length u u.self in
    let g = enlist-total q e (with_new x b) in
    let t = ap (length {A = Thread}) (enlist_threads q e (with_new x b)) in
    let l = ap unlinked_count (enlist_threads q e (with_new x b)) in
    let g' = enlist-total q f (enlist q e (with_new x b)) in
    let t' = ap (length {A = Thread}) (enlist_threads q f (enlist q e (with_new x b))) in
    let l' = ap unlinked_count (enlist_threads q f (enlist q e (with_new x b))) in
    let nl = new_unlinked b x in let nn = new_length b x in
    record { most = omega arith; count = omega arith }

-- ---- each step keeps it: one law for each way in which a turn goes on, then each statement, item
-- and choice

abbrev Kept : StepResult → Type 0
Kept r = Counted r.state

kept_if : (b : Bool) (x y : StepResult) → (b ≡ true → Kept x) → (b ≡ false → Kept y)
    → Kept (when b then x else y)
kept_if b x y f g = if_all Kept b x y f g

kept_go_on : (u : Turn) (o : Outcome) (k : Value → Turn → StepResult) → Acting u
    → ((v : Value) → Kept (k v u)) → Kept (go_on u o k)
kept_go_on u (Is v) k a g = g v
kept_go_on u Foreign k a g = a.counted
kept_go_on u Spent k a g = a.counted
kept_go_on u Stuck k a g = a.counted

kept_value : (u : Turn) (m : Here → Evaluation) (k : Value → Turn → StepResult) → Acting u
    → ((v : Value) (w : Turn) → Acting w → Kept (k v w)) → Kept (with_value u m k)
kept_value u m k a g =
    let r : EvalResult = m (evaluator u) u.cells in
    let b : Acting (after_eval u r) = record { counted = a.counted; stands = a.stands; same = a.same; spaces = a.spaces } in
    kept_go_on (after_eval u r) r.outcome k b (λ v. g v (after_eval u r) b)

kept_values : (u : Turn) (xs : List Expr) (k : List Value → Turn → StepResult) → Acting u
    → ((vs : List Value) (w : Turn) → Acting w → Kept (k vs w)) → Kept (with_values u xs k)
unfolding with_values
kept_values u [] k a g = g [] u a
kept_values u (x ∷ xs) k a g =
    kept_value u (λ h. eval h x) _ a (λ v w j. kept_values w xs _ j (λ vs. g (v ∷ vs)))

kept_by : (u : Turn) (v : Value) (a b : StepResult) → Acting u → Kept a → Kept b
    → Kept (by_condition u v a b)
kept_by u (Truth true) a b h f g = f
kept_by u (Truth false) a b h f g = g
kept_by u (Number n) a b h f g = h.counted
kept_by u (Cell c) a b h f g = h.counted

free_self : (u : Turn) (items : List Item) (vars : List Value)
    → free (self_at u (here u) items vars) ≡ free u.self
unfolding free is_free
free_self u items vars = refl

kept_stay : (u : Turn) (items : List Item) (vars : List Value) → Acting u → Kept (stay u items vars)
unfolding stay
kept_stay u items vars a = kept_if _ _ _ (λ _. stay_counted u a (self_at u (here u) items vars) (free_self u items vars)) (λ _. a.counted)

kept_move : (u : Turn) (q : ℕ) (items : List Item) → Acting u → Kept (move u q items)
unfolding move
kept_move u q items a =
    let x = self_at u q items (variables u) in
    kept_if _ _ _ (λ _. a.counted)
    (λ _. kept_if _ _ _ (λ _. left_counted u a x)
    (λ e. kept_if _ _ _ (λ _. enlisted_counted u a x q (plain u.thread) (not_free x e)) (λ _. a.counted)))

kept_go_to : (u : Turn) (q : ℕ) (items : List Item) → Acting u → Kept (go_to u q items)
unfolding go_to
kept_go_to u q items a = kept_if _ _ _ (λ _. kept_stay u items _ a) (λ _. kept_move u q items a)

kept_starting : (u : Turn) (m : ℕ) (vs : List Value) (r : StepResult) → Acting u
    → (unlinked_here u ≡ false → length u.state.threads < 64 → Kept r) → Kept (starting u m vs r)
unfolding starting
kept_starting u m vs r a g =
    let f = a.counted in
    kept_if _ _ _ (λ _. f) (λ l. kept_if _ _ _ (λ _. f) (λ _. kept_if _ _ _ (λ _. f) (λ _. kept_if _ _ _ (λ _. f)
    (λ _. kept_if (leb 64 (length u.state.threads)) _ _ (λ _. f) (λ e. g l (leb-false 64 (length u.state.threads) e))))))

-- entries that pass a test and those that do not: none is lost, none is doubled
pub parted : (test : Entry → Bool) (es : List Entry)
    → length (threads_where test es) + length (entries_except test es) ≡ length es
unfolding threads_where entries_except
parted test [] = omega arith
parted test (e ∷ es) = go (test e) (parted test es)
  where
    go : (b : Bool) → length (threads_where test es) + length (entries_except test es) ≡ length es
        → length (keep_if b (entry_thread e) (threads_where test es)) + length
        (keep_if (not b) e (entries_except test es))
        ≡ suc (length es)
    go true h = omega arith
    go false h = omega arith

-- a generation moves entries of one scheduler between its lists
wake-total : (q e : ℕ) (s : State) → total (wake q e s).schedulers ≤ total s.schedulers + 0
unfolding wake weight
wake-total q e s =
    let x = scheduler_at s q in
    total-set_le s.schedulers (q - 2) 0 _
    (let g = parted (is_awaiting e) x.next in
    let l = length-append x.active (threads_where (is_awaiting e) x.next) in
    omega arith)

-- and so on each member
woken_total : (qs : List ℕ) (e : ℕ) (s : State)
    → total (wake_on_each qs e s).schedulers ≤ total s.schedulers
unfolding wake_on_each
woken_total [] e s = omega arith
woken_total (q ∷ qs) e s =
    let a = woken_total qs e (wake q e s) in let b = wake-total q e s in omega arith

woken_counted : (qs : List ℕ) (e : ℕ) (l : List Bool) (s : State) → Counted s
    → Counted (with_present l (wake_on_each qs e s))
woken_counted qs e l s h =
    let g = woken_total qs e s in
    let t = ap (length {A = Thread}) (woken_threads qs e s) in
    let m = ap unlinked_count (woken_threads qs e s) in
    let a = h.count in
    let b = h.most in
    record { most = omega arith; count = omega arith }

-- the threads that a generation wakes have room
room_awake_on : (u : Turn) → Acting u → (e q : ℕ) → room_to_wake_on u e q ≡ true
unfolding room_to_wake_on
room_awake_on u a e q =
    let x = scheduler_at u.state q in
    let g = both_le u.state.schedulers (q - 2) (q - 2) in
    let l = parted (is_awaiting e) x.next in
    let c = a.counted.count in
    let m = a.counted.most in
    in_entries u a (length x.active + length (threads_where (is_awaiting e) x.next)) (omega arith)

pub room_awake : (u : Turn) → Acting u → (e : ℕ) → room_to_wake u e ≡ true
unfolding room_to_wake
room_awake u a e =
    every_all (room_to_wake_on u e) (event_group u.program e) (room_awake_on u a e)

pub signal_acting : (u : Turn) (e : ℕ) → Acting u → Acting (with_signal u e)
signal_acting u e a =
    record { counted = a.counted; stands = a.stands; same = a.same; spaces = a.spaces }

pub own_linked : (u : Turn) (e : ℕ) → is_own_event u e ≡ true → unlinked_here u ≡ false
unfolding is_own_event
own_linked u e h =
    let a = leb-true 2 (here u) (and_true (leb 2 (here u)) (in_step u.program.links (owner_of_event u.program e) (here u)) h).0 in
    ne_eqb (here u) 1 (λ z. omega arith)

-- the thread stands on its scheduler, since an event's owner is one
kept_signalling : (u : Turn) (e : ℕ) (b : Bool) (r : Turn → StepResult) → Acting u
    → (is_own_event u e ≡ true → Acting (with_signal u e) → Kept (r (with_signal u e)))
    → Kept (signalling u e b r)
unfolding signalling
kept_signalling u e b r a g =
    kept_if _ _ _ (λ _. a.counted) (λ _. kept_if _ _ _ (λ _. a.counted)
    (λ _. kept_if _ _ _ (λ q. g q (signal_acting u e a)) (λ _. a.counted)))

kept_statement : (u : Turn) (x : Stmt) → Acting u → Kept (step_statement u x)
unfolding step_nothing step_seq step_do step_start started_wait step_start_wait step_cooperate step_let step_store step_if step_while step_generate step_await
kept_statement u (nothing i) h = kept_stay u _ _ h
kept_statement u (seq i a b) h = kept_stay u _ _ h
kept_statement u (do_at i q a) h = kept_if _ _ _ (λ _. h.counted) (λ _. kept_go_to u q _ h)
kept_statement u (start i m xs) h =
    kept_values u xs _ h (λ vs w j. kept_starting w m vs _ j (λ l r. start_counted w j _ _ _ (not_free (started w (module_at w.program m) vs) l) r))
kept_statement u (start_wait i m xs) h =
    kept_values u xs _ h (λ vs w j. kept_starting w m vs _ j
    (λ l r. kept_if _ _ _ (λ _. wait_counted w j _ _ _ _ (not_free (started w (module_at w.program m) vs) l) (not_free w.self l) r) (λ _. j.counted)))
kept_statement u (cooperate i) h =
    kept_if _ _ _ (λ _. h.counted) (λ l. kept_if _ _ _ (λ _. enlisted_counted u h u.self _ _ (not_free u.self l)) (λ _. h.counted))
kept_statement u (let_in i x a) h = kept_value u (λ e. eval e x) _ h (λ v w j. kept_stay w _ _ j)
kept_statement u (store i x y) h =
    kept_value u (λ e. storing e x y) _ h (λ v w j. kept_stay w _ _ j)
kept_statement u (if_else i x a b) h = kept_value u (λ e. eval e x) _ h (λ v w j. kept_by w v _ _ j (kept_stay w _ _ j) (kept_stay w _ _ j))
kept_statement u (while i x a) h = kept_value u (λ e. eval e x) _ h (λ v w j. kept_by w v _ _ j (kept_stay w _ _ j) (kept_stay w _ _ j))
kept_statement u (generate i e) h = kept_signalling u e _ _ h
    (λ q j. woken_counted _ e _ _ (stay_counted (with_signal u e) j u.self refl))
kept_statement u (await i e) h = kept_signalling u e _ _ h
    (λ q j. kept_if _ _ _ (λ _. stay_counted (with_signal u e) j u.self refl)
    (λ _. enlisted_counted (with_signal u e) j (thread_at u.state u.thread) _ _
    (sym h.same ∙ not_free u.self (own_linked u e q))))

pub free_same : (p : Program) (s : State) (c t : ℕ)
    → free (turn p s c t []).self ≡ free (thread_at s t)
unfolding free is_free
free_same p s c t = refl

pub acting_with : (p : Program) (s : State) (c t : ℕ) (items : List Item) → Acting (turn p s c t [])
    → Acting (turn p s c t items)
unfolding free is_free
acting_with p s c t items a =
    record { counted = a.counted; stands = a.stands; same = refl; spaces = refl }

kept_items : (p : Program) (s : State) (c t : ℕ) (items : List Item) → Acting (turn p s c t [])
    → Kept (step_items p s c t items)
unfolding ends drops goes_back
kept_items p s c t [] a = left_counted (turn p s c t []) a _
kept_items p s c t (run x ∷ items) a =
    kept_statement (turn p s c t items) x (acting_with p s c t items a)
kept_items p s c t (back q ∷ items) a =
    kept_go_to (turn p s c t items) q _ (acting_with p s c t items a)
kept_items p s c t (drop ∷ items) a = kept_if _ _ _ (λ _. a.counted) (λ _. kept_stay (turn p s c t items) _ _ (acting_with p s c t items a))

kept_thread : (p : Program) (s : State) (c t : ℕ) → Acting (turn p s c t [])
    → Kept (step_thread p s c t)
unfolding step_thread_within
kept_thread p s c t a = kept_items p s c t (thread_at s t).continuation a

-- the end of an instant moves entries of each member between its lists
end_total : (q : ℕ) (s : State) → total (end_on q s).schedulers ≤ total s.schedulers + 0
unfolding end_on weight
end_total q s =
    let es = (scheduler_at s q).next in
    total-set_le s.schedulers (q - 2) 0 _
    (let g = parted (is_ready s.threads) es in omega arith)

ended_total : (qs : List ℕ) (s : State)
    → total (end_on_each qs s).schedulers ≤ total s.schedulers
unfolding end_on_each
ended_total [] s = omega arith
ended_total (q ∷ qs) s = let a = ended_total qs (end_on q s) in let b = end_total q s in omega arith

ended_counted : (qs : List ℕ) (l : List Bool) (s : State) → Counted s
    → Counted (with_present l (end_on_each qs s))
ended_counted qs l s h =
    let g = ended_total qs s in
    let t = ap (length {A = Thread}) (ended_threads qs s) in
    let m = ap unlinked_count (ended_threads qs s) in
    let a = h.count in
    let b = h.most in
    record { most = omega arith; count = omega arith }

kept_scheduler : (p : Program) (s : State) (c : ℕ) (ts : List ℕ) → Counted s
    → is_scheduler_of p c ≡ true → ts ≡ (scheduler_at s c).active → Kept (step_scheduler p s c ts)
unfolding end_instant
kept_scheduler p s c [] h i e =
    kept_if _ _ _ (λ _. h) (λ _. kept_if _ _ _ (λ _. h) (λ _. ended_counted (members p c) _ s h))
kept_scheduler p s c (t ∷ ts) h i e =
    let n = ap (length {A = ℕ}) e in
    kept_thread p s c t (record { counted = h; stands = inl (i, omega arith); same = free_same p s c t; spaces = refl })

pub unlinked_free : (s : State) (c : ℕ) → is_unlinked s c ≡ true → free (thread_at s (c - 16)) ≡ 1
unfolding is_unlinked free is_free
unlinked_free s c e =
    let a = and_true _ (not (thread_at s (c - 16)).ended) e in
    let b = and_true (leb 17 c && leb (c - 16) (length s.threads)) (eqb (thread_at s (c - 16)).place 1) a.0 in
    ap (λ (x : Bool). bit (x && not (thread_at s (c - 16)).ended)) b.1 ∙ ap bit a.1

pub counted_step : (p : Program) (s : State) (c : ℕ) → Counted s → Counted (step p s c).state
unfolding step_within
counted_step p s c h =
    kept_if (is_scheduler_of p c) _ _ (λ i. kept_scheduler p s c (scheduler_at s c).active h i refl)
    (λ i. kept_if (is_unlinked s c) _ _
    (λ l. kept_thread p s c (c - 16) (record { counted = h; stands = inr (i, unlinked_free s c l); same = free_same p s c (c - 16); spaces = refl }))
    (λ _. h))

-- ---- and the fresh state has it

empty_total : (n : ℕ) → total (replicate n no_scheduler) ≡ 0
unfolding total weight
empty_total zero = refl
empty_total (suc n) = let g = empty_total n in omega arith

pub fresh_counted : (p : Program) → Counted (fresh p)
unfolding fresh total weight unlinked_count free is_free
fresh_counted p =
    let g = empty_total (p.schedulers - 1) in record { most = omega arith; count = omega arith }
