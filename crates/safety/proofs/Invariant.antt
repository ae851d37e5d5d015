-- The invariant of demand 3: a good state, whose cells, variables and continuations are typed, and
-- the changes that a turn makes to a state and that keep it good. Assumes nothing.
use mathlib.Core.Path.{◌≡◌, refl, sym, subst}
use mathlib.Core.List.{List, [], ◌∷◌, ◌++◌}
use Prim.Native.Nat.{ℕ, suc}
use native.Mathlib.Omega.{arith}
use lib.ListN.{length}
use Rattle.basics.specs.Members.{All}
use Rattle.basics.proofs.Ifs.{if_all}
use Rattle.program.specs.Trees.{Stmt}
use Rattle.program.specs.Programs.{Program}
use Rattle.machine.specs.State.{State, Stored, Item, run, back, drop, Thread, Entry, no_thread}
use Rattle.machine.specs.State.{with_new, enlist}
use Rattle.machine.specs.Turns.{Turn, settled, is_scheduler_of, leave}
use Rattle.machine.specs.Statements.{wake_on_each}
use Rattle.machine.specs.Steps.{end_on_each}
use Rattle.machine.proofs.Space.{leave_threads}
use Rattle.machine.proofs.GroupLaws.{woken_threads, woken_cells, ended_threads, ended_cells}
use Rattle.machine.proofs.Continuations.{Roomy, no_items}
use Rattle.safety.proofs.Typing.{Ty, Pub, CellTyping, Store, TypedS}
use Rattle.safety.proofs.Heap.{GoodCells, More, Vals, none, SharedOk, vals_more}
use Rattle.safety.proofs.Threads.{Each, each_set_nth, each_snoc}

-- in the program P, whose shared cells are typed by sh
module _ (P : Program) (sh : List CellTyping) where
  -- the continuation of a thread that stands on p, over variables of types Γ: each statement is
  -- typed at the place and over the variables that it will find when it is on top. What lies below
  -- a 'back to q' runs on q; what lies below a drop has one variable less. Where nothing is left,
  -- the variables are the thread's arguments, which are public
  pub data TypedItems : List Ty → ℕ → List Item → Type 0 where
    p_empty : {Γ : List Ty} {p : ℕ} → All Pub Γ → TypedItems Γ p []
    p_run : {Γ : List Ty} {p : ℕ} {x : Stmt} {l : List Item} → TypedS P sh Γ p x → TypedItems Γ p l
        → TypedItems Γ p (run x ∷ l)
    p_back : {Γ : List Ty} {p q : ℕ} {l : List Item} → TypedItems Γ q l
        → TypedItems Γ p (back q ∷ l)
    p_drop : {Γ Δ : List Ty} {p : ℕ} {l : List Item} (τ : Ty) → Δ ≡ Γ ++ (τ ∷ []) → TypedItems Γ p l
        → TypedItems Δ p (drop ∷ l)

  -- thread t: its variables have types in its own eyes, over which its continuation is typed, and
  -- both spaces have the room that it will take
  pub record GoodThread (Σ : Store) (t : ℕ) (x : Thread) : Type 0 where
    pub types : List Ty
    pub vars : Vals Σ t x.variables types
    pub typed : TypedItems types x.place x.continuation
    pub roomy : Roomy (length x.variables) x.continuation

  -- threads and cells that the store typing Σ types
  pub record GoodIn (Σ : Store) (ts : List Thread) (cs : List Stored) : Type 0 where
    pub cells : GoodCells Σ cs
    pub shared : SharedOk Σ sh
    pub threads : Each (GoodThread Σ) 1 ts

  -- the invariant. The lists of the schedulers are no part of it: what is needed of them is
  -- `Counted` (machine/proofs/Space)
  abbrev pub Good : State → Type 0
  Good s = (Σ : Store) × GoodIn Σ s.threads s.cells

  pub no_thread_lem : (Σ : Store) (t : ℕ) → GoodThread Σ t no_thread
  no_thread_lem Σ t = record { types = []; vars = none; typed = p_empty All.none; roomy = no_items {n = 0} (omega arith) }

  pub thread_more : {Σ Σ' : Store} → More Σ Σ' → (t : ℕ) (x : Thread) → GoodThread Σ t x
      → GoodThread Σ' t x
  thread_more m t x g =
      record { types = g.types; vars = vals_more m g.vars; typed = g.typed; roomy = g.roomy }

  -- ---- what a turn makes of the state it was given

  -- the acting thread replaced, and the cells those of the turn
  pub settled_good : {Σ : Store} (u : Turn) (x : Thread) → GoodIn Σ u.state.threads u.cells
      → GoodThread Σ u.thread x → GoodIn Σ (settled u x).threads u.cells
  settled_good u x h g = record { cells = h.cells; shared = h.shared; threads = each_set_nth u.thread h.threads g }

  leave_cells : (u : Turn) (s : State) → (leave u s).cells ≡ s.cells
  unfolding leave
  leave_cells u s = if_all (λ (r : State). r.cells ≡ s.cells) (is_scheduler_of u.program u.choice) _ s (λ _. refl) (λ _. refl)

  -- the same, and the thread gone from its active list
  pub left_good : {Σ : Store} (u : Turn) (x : Thread) → GoodIn Σ u.state.threads u.cells
      → GoodThread Σ u.thread x
      → GoodIn Σ (leave u (settled u x)).threads (leave u (settled u x)).cells
  left_good {Σ} u x h g =
      subst (λ (ts : List Thread). GoodIn Σ ts (leave u (settled u x)).cells)
      (sym (leave_threads u (settled u x)))
      (subst (GoodIn Σ (settled u x).threads) (sym (leave_cells u (settled u x))) (settled_good u x h g))

  pub enlisted_good : (q : ℕ) (e : Entry) (s : State) → Good s → Good (enlist q e s)
  unfolding enlist
  enlisted_good q e s g = g

  -- other lists of schedulers: those of each member of a group after a generation, and after an
  -- instant
  lists_good : (r s : State) → r.threads ≡ s.threads → r.cells ≡ s.cells → Good s → Good r
  lists_good r s e f (Σ, g) = (
    Σ,
    subst (λ (ts : List Thread). GoodIn Σ ts r.cells) (sym e)
        (subst (GoodIn Σ s.threads) (sym f) g),
  )

  pub woken_good : (qs : List ℕ) (e : ℕ) (s : State) → Good s → Good (wake_on_each qs e s)
  woken_good qs e s g =
      lists_good (wake_on_each qs e s) s (woken_threads qs e s) (woken_cells qs e s) g

  pub ended_good : (qs : List ℕ) (s : State) → Good s → Good (end_on_each qs s)
  ended_good qs s g = lists_good (end_on_each qs s) s (ended_threads qs s) (ended_cells qs s) g

  -- one more thread
  pub started_good : (Σ : Store) (t : ℕ) (x : Thread) (s : State) → t ≡ suc (length s.threads)
      → GoodIn Σ s.threads s.cells → GoodThread Σ t x
      → GoodIn Σ (with_new x s).threads s.cells
  started_good Σ t x s e g h = record { cells = g.cells; shared = g.shared; threads = each_snoc 1 t (omega arith) g.threads h }
