-- Demand 3 of every typed program: its fresh state is good, each choice keeps it so, and a good
-- state has what demand 3 says. Assumes nothing.
use mathlib.Core.Path.{◌≡◌, subst}
use mathlib.Core.Logic.{⊎_elim}
use mathlib.Core.List.{List, [], ◌∷◌, map}
use Prim.Native.Nat.{ℕ, ◌-◌, ◌≤◌}
use native.Mathlib.Omega.{arith}
use lib.ListN.{length}
use Rattle.basics.specs.Members.{All}
use Rattle.basics.specs.Chains.{each_from, last_from}
use Rattle.program.specs.Programs.{Program, main_of, program_of}
use Rattle.machine.specs.State.{State, Stored, cell_at}
use Rattle.machine.specs.Fresh.{fresh}
use Rattle.machine.specs.Turns.{StepResult}
use Rattle.machine.specs.Steps.{step}
use Rattle.machine.specs.Runs.{steps_from, state_from}
use Rattle.machine.specs.declared.value.Value.{Value}
use Rattle.machine.specs.declared.value.Value.TheVariants.{Cell}
use Rattle.machine.proofs.UsedCells.{owner_used}
use Rattle.machine.proofs.Space.{Counted, counted_step, fresh_counted}
use Rattle.machine.proofs.Continuations.{no_items, run_item}
use Rattle.machine.proofs.Depth.{BodiesFit}
use Rattle.safety.specs.Safety.{Reaches, BelongsToThread, BelongsToScheduler, Sound, Safe}
use Rattle.safety.specs.Safety.{Safety}
use Rattle.safety.proofs.Typing.{Ty, Pub, CellTyping, Store, TypedS}
use Rattle.language.specs.declared.frame.Frame.{Frame}
use Rattle.safety.proofs.Accesses.{accessed, signalled}
use Rattle.safety.proofs.Heap.{Val, is_a_cell, Held, by_thread, by_place, GoodCells, Vals}
use Rattle.safety.proofs.Heap.{none, more, SharedOk, store_of, held_val}
use Rattle.safety.proofs.Threads.{nil, cons, each_nth}
use Rattle.safety.proofs.Invariant.{p_empty, p_run, Good, no_thread_lem}
use Rattle.safety.proofs.Preservation.{ok_step}

-- a typed program, which is what acceptance must give: types for the shared cells, which their
-- first contents have; `main` keeps the rules at home; and every body has room
pub record Typed (P : Program) : Type 0 where
  pub sh : List CellTyping
  pub count : length sh ≡ length P.shared
  pub owners : SharedOk (store_of sh) sh
  pub first : GoodCells (store_of sh) (fresh P).cells
  pub some : 1 ≤ length P.modules
  pub main : TypedS P sh [] 2 (main_of P).body
  pub bodies : BodiesFit P

-- ---- what good cells come to: `public` and `apart` of `Safe`

module _ {Σ : Store} {cs : List Stored} (g : GoodCells Σ cs) where
  -- whoever sees a value sees whatever it reaches
  sees : {v : Value} {τ : Ty} {c : ℕ} (t o : ℕ) → Reaches cs v c → Val Σ t v τ
      → BelongsToThread cs c o → o ≡ t
  sees t o Reaches.itself (is_a_cell {c = c} {k = k} a s) e =
      let q = (g.each c k a).0 in
      ⊎_elim (λ h. omega (arith, h.1, q, e)) (λ h. absurd (omega (arith, h.1, h.2, q, e))) s
  sees t o (Reaches.through l) (is_a_cell {c =
      b} {o = p} {k = k} a s) e = sees t o l (held_val t p s (g.each b k a).1) e

  -- no value of a public type is a thread's cell
  not_private : {τ : Ty} (u c t : ℕ) → Pub τ → Val Σ u (Cell c) τ → BelongsToThread cs c t → ⊥
  not_private u c t p (is_a_cell {k = k} a s) f =
      let q = (g.each c k a).0 in
      ⊎_elim (λ h. omega (arith, p, h.0)) (λ h. omega (arith, h.1, h.2, q, f)) s

  held_public : {k : CellTyping} {v : Value} (c t : ℕ) → k.own ≤ 9 → Held Σ k v → v ≡ Cell c
      → BelongsToThread cs c t → ⊥
  held_public c t l (by_thread u e w) z f = omega (arith, e, l)
  held_public {k} c t l (by_place x y p w) z f =
      not_private 0 c t p (subst (λ (v : Value). Val Σ 0 v k.ty) z (w 0)) f

  -- a scheduler's cell holds no thread's cell
  public : (b c t : ℕ) → BelongsToScheduler cs b → (cell_at cs b).content ≡ Cell c
      → BelongsToThread cs c t → ⊥
  public b c t h e f =
      let r = g.all b (owner_used cs b (λ z. omega (arith, h.0, z))) in
      let q = g.each b r.0 r.1 in
      held_public c t (omega (arith, h.1, q.0)) q.1 e f

  -- no variable of t reaches another thread's cell
  apart : (t : ℕ) {vs : List Value} {Γ : List Ty} → Vals Σ t vs Γ
      → All (λ (v : Value). (c o : ℕ) → Reaches cs v c → BelongsToThread cs c o → o ≡ t) vs
  apart t none = All.none
  apart t (more w ws) = All.more (λ c o l e. sees t o l w e) (apart t ws)

-- ---- the fresh state is good, and so is every state after a list of choices
module _ (P : Program) (T : Typed P) where
  abbrev GoodS : State → Type 0
  GoodS s = Good P T.sh s

  fresh_good : GoodS (fresh P)
  unfolding fresh
  fresh_good =
      let l = T.bodies (length P.modules - 1) (let k = T.some in omega arith) in (
        store_of T.sh,
        record {
          cells = T.first;
          shared = T.owners;
          threads = cons (record {
            types = [];
            vars = none;
            typed = p_run T.main (p_empty All.none);
            roomy = run_item {n = 0} {x = (main_of P).body} {l = []} (omega (arith, l.0)) (omega (arith, l.1)) (no_items {n = 0} (omega arith));
          }) nil;
        },
      )

  -- `answered`: no choice is foreign or stuck
  sound_from : (s : State) (cs : List ℕ) → GoodS s → Counted s
      → All Sound (map (λ (r : StepResult). r.answer) (steps_from P s cs))
  unfolding each_from
  sound_from s [] g h = All.none
  sound_from s (c ∷ cs) g h =
      let r = ok_step P T.sh T.count T.bodies s c g h in
      All.more r.sound (sound_from (step P s c).state cs r.good (counted_step P s c h))

  good_from : (s : State) (cs : List ℕ) → GoodS s → Counted s → GoodS (state_from P s cs)
  unfolding last_from
  good_from s [] g h = g
  good_from s (c ∷ cs) g h = good_from (step P s c).state cs (ok_step P T.sh T.count T.bodies s c g h).good (counted_step P s c h)

  -- demand 3 of this program
  pub safe : (cs : List ℕ) → Safe P cs
  safe cs =
      let a = sound_from (fresh P) cs fresh_good (fresh_counted P) in
      let g = good_from (fresh P) cs fresh_good (fresh_counted P) in
      record {
        accessed = accessed P cs a;
        signalled = signalled P cs a;
        public = public g.1.cells;
        apart = λ t. let x = each_nth t g.1.threads (no_thread_lem P T.sh g.0 t) in apart g.1.cells t x.vars;
        answered = a;
      }

-- demand 3 of any acceptance that gives types; TypedFiles shows that the rules do
pub demand_3 : (Accepted : List Frame → Type 0)
    → ((fs : List Frame) → Accepted fs → Typed (program_of fs)) → Safety Accepted
demand_3 Accepted typed fs h cs = safe (program_of fs) (typed fs h) cs
