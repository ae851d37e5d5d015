-- How an act is shown to be a turn, in every thread that looks so (`Seen`): `Turns`, and with the
-- words of the cells `TurnsOn`. Assumes nothing.
use mathlib.Core.Path.{◌≡◌, refl, sym, ap, ◌∙◌}
use mathlib.Core.List.{List}
use Prim.Native.Nat.{ℕ}
use Rattle.program.specs.Trees.{Expr}
use Rattle.operations.specs.declared.Who.{Who}
use Rattle.operations.specs.Inner.Heaps.{cells_in}
use Rattle.evaluator.specs.Inner.Results.{evaluated_by, stored_by}
use Rattle.states.specs.declared.thread.ThreadWords.{ThreadWords}
use Rattle.acts.specs.declared.act.Transition.TheVariants.{Stays}
use Rattle.acts.specs.declared.act.Change.TheVariants.{Same}
use Rattle.std.specs.Prelude.{Err}
use Rattle.language.specs.declared.refusal.Rule.{Rule}
use Rattle.acts.specs.Inner.Transitions.{TurnAnswer, TurnResult, acted_in, action, refused_in}
use Rattle.acts.specs.Inner.Transitions.{turned, change_of, RoomFor}
use Rattle.turns.specs.declared.counts.Counts.{Counts}
use Rattle.turns.specs.Inner.Acts.{TurnOutcome, turn_outcome, variables_in, evaluated_in, stored_in}
use Rattle.turns.specs.Inner.Acts.{Seen}
use Rattle.turns.specs.Inner.Actions.{ActResult}
use Rattle.acts.specs.declared.act.Transition.{Transition}

-- the act, its change made in such a thread without its top item, is with n cells in use that turn;
-- and there is room for the change
pub record Turns (a : TurnAnswer) (n : ℕ) (who : Who) (counts : Counts)
    (f : ThreadWords → TurnResult) : Type 0 where
  pub thread : (th : ThreadWords) → Seen who counts th → turned a n th ≡ f th
  pub room : RoomFor (change_of a) counts.items counts.variables

-- the same with the words of the cells, for a thread of those variables
pub record TurnsOn (a : TurnAnswer) (n : ℕ) (us : List ℕ) (who : Who) (counts : Counts) (vs : List ℕ)
    (f : ThreadWords → TurnOutcome) : Type 0 where
  pub thread : (th : ThreadWords) → Seen who counts th → variables_in th ≡ vs
      → turn_outcome (turned a n th) us ≡ f th
  pub room : RoomFor (change_of a) counts.items counts.variables

-- ---- the thread as it is
pub stays_so : (who : Who) (counts : Counts) (n : ℕ)
    → Turns (action Stays Same) n who counts (λ th. acted_in Stays th n)
stays_so who counts n = record { thread = λ th w. refl; room = tt }

-- the thread as it is, whatever becomes of it
pub as_it_is : (who : Who) (counts : Counts) (n : ℕ) (f : Transition)
    → Turns (action f Same) n who counts (λ th. acted_in f th n)
as_it_is who counts n f = record { thread = λ th w. refl; room = tt }

pub refused_so : (who : Who) (counts : Counts) (r : Rule) (n : ℕ)
    → Turns (Err r) n who counts (λ th. refused_in r th n)
refused_so who counts r n = record { thread = λ th w. refl; room = tt }

-- ---- with the words of the cells
abbrev pub Turning : ActResult → Who → Counts → List ℕ → (ThreadWords → TurnOutcome) → Type 0
Turning a who counts vs f = TurnsOn a.acted (cells_in a.used) a.cells who counts vs f

pub act_on : {a : TurnAnswer} {n : ℕ} {us : List ℕ} {who : Who} {counts : Counts} {vs : List ℕ}
    {f : ThreadWords → TurnResult} {g : ThreadWords → TurnOutcome}
    → Turns a n who counts f → ((th : ThreadWords) → variables_in th ≡ vs → turn_outcome (f th) us ≡ g th)
    → TurnsOn a n us who counts vs g
act_on {us = us} h k =
    record {
      thread = λ th w e. ap (λ (x : TurnResult). turn_outcome x us) (h.thread th w) ∙ k th e;
      room = h.room;
    }

-- the same turn under another name
pub act_on_as : {a : TurnAnswer} {n : ℕ} {us : List ℕ} {who : Who} {counts : Counts} {vs : List ℕ}
    {f g : ThreadWords → TurnOutcome}
    → TurnsOn a n us who counts vs f → ((th : ThreadWords) → variables_in th ≡ vs → f th ≡ g th)
    → TurnsOn a n us who counts vs g
act_on_as h k = record { thread = λ th w e. h.thread th w e ∙ k th e; room = h.room }

-- what is evaluated with the thread's variables is evaluated in the thread
module _
    (who : Who) (th : ThreadWords) (vs : List ℕ) (e : variables_in th ≡ vs) (n : ℕ)
    (ws : List ℕ) where
  pub in_thread : (x : Expr) → evaluated_by who x vs n ws ≡ evaluated_in who th x n ws
  in_thread x = ap (λ (us : List ℕ). evaluated_by who x us n ws) (sym e)

  pub stored_in_lem : (x y : Expr) → stored_by who x y vs n ws ≡ stored_in who th x y n ws
  stored_in_lem x y = ap (λ (us : List ℕ). stored_by who x y us n ws) (sym e)
