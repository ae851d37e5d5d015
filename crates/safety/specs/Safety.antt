-- Demand 3, 'a single statement about the list of choices, not one for each choice'.
use Rattle.std.specs.Prelude.{◌≤◌, ◌≡◌, ◌≢◌}
use Rattle.basics.specs.Prelude.{List, ℕ, All}
use Rattle.language.specs.{Places.home, Places.last_scheduler, declared.frame.Frame.Frame}
use Rattle.language.specs.{Refusals.foreign, Refusals.stuck}
use Rattle.program.specs.Programs.{Program, program_of}
use Rattle.machine.specs.{Accesses.Own, Accesses.OwnSignal, State.State, State.Stored}
use Rattle.machine.specs.{State.cell_at, State.thread_at, State.thread_owner, Runs.state_after}
use Rattle.machine.specs.{Runs.answers, Runs.accesses_of, Runs.signals_of}
use Rattle.machine.specs.{declared.value.Value.Value, declared.value.Value.TheVariants.Cell}

-- ---- ownership and reachability

-- 'A cell belongs to its owner: the S it was declared or made with, or 16+t where thread t made it
-- with S 1.' Cell c belongs to thread t; to a scheduler
abbrev pub BelongsToThread : List Stored → ℕ → ℕ → Type 0
BelongsToThread cells c t = (cell_at cells c).owner ≡ thread_owner t

abbrev pub BelongsToScheduler : List Stored → ℕ → Type 0
BelongsToScheduler cells c =
    (home ≤ (cell_at cells c).owner) × ((cell_at cells c).owner ≤ last_scheduler)

-- the value reaches cell c, over any number of cells. 01: 'A variable leads to the cell that is its
-- value, and from each cell reached on to the cell that it holds.'
pub data Reaches (cells : List Stored) : Value → ℕ → Type 0 where
  itself : {c : ℕ} → Reaches cells (Cell c) c
  through : {b c : ℕ} → Reaches cells (cell_at cells b).content c → Reaches cells (Cell b) c

-- ---- of a state

-- no cell that belongs to a scheduler holds a cell that belongs to a thread
abbrev pub NoPrivateInPublic : State → Type 0
NoPrivateInPublic s =
    (b c t : ℕ) → BelongsToScheduler s.cells b → (cell_at s.cells b).content ≡ Cell c
    → BelongsToThread s.cells c t → ⊥

-- no thread's variables reach a cell that belongs to another thread
abbrev pub Apart : State → Type 0
Apart s =
    (t : ℕ) → All (λ (v : Value). (c o : ℕ)
    → Reaches s.cells v c → BelongsToThread s.cells c o → o ≡ t) (thread_at s t).variables

-- ---- of an answer: 'Foreign is 19, stuck is 20.'
abbrev pub Sound : ℕ → Type 0
Sound n = (n ≢ foreign) × (n ≢ stuck)

-- ---- the statement, of a program and a list of choices, from the fresh state on

pub record Safe (p : Program) (cs : List ℕ) : Type 0 where
  -- every access under every choice or call was to a cell of the acting thread or of the scheduler
  -- on which it stood, 'those before a refusal too'
  pub accessed : All Own (accesses_of p cs)
  -- 02, change 7: 'An accepted file then touches an event only from its owner's scheduler or one in
  -- step with it, in every run.'
  pub signalled : All (OwnSignal p.links) (signals_of p cs)
  pub public : NoPrivateInPublic (state_after p cs)
  pub apart : Apart (state_after p cs)
  -- no choice was foreign or stuck
  pub answered : All Sound (answers p cs)

-- for every file that is accepted and every list of choices, of any length and content
abbrev pub Safety : (List Frame → Type 0) → Type 0
Safety Accepted = (fs : List Frame) → Accepted fs → (cs : List ℕ) → Safe (program_of fs) cs
