-- What the inner functions of the stepper ask of a file and a state, and give. Whoever reads the
-- promises can skip this. Assumes nothing: definitions.
use Rattle.std.specs.Prelude.{◌≡◌, List, true, false, ℕ, ◌+◌, ◌-◌, ◌*◌, ◌^◌, ◌<◌, ◌≤◌, eqb, length}
use Rattle.std.specs.Prelude.{get_or, set, Option, None, Some}
use Rattle.basics.specs.If.{when◌then◌else◌}
use Rattle.language.specs.Places.{home, is_scheduler, has_scheduler}
use Rattle.language.specs.Limits.{most_lines, most_cells}
use Rattle.language.specs.Refusals.{rule_number}
use Rattle.language.specs.declared.refusal.Rule.{Rule}
use Rattle.text.specs.Frames.{frames_of}
use Rattle.program.specs.Programs.{Program, program_of}
use Rattle.layout.specs.Faults.{NoFault}
use Rattle.machine.specs.Offsets.{cell_count_at, schedulers_at, scheduler_length, cells_at}
use Rattle.machine.specs.Offsets.{thread_owner_from}
use Rattle.machine.specs.State.{State, thread_at, used_cells}
use Rattle.machine.specs.Turns.{StepResult, is_scheduler_of}
use Rattle.machine.specs.Words.{pack, unpack}
use Rattle.machine.specs.Inner.Ranges.{in_range}
use Rattle.machine.specs.Inner.Blocks.{pasted, cell_words}
use Rattle.machine.specs.Calls.{CallResult, call_result}
use Rattle.operations.specs.declared.Who.{Who}
use Rattle.operations.specs.Inner.Heaps.{cells_in, accesses_in}
use Rattle.states.specs.Inner.Threads.{thread_words_of}
use Rattle.states.specs.Inner.Parties.{is_unlinked_word}
use Rattle.acts.specs.Inner.Transitions.{TurnAnswer, popped, turned, change_of, RoomFor}
use Rattle.turns.specs.Inner.Acts.{TurnOutcome, variables_in, top_in, turn_in}
use Rattle.turns.specs.Inner.TurnCounts.{turn_count}
use Rattle.commits.specs.Inner.Commits.{Committed, committed}
use Rattle.language.specs.Inner.Labels.{labels_of}
use Rattle.language.specs.declared.group.Schedulers.{Schedulers}
use Rattle.stepper.specs.declared.file.File.{File}
use Rattle.stepper.specs.declared.party.StepAnswer.{StepAnswer}

-- what a step knows of its groups
abbrev pub grouping_of : Program → Schedulers
grouping_of p = record { labels = labels_of p.links; count = p.schedulers }

abbrev pub file_of : Program → File
file_of p =
    record {
      schedulers = grouping_of p;
      shared = length p.shared;
      allowance = p.allowance;
    }

-- 01's number of a refusal, 0 where nothing is refused
abbrev pub step_number : Option Rule → ℕ
step_number None = 0
step_number (Some r) = rule_number r

abbrev pub stepped_on : StepAnswer → List ℕ → CallResult
stepped_on r w = call_result (step_number r.refusal) r.thread r.accesses w

abbrev pub nobody_answers : Option Rule → StepAnswer
nobody_answers r = record { refusal = r; thread = 0; accesses = 0 }

-- what a step gives but for its accesses, beside what a commit gives
abbrev pub as_committed : List ℕ → StepResult → Committed
as_committed w r =
    committed r.answer r.thread
    (elim (eqb r.answer 0) [ true ↦ pack r.state | false ↦ w ])

-- the frames of a file that passes refusals 1 to 7
pub record FileWords (frames : List ℕ) : Type 0 where
  pub laid_out : NoFault (frames_of frames)
  pub few : length frames ≤ most_lines

-- the state that words in range are
abbrev pub state_in : List ℕ → List ℕ → State
state_in frames w = unpack (frames_of frames) (program_of (frames_of frames)).schedulers w

-- such a file, its count of shared cells, and words that are not refused with 14
pub record StepWords (frames : List ℕ) (shared : ℕ) (w : List ℕ) : Type 0 where
  pub file : FileWords frames
  pub count : shared ≡ length (program_of (frames_of frames)).shared
  pub range : in_range (frames_of frames) (program_of (frames_of frames)).schedulers w ≡ true

-- such a file and its groups, words that are not refused with 14, and a scheduler of the file
pub record InstantWords (frames : List ℕ) (g : Schedulers) (w : List ℕ) (q : ℕ) : Type 0 where
  pub shared : ℕ
  pub step : StepWords frames shared w
  pub groups : g ≡ grouping_of (program_of (frames_of frames))
  pub party : is_scheduler_of (program_of (frames_of frames)) q ≡ true

-- the choice of a turn: a scheduler of the file, or none at all
abbrev pub TurnChoice : List ℕ → ℕ → Type 0
TurnChoice frames c = is_scheduler_of (program_of (frames_of frames)) c ≡ is_scheduler c

-- the thread that acts at a choice, by the words: the first active one of a scheduler of a file
-- with n, or the unlinked one that the choice names; 0 where none acts
unfoldable pub acting_in : ℕ → List ℕ → ℕ → ℕ
acting_in n w c =
    when has_scheduler n c then get_or w (schedulers_at + 1 + scheduler_length * (c - home)) 0 else
    when is_unlinked_word w c then c - thread_owner_from else 0

-- who acts in the turn of thread t
abbrev pub who_in : List ℕ → ℕ → List ℕ → ℕ → Who
who_in frames shared w t = record { thread = t; place = record { number = (thread_at (state_in frames w) t).place }; shared = shared }

-- the turn of thread t, on the words of its state
abbrev pub turn_of : List ℕ → ℕ → List ℕ → ℕ → TurnOutcome
turn_of frames shared w t =
    let s = state_in frames w in
    turn_in (frames_of frames) (who_in frames shared w t) (thread_words_of (thread_at s t)) (used_cells s.cells) (cell_words s.cells)

-- a count of accesses is printed in four digits
abbrev pub most_counted : ℕ
most_counted = 2 ^ 16

-- how many accesses it makes
abbrev pub turn_accesses : List ℕ → ℕ → List ℕ → ℕ → ℕ
turn_accesses frames shared w t =
    let s = state_in frames w in
    let th = thread_words_of (thread_at s t) in
    turn_count (frames_of frames) (who_in frames shared w t) th.items (top_in th) (variables_in th)
    (used_cells s.cells) (cell_words s.cells)

-- what the turn comes to, the words with its cells and their count, and that the thread's space has
-- room for the change
pub record turn_on (a : TurnAnswer) (v : List ℕ) (frames : List ℕ) (shared : ℕ) (w : List ℕ) (t : ℕ) : Type 0 where
  pub acted : turned a (get_or v cell_count_at 0) (popped (thread_words_of (thread_at (state_in frames w) t)))
      ≡ (turn_of frames shared w t).acted
  pub words : v
      ≡ set (pasted w cells_at (turn_of frames shared w t).cells most_cells) cell_count_at
      (turn_of frames shared w t).acted.used
  pub whole : length (turn_of frames shared w t).cells ≡ most_cells
  pub room : RoomFor (change_of a) ((thread_words_of (thread_at (state_in frames w) t)).items - 1) (thread_words_of (thread_at (state_in frames w) t)).values

-- what the turn comes to while the accesses stand with the count of the cells: without them it is
-- `turn_on`
pub record turn_left (a : TurnAnswer) (v : List ℕ) (frames : List ℕ) (shared : ℕ) (w : List ℕ) (t : ℕ) : Type 0 where
  pub turn : turn_on a (set v cell_count_at (cells_in (get_or v cell_count_at 0))) frames shared w t
  pub accesses : accesses_in (get_or v cell_count_at 0) ≡ turn_accesses frames shared w t
  pub few : turn_accesses frames shared w t < most_counted
