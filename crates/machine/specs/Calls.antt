-- What the calls of the stepper give on the words that a caller lends.
use Rattle.std.specs.Prelude.{◌≤◌, ◌≡◌}
use Rattle.basics.specs.Prelude.{List, true, false, ℕ, eqb, length}
use Rattle.basics.specs.Chains.{each_from, last_from}
use Rattle.language.specs.{declared.frame.Frame.Frame, Refusals.wrong_state, Limits.most_schedulers}
use Rattle.language.specs.{Limits.most_events}
use Rattle.program.specs.{Trees.frame_at, Programs.program_of}
use Rattle.machine.specs.{Offsets.state_length, Turns.StepResult, Turns.access_count}
use Rattle.machine.specs.{Fresh.fresh, Steps.step}
use Rattle.machine.specs.{Words.pack, Words.unpack, Inner.Ranges.in_range, Shapes.StateWords}

-- what 14 means: the test says whether words are those of a state in shape (proofs/InShape)
abbrev pub InRangeComputes : Type 0
InRangeComputes =
    (fs : List Frame) (n : ℕ) → n ≤ most_schedulers → (frame_at fs 0).c ≤ most_events → (w : List ℕ)
    → (in_range fs n w ≡ true → StateWords fs n w)
    × (StateWords fs n w → in_range fs n w ≡ true)

-- the answer, the acting thread (0: none), how many accesses it made, and the words after the call
pub record CallResult : Type 0 where
  pub answer : ℕ
  pub thread : ℕ
  pub accesses : ℕ
  pub words : List ℕ

abbrev pub call_result : ℕ → ℕ → ℕ → List ℕ → CallResult
call_result n t k w = record { answer = n; thread = t; accesses = k; words = w }

-- the fresh state; 14 is 'a lent buffer of the wrong length', whatever its words ('No buffer
-- changes.')
unfoldable pub fresh_call : List Frame → List ℕ → CallResult
fresh_call fs w =
    elim (eqb (length w) state_length)
    [ true ↦ call_result 0 0 0 (pack (fresh (program_of fs))) | false ↦ call_result wrong_state 0 0 w ]

-- what a choice gives on words w: the words of its state, or, where it is refused, the same
abbrev pub as_call : List ℕ → StepResult → CallResult
as_call w r =
    call_result r.answer r.thread (access_count r)
    (elim (eqb r.answer 0) [ true ↦ pack r.state | false ↦ w ])

-- 'after 1 to 7, in number order': 14, then 15, 16 and the run's own
unfoldable pub step_call : List Frame → List ℕ → ℕ → CallResult
step_call fs w c =
    let p = program_of fs in
    let n = p.schedulers in
    elim (in_range fs n w)
    [ true ↦ as_call w (step p (unpack fs n w) c) | false ↦ call_result wrong_state 0 0 w ]

-- one call after the other, each on the words that the one before left
abbrev pub calls_from : List Frame → List ℕ → List ℕ → List CallResult
calls_from fs w cs = each_from (step_call fs) (λ (r : CallResult). r.words) w cs

-- the words that the last of these calls leaves
abbrev pub words_from : List Frame → List ℕ → List ℕ → List ℕ
words_from fs w cs = last_from (step_call fs) (λ (r : CallResult). r.words) w cs
