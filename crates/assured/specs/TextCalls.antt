-- Demand 3 of the very calls: of what the public functions `fresh` and `step` promise on a text,
-- `fresh_text` and `step_text`, one call after the other. The theorems are in proofs/CalledTexts.
use Rattle.std.specs.Prelude.{◌≡◌, ◌≢◌}
use Rattle.basics.specs.Prelude.{List, ℕ, length, All}
use Rattle.basics.specs.Chains.{each_from, last_from}
use Rattle.language.specs.declared.frame.Frame.{Frame}
use Rattle.language.specs.Verdicts.{Accepted}
use Rattle.language.specs.Refusals.{wrong_state, no_party, nothing_ready, cells_spent}
use Rattle.language.specs.Refusals.{threads_spent}
use Rattle.text.specs.Frames.{text_frames}
use Rattle.program.specs.Programs.{program_of}
use Rattle.checker.specs.Verdict.{HasVerdict}
use Rattle.machine.specs.{Offsets.state_length, Accesses.Access, Accesses.Own, Accesses.Signal}
use Rattle.machine.specs.{Accesses.OwnSignal, State.State, Words.pack}
use Rattle.reach.specs.Reached.{Passes}
use Rattle.stepper.specs.Answers.{NumberedAnswer, answer_number, TextResult}
use Rattle.stepper.specs.Answers.{fresh_text, step_text}
use Rattle.safety.specs.Safety.{NoPrivateInPublic, Apart}
use Rattle.safety.specs.Accepted.{state_of, accesses_along, signals_along}

-- an answer that is no refusal of the text (1 to 13), not 14, foreign (19) or stuck (20)
pub data Plain : ℕ → Type 0 where
  done : Plain 0
  without_party : Plain no_party
  nothing : Plain nothing_ready
  spent_cells : Plain cells_spent
  spent_threads : Plain threads_spent

-- one call of `step` after the other, each on the words that the one before left
abbrev pub text_calls_from : List ℕ → List ℕ → List ℕ → List TextResult
text_calls_from bs w cs = each_from (step_text bs) (λ (r : TextResult). r.words) w cs

-- the words that the last of these calls leaves
abbrev pub text_words_from : List ℕ → List ℕ → List ℕ → List ℕ
text_words_from bs w cs = last_from (step_text bs) (λ (r : TextResult). r.words) w cs

-- 'those that the stepping rules make on the state it was given, those before a refusal too'
abbrev pub text_accesses_from : List ℕ → List ℕ → List ℕ → List Access
text_accesses_from bs w cs = accesses_along (text_frames bs) (λ v c. (step_text bs v c).words) w cs

abbrev pub text_signals_from : List ℕ → List ℕ → List ℕ → List Signal
text_signals_from bs w cs = signals_along (text_frames bs) (λ v c. (step_text bs v c).words) w cs

-- the words after a call of `fresh` on the buffer w and those calls, and the state that they are
abbrev pub words_left : List ℕ → List ℕ → List ℕ → List ℕ
words_left bs w cs = text_words_from bs (fresh_text bs w).words cs

abbrev pub state_left : List ℕ → List ℕ → List ℕ → State
state_left bs w cs = state_of (text_frames bs) (words_left bs w cs)

-- of a text, a lent buffer, a list of choices: a call of `fresh`, then one of `step` for each
-- choice
pub record SafeTexts (bs w cs : List ℕ) : Type 0 where
  pub fresh : (fresh_text bs w).answer ≡ NumberedAnswer.done_by 0 0
  -- every access under every choice or call was to a cell of the acting thread or of the scheduler
  -- on which it stood, 'those before a refusal too'
  pub accessed : All Own (text_accesses_from bs (fresh_text bs w).words cs)
  -- 02, change 7: 'An accepted file then touches an event only from its owner's scheduler or one in
  -- step with it, in every run.'
  pub signalled : All (OwnSignal (program_of (text_frames bs)).links)
      (text_signals_from bs (fresh_text bs w).words cs)
  -- no call was 14, foreign or stuck, nor was the text refused
  pub answered : All (λ (r : TextResult). Plain (answer_number r.answer))
      (text_calls_from bs (fresh_text bs w).words cs)
  -- the words after the list are those of a state, in which no scheduler's cell holds a thread's,
  -- and no thread's variables reach another thread's cell
  pub words : words_left bs w cs ≡ pack (state_left bs w cs)
  pub public : NoPrivateInPublic (state_left bs w cs)
  pub apart : Apart (state_left bs w cs)

-- for every text that the check accepts, lent buffer of the right length, and list of choices
abbrev pub AcceptedTextsSafe : Type 0
AcceptedTextsSafe =
    (bs : List ℕ) → HasVerdict bs Accepted → (w cs : List ℕ) → length w ≡ state_length
    → SafeTexts bs w cs

-- for every text that passes refusals 1 to 7, accepted or not: 'a state reached from a fresh one is
-- never 14', of the very calls
abbrev pub TextsNever14 : Type 0
TextsNever14 =
    (bs : List ℕ) (fs : List Frame) → Passes bs fs → (w cs : List ℕ) → length w ≡ state_length
    → All (λ (r : TextResult). answer_number r.answer ≢ wrong_state)
    (text_calls_from bs (fresh_text bs w).words cs)
