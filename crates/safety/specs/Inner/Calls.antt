-- Demand 3 of the calls on the words of a file's frames, one after the other: a step on the way to
-- that of the very calls on a text (crate assured, `SafeTexts`).
use Rattle.std.specs.Prelude.{◌≡◌, List, ℕ, length}
use Rattle.basics.specs.Members.{All}
use Rattle.language.specs.declared.frame.Frame.{Frame}
use Rattle.language.specs.Verdicts.{Accepted}
use Rattle.text.specs.Frames.{text_frames}
use Rattle.program.specs.Programs.{program_of}
use Rattle.checker.specs.Verdict.{HasVerdict}
use Rattle.machine.specs.Offsets.{state_length}
use Rattle.machine.specs.Accesses.{Access, Own, Signal, OwnSignal}
use Rattle.machine.specs.Words.{pack}
use Rattle.machine.specs.Calls.{CallResult, fresh_call, step_call, calls_from, words_from}
use Rattle.safety.specs.Safety.{NoPrivateInPublic, Apart, Sound}
use Rattle.safety.specs.Accepted.{state_of, accesses_along, signals_along}

-- the accesses of one call after the other, each on the words that the one before left
abbrev pub accesses_from : List Frame → List ℕ → List ℕ → List Access
accesses_from fs w cs = accesses_along fs (λ v c. (step_call fs v c).words) w cs

abbrev pub signals_from : List Frame → List ℕ → List ℕ → List Signal
signals_from fs w cs = signals_along fs (λ v c. (step_call fs v c).words) w cs

-- of a file, a lent buffer w and a list of choices: the fresh call writes the buffer, then each
-- choice is a call
pub record SafeCalls (fs : List Frame) (w cs : List ℕ) : Type 0 where
  pub fresh : (fresh_call fs w).answer ≡ 0
  -- every access under every call was to a cell of the acting thread or of the scheduler on which
  -- it stood
  pub accessed : All Own (accesses_from fs (fresh_call fs w).words cs)
  -- and every access to an event was made on its owner's scheduler or on one in step with it
  pub signalled : All (OwnSignal (program_of fs).links) (signals_from fs (fresh_call fs w).words cs)
  -- no call was foreign or stuck
  pub answered : All (λ (r : CallResult). Sound r.answer) (calls_from fs (fresh_call fs w).words cs)
  -- the words after the list are those of a state, in which no scheduler's cell holds a thread's,
  -- and no thread's variables reach another thread's cell
  pub words : words_from fs (fresh_call fs w).words cs
      ≡ pack (state_of fs (words_from fs (fresh_call fs w).words cs))
  pub public : NoPrivateInPublic (state_of fs (words_from fs (fresh_call fs w).words cs))
  pub apart : Apart (state_of fs (words_from fs (fresh_call fs w).words cs))

-- for every text that the check accepts, every lent buffer of the right length, and every list of
-- choices
abbrev pub AcceptedCallsSafe : Type 0
AcceptedCallsSafe =
    (bs : List ℕ) → HasVerdict bs Accepted → (w cs : List ℕ) → length w ≡ state_length
    → SafeCalls (text_frames bs) w cs
