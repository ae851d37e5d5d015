-- Demand 3: every accepted text is safe under every list of choices, as a list of steps
-- (`accepted_safe`) and as a list of calls (`accepted_calls_safe`). Assumes nothing.
use mathlib.Core.Path.{◌≡◌, refl, sym, ap, ap₂, subst, ◌∙◌}
use mathlib.Core.Bool.{Bool, true, false}
use mathlib.Core.List.{List, [], ◌∷◌, ◌++◌, map, flat_map}
use Prim.Native.Nat.{ℕ}
use lib.ListN.{length}
use Rattle.basics.specs.Members.{All}
use Rattle.basics.specs.Chains.{each_from}
use Rattle.language.specs.declared.frame.Frame.{Frame}
use Rattle.text.specs.Reading.{Reads}
use Rattle.program.specs.Programs.{Program, program_of}
use Rattle.layout.specs.Faults.{NoFault}
use Rattle.rules.specs.Rules.{Keeps}
use Rattle.checker.specs.Verdict.{HasVerdict}
use Rattle.machine.specs.Accesses.{Own, OwnSignal}
use Rattle.machine.specs.State.{State}
use Rattle.machine.specs.Fresh.{fresh}
use Rattle.machine.specs.Turns.{StepResult}
use Rattle.machine.specs.Steps.{step}
use Rattle.machine.specs.Runs.{steps_from, state_after, steps}
use Rattle.machine.specs.Words.{pack, unpack}
use Rattle.machine.specs.Calls.{CallResult, fresh_call, step_call, words_from}
use Rattle.machine.specs.Shapes.{Shaped}
use Rattle.machine.proofs.InShape.{shaped_in_range}
use Rattle.machine.proofs.Round.{unpack-pack}
use Rattle.machine.proofs.KeptShape.{FileFits, keeps_step, fresh_shaped, reached_shaped}
use Rattle.machine.proofs.CallRuns.{as_called, fresh_called, call_is, calls_are, words_are}
use Rattle.reach.proofs.Sizes.{sized}
use Rattle.reach.proofs.Fits.{file_fits}
use Rattle.safety.specs.Safety.{Sound, Safe, Safety, NoPrivateInPublic, Apart}
use Rattle.safety.specs.Accepted.{AcceptedSafe, state_of, under, along}
use Rattle.safety.specs.Inner.Calls.{SafeCalls, AcceptedCallsSafe}
use Rattle.safety.proofs.Demand3.{demand_3}
use Rattle.safety.proofs.TypedFiles.{typed}

-- ---- demand 3 of the steps

-- the frames of an accepted text pass refusals 4 to 7 and keep the rules
abbrev AcceptedFrames : List Frame → Type 0
AcceptedFrames fs = NoFault fs × Keeps (program_of fs)

accepted_frames_safe : Safety AcceptedFrames
accepted_frames_safe = demand_3 AcceptedFrames (λ fs h. typed h.0 h.1)

pub accepted_safe : AcceptedSafe
accepted_safe bs (HasVerdict.accepted (Reads.whole a b c) h k) cs = accepted_frames_safe _ (h, k) cs

-- ---- demand 3 of the calls: from the fresh words on, they give the steps' answers, accesses and
-- states
module _ (fs : List Frame) (F : FileFits fs (program_of fs) (program_of fs).schedulers) where
  abbrev P : Program
  P = program_of fs

  abbrev n : ℕ
  n = (program_of fs).schedulers

  -- what is `made` under the calls, which step from the words of a state in shape
  module _ {A : Type 0} (made : StepResult → List A) where
    under_is : (s : State) (c : ℕ) → Shaped fs n s → under made fs (pack s) c ≡ made (step P s c)
    unfolding under
    under_is s c z =
        ap (λ (b : Bool). elim b [ true ↦ made (step P (unpack fs n (pack s)) c) | false ↦ [] ])
        (shaped_in_range fs n s z)
        ∙ ap (λ (x : State). made (step P x c)) (unpack-pack fs n s z)

    abbrev from : List ℕ → List ℕ → List A
    from w cs = along made fs (λ v c. (step_call fs v c).words) w cs

    along_is : (s : State) (cs : List ℕ) → Shaped fs n s
        → from (pack s) cs ≡ flat_map made (steps_from P s cs)
    unfolding along each_from flat_map
    along_is s [] z = refl
    along_is s (c ∷ cs) z =
        ap₂ (λ (x : List A) (y : List A). x ++ y) (under_is s c z)
        (ap (λ (x : CallResult). from x.words cs) (call_is fs F s c z) ∙ along_is (step P s c).state cs (keeps_step fs P n F s c z))

    -- from the fresh call on
    pub from_fresh : (w cs : List ℕ) → length w ≡ 4834
        → from (fresh_call fs w).words cs ≡ flat_map made (steps P cs)
    from_fresh w cs e =
        ap (λ (x : CallResult). from x.words cs) (fresh_called fs w e)
        ∙ along_is (fresh P) cs (fresh_shaped fs P n F)

  sound_calls : (rs : List StepResult) → All Sound (map (λ (r : StepResult). r.answer) rs)
      → All (λ (r : CallResult). Sound r.answer) (map as_called rs)
  sound_calls [] All.none = All.none
  sound_calls (r ∷ rs) (All.more h hs) = All.more h (sound_calls rs hs)

  calls_safe : (w cs : List ℕ) → length w ≡ 4834 → Safe P cs → SafeCalls fs w cs
  calls_safe w cs e s =
      let f = fresh_called fs w e in
      let q : words_from fs (fresh_call fs w).words cs ≡ pack (state_after P cs) = words_are fs F w cs e in
      let u : state_of fs (words_from fs (fresh_call fs w).words cs) ≡ state_after P cs = ap (state_of fs) q ∙ unpack-pack fs n (state_after P cs) (reached_shaped fs P n F cs) in
      record {
        fresh = ap (λ (x : CallResult). x.answer) f;
        accessed = subst (All Own) (sym (from_fresh (λ (r : StepResult). r.accesses) w cs e)) s.accessed;
        signalled = subst (All (OwnSignal P.links)) (sym (from_fresh (λ (r : StepResult). r.signals) w cs e)) s.signalled;
        answered = subst (All (λ (r : CallResult). Sound r.answer)) (sym (calls_are fs F w cs e)) (sound_calls (steps P cs) s.answered);
        words = q ∙ ap pack (sym u);
        public = subst NoPrivateInPublic (sym u) s.public;
        apart = subst Apart (sym u) s.apart;
      }

pub accepted_calls_safe : AcceptedCallsSafe
accepted_calls_safe bs (HasVerdict.accepted (Reads.whole a b c) h k) w cs e =
    calls_safe _ (file_fits (sized (Reads.whole a b c)) h) w cs e (accepted_frames_safe _ (h, k) cs)
