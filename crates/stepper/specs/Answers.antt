-- What the calls of the stepper give on any text, any words and any choice.
use Rattle.std.specs.Prelude.{◌&&◌, ◌+◌, ◌*◌, ◌^◌, Result, Ok, Err}
use Rattle.basics.specs.Prelude.{List, map, ℕ, eqb, length, when◌then◌else◌}
use Rattle.text.specs.Inner.Reading.{reading}
use Rattle.layout.specs.LaidOut.{after_reading}
use Rattle.machine.specs.Calls.{CallResult, fresh_call, step_call, calls_from, words_from}
use Rattle.machine.specs.Inner.Ranges.{in_range}
use Rattle.language.specs.{declared.frame.Frame.Frame, Verdicts.refusal, Refusals.rule_number}
use Rattle.language.specs.declared.refusal.Rule.{Rule}
use Rattle.language.specs.declared.refusal.Rule.TheVariants as R
use Rattle.program.specs.Programs.{program_of}
use Rattle.stepper.specs.declared.answer.Done.{Done}
use Rattle.stepper.specs.declared.answer.CallRefusal.{CallRefusal}
use Rattle.stepper.specs.declared.answer.CallRefusal.TheVariants.{Text, Call}

-- a call is done, or refused
abbrev pub Answer : Type 0
Answer = Result Done CallRefusal

-- it is done, with the acting thread, 0: none, and with so many accesses
abbrev pub done : ℕ → ℕ → Answer
done t k = Ok (record { thread = t; accesses = k })

-- the text is refused, by that rule, at frame j
abbrev pub rejected : Rule → ℕ → Answer
rejected r j = Err (Text (refusal r j))

-- the call is refused, by that rule, with the acting thread, 0: none
abbrev pub refused : Rule → ℕ → Answer
refused r t = Err (Call r t)

-- the same in 01's numbers: done, by that thread, with so many accesses; the text is refused, with
-- that number, at that frame; the call is, with that number and that acting thread
pub data NumberedAnswer : Type 0 where
  done_by : ℕ → ℕ → NumberedAnswer
  rejected_with : ℕ → ℕ → NumberedAnswer
  refused_with : ℕ → ℕ → NumberedAnswer

-- what an answer says: no two say the same (proofs/RuleLaws, `said_apart`)
abbrev pub said : Answer → NumberedAnswer
said (Ok d) = NumberedAnswer.done_by d.thread d.accesses
said (Err (Text r)) = NumberedAnswer.rejected_with (rule_number r.rule) r.frame
said (Err (Call r t)) = NumberedAnswer.refused_with (rule_number r) t

-- 01's number of an answer, 0 where it is done; the frame that it names; the acting thread, 0: none
abbrev pub answer_number : NumberedAnswer → ℕ
answer_number (NumberedAnswer.done_by t k) = 0
answer_number (NumberedAnswer.rejected_with n j) = n
answer_number (NumberedAnswer.refused_with n t) = n

abbrev pub answer_frame : NumberedAnswer → ℕ
answer_frame (NumberedAnswer.done_by t k) = 0
answer_frame (NumberedAnswer.rejected_with n j) = j
answer_frame (NumberedAnswer.refused_with n t) = 0

abbrev pub answer_thread : NumberedAnswer → ℕ
answer_thread (NumberedAnswer.done_by t k) = t
answer_thread (NumberedAnswer.rejected_with n j) = 0
answer_thread (NumberedAnswer.refused_with n t) = t

-- how many cells it read, stored in and made
abbrev pub answer_accesses : NumberedAnswer → ℕ
answer_accesses (NumberedAnswer.done_by t k) = k
answer_accesses (NumberedAnswer.rejected_with n j) = 0
answer_accesses (NumberedAnswer.refused_with n t) = 0

-- the answer with that number, that acting thread and so many accesses; a refusal has none
unfoldable pub answer_to : ℕ → ℕ → ℕ → NumberedAnswer
answer_to n t k = when eqb n 0 then NumberedAnswer.done_by t k else NumberedAnswer.refused_with n t

-- a call's answer, and all lent words after it
pub record TextResult : Type 0 where
  pub answer : NumberedAnswer
  pub words : List ℕ

abbrev pub text_result : Answer → List ℕ → TextResult
text_result a w = record { answer = said a; words = w }

abbrev pub as_text_result : CallResult → TextResult
as_text_result r = record { answer = answer_to r.answer r.thread r.accesses; words = r.words }

-- 'after 1 to 7, in number order': the text's refusal, which changes no buffer; else what the call
-- gives on its frames
abbrev pub on_text : List ℕ → List ℕ → (List Frame → CallResult) → TextResult
on_text bs w call =
    after_reading
    (λ r j. text_result (rejected r j) w) (λ fs. as_text_result (call fs)) (reading bs)

-- the fresh state of a text
unfoldable pub fresh_text : List ℕ → List ℕ → TextResult
fresh_text bs w = on_text bs w (λ fs. fresh_call fs w)

-- one choice
unfoldable pub step_text : List ℕ → List ℕ → ℕ → TextResult
step_text bs w c = on_text bs w (λ fs. step_call fs w c)

-- ---- many choices in one call: one step after the other, as `step` called for each

-- the answer to one choice as a number: its accesses above 32 bits; 01's number above 16 bits, 0
-- where it is done; the acting thread, 0 where none acts
abbrev pub step_code : ℕ → ℕ → ℕ → ℕ
step_code n t k = k * 2 ^ 32 + n * 2 ^ 16 + t

abbrev pub answer_word : CallResult → ℕ
answer_word r = step_code r.answer r.thread r.accesses

-- the answer to the whole call, the state's words after it, and an answer to each choice
pub record BatchResult : Type 0 where
  pub answer : NumberedAnswer
  pub words : List ℕ
  pub answers : List ℕ

abbrev pub batch_result : Answer → List ℕ → List ℕ → BatchResult
batch_result a w out = record { answer = said a; words = w; answers = out }

-- 14 where the words are no state of the file, or where there are not as many answers as choices:
-- 'a lent buffer of the wrong length' ('No buffer changes.'); else every choice is stepped, and
-- answered whether it is done or refused
unfoldable pub steps_call : List Frame → List ℕ → List ℕ → List ℕ → BatchResult
steps_call fs w cs out =
    when eqb (length out) (length cs) && in_range fs (program_of fs).schedulers w
    then batch_result (done 0 0) (words_from fs w cs) (map answer_word (calls_from fs w cs))
    else batch_result (refused R.WrongState 0) w out

-- 'after 1 to 7, in number order'
unfoldable pub steps_text : List ℕ → List ℕ → List ℕ → List ℕ → BatchResult
steps_text bs w cs out =
    after_reading
    (λ r j. batch_result (rejected r j) w out) (λ fs. steps_call fs w cs out) (reading bs)
