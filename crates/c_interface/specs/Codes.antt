-- Verdicts and answers as one number.
use Rattle.std.specs.Prelude.{◌+◌, ◌*◌, ◌^◌, ◌≡◌}
use Rattle.basics.specs.Prelude.{List, ℕ}
use Rattle.language.specs.{Verdicts.number_of, Verdicts.frame_of, Verdicts.Verdict}
use Rattle.checker.specs.Verdict.{Checked}
use Rattle.stepper.specs.Answers.{NumberedAnswer, said, answer_accesses, TextResult, BatchResult}
use Rattle.runs.specs.Listings.{ListingResult}
use Rattle.drawing.specs.{Writings.Writing, Answers.Answered}

-- the number of the refusal above 16 bits, and the frame
abbrev pub code_of : Verdict → ℕ
code_of v = number_of v * 2 ^ 16 + frame_of v

-- what the check's number promises, with no checker named: it is the code of the verdict that the
-- rules give of the text, and they give no other (`Checked`)
pub record CheckedCode (bs : List ℕ) (r : ℕ) : Type 0 where
  pub verdict : Verdict
  pub checked : Checked bs verdict
  pub code : r ≡ code_of verdict

-- the code of a call's answer, with the acting thread where no frame is named
abbrev pub answer_code : NumberedAnswer → ℕ
answer_code (NumberedAnswer.done_by t k) = t
answer_code (NumberedAnswer.rejected_with n j) = n * 2 ^ 16 + j
answer_code (NumberedAnswer.refused_with n t) = n * 2 ^ 16 + t

-- of a step, with how many accesses it made above 32 bits
abbrev pub step_answer_code : NumberedAnswer → ℕ
step_answer_code a = answer_accesses a * 2 ^ 32 + answer_code a

-- a call's number, and all lent words after it
pub record Coded : Type 0 where
  pub code : ℕ
  pub words : List ℕ

abbrev pub coded : ℕ → List ℕ → Coded
coded n w = record { code = n; words = w }

abbrev pub coded_of : TextResult → Coded
coded_of r = coded (answer_code r.answer) r.words

abbrev pub coded_step_of : TextResult → Coded
coded_step_of r = coded (step_answer_code r.answer) r.words

-- of the writer
abbrev pub coded_writing_of : Writing → Coded
coded_writing_of w = coded (code_of w.verdict) w.out

-- what its number and its buffer promise, with no writer named: they are those of the answer that
-- the rules give of the text and the lent buffer, and they give no other (`Answered`)
pub record AnsweredCode (bs out : List ℕ) (r : Coded) : Type 0 where
  pub writing : Writing
  pub answered : Answered bs out writing
  pub code : r ≡ coded_writing_of writing

-- the same with a second lent buffer: the answers to many choices, or a listing
pub record CodedOut : Type 0 where
  pub code : ℕ
  pub words : List ℕ
  pub out : List ℕ

abbrev pub coded_out : ℕ → List ℕ → List ℕ → CodedOut
coded_out n w out = record { code = n; words = w; out = out }

-- of many choices; each answer is that of a call with its choice alone (`answer_word_code`)
abbrev pub coded_batch_of : BatchResult → CodedOut
coded_batch_of r = coded_out (answer_code r.answer) r.words r.answers

-- a listing's answer above 32 bits, and the listing's length
abbrev pub listing_code : NumberedAnswer → ℕ → ℕ
listing_code a size = answer_code a * 2 ^ 32 + size

abbrev pub coded_listing_of : ListingResult → CodedOut
coded_listing_of r = coded_out (listing_code (said r.answer) r.size) r.words r.out
