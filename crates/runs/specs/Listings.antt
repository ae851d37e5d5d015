-- What `run_listing` leaves in the lent buffers: a run's whole listing, and its state.
use Rattle.std.specs.Prelude.{Err}
use Rattle.std.specs.Prelude.{◌&&◌}
use Rattle.basics.specs.Prelude.{List, Bool, true, false, ℕ, ltb, eqb, length, take, paste}
use Rattle.basics.specs.Prelude.{when◌then◌else◌}
use Rattle.language.specs.{declared.frame.Frame.Frame, Verdicts.Verdict}
use Rattle.language.specs.{Limits.most_choice_bytes, Limits.most_listing_bytes}
use Rattle.language.specs.declared.refusal.Rule.TheVariants.{WrongState}
use Rattle.text.specs.Frames.{text_frames}
use Rattle.program.specs.Programs.{Program, program_of}
use Rattle.layout.specs.Verdicts.{LayoutVerdict}
use Rattle.layout.specs.Verdicts.{LaidOut}
use Rattle.layout.specs.Inner.Layouts.{layout_verdict}
use Rattle.checker.specs.Verdict.{verdict}
use Rattle.machine.specs.{Offsets.state_length, Runs.state_after, Words.pack}
use Rattle.stepper.specs.Answers.{Answer, done, rejected, refused}
use Rattle.listing.specs.Listing.{stops, Choices, choices, malformed, choices_from, run_listing}
use Rattle.listing.specs.Listing.{used_of}
use Rattle.runs.specs.declared.printing.ListingAnswer.{ListingAnswer}

-- ---- what a run comes to

-- how many choices a run used, and the words of the state after them
pub record FinalState : Type 0 where
  pub used : ℕ
  pub words : List ℕ

-- 'choices used, which is the smaller of the list's length and the allowance': so many are stepped,
-- from the fresh state on
unfoldable pub final_state : Program → List ℕ → FinalState
final_state p cs = record { used = used_of p cs; words = pack (state_after p (take (used_of p cs) cs)) }

-- ---- the state after the listing

-- where the listing stops before a step: 'No buffer changes.'
abbrev pub not_run : List ℕ → FinalState
not_run w = record { used = 0; words = w }

abbrev pub run_of : Program → List ℕ → Choices → FinalState
run_of p w r = elim r [ choices cs ↦ final_state p cs | malformed k ↦ not_run w ]

-- the bytes of choices.txt are judged whole before any step, in the order of `choices_listing`
unfoldable pub choices_run : Program → List ℕ → List ℕ → FinalState
choices_run p w bytes =
    elim (ltb most_choice_bytes (length bytes))
    [ true ↦ not_run w | false ↦ run_of p w (choices_from 0 bytes) ]

-- '`run` prints that line, then after 1 to 7 stops.'
unfoldable pub text_run : Verdict → List Frame → List ℕ → List ℕ → FinalState
text_run v fs w bytes =
    elim (stops v) [ true ↦ not_run w | false ↦ choices_run (program_of fs) w bytes ]

-- ---- the lent buffers

-- the answer, the listing's length, how many choices were used, and both buffers
pub record ListingResult : Type 0 where
  pub answer : Answer
  pub size : ℕ
  pub used : ℕ
  pub words : List ℕ
  pub out : List ℕ

abbrev pub listing_result : Answer → ℕ → ℕ → List ℕ → List ℕ → ListingResult
listing_result a size used w out =
    record { answer = a; size = size; used = used; words = w; out = out }

abbrev pub with_buffers : ListingAnswer → List ℕ → List ℕ → ListingResult
with_buffers r w out = listing_result r.answer r.length r.used w out

-- the buffer with those bytes from `at` on, the rest of it as it was
unfoldable pub written : List ℕ → ℕ → List ℕ → List ℕ
written out at bytes = paste out at bytes (length bytes)

-- the state's words, and the buffer that begins with the listing
abbrev pub listing_of : Answer → FinalState → List ℕ → List ℕ → ListingResult
listing_of a b listing out =
    listing_result a (length listing) b.used b.words (written out 0 listing)

-- the whole listing of a text with that verdict and those frames
abbrev pub whole_listing : Answer → Verdict → List Frame → List ℕ → List ℕ → List ℕ → ListingResult
whole_listing a v fs bytes w out =
    listing_of a (text_run v fs w bytes) (run_listing v fs bytes) out

-- nothing is printed: 'No buffer changes.'
abbrev pub no_listing : Answer → List ℕ → List ℕ → ListingResult
no_listing a w out = listing_result a 0 0 w out

-- the answer, from what 1 to 7 say of the text (`layout_verdict`; 8 to 13 stop no listing) and from
-- whether the buffers have the lengths that the listing needs: the text's refusal 1 to 7; else 14,
-- 'after 1 to 7 .. a lent buffer of the wrong length'; else it is done
abbrev pub answer_for : LayoutVerdict → Bool → Answer
answer_for (Err r) fit = rejected r.rule r.frame
answer_for LaidOut false = refused WrongState 0
answer_for LaidOut true = done 0 0

-- a listing that stops after 1 to 7 needs no state; any other needs one of its length. The longest
-- listing has 8 + 19 * 16,384 + 5 bytes
abbrev pub buffers_fit : LayoutVerdict → List ℕ → List ℕ → Bool
buffers_fit (Err r) w out = eqb (length out) most_listing_bytes
buffers_fit LaidOut w out = eqb (length w) state_length && eqb (length out) most_listing_bytes

-- of any text, any bytes of choices.txt and any buffers
unfoldable pub list_text : List ℕ → List ℕ → List ℕ → List ℕ → ListingResult
list_text bs bytes w out =
    when buffers_fit (layout_verdict bs) w out
    then whole_listing (answer_for (layout_verdict bs) true) (verdict bs) (text_frames bs) bytes w out
    else no_listing (answer_for (layout_verdict bs) false) w out
