-- Demand 3 of a run: of `list_text`, which `run_listing` promises (proofs/ListedSafely).
use Rattle.std.specs.Prelude.{◌∷◌, ◌++◌, ◌≤◌, ◌≡◌}
use Rattle.basics.specs.Prelude.{List, [], ℕ, length, take}
use Rattle.language.specs.declared.frame.Frame.{Frame}
use Rattle.language.specs.Verdicts.{Accepted}
use Rattle.language.specs.Limits.{most_choice_bytes, most_listing_bytes}
use Rattle.text.specs.Frames.{text_frames}
use Rattle.program.specs.Programs.{program_of}
use Rattle.checker.specs.Verdict.{HasVerdict}
use Rattle.machine.specs.Offsets.{state_length}
use Rattle.reach.specs.Reached.{Passes}
use Rattle.stepper.specs.Answers.{done}
use Rattle.listing.specs.Listing.{check_line, choices, choices_from, choice_line_of, used_of}
use Rattle.listing.specs.Listing.{last_line}
use Rattle.runs.specs.{Listings.final_state, Listings.listing_of, Listings.list_text}
use Rattle.assured.specs.TextCalls.{Plain, words_left, SafeTexts}

-- bytes that are one line for each of the choices, in order, whose answer is printed 00, 0F, 10, 11
-- or 12: never 13 (19, foreign) and never 14 (20, stuck)
pub data PlainLines : List ℕ → List ℕ → Type 0 where
  none : PlainLines [] []
  more : (c answer thread cells accesses : ℕ) {cs lines : List ℕ}
      → Plain answer → PlainLines cs lines
      → PlainLines (c ∷ cs) (choice_line_of c answer thread cells accesses ++ lines)

-- ---- of every text that passes refusals 1 to 7, accepted or not

-- 'States and answers are those that the calls give': `run` uses the choices that it says, and
-- leaves the words that a call of `fresh` and a call of `step` for each of them leave
abbrev pub ListingCalls : Type 0
ListingCalls =
    (bs : List ℕ) (fs : List Frame) → Passes bs fs
    → (bytes cs : List ℕ) → length bytes ≤ most_choice_bytes → choices_from 0 bytes ≡ choices cs
    → (w out : List ℕ) → length w ≡ state_length → length out ≡ most_listing_bytes
    → let used = used_of (program_of fs) cs in
    ((list_text bs bytes w out).used ≡ used)
    × ((list_text bs bytes w out).words ≡ words_left bs w (take used cs))

-- ---- of every text that the check accepts

-- of a text whose choices are cs: those used are a list of demand 3; and what is listed is the
-- check's line, a plain line for each choice used, the count of them
pub record SafelyListed (bs bytes cs w out : List ℕ) : Type 0 where
  pub safe : SafeTexts bs w (take (used_of (program_of (text_frames bs)) cs) cs)
  pub lines : List ℕ
  pub plain : PlainLines (take (used_of (program_of (text_frames bs)) cs) cs) lines
  pub listed : list_text bs bytes w out
      ≡ listing_of (done 0 0) (final_state (program_of (text_frames bs)) cs)
      (check_line Accepted ++ lines ++ last_line (used_of (program_of (text_frames bs)) cs)) out

-- 'The choices that `run` uses on an accepted file are such a list too': for all bytes of
-- choices.txt that are well-formed, and lent buffers of the right lengths
abbrev pub AcceptedListingSafe : Type 0
AcceptedListingSafe =
    (bs : List ℕ) → HasVerdict bs Accepted
    → (bytes cs : List ℕ) → length bytes ≤ most_choice_bytes → choices_from 0 bytes ≡ choices cs
    → (w out : List ℕ) → length w ≡ state_length → length out ≡ most_listing_bytes
    → SafelyListed bs bytes cs w out
