-- The parts of a listing, as the inner functions give them. Assumes nothing: definitions.
use Rattle.std.specs.Prelude.{◌≡◌, List, [], ℕ, ◌+◌, eqb, length, Err}
use Rattle.basics.specs.If.{when◌then◌else◌}
use Rattle.language.specs.Limits.{most_listing_bytes}
use Rattle.language.specs.declared.refusal.Refusal.{Refusal}
use Rattle.text.specs.Frames.{frames_of}
use Rattle.program.specs.Programs.{Program, program_of}
use Rattle.machine.specs.Fresh.{fresh}
use Rattle.machine.specs.Runs.{steps}
use Rattle.machine.specs.Words.{pack}
use Rattle.stepper.specs.declared.file.File.{File}
use Rattle.stepper.specs.Inner.Files.{FileWords, file_of}
use Rattle.stepper.specs.Answers.{done, rejected}
use Rattle.listing.specs.Listing.{check_line, Choices, choices, malformed, choices_from}
use Rattle.listing.specs.Listing.{choice_lines}
use Rattle.runs.specs.Listings.{FinalState, not_run, ListingResult, listing_result, written}
use Rattle.runs.specs.Listings.{listing_of, no_listing}

-- the choices that bytes are; none where they are malformed
abbrev pub choice_list : Choices → List ℕ
choice_list (choices cs) = cs
choice_list (malformed k) = []

unfoldable pub choices_of : List ℕ → List ℕ
choices_of bytes = choice_list (choices_from 0 bytes)

-- the lines of all those choices
unfoldable pub step_lines : Program → List ℕ → List ℕ
step_lines p cs = choice_lines cs (steps p cs)

-- how long the check's line is, and a choice's
abbrev pub check_length : ℕ
check_length = 8

abbrev pub choice_length : ℕ
choice_length = 19

-- what a run starts from: a file that passes refusals 1 to 7, its numbers, its fresh state
pub record RunStart (frames : List ℕ) (file : File) (w : List ℕ) : Type 0 where
  pub laid_out : FileWords frames
  pub numbers : file ≡ file_of (program_of (frames_of frames))
  pub words : w ≡ pack (fresh (program_of (frames_of frames)))

-- after the check's line
abbrev pub listed_after : FinalState → List ℕ → List ℕ → ListingResult
listed_after b listing out =
    listing_result (done 0 0) (check_length + length listing) b.used b.words
    (written out check_length listing)

-- of a text that the refusal stops
unfoldable pub listed_rejected : Refusal → List ℕ → List ℕ → ListingResult
listed_rejected r w out =
    when eqb (length out) most_listing_bytes
    then listing_of (rejected r.rule r.frame) (not_run w) (check_line (Err r)) out
    else no_listing (rejected r.rule r.frame) w out
