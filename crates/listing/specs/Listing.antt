-- What `check` and `run` print, as bytes.
use Rattle.std.specs.Prelude.{Result, Ok, Err}
use Rattle.std.specs.Prelude.{◌∷◌, ◌++◌, ◌&&◌, ◌+◌, ◌*◌}
use Rattle.basics.specs.Prelude.{List, [], Bool, true, false, ℕ, zero, suc}
use Rattle.std.specs.Prelude.{◌/◌, ◌%◌}
use Rattle.basics.specs.Prelude.{min, ltb, leb, eqb, length, take}
use Rattle.language.specs.{declared.frame.Frame.Frame, Verdicts.number_of, Verdicts.frame_of}
use Rattle.language.specs.{Verdicts.Verdict}
use Rattle.language.specs.{Verdicts.Accepted}
use Rattle.language.specs.{Limits.most_choice_bytes}
use Rattle.language.specs.{Refusals.long_text, Refusals.malformed_text, Refusals.too_deep}
use Rattle.language.specs.{Refusals.rule_number}
use Rattle.text.specs.Digits.{digit, digit_byte, line_feed}
use Rattle.program.specs.Programs.{Program, program_of}
use Rattle.machine.specs.{State.used_cells, Turns.StepResult, Turns.access_count, Runs.steps}

-- ---- numbers in digits

abbrev pub two_digits : ℕ → List ℕ
two_digits n = digit_byte (n / 16 % 16) ∷ digit_byte (n % 16) ∷ []

abbrev pub four_digits : ℕ → List ℕ
four_digits n = two_digits (n / 256) ++ two_digits n

-- the last k digits of a number; `hex_two` and `hex_four` show that two and four of them are these
abbrev pub hex_digits : ℕ → ℕ → List ℕ
hex_digits zero n = []
hex_digits (suc k) n = hex_digits k (n / 16) ++ digit_byte (n % 16) ∷ []

abbrev space : ℕ
space = 32

-- ---- the check's line

-- 'number and frame (hexadecimal, 2 and 4 digits)'
abbrev pub refusal_line : ℕ → ℕ → List ℕ
refusal_line n i = two_digits n ++ space ∷ four_digits i ++ line_feed ∷ []

-- what `check` prints of a text with that verdict: 'accepted is `00 0000`'
abbrev pub check_line : Verdict → List ℕ
check_line v = refusal_line (number_of v) (frame_of v)

-- the number of a verdict, or its frame, where this is that of what refuses
abbrev pub number_in : {R : Type 0} → (R → ℕ) → Result (Unit {0}) R → ℕ
number_in n (Ok _) = 0
number_in n (Err r) = n r

-- the line, where these are the number and the frame of what refuses; with those of a `Refusal` it
-- is `check_line` (proofs/LineLaws, `verdict_line_lem`)
abbrev pub verdict_line : {R : Type 0} → (R → ℕ) → (R → ℕ) → Result (Unit {0}) R → List ℕ
verdict_line number frame v = refusal_line (number_in number v) (number_in frame v)

-- '`run` prints that line, then after 1 to 7 stops.'
abbrev pub stops : Verdict → Bool
stops v = elim v [ Accepted ↦ false | Err r ↦ leb (rule_number r.rule) too_deep ]

-- ---- choices.txt

-- the choices, or the line of 'the first malformed one'
pub data Choices : Type 0 where
  choices : List ℕ → Choices
  malformed : ℕ → Choices

abbrev pub also_choice : ℕ → Choices → Choices
also_choice c r = elim r [ choices cs ↦ choices (c ∷ cs) | malformed k ↦ malformed k ]

-- 'two digits and a line feed each'
unfoldable pub is_choice : ℕ → ℕ → ℕ → Bool
is_choice a b c = ltb (digit a) 16 && ltb (digit b) 16 && eqb c line_feed

-- what those bytes say, from line k on: 'its line, from 0'
unfoldable pub choices_from : ℕ → List ℕ → Choices
choices_from k [] = choices []
choices_from k (a ∷ []) = malformed k
choices_from k (a ∷ b ∷ []) = malformed k
choices_from k (a ∷ b ∷ c ∷ rest) =
    elim (is_choice a b c)
    [ true ↦ also_choice (16 * digit a + digit b) (choices_from (suc k) rest) | false ↦ malformed k ]

-- ---- the run

-- 'Per choice: choice, answer, acting thread (00 if none ..), cells in use, as 2, 2, 2 and 4
-- hexadecimal digits'; 02, change 4: '`run` prints it as a blank and four more digits after the
-- cells in use'
abbrev pub choice_line_of : ℕ → ℕ → ℕ → ℕ → ℕ → List ℕ
choice_line_of choice answer thread cells accesses =
    two_digits choice ++ space ∷ two_digits answer ++ space ∷ two_digits thread
    ++ space ∷ four_digits cells ++ space ∷ four_digits accesses ++ line_feed ∷ []

unfoldable pub choice_line : ℕ → StepResult → List ℕ
choice_line c r =
    choice_line_of c r.answer r.thread (used_cells r.state.cells) (access_count r)

unfoldable pub choice_lines : List ℕ → List StepResult → List ℕ
choice_lines [] rs = []
choice_lines (c ∷ cs) [] = []
choice_lines (c ∷ cs) (r ∷ rs) = choice_line c r ++ choice_lines cs rs

-- 'choices used, which is the smaller of the list's length and the allowance'
abbrev pub used_of : Program → List ℕ → ℕ
used_of p cs = min (length cs) p.allowance

-- 'Last: choices used', in 4 digits
abbrev pub last_line : ℕ → List ℕ
last_line used = four_digits used ++ line_feed ∷ []

-- a line for each choice used, and the last
unfoldable pub run_lines : Program → List ℕ → List ℕ
run_lines p cs =
    let used = used_of p cs in
    choice_lines (take used cs) (steps p (take used cs)) ++ last_line used

abbrev pub lines_of : Program → Choices → List ℕ
lines_of p r = elim r [ choices cs ↦ run_lines p cs | malformed k ↦ refusal_line malformed_text k ]

-- after the check's line, from the bytes of choices.txt, which are judged whole before any step:
-- 'over 49,152 bytes prints `02 0000`, else the first malformed one `03` and its line'
unfoldable pub choices_listing : Program → List ℕ → List ℕ
choices_listing p bytes =
    elim (ltb most_choice_bytes (length bytes))
    [ true ↦ refusal_line long_text 0 | false ↦ lines_of p (choices_from 0 bytes) ]

-- what `run` prints of a text with that verdict and those frames, and of the bytes of choices.txt
unfoldable pub run_listing : Verdict → List Frame → List ℕ → List ℕ
run_listing v fs bytes =
    check_line v ++ elim (stops v) [ true ↦ [] | false ↦ choices_listing (program_of fs) bytes ]
