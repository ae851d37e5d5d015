-- Refusals 1 to 3. 'One frame a line: 16 digits from 0-9, A-F, then a line feed (byte 10). At most
-- 1,024 lines.'
use Rattle.std.specs.Prelude.{◌/◌, ◌%◌, ◌≤◌, ◌<◌}
use Rattle.basics.specs.Prelude.{List, [], Bool, false, ℕ, ltb, eqb, length}
use Rattle.std.specs.Prelude.{◌≡◌, ◌⊎◌}
use Rattle.basics.specs.Prelude.{get_or, when◌then◌else◌}
use Rattle.language.specs.{declared.frame.Frame.Frame, Limits.line_length, Limits.most_bytes}
use Rattle.language.specs.declared.refusal.Rule.{Rule}
use Rattle.language.specs.declared.refusal.Rule.TheVariants.{EmptyText, LongText, MalformedText}
use Rattle.text.specs.{Digits.digit, Digits.line_feed, Frames.text_frames}

-- byte b is right at the position p of a text
unfoldable pub right_at : ℕ → ℕ → Bool
right_at p b = when eqb (p % line_length) 16 then eqb b line_feed else ltb (digit b) 16

-- at the position p there is a wrong byte, or the text ends where a byte is missing
abbrev pub WrongAt : List ℕ → ℕ → Type 0
WrongAt bs p =
    ((p < length bs) × (right_at p (get_or bs p 0) ≡ false))
    ⊎ ((p ≡ length bs) × (p % line_length ≡ 0 → ⊥))

-- what a text reads as: its frames, or the rule that is broken and its frame
pub data Reading : Type 0 where
  frames : List Frame → Reading
  refused : Rule → ℕ → Reading

-- `Reads bs r`: '1 empty text; 2 over 17,408 bytes; 3 not such lines (frame: position of the first
-- wrong or missing byte, divided by 17). For 1 and 2 the frame is 0.' The numbers are tried in
-- order, so 2 hides every 3
pub data Reads : List ℕ → Reading → Type 0 where
  empty : Reads [] (refused EmptyText 0)
  over : {bs : List ℕ} → most_bytes < length bs → Reads bs (refused LongText 0)
  wrong : {bs : List ℕ} {p : ℕ} → 0 < length bs → length bs ≤ most_bytes
      → WrongAt bs p → ((q : ℕ) → WrongAt bs q → p ≤ q)
      → Reads bs (refused MalformedText (p / line_length))
  whole : {bs : List ℕ} → 0 < length bs → length bs ≤ most_bytes → ((q : ℕ) → WrongAt bs q → ⊥)
      → Reads bs (frames (text_frames bs))
