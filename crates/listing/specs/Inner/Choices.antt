-- choices.txt as `run` takes it: judged whole, then read a choice at a time. Assumes nothing:
-- definitions.
use Rattle.std.specs.Prelude.{Result, Ok, Err}
use Rattle.std.specs.Prelude.{Bool, ◌&&◌, List, ℕ, ◌+◌, ◌*◌, ◌/◌, ◌%◌, ltb, leb, eqb, length, get_or}
use Rattle.basics.specs.If.{when◌then◌else◌}
use Rattle.language.specs.Limits.{most_choice_bytes}
use Rattle.text.specs.Digits.{digit, line_feed}
use Rattle.machine.specs.Inner.Ranges.{all_below}
use Rattle.listing.specs.Listing.{Choices, choices, malformed, choices_from}
use Rattle.listing.specs.Listing.{is_choice}
use Rattle.language.specs.Verdicts.{refusal}
use Rattle.language.specs.declared.refusal.Refusal.{Refusal}
use Rattle.language.specs.declared.refusal.Rule.TheVariants.{LongText, MalformedText}

-- how many choices there are, or the line of 'the first malformed one'
abbrev pub count_read : Choices → Result ℕ Refusal
count_read (choices cs) = Ok (length cs)
count_read (malformed k) = Err (refusal MalformedText k)

-- what is known of the bytes before any step: 'over 49,152 bytes prints `02 0000`, else the first
-- malformed one `03` and its line'
unfoldable pub judged : List ℕ → Result ℕ Refusal
judged bytes =
    when ltb most_choice_bytes (length bytes)
    then Err (refusal LongText 0)
    else count_read (choices_from 0 bytes)

-- two digits and a line feed
abbrev pub choice_bytes : ℕ
choice_bytes = 3

-- so many choices are judged at once
abbrev pub block : ℕ
block = 16

-- byte b is right at the position p of choices
unfoldable pub right_byte : ℕ → ℕ → Bool
right_byte p b = when eqb (p % choice_bytes) 2 then eqb b line_feed else ltb (digit b) 16

abbrev pub is_right : List ℕ → ℕ → Bool
is_right bytes p = right_byte p (get_or bytes p 0)

-- whether the bytes begin with so many choices, and with one
unfoldable pub starts_block : List ℕ → Bool
starts_block bytes =
    leb (choice_bytes * block) (length bytes) && all_below (choice_bytes * block) (is_right bytes)

unfoldable pub starts_choice : List ℕ → Bool
starts_choice bytes =
    leb choice_bytes (length bytes) && is_choice (get_or bytes 0 0) (get_or bytes 1 0) (get_or bytes 2 0)

-- how many choices the bytes are seen to begin with
unfoldable pub choices_ahead : List ℕ → ℕ
choices_ahead bytes = when starts_block bytes then block else when starts_choice bytes then 1 else 0

-- the number of the two digits of line k, as a byte; 0 where no such line is whole.
-- proofs/ChoicesAt shows that bytes that are choices have these
unfoldable pub choice_at : List ℕ → ℕ → ℕ
choice_at bytes k =
    when ltb k (length bytes / 3)
    then (16 * digit (get_or bytes (3 * k) 0) + digit (get_or bytes (3 * k + 1) 0)) % 256
    else 0
