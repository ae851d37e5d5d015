-- 'Digits are read through a table of 256 numbers, one for each byte: the digit's value, or 255.'
-- 02, change 6: 'Read digits by formula. The table's rule, and all that stands on it, holds
-- unchanged.'
use Rattle.std.specs.Prelude.{◌+◌, ◌-◌}
use Rattle.basics.specs.Prelude.{ℕ, ltb, when◌then◌else◌}

-- the value of a byte that is one of 0-9, A-F, or 255
unfoldable pub digit : ℕ → ℕ
digit b =
    when ltb b 48 then 255 else
    when ltb b 58 then b - 48 else
    when ltb b 65 then 255 else
    when ltb b 71 then b - 55 else 255

-- and back: the byte of a digit of value n, 0 to 15
unfoldable pub digit_byte : ℕ → ℕ
digit_byte n = when ltb n 10 then 48 + n else 55 + n

-- 'then a line feed (byte 10)'
abbrev pub line_feed : ℕ
line_feed = 10
