-- Type words. 'The last of four digits is 1 (number) or 2 (truth). Each digit to its left is the
-- owner of a cell around what stands to its right; 0 only fills on the left.'
use Rattle.std.specs.Prelude.{◌&&◌, ◌||◌, ◌+◌, ◌*◌, ◌/◌, ◌%◌, ◌^◌}
use Rattle.basics.specs.Prelude.{Bool, not, ℕ, suc, ltb, leb}
use Rattle.basics.specs.Prelude.{eqb, when◌then◌else◌}
use Rattle.language.specs.Places.{private, has_place}

abbrev pub number_type : ℕ
number_type = 0x0001

abbrev pub truth_type : ℕ
truth_type = 0x0002

-- how many cells deep a type is: the digits to the left of the last
unfoldable pub cell_depth : ℕ → ℕ
cell_depth t = when ltb t 0x0010 then 0 else when ltb t 0x0100 then 1 else when ltb t 0x1000 then 2 else 3

-- it is a cell's type
abbrev pub is_cell : ℕ → Bool
is_cell t = leb 0x0010 t

-- a cell of owner o around what is of type t
unfoldable pub cell_type : ℕ → ℕ → ℕ
cell_type o t = o * 16 ^ suc (cell_depth t) + t

-- of a cell's type: the outermost owner (0 where it is no cell's), and the type of its content
unfoldable pub owner_of : ℕ → ℕ
owner_of t = when is_cell t then t / 16 ^ cell_depth t else 0

unfoldable pub content_of : ℕ → ℕ
content_of t = t % 16 ^ cell_depth t

-- '24 adds a cell around its content; at most three': there is room for one more
abbrev pub room_around : ℕ → Bool
room_around t = ltb t 0x1000

-- 'Public: the outermost owner isn't 1.'
unfoldable pub public : ℕ → Bool
public t = not (eqb (owner_of t) private)

-- the digit k of a word, from the right
abbrev pub digit_of : ℕ → ℕ → ℕ
digit_of k t = t / 16 ^ k % 16

-- o may be an owner's digit, with `left` to its left, in a file of b schedulers: '0 only fills on
-- the left', 'A digit 1 (as owner) has only 1 or 0 to its left.'
unfoldable pub owner_digit : ℕ → ℕ → ℕ → Bool
owner_digit b left o =
    when eqb o 0 then eqb left 0 else has_place b o && (not (eqb o private) || leb left private)

-- t is a type word in a file of b schedulers
unfoldable pub type_word : ℕ → ℕ → Bool
type_word b t =
    (eqb (digit_of 0 t) number_type || eqb (digit_of 0 t) truth_type)
    && owner_digit b (digit_of 2 t) (digit_of 1 t)
    && owner_digit b (digit_of 3 t) (digit_of 2 t)
    && owner_digit b 0 (digit_of 3 t)

-- 'A shared cell's content type is public, at most two cells deep.'
unfoldable pub content_word : ℕ → ℕ → Bool
content_word b t = type_word b t && public t && leb (cell_depth t) 2
