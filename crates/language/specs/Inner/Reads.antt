-- What constructors answer, and what a frame is asked for whose S is read as a place. Assumes
-- nothing: definitions.
use Rattle.std.specs.Prelude.{Bool, ◌&&◌, true, ℕ, ◌≡◌, if◌then◌else◌, Option, Some, None, Result, Ok, Err}
use Rattle.basics.specs.If.{when◌then◌else◌}
use Rattle.language.specs.Places.{is_place}
use Rattle.language.specs.declared.Place.{Place}
use Rattle.language.specs.declared.NoPlace.{NoPlace}
use Rattle.language.specs.declared.kind.Use.{Use}
use Rattle.language.specs.declared.frame.Frame.{Frame}
use Rattle.language.specs.Types.{cell_type, room_around}
use Rattle.language.specs.Kinds.{uses}

-- what a number that is read as a place gives
abbrev pub ReadsPlace : ℕ → Result Place NoPlace → Type 0
ReadsPlace n r = r ≡ (if is_place n then Ok (record { number = n }) else Err (record { number = n }))

-- the place of the number n, where it passes the test
unfoldable pub place_read : Bool → ℕ → Option Place
place_read test n = if test then Some (record { number = n }) else None

-- what the constructor of a cell's type answers
unfoldable pub cell_read : ℕ → ℕ → Option ℕ
cell_read o t = when is_place o && room_around t then Some (cell_type o t) else None

-- where S is to name a place, it names one: 5 refuses any other frame
abbrev pub NamesPlace : Frame → Type 0
NamesPlace f = (uses f.kind).s ≡ Use.Place → is_place f.s ≡ true
