-- What the code's scans of the shared cells find, and what a laid-out file makes of them. No reader
-- has to believe it: proofs/SharedLaws and proofs/SharedTypeLaws tie it to the definitions. Assumes
-- nothing: definitions.
use Rattle.std.specs.Prelude.{◌≡◌, true, false, List, [], ◌∷◌, ◌++◌, ℕ, suc, ◌-◌, ◌<◌, ◌≤◌, length, replicate}
use Rattle.basics.specs.If.{when◌then◌else◌}
use Rattle.language.specs.Kinds.{is_shared}
use Rattle.language.specs.Limits.{most_shared}
use Rattle.language.specs.Places.{is_place}
use Rattle.language.specs.Types.{room_around}
use Rattle.language.specs.declared.frame.Frame.{Frame}
use Rattle.program.specs.Trees.{frame_at}
use Rattle.program.specs.Programs.{shared_of, cells_of}
use Rattle.program.specs.declared.shared.SharedTypes.{SharedTypes}

-- the first shared cell among the frames from frame i on; the frame after them where there is none
unfoldable pub next_shared : ℕ → List Frame → ℕ
next_shared i [] = i
next_shared i (f ∷ fs) = when is_shared f.kind then i else next_shared (suc i) fs

-- types in an array of 16
abbrev pub padded_types : List ℕ → List ℕ
padded_types ts = ts ++ replicate (most_shared - length ts) 0

-- the types of the shared cells among the frames
unfoldable pub shared_types : List Frame → SharedTypes
shared_types fs = record { count = length (cells_of fs); types = padded_types (cells_of fs) }

-- the shared cells stand right after frame 0, there are at most 16, and each has a type
pub record SharedFirst (fs : List Frame) : Type 0 where
  pub header : is_shared (frame_at fs 0).kind ≡ false
  pub together : (i j : ℕ) → 0 < i → i < j → j < length fs
      → is_shared (frame_at fs j).kind ≡ true → is_shared (frame_at fs i).kind ≡ true
  pub few : length (shared_of fs) ≤ most_shared
  pub owner : (i : ℕ) → i < length fs → is_shared (frame_at fs i).kind ≡ true
      → is_place (frame_at fs i).s ≡ true
  pub content : (i : ℕ) → i < length fs → is_shared (frame_at fs i).kind ≡ true
      → room_around (frame_at fs i).a ≡ true
