-- What refusals 1 to 3 leave of a file: at most 1,024 frames, whose fields A and B, being of four
-- digits, are numbers that a value can hold. Assumes nothing.
use mathlib.Core.List.{List, [], ◌∷◌, map}
use Prim.Native.Nat.{ℕ, zero, suc, ◌/◌, ◌^◌, ◌≤◌, ◌<◌}
use native.Mathlib.Omega.{arith}
use lib.ListN.{length, get_or}
use Rattle.language.specs.declared.frame.Frame.{Frame}
use Rattle.text.specs.Frames.{frame_of_word, words_of, text_frames}
use Rattle.text.specs.Reading.{Reading, frames, refused, Reads}
use Rattle.text.proofs.ReadLaws.{length_frames}
use Rattle.program.specs.Trees.{frame_at, no_frame}

pub record Sized (fs : List Frame) : Type 0 where
  pub few : length fs ≤ 1024
  pub a : (j : ℕ) → (frame_at fs j).a < 2 ^ 32
  pub b : (j : ℕ) → (frame_at fs j).b < 2 ^ 32

pub fields_small : (ws : List ℕ) (j : ℕ)
    → ((get_or (map frame_of_word ws) j no_frame).a < 2 ^ 32)
    × ((get_or (map frame_of_word ws) j no_frame).b < 2 ^ 32)
unfolding frame_of_word
fields_small [] j = (omega arith, omega arith)
fields_small (w ∷ ws) zero = (omega arith, omega arith)
fields_small (w ∷ ws) (suc j) = fields_small ws j

-- what reading as frames says of them
abbrev SizedOf : Reading → Type 0
SizedOf (frames fs) = Sized fs
SizedOf (refused n j) = Unit {0}

sized_of : {bs : List ℕ} {r : Reading} → Reads bs r → SizedOf r
unfolding text_frames
sized_of Reads.empty = tt
sized_of (Reads.over h) = tt
sized_of (Reads.wrong a b w l) = tt
sized_of (Reads.whole {bs = bs} a b h) =
    let ws = words_of (length bs / 17) bs in
    record { few = (let l = length_frames bs in omega arith); a = λ j. (fields_small ws j).0; b = λ j. (fields_small ws j).1 }

pub sized : {bs : List ℕ} {fs : List Frame} → Reads bs (frames fs) → Sized fs
sized r = sized_of r
