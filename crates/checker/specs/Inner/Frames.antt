-- What the check of a laid-out file asks of the frames that it is lent. Assumes nothing: a
-- definition.
use Rattle.std.specs.Prelude.{List, ℕ, ◌<◌, ◌≤◌, length}
use Rattle.language.specs.Limits.{most_lines}
use Rattle.text.specs.Frames.{frames_of}
use Rattle.layout.specs.Faults.{NoFault}

-- the words are the frames of a file that passes refusals 4 to 7, one at least and at most 1,024
-- of them
pub record FileIn (words : List ℕ) : Type 0 where
  pub laid_out : NoFault (frames_of words)
  pub some : 0 < length words
  pub few : length words ≤ most_lines
