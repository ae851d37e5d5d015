-- What the recursions over frames need of a file, and every file has that passes refusals 5 and 6.
-- Assumes nothing: definitions.
use Rattle.std.specs.Prelude.{List, ℕ, ◌<◌, length}
use Rattle.basics.specs.Members.{All}
use Rattle.language.specs.Inner.Reads.{NamesPlace}
use Rattle.language.specs.Kinds.{Child, children}
use Rattle.language.specs.declared.frame.Frame.{Frame}
use Rattle.program.specs.Trees.{frame_at}

-- 'child-before-parent order': the number of each child of each frame is below the frame's
abbrev pub Ordered : List Frame → Type 0
Ordered fs = (i : ℕ) → i < length fs → All (λ (c : Child). c.at < i) (children (frame_at fs i))

-- 5 refuses 'a place that the file lacks': each S that is to name a place names one
abbrev pub Placed : List Frame → Type 0
Placed fs = (i : ℕ) → i < length fs → NamesPlace (frame_at fs i)
