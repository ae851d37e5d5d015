-- How high the tree at a frame is. No reader has to believe it: it is what the laws and the writer's
-- recursion go by. Assumes nothing: definitions.
use Rattle.std.specs.Prelude.{List, ℕ, suc}
use Rattle.basics.specs.Members.{In}
use Rattle.language.specs.Kinds.{Child, children}
use Rattle.language.specs.declared.frame.Frame.{Frame}
use Rattle.program.specs.Trees.{frame_at}

-- `Within fs d i`: the tree at frame i is at most d frames high
pub data Within (fs : List Frame) : ℕ → ℕ → Type 0 where
  within : {d i : ℕ} → ((c : Child) → In c (children (frame_at fs i)) → Within fs d c.at)
      → Within fs (suc d) i
