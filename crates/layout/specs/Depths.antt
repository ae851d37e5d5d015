-- Refusal 7: the depth of frames.
use Rattle.std.specs.Prelude.{◌<◌, ◌≡◌}
use Rattle.basics.specs.Prelude.{List, ℕ, suc, length, In}
use Rattle.language.specs.{Kinds.Child, Kinds.children, declared.kind.Kind.TheVariants.Module}
use Rattle.language.specs.{declared.frame.Frame.Frame}
use Rattle.program.specs.Trees.{frame_at}

-- `Depth fs i d`: frame i stands at the depth d. 'A body stands at depth 1, a child one deeper'
pub data Depth (fs : List Frame) : ℕ → ℕ → Type 0 where
  body : {i : ℕ} → i < length fs → (frame_at fs i).kind ≡ Module → Depth fs (frame_at fs i).a 1
  child : {i d : ℕ} {c : Child}
      → Depth fs i d → In c (children (frame_at fs i)) → Depth fs c.at (suc d)
