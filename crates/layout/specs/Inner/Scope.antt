-- Variables in scope: 'the whole tree is at most 24 deep, so at most 25 variables are in scope'. A
-- recursion over frames keeps `Room`, and proofs/Scopes shows how it goes on. Assumes nothing: a
-- definition.
use Rattle.std.specs.Prelude.{List, ℕ, suc, ◌≤◌}
use Rattle.language.specs.declared.frame.Frame.{Frame}
use Rattle.layout.specs.Depths.{Depth}

-- frame i stands in the tree of a module, deep enough for n variables in scope: two parameters at
-- the depth 1, and one let more for each step down
pub record Room (fs : List Frame) (i n : ℕ) : Type 0 where
  pub depth : ℕ
  pub stands : Depth fs i depth
  pub enough : n ≤ suc depth
