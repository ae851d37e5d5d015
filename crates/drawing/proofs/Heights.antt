-- How deep a drawn tree is. Assumes nothing: definitions.
use Prim.Native.Nat.{ℕ, suc, max}
use Rattle.drawing.specs.Drawings.{Drawn, Field, node, kept, child}

unfoldable mutual
  pub height : Drawn → ℕ
  height (node h a b c) = suc (max (height_in a) (max (height_in b) (height_in c)))

  pub height_in : Field → ℕ
  height_in (kept v) = 0
  height_in (child t) = height t
