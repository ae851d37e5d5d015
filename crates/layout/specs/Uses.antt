-- How often a frame is used as a child: a count for 6, where a statement or an expression is not
-- used at all, and for the writer's 21.
use Rattle.std.specs.Prelude.{◌∷◌, ◌+◌}
use Rattle.basics.specs.Prelude.{List, [], ℕ, eqb, when◌then◌else◌}
use Rattle.language.specs.{Kinds.Child, Kinds.children, declared.frame.Frame.Frame}

-- how often frame j is among the children; and how often in the file: 'a frame used twice' counts
-- fields, of one frame or of two
unfoldable pub times : ℕ → List Child → ℕ
times j [] = 0
times j (c ∷ cs) = (when eqb c.at j then 1 else 0) + times j cs

unfoldable pub used : ℕ → List Frame → ℕ
used j [] = 0
used j (f ∷ fs) = times j (children f) + used j fs
