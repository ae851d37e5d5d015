-- What the counts of uses hold. No reader has to believe it: proofs/ ties it to the definitions.
-- Assumes nothing: definitions.
use Rattle.std.specs.Prelude.{◌≡◌, ◌&&◌, List, [], ◌∷◌, ℕ, suc, min, ◌<◌, ltb, get_or, set}
use Rattle.basics.specs.If.{when◌then◌else◌}
use Rattle.language.specs.Kinds.{children}
use Rattle.language.specs.Limits.{most_lines}
use Rattle.language.specs.declared.frame.Frame.{Frame}
use Rattle.program.specs.Inner.Children.{over_children}
use Rattle.layout.specs.Uses.{used}

-- one more use of v, 2 standing for more
unfoldable pub counted : List ℕ → ℕ → List ℕ
counted u v =
    when ltb v most_lines && ltb (get_or u v 0) 2 then set u v (suc (get_or u v 0)) else u

-- of each child of each frame
unfoldable pub counted_in : List ℕ → List Frame → List ℕ
counted_in u [] = u
counted_in u (f ∷ fs) = counted_in (over_children counted u (children f)) fs

-- the array says of each frame of fs how often it is used, 2 standing for more
abbrev pub CountsUses : List Frame → List ℕ → Type 0
CountsUses fs u = (j : ℕ) → j < most_lines → get_or u j 0 ≡ min 2 (used j fs)
