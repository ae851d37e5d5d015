-- What the search for a frame too deep holds. No reader has to believe it: proofs/ ties it to the
-- definitions. Assumes nothing: definitions.
use Rattle.std.specs.Prelude.{Bool, true, false, List, [], ◌∷◌, ℕ, zero, suc, ◌<◌, ◌≤◌, ltb, get_or, set, replicate}
use Rattle.basics.specs.If.{when◌then◌else◌}
use Rattle.language.specs.Kinds.{children}
use Rattle.language.specs.Limits.{most_lines}
use Rattle.language.specs.declared.frame.Frame.{Frame}
use Rattle.program.specs.Inner.Children.{over_children}

-- for each frame the number of the frame that has it as a child, plus 1; 0 where none has. Here
-- that of v becomes n
unfoldable pub with_user : ℕ → List ℕ → ℕ → List ℕ
with_user n u v = when ltb v most_lines then set u v n else u

-- the list of frames stands from i on
unfoldable pub users_from : List ℕ → ℕ → List Frame → List ℕ
users_from u i [] = u
users_from u i (f ∷ fs) =
    users_from (over_children (with_user (suc i)) u (children f)) (suc i) fs

unfoldable pub users_of : List Frame → List ℕ
users_of fs = users_from (replicate most_lines 0) 0 fs

-- from frame j one can climb n times from a frame to its user
unfoldable pub climbs : List ℕ → ℕ → ℕ → Bool
climbs u zero j = true
climbs u (suc n) j = elim (get_or u j 0) [ zero ↦ false | suc i ↦ climbs u n i ]

-- no user is after the last frame that there can be
abbrev pub UsersInside : List ℕ → Type 0
UsersInside u = (j : ℕ) → j < most_lines → get_or u j 0 ≤ most_lines
