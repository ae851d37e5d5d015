-- What the passes of the code hold in their arrays. A reader of the rules can skip this file:
-- proofs/ ties each pass to the definitions of Scans. Assumes nothing: definitions.
use Rattle.std.specs.Prelude.{List, [], ◌∷◌, ℕ, zero, suc, ◌<◌, ◌≤◌, ltb, eqb, length, get_or, set, replicate}
use Rattle.std.specs.Prelude.{Option}
use Rattle.basics.specs.If.{when◌then◌else◌}
use Rattle.basics.specs.Inner.Searches.{lowest}
use Rattle.language.specs.Kinds.{is_module, class_of, children}
use Rattle.language.specs.declared.frame.Frame.{Frame}
use Rattle.language.specs.Limits.{most_lines, most_depth}
use Rattle.program.specs.Trees.{frame_at}
use Rattle.program.specs.Inner.Children.{over_children}
use Rattle.layout.specs.Inner.Scans.{Passed, passed}

-- ---- 6: what an array that says where the tree of each of the i frames passed begins tells of
-- them, from the last to the first
unfoldable pub told : List Frame → List ℕ → ℕ → List Passed
told fs first zero = []
told fs first (suc i) = passed (class_of (frame_at fs i).kind) (get_or first i 0) ∷ told fs first i

-- no tree begins after its root
abbrev pub Backward : List ℕ → ℕ → Type 0
Backward first i = (j : ℕ) → j < i → get_or first j 0 ≤ j

-- ---- 7: the depth of each frame, 0 where it has none, 25 for every depth over 24
unfoldable pub given : Frame → ℕ → ℕ
given f d = when eqb d 0 then (when is_module f.kind then 1 else 0) else when ltb d (suc most_depth) then suc d else suc most_depth

-- at v a depth of at least d
unfoldable pub raised : ℕ → List ℕ → ℕ → List ℕ
raised d u v = when ltb v most_lines then (when ltb (get_or u v 0) d then set u v d else u) else u

-- by the frames below n, from the last to the first
unfoldable pub depths_down : ℕ → List Frame → List ℕ → List ℕ
depths_down zero fs u = u
depths_down (suc n) fs u =
    let d = given (frame_at fs n) (get_or u n 0) in
    depths_down n fs (over_children (raised d) u (children (frame_at fs n)))

-- the lowest frame over whose depth 24 is
unfoldable pub first_over : List Frame → Option ℕ
first_over fs = lowest (λ (i : ℕ) (f : Frame). ltb most_depth (get_or (depths_down (length fs) fs (replicate most_lines 0)) i 0)) 0 fs
