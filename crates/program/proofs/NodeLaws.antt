-- The children of a frame of a known kind. Assumes nothing.
use mathlib.Core.Path.{◌≡◌, ap}
use mathlib.Core.List.{List, ◌++◌}
use Rattle.language.specs.Kinds.{uses, Child, child_in, children}
use Rattle.language.specs.declared.kind.Kind.{Kind}
use Rattle.language.specs.declared.frame.Frame.{Frame}

abbrev pub children_as : Kind → Frame → List Child
children_as k f =
    child_in (uses k).a f.a ++ child_in (uses k).b f.b ++ child_in (uses k).c f.c

pub children_as_lem : (f : Frame) (k : Kind) → f.kind ≡ k → children f ≡ children_as k f
unfolding children
children_as_lem f k e = ap (λ (m : Kind). children_as m f) e
