-- A module as the code finds it. No reader has to believe it: crate stepper shows that a turn
-- committed is the step of the rules. Assumes nothing: definitions.
use Rattle.std.specs.Prelude.{ℕ, min, length, List, Option, option_map, slice_get}
use Rattle.basics.specs.If.{keep_if}
use Rattle.language.specs.Kinds.{is_module}
use Rattle.language.specs.declared.frame.Frame.{Frame}
use Rattle.language.specs.declared.kind.Kind.{Kind}
use Rattle.language.specs.Limits.{most_parameters}
use Rattle.program.specs.Trees.{root_s}
use Rattle.program.specs.Programs.{Part, Program, part_of}
use Rattle.program.specs.declared.module.Module.{Module}

-- the first s of two types
abbrev pub parameters_in : ℕ → ℕ
parameters_in s = min s most_parameters

-- what the code keeps of a module
abbrev pub module_of : Part → Module
module_of p = record { parameters = length p.types; body = root_s p.body }

-- module m, if there is such a module
unfoldable pub found_in : Program → ℕ → Option Module
found_in p m = option_map module_of (slice_get p.modules m)

-- the parts with that of frame f in front, if its kind, k, is a module
abbrev pub with_part : List Frame → ℕ → Frame → Kind → List Part → List Part
with_part fs i f k ps = keep_if (is_module k) (part_of fs i f) ps
