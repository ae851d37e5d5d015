-- A module as the code finds it, and as the program has it. Assumes nothing.
use Prim.Native.Nat.{ℕ, zero, suc, ◌<◌, ◌≤◌}
use mathlib.Core.Path.{◌≡◌, refl, sym, ap, ap₂, ◌∙◌}
use mathlib.Core.List.{List, [], ◌∷◌, map}
use native.Mathlib.Omega.{arith}
use lib.Dec.{ltb}
use Rattle.basics.specs.If.{keep_if}
use lib.ListN.{length, take}
use Rattle.std.specs.Prelude.{Option, Some, None, option_map, slice_get, is_some, min}
use Rattle.std.proofs.lemmas.Option.{slice_get-map, slice_get_past, slice_get-get_or}
use Rattle.language.specs.Kinds.{is_module}
use Rattle.language.specs.declared.frame.Frame.{Frame}
use Rattle.program.specs.Programs.{Part, Program, part_of, modules_from, program_of, module_at}
use Rattle.program.specs.Programs.{no_module}
use Rattle.program.specs.Inner.Modules.{parameters_in, module_of, found_in}
use Rattle.program.specs.Inner.Numbered.{numbered_of, numbered_in}
use Rattle.program.specs.declared.module.Module.{Module as Found}
use Rattle.program.specs.declared.numbered.Numbered.TheVariants.{Module}
use Rattle.program.proofs.Roots.{statement_root}
use Rattle.program.proofs.NumberedLaws.{keep_map, slice_get-is_some}

-- two types at most
types_length : (s b c : ℕ) → min s 2 ≡ length (take s (b ∷ c ∷ []))
types_length zero b c = omega arith
types_length (suc zero) b c = omega arith
types_length (suc (suc zero)) b c = omega arith
types_length (suc (suc (suc s))) b c = omega arith

-- ---- `module_at`: what is kept of the frame that was found

abbrev of_frame : Frame → Found
of_frame f = record { parameters = length (take f.s (f.b ∷ f.c ∷ [])); body = f.a }

modules_are : (fs : List Frame) (i : ℕ) (rest : List Frame)
    → map module_of (modules_from fs i rest) ≡ map of_frame (numbered_of Module rest)
unfolding modules_from numbered_of
modules_are fs i [] = refl
modules_are fs i (f ∷ rest) =
    sym (keep_map module_of (is_module f.kind) (part_of fs i f) (modules_from fs (suc i) rest))
    ∙ ap (λ (n : ℕ). keep_if (is_module f.kind) (record { parameters = (of_frame f).parameters; body = n }) (map module_of (modules_from fs (suc i) rest))) (statement_root fs f.a)
    ∙ ap (keep_if (is_module f.kind) (of_frame f)) (modules_are fs (suc i) rest)
    ∙ keep_map of_frame (is_module f.kind) f (numbered_of Module rest)

module_is : (fs : List Frame) (m : ℕ)
    → option_map of_frame (numbered_in Module fs m) ≡ found_in (program_of fs) m
unfolding found_in program_of
module_is fs m =
    sym (slice_get-map of_frame (numbered_of Module fs) m)
    ∙ ap (λ (ms : List Found). slice_get ms m) (sym (modules_are fs 0 fs))
    ∙ slice_get-map module_of (modules_from fs 0 fs) m

module _ (fs : List Frame) (m : ℕ) (x : Option Frame) (q : x ≡ numbered_in Module fs m) where
  pub module_there : (f : Frame) → x ≡ Some f → (r n : ℕ) → r ≡ parameters_in f.s → n ≡ f.a
      → Some (record { parameters = r; body = n }) ≡ found_in (program_of fs) m
  module_there f h r n u v =
      ap₂ (λ (p b : ℕ). Some (record { parameters = p; body = b })) (u ∙ types_length f.s f.b f.c) v
      ∙ ap (option_map of_frame) (sym h ∙ q) ∙ module_is fs m

  pub module_nowhere : (r : Option Found) → r ≡ None → x ≡ None → r ≡ found_in (program_of fs) m
  module_nowhere r z h = z ∙ ap (option_map of_frame) (sym h ∙ q) ∙ module_is fs m

-- ---- what was found, by the program's list of modules
module _ (p : Program) (m : ℕ) where
  pub module_found : m < length p.modules → found_in p m ≡ Some (module_of (module_at p m))
  unfolding found_in
  module_found h = ap (option_map module_of) (slice_get-get_or p.modules m no_module h)

  pub module_missing : length p.modules ≤ m → found_in p m ≡ None
  unfolding found_in
  module_missing h = ap (option_map module_of) (slice_get_past p.modules m h)

  pub module_is_there : is_some (found_in p m) ≡ ltb m (length p.modules)
  unfolding found_in
  module_is_there = mapped (slice_get p.modules m) ∙ slice_get-is_some p.modules m
    where
      mapped : (o : Option Part) → is_some (option_map module_of o) ≡ is_some o
      mapped None = refl
      mapped (Some x) = refl
