-- In a file that passes refusals 1 to 7, accepted or not, each body has room, so no list,
-- continuation or variable space is ever full from its fresh state on. Assumes nothing.
use mathlib.Core.List.{List}
use Prim.Native.Nat.{ℕ, ◌≤◌}
use lib.ListN.{length}
use Rattle.language.specs.declared.frame.Frame.{Frame}
use Rattle.program.specs.Programs.{Part, no_module, modules_from, program_of}
use Rattle.fields.specs.Fields.{schedulers_of}
use Rattle.layout.specs.Faults.{NoFault}
use Rattle.machine.proofs.Lists.{all_get_d}
use Rattle.machine.proofs.Depth.{deep_fits, BodiesFit}
use Rattle.machine.proofs.NeverFull as Machine
use Rattle.reach.specs.Reached.{NeverFull}
use Rattle.reach.proofs.Laid.{LaidS, laid_deep}
use Rattle.reach.proofs.Modules.{IsPart, parts, some_module, part_types, part_laid}

-- numbers may be of any size here
abbrev pub Any : ℕ → Type 0
Any v = Unit {0}

module _ {fs : List Frame} (fine : NoFault fs) where
  pub laid : (m : Part) → IsPart fs m → LaidS Any (schedulers_of fs) 24 m.body
  laid = part_laid fine Any tt (λ j. tt)

  pub bodies : BodiesFit (program_of fs)
  unfolding program_of
  bodies m l =
      let h = all_get_d (IsPart fs) (modules_from fs 0 fs) no_module m (parts fs) l in
      deep_fits _ _ (laid_deep (laid _ h)) (part_types fine _ h)

  has_module : 1 ≤ length (program_of fs).modules
  unfolding program_of
  has_module = some_module fine

pub never_full : NeverFull
never_full bs fs p cs c =
    Machine.never_full (program_of fs) (bodies p.layout) (has_module p.layout) cs c
