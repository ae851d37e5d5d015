-- Every file that passes refusals 4 to 7 and keeps the rules is typed, as demand 3's proof needs
-- it. Assumes nothing.
use mathlib.Core.Path.{refl}
use mathlib.Core.List.{List, [], map}
use Prim.Native.Nat.{ℕ, ◌<◌}
use native.Mathlib.Omega.{arith}
use lib.ListN.{length, get_or, length-map}
use Rattle.language.specs.declared.frame.Frame.{Frame}
use Rattle.language.proofs.PlaceLaws.{test_bounds, has_scheduler_lem}
use Rattle.program.specs.Programs.{modules_from, shared_of, events_of, program_of}
use Rattle.fields.specs.Fields.{schedulers_of}
use Rattle.layout.specs.Faults.{NoFault}
use Rattle.layout.proofs.Events.{event_owners}
use Rattle.rules.specs.Rules.{setting_of, Keeps}
use Rattle.machine.specs.Fresh.{fresh}
use Rattle.machine.proofs.Lists.{all_imply}
use Rattle.reach.proofs.Cells.{CellsFine, shared_fine}
use Rattle.reach.proofs.Modules.{parts, main_plain, some_module}
use Rattle.reach.proofs.NeverFull.{Any, laid, bodies}
use Rattle.safety.proofs.Places.{EventIs, main_typed}
use Rattle.safety.proofs.SharedCells.{typing_of, all_well, shared_is, shared_owners}
use Rattle.safety.proofs.SharedCells.{first_good}
use Rattle.safety.proofs.Demand3.{Typed}

module _ {fs : List Frame} (fine : NoFault fs) where
  cells : CellsFine Any (schedulers_of fs) [] (shared_of fs)
  cells = shared_fine Any fine (λ j. tt)

  -- 'K 03 declares an event with owner S, a scheduler'
  events : (s : ℕ) → s < length (events_of fs) → EventIs (program_of fs) (events_of fs) s
  unfolding program_of
  events s l =
      let o = get_or (events_of fs) s 0 in
      let (a, b) = test_bounds 2 o (has_scheduler_lem (schedulers_of fs) o (event_owners fs fine s l)).0 in
      record { there = l; same = refl; low = a; high = b }

  -- every file that passes refusals 4 to 7 and keeps the rules is typed
  pub typed : Keeps (program_of fs) → Typed (program_of fs)
  unfolding program_of fresh
  typed rules =
      let wells = all_well cells in
      let xs = shared_of fs in
      record {
        sh = map typing_of xs;
        count = length-map xs typing_of;
        owners = shared_owners xs wells;
        first = first_good xs cells;
        some = some_module fine;
        main = main_typed (program_of fs) (map typing_of xs) (setting_of (program_of fs)) Any (schedulers_of fs) (shared_is xs wells) events refl [] (modules_from fs 0 fs) refl refl
            (λ s l. absurd (omega arith)) (all_imply (laid fine) (parts fs)) (main_plain fine) rules;
        bodies = bodies fine;
      }
