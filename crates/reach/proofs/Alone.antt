-- A file without links that passes refusals 4 to 7 runs as before change 7: its events have
-- schedulers of the file as owners. Assumes nothing.
use mathlib.Core.Path.{◌≡◌}
use mathlib.Core.Bool.{true}
use mathlib.Core.List.{List, [], ◌∷◌}
use Prim.Native.Nat.{ℕ, suc, ◌<◌}
use native.Mathlib.Omega.{arith}
use lib.ListN.{length, get_or}
use Rattle.basics.specs.Members.{All}
use Rattle.language.specs.declared.frame.Frame.{Frame}
use Rattle.program.specs.Programs.{events_of, program_of}
use Rattle.layout.specs.Faults.{NoFault}
use Rattle.layout.proofs.Events.{event_owners}
use Rattle.machine.specs.Turns.{is_scheduler_of}
use Rattle.machine.proofs.Alone.{runs_as_before}
use Rattle.reach.specs.Reached.{AsBefore}

-- what holds of each by number, holds of all
all_numbered : (P : ℕ → Type 0) (xs : List ℕ) → ((k : ℕ) → k < length xs → P (get_or xs k 0))
    → All P xs
all_numbered P [] h = All.none
all_numbered P (x ∷ xs) h =
    All.more (h 0 (omega arith)) (all_numbered P xs (λ k l. h (suc k) (omega arith)))

owners : (fs : List Frame) → NoFault fs
    → All (λ (o : ℕ). is_scheduler_of (program_of fs) o ≡ true) (program_of fs).events
unfolding program_of is_scheduler_of
owners fs fine = all_numbered _ (events_of fs) (event_owners fs fine)

pub alone_files : AsBefore
unfolding program_of
alone_files fs fine alone s c = runs_as_before (program_of fs) alone (owners fs fine) s c
