-- The fresh state of a program.
use Rattle.std.specs.Prelude.{◌∷◌, ◌-◌}
use Rattle.basics.specs.Prelude.{[], map, false, length, replicate}
use Rattle.language.specs.Places.{home}
use Rattle.program.specs.Programs.{Program, SharedCell, main_of}
use Rattle.machine.specs.Values.{first_content}
use Rattle.machine.specs.State.{State, Thread, Stored, Scheduler, run, no_scheduler}

-- 'each shared cell its first content'
abbrev pub first_cell : SharedCell → Stored
first_cell x = record { owner = x.owner; content = first_content x.content x.first }

-- '`main` active at 2, its pile holding its body'; '`main` is 1'
abbrev pub main_thread : Program → Thread
main_thread p =
    let items = run (main_of p).body ∷ [] in
    record { place = home; continuation = items; variables = []; starter = 0; ended = false }

abbrev pub home_scheduler : Scheduler
home_scheduler = record { active = 1 ∷ []; next = [] }

unfoldable pub fresh : Program → State
fresh p =
    let others = replicate (p.schedulers - 1) no_scheduler in
    record {
      threads = main_thread p ∷ [];
      schedulers = home_scheduler ∷ others;
      cells = map first_cell p.shared;
      present = replicate (length p.events) false;
    }
