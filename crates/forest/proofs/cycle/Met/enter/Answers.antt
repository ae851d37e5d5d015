-- `enter` meets its contract.
use Rattle.forest.proofs.CycleWalk.{place_free, place_scales, next_fits, enter_laws}
use Rattle.forest.proofs.cycle.Met.enter.Goals.{then-j-i-via-then-j-i}
use Rattle.forest.proofs.cycle.Met.enter.Goals.{then-j-i-via-else-j-i+then-n-j}
use Rattle.forest.proofs.cycle.Met.enter.Goals.{then-j-i-via-else-j-i+else-n-j+then-is_marked}
use Rattle.forest.proofs.cycle.Met.enter.Goals as goal

pub returns-then-j-i : goal.returns-then-j-i
returns-then-j-i c =
    elim c.then-j-i.branch [
      | then-j-i-via-then-j-i w ↦ search enter_laws
      | then-j-i-via-else-j-i+then-n-j w ↦ search enter_laws
      | then-j-i-via-else-j-i+else-n-j+then-is_marked w ↦ search enter_laws
    ]

pub offset_bounds-self-self : goal.offset_bounds-self-self
offset_bounds-self-self c = record { fits = search place_scales }

pub bounds-self-self : goal.bounds-self-self
bounds-self-self c = search place_free

pub overflow_add-self : goal.overflow_add-self
overflow_add-self c = record { fits = search next_fits }

pub returns : goal.returns
returns c = search enter_laws
