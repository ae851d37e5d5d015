-- `cells_in_range` meets its contract.
use Rattle.std.proofs.Common.{ℕ, arith, refl, get_or, ◌+◌, ◌-◌}
use Rattle.ranges.proofs.BlockLaws.{cells_there, cells_wrong}
use Rattle.ranges.proofs.range.cells_in_range.Goals as goal

pub returns-then-are_cells : goal.returns-then-are_cells
returns-then-are_cells c =
    let n : ℕ = get_or c.args.state.now 1 0 in
    cells_there _ (4578 + n - 4578) (4834 - (4578 + n)) (4578 + n) c.args.state.now c.told-state c.requires (omega arith) (omega arith) refl
    _ _ c.are_cells.ensures c.if-are_cells.true c.are_zeros.ensures

pub returns-else-are_cells : goal.returns-else-are_cells
returns-else-are_cells c =
    let n : ℕ = get_or c.args.state.now 1 0 in
    cells_wrong _ (4578 + n - 4578) (256 - n) (4578 + n) c.args.state.now c.told-state c.requires (omega arith) refl refl
    _ c.are_cells.ensures c.if-are_cells.false
