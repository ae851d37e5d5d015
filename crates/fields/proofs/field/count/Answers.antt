-- `count` meets its contract.
use Rattle.fields.proofs.FramePass.{shared_owner, shared_room, cell_room, module_room}
use Rattle.fields.proofs.FramePass.{counted_laws}
use Rattle.fields.proofs.Tallies.{told_shared, told_module}
use Rattle.fields.proofs.field.count.Goals as goal

pub shared_type-requires : goal.shared_type-requires
shared_type-requires c = (search (shared_owner, told_shared), search (shared_room, told_shared))

pub add_cell-requires : goal.add_cell-requires
add_cell-requires c = search (cell_room, told_shared)

pub add_module-requires : goal.add_module-requires
add_module-requires c = search (module_room, told_module)

pub returns-then-declares : goal.returns-then-declares
returns-then-declares c = search counted_laws

pub returns-then-is_module : goal.returns-then-is_module
returns-then-is_module c = search counted_laws

pub returns-else-is_module : goal.returns-else-is_module
returns-else-is_module c = search counted_laws
