-- `shared_type` meets its contract.
use Rattle.std.proofs.Common.{ap, ◌∙◌}
use Rattle.std.specs.Option.{unwrap_or}
use Rattle.program.proofs.SharedTypeLaws.{type_there}
use Rattle.program.proofs.shared.shared_type.Goals as goal

pub returns : goal.returns
returns c =
    let there = type_there c.args.f _ _ _ c.requires.0 c.requires.1 c.known.ensures c.from.ensures c.cell_type.ensures in
    c.unwrap_or.ensures ∙ ap (λ y. unwrap_or y 0) there
