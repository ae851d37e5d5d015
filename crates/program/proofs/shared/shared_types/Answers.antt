-- `shared_types` meets its contract.
use borrow.Author.Rules.{rules}
use Rattle.program.proofs.SharedTypeLaws.{collect_start, collect_end}
use Rattle.program.proofs.SharedTypeLaws.{collect_stop, collect_owner, collect_content}
use Rattle.program.proofs.SharedTypeLaws.{collect_few, collect_more}
use Rattle.program.proofs.shared.shared_types.Goals as goal

pub loop-k-init : goal.loop-k-init
loop-k-init c = (search rules, search collect_start)

pub returns-then-not-declares : goal.returns-then-not-declares
returns-then-not-declares c = search collect_stop

pub shared_type-requires : goal.shared_type-requires
shared_type-requires c = (search collect_owner, search collect_content)

pub offset_bounds-types-count : goal.offset_bounds-types-count
offset_bounds-types-count c = search (collect_few, rules)

pub bounds-types-count : goal.bounds-types-count
bounds-types-count c = search (collect_few, rules)

pub loop-k-preserved : goal.loop-k-preserved
loop-k-preserved c = (search rules, search collect_more)

pub returns : goal.returns
returns c = search collect_end
