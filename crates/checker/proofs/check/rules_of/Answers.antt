-- `rules_of` meets its contract.
use borrow.Author.Rules.{rules}
use Rattle.checker.proofs.LabelLaws.{file_links, labels_made}
use Rattle.checker.proofs.CheckLaws.{file_shared, rules_room, rules_length, rules_are}
use Rattle.checker.proofs.check.rules_of.Goals as goal

pub labels_of-labels-requires : goal.labels_of-labels-requires
labels_of-labels-requires c = search file_links

pub shared_types-t-requires : goal.shared_types-t-requires
shared_types-t-requires c = search file_shared

pub slice_bounds-types-end : goal.slice_bounds-types-end
slice_bounds-types-end c = search rules_room

pub slice_bounds-modules_rule-end : goal.slice_bounds-modules_rule-end
slice_bounds-modules_rule-end c = search rules_length

pub modules_rule-requires : goal.modules_rule-requires
modules_rule-requires c = (search rules, search labels_made)

pub returns : goal.returns
returns c = search rules_are
