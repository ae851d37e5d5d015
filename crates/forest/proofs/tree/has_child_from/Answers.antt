-- `has_child_from` meets its contract.
use Rattle.std.proofs.Common.{arith}
use Rattle.forest.proofs.AnyChild.{two_from, three_from}
use Rattle.forest.proofs.tree.has_child_from.Goals as goal

pub returns-then-n-from : goal.returns-then-n-from
returns-then-n-from c =
    let x = c.in-Two in
    let whole = two_from c.args.n c.args.f c.children_of.result
    c.children_of.ensures x.field-0 x.a x.field-2 x.b x.is in
    grind (arith, whole)

pub returns-else-n-from : goal.returns-else-n-from
returns-else-n-from c =
    let x = c.in-Two in
    let whole = two_from c.args.n c.args.f c.children_of.result
    c.children_of.ensures x.field-0 x.a x.field-2 x.b x.is in
    grind (arith, whole)

pub returns-then-n-from-3 : goal.returns-then-n-from-3
returns-then-n-from-3 c =
    let x = c.in-Three in
    let whole = three_from c.args.n c.args.f c.children_of.result
    c.children_of.ensures x.field-0 x.a x.field-2 x.b x.field-4 x.c x.is in
    grind (arith, whole)

pub returns-else-n-from-3 : goal.returns-else-n-from-3
returns-else-n-from-3 c =
    let x = c.in-Three in
    let whole = three_from c.args.n c.args.f c.children_of.result
    c.children_of.ensures x.field-0 x.a x.field-2 x.b x.field-4 x.c x.is in
    grind (arith, whole)
