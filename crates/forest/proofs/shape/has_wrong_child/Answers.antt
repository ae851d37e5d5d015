-- `has_wrong_child` meets its contract.
use Rattle.std.proofs.Common.{arith}
use Rattle.text.specs.Frames.{frames_of}
use Rattle.forest.proofs.AnyChild.{two_wrong, three_wrong}
use Rattle.forest.proofs.shape.has_wrong_child.Goals as goal

pub returns-then-is_wrong : goal.returns-then-is_wrong
returns-then-is_wrong c =
    let x = c.in-Two in
    let whole = two_wrong (frames_of c.args.words.now) c.args.f c.children_of.result
    c.children_of.ensures x.k x.a x.l x.b x.is in
    grind (arith, whole)

pub returns-else-is_wrong : goal.returns-else-is_wrong
returns-else-is_wrong c =
    let x = c.in-Two in
    let whole = two_wrong (frames_of c.args.words.now) c.args.f c.children_of.result
    c.children_of.ensures x.k x.a x.l x.b x.is in
    grind (arith, whole)

pub returns-then-is_wrong-3 : goal.returns-then-is_wrong-3
returns-then-is_wrong-3 c =
    let x = c.in-Three in
    let whole = three_wrong (frames_of c.args.words.now) c.args.f c.children_of.result
    c.children_of.ensures x.k x.a x.l x.b x.m x.c x.is in
    grind (arith, whole)

pub returns-else-is_wrong-3 : goal.returns-else-is_wrong-3
returns-else-is_wrong-3 c =
    let x = c.in-Three in
    let whole = three_wrong (frames_of c.args.words.now) c.args.f c.children_of.result
    c.children_of.ensures x.k x.a x.l x.b x.m x.c x.is in
    grind (arith, whole)
