-- `users_of` meets its contract.
use Rattle.forest.proofs.UserArray.{noting_end}
use Rattle.forest.proofs.ClimbDepths.{users_inside}
use Rattle.forest.proofs.depth.users_of.Goals as goal

pub returns-clause-inside : goal.returns-clause-inside
returns-clause-inside c =
    users_inside c.args.lines.words.now c.loop-i.users
    (noting_end _ _ c.loop-i.i c.loop-i.invariant c.loop-i-test.false) c.args.lines.most
