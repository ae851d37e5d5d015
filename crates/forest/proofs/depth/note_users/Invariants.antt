use Rattle.std.proofs.Common.{◌≡◌, fold, drop}
use Rattle.forest.specs.Inner.Climbs.{with_user}
use Rattle.forest.proofs.depth.note_users.Given as goal

abbrev pub invariant-loop-v : goal.invariant-loop-v
invariant-loop-v l =
    fold (with_user l.user) l.users (drop l.v-index l.v-items)
    ≡ fold (with_user l.user) l.initial.users l.v-items
