-- `wake_on_each` meets its contract.
use Rattle.groups.proofs.MemberLaws.{walk_place, walk_pair, end_small}
use Rattle.groups.proofs.MemberLaws.{waking_start, waking_words, waking_room, waking_next}
use Rattle.groups.proofs.MemberLaws.{waking_end}
use Rattle.std.proofs.Common.{ℕ, ap, ◌∙◌, ◌≡◌}
use Rattle.language.specs.declared.Place.{Place}
use Rattle.groups.proofs.wake_on_each.Goals as goal

abbrev by_number : ℕ → Place
by_number n = record { number = n }

pub overflow_add-k-end : goal.overflow_add-k-end
overflow_add-k-end c = search end_small

pub loop-k-init : goal.loop-k-init
loop-k-init c = search waking_start

pub known-requires : goal.known-requires
known-requires c = rw c.from.ensures (search walk_place)

pub wake_if_member-requires : goal.wake_if_member-requires
wake_if_member-requires c =
    let i : c.known.result ≡ record { number = c.loop-k.k } = c.known.ensures ∙ ap by_number c.from.ensures in
    (search walk_pair, search waking_words, search waking_room)

pub loop-k-preserved : goal.loop-k-preserved
loop-k-preserved c =
    let i : c.known.result ≡ record { number = c.loop-k.k } = c.known.ensures ∙ ap by_number c.from.ensures in
    search waking_next

pub returns : goal.returns
returns c = search waking_end
