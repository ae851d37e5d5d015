-- `end_on_each` meets its contract.
use borrow.Author.Rules.{rules}
use Rattle.groups.proofs.MemberLaws.{walk_place, walk_pair, end_small, words_few}
use Rattle.groups.proofs.MemberLaws.{ending_start, ending_words_fit, ending_idle}
use Rattle.groups.proofs.MemberLaws.{ending_families, ending_small, ending_next}
use Rattle.groups.proofs.MemberLaws.{ending_count, ending_words}
use Rattle.std.proofs.Common.{ℕ, ap, ◌∙◌, ◌≡◌}
use Rattle.language.specs.declared.Place.{Place}
use Rattle.groups.proofs.end_on_each.Goals as goal

abbrev by_number : ℕ → Place
by_number n = record { number = n }

pub overflow_add-k-end : goal.overflow_add-k-end
overflow_add-k-end c = search end_small

pub living_families-living-requires : goal.living_families-living-requires
living_families-living-requires c = search words_few

pub loop-k-init : goal.loop-k-init
loop-k-init c = search ending_start

pub known-requires : goal.known-requires
known-requires c = rw c.from.ensures (search walk_place)

pub end_if_member-ready-requires : goal.end_if_member-ready-requires
end_if_member-ready-requires c =
    let i : c.known.result ≡ record { number = c.loop-k.k } = c.known.ensures ∙ ap by_number c.from.ensures in
    (search walk_pair, search ending_words_fit, search ending_idle, search ending_families)

pub overflow_add-ready : goal.overflow_add-ready
overflow_add-ready c =
    let i : c.known.result ≡ record { number = c.loop-k.k } = c.known.ensures ∙ ap by_number c.from.ensures in
    record { fits = search ending_small }

pub loop-k-preserved : goal.loop-k-preserved
loop-k-preserved c =
    let i : c.known.result ≡ record { number = c.loop-k.k } = c.known.ensures ∙ ap by_number c.from.ensures in
    let ended = c.end_if_member-ready in
    let t = c.loop-k.invariant in
    ending_next _ _ _ _ _ _ _ _ _ t (search rules) (search rules) _ _ _ i
    ended.ensures.count ended.ensures.words

pub returns : goal.returns
returns c = record { count = search ending_count; words = search ending_words }
