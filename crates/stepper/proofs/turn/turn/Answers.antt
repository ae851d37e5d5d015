-- `turn` meets its contract.
use borrow.Author.Rules.{rules}
use native.Mathlib.Omega.{arith}
use mathlib.Core.Path.{refl, ◌∙◌}
use Rattle.commits.proofs.CommitLaws.{any_turn_is}
use Rattle.stepper.proofs.TurnLaws.{commit_needs, turn_gives, gone_is, refused_as}
use Rattle.stepper.proofs.turn.turn.Goals as goal

pub returns-then-thread_count-t : goal.returns-then-thread_count-t
returns-then-thread_count-t c =
    let e = c.thread_count.ensures in
    let q = c.if-thread_count-t.true in
    gone_is _ _ _ c.requires.0 _ c.requires.1 _ c.requires.3 (omega arith) _ c.leave.ensures

pub commit-requires : goal.commit-requires
commit-requires c =
    let e = c.thread_count.ensures in
    let q = c.if-thread_count-t.false in
    commit_needs _ _ _ c.requires.0 _ c.requires.1 _ c.requires.3 (omega arith) _ _ _ _ c.requires.4 c.act_in-action.ensures
    c.take_accesses-accesses.ensures.words (search rules) (search rules)

pub counted-requires : goal.counted-requires
counted-requires c =
    let t = c.take_accesses-accesses.ensures.accesses in
    let e = c.act_in-action.ensures.accesses in
    let l = c.act_in-action.ensures.few in omega arith

pub returns : goal.returns
returns c =
    let e = c.thread_count.ensures in
    let q = c.if-thread_count-t.false in
    turn_gives _ _ _ c.requires.0 _ c.requires.1 _ c.requires.3 (omega arith) _ _ _ _ _ _ _ _ _ c.requires.4
    c.act_in-action.ensures c.take_accesses-accesses.ensures.words c.take_accesses-accesses.ensures.accesses
    refl
    (refused_as _ _ c.err-refusal.ensures.value _ _ _ (c.commit.ensures ∙ any_turn_is _ _ _ _ _ _ _))
    c.counted.ensures
