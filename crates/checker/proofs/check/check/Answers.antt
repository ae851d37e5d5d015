-- `check` meets its contract.
use Rattle.std.proofs.lemmas.Result.{err_from_is_err_and}
use Rattle.checker.proofs.CheckLaws.{check_room, check_length, check_file, check_rejected}
use Rattle.checker.proofs.CheckLaws.{check_rules, promised_rejected, promised_rules}
use Rattle.checker.proofs.check.check.Goals as goal

pub slice_bounds-words-end : goal.slice_bounds-words-end
slice_bounds-words-end c = check_room _ _ _ c.lay_into.ensures.computed _ c.in_ok-n.was

pub slice_bounds-rules_of-end : goal.slice_bounds-rules_of-end
slice_bounds-rules_of-end c = check_length _ _ _ c.lay_into.ensures.computed _ c.in_ok-n.was

pub rules_of-requires : goal.rules_of-requires
rules_of-requires c = check_file _ _ _ c.lay_into.ensures.computed _ c.in_ok-n.was

pub returns-in_err-n-clause-computed : goal.returns-in_err-n-clause-computed
returns-in_err-n-clause-computed c =
    let p = err_from_is_err_and c.from_residual.result c.from_residual.ensures.1 in
    rw (p.1, p.2) (check_rejected _ _ _ c.lay_into.ensures.computed _ c.in_err-n.was)

pub returns-in_err-n-clause-promised : goal.returns-in_err-n-clause-promised
returns-in_err-n-clause-promised c =
    let p = err_from_is_err_and c.from_residual.result c.from_residual.ensures.1 in
    rw (p.1, p.2) (promised_rejected _ _ _ c.lay_into.ensures.computed _ c.in_err-n.was)

pub returns-clause-computed : goal.returns-clause-computed
returns-clause-computed c =
    check_rules _ _ _ c.lay_into.ensures.computed _ c.in_ok-n.was _ c.rules_of.ensures

pub returns-clause-promised : goal.returns-clause-promised
returns-clause-promised c =
    promised_rules _ _ _ c.lay_into.ensures.computed _ c.in_ok-n.was _ c.rules_of.ensures
