-- `effect_of`, the recursion, meets its contract: one law for each arm, and a child's number
-- falls. Assumes nothing.
use Rattle.std.proofs.lemmas.Result.{err_from_is_err_and}
use mathlib.Core.Path.{◌∙◌}
use borrow.Author.Rules.{rules}
use Rattle.checker.proofs.FineFrames.{names_place}
use Rattle.checker.proofs.DescentLaws.{seq_a_falls, seq_a_in, seq_a_room, seq_b_falls}
use Rattle.checker.proofs.DescentLaws.{seq_b_in, seq_b_room, do_a_falls, do_a_in, do_a_room}
use Rattle.checker.proofs.DescentLaws.{let_a_in, let_b_falls, let_b_in, let_b_room, let_fits}
use Rattle.checker.proofs.DescentLaws.{store_a_in, store_b_in, if_a_in}
use Rattle.checker.proofs.DescentLaws.{if_b_falls, if_b_in, if_b_room, if_c_falls, if_c_in}
use Rattle.checker.proofs.DescentLaws.{if_c_room, while_a_in, while_b_falls, while_b_in}
use Rattle.checker.proofs.DescentLaws.{while_b_room, start_first, start_second, wait_first}
use Rattle.checker.proofs.DescentLaws.{wait_second}
use Rattle.checker.proofs.EffectLaws.{run_nothing, run_cooperate, run_seq, run_do}
use Rattle.checker.proofs.EffectLaws.{run_start, run_wait, run_let_fault, run_let}
use Rattle.checker.proofs.EffectLaws.{run_store, run_if, run_while, let_room, let_some, let_leaves}
use Rattle.checker.proofs.EffectLaws.{run_signal}
use Rattle.checker.proofs.effect.+effect_of.Goals as goal

pub statement_node-requires : goal.statement_node-requires
statement_node-requires t c = search names_place

pub effect_of-x-requires : goal.effect_of-x-requires
effect_of-x-requires t c =
    (search seq_a_falls, (search seq_a_in, search seq_a_room))

pub effect_of-y-requires : goal.effect_of-y-requires
effect_of-y-requires t c = (
  search seq_b_falls,
  (
    search seq_b_in,
    rw c.effect_of-x.ensures.leaves
        (search seq_b_room),
  ),
)

pub effect_of-x-requires-in-DoAt : goal.effect_of-x-requires-in-DoAt
effect_of-x-requires-in-DoAt t c =
    (search do_a_falls, (search do_a_in, search do_a_room))

pub arguments_of-args-requires : goal.arguments_of-args-requires
arguments_of-args-requires t c =
    (search rules, search start_first, search start_second)

pub arguments_of-args-requires-in-StartWait : goal.arguments_of-args-requires-in-StartWait
arguments_of-args-requires-in-StartWait t c =
    (search rules, search wait_first, search wait_second)

pub type_in-requires : goal.type_in-requires
type_in-requires t c = (search let_a_in)

pub effect_of-y-requires-in-LetIn : goal.effect_of-y-requires-in-LetIn
effect_of-y-requires-in-LetIn t c = (
  search let_b_falls,
  (
    search let_b_in,
    let_room _ _ _ _ _ c.push.ensures
        (search let_b_room),
  ),
)

pub type_in-x-requires : goal.type_in-x-requires
type_in-x-requires t c = (search store_a_in)

pub type_in-requires-in-Store : goal.type_in-requires-in-Store
type_in-requires-in-Store t c = (search store_b_in)

pub type_in-x-requires-in-IfElse : goal.type_in-x-requires-in-IfElse
type_in-x-requires-in-IfElse t c = (search if_a_in)

pub effect_of-y-requires-in-IfElse : goal.effect_of-y-requires-in-IfElse
effect_of-y-requires-in-IfElse t c =
    (search if_b_falls, (search if_b_in, search if_b_room))

pub effect_of-z-requires : goal.effect_of-z-requires
effect_of-z-requires t c = (
  search if_c_falls,
  (
    search if_c_in,
    rw c.effect_of-y-in-IfElse.ensures.leaves
        (search if_c_room),
  ),
)

pub type_in-x-requires-in-While : goal.type_in-x-requires-in-While
type_in-x-requires-in-While t c = (search while_a_in)

pub effect_of-y-requires-in-While : goal.effect_of-y-requires-in-While
effect_of-y-requires-in-While t c =
    (search while_b_falls, (search while_b_in, search while_b_room))

pub returns-in-Nothing : goal.returns-in-Nothing
returns-in-Nothing t c = record { found = search run_nothing; leaves = search rules }

pub returns-in-Cooperate : goal.returns-in-Cooperate
returns-in-Cooperate t c = record { found = search run_cooperate; leaves = search rules }

pub returns-in-Seq : goal.returns-in-Seq
returns-in-Seq t c =
    let is = c.in-Seq.is in
    record {
      found = run_seq _ c.args.setting.now.below.now _ _ _ c.args.linked _ _
          _ _ _ _ _ _ c.seq_rule.ensures
          is c.statement_node.ensures c.frame.ensures c.args.setting.now.file c.requires.0
          c.effect_of-x.ensures.found c.effect_of-x.ensures.leaves c.effect_of-y.ensures.found;
      leaves = c.effect_of-y.ensures.leaves ∙ c.effect_of-x.ensures.leaves;
    }

pub returns-in-DoAt : goal.returns-in-DoAt
returns-in-DoAt t c = record { found = search run_do; leaves = search rules }

pub returns-in-Start : goal.returns-in-Start
returns-in-Start t c = record { found = search run_start; leaves = search rules }

pub returns-in-StartWait : goal.returns-in-StartWait
returns-in-StartWait t c = record { found = search run_wait; leaves = search rules }

pub returns-in_err-x-in-LetIn-clause-found : goal.returns-in_err-x-in-LetIn-clause-found
returns-in_err-x-in-LetIn-clause-found t c =
    let p = err_from_is_err_and c.from_residual.result c.from_residual.ensures.1 in
    rw (p.1, p.2)
    (run_let_fault _ c.args.setting.now.below.now _ _ _ c.args.linked _ _ _ _ _ _
    c.in-LetIn.is c.statement_node.ensures c.frame.ensures c.args.setting.now.file c.requires.0
    c.type_in.ensures c.in_err-x-in-LetIn.was)

pub push-requires : goal.push-requires
push-requires t c = search let_fits

pub pop-requires : goal.pop-requires
pop-requires t c = let_some _ _ _ _ c.push.ensures c.effect_of-y-in-LetIn.ensures.leaves

pub returns-in_ok-x-in-LetIn : goal.returns-in_ok-x-in-LetIn
returns-in_ok-x-in-LetIn t c = record {
  found = run_let _ c.args.setting.now.below.now _ _ _ c.args.linked _ _
      _ _ _ _ _ _ _ c.join_rule.ensures
      c.in-LetIn.is c.statement_node.ensures c.frame.ensures c.args.setting.now.file c.requires.0
      c.type_in.ensures c.in_ok-x-in-LetIn.was c.push.ensures c.effect_of-y-in-LetIn.ensures.found;
  leaves = let_leaves _ _ _ _ _ c.push.ensures c.effect_of-y-in-LetIn.ensures.leaves c.pop.ensures;
}

pub returns-in-Store : goal.returns-in-Store
returns-in-Store t c = record { found = search run_store; leaves = search rules }

pub returns-in-IfElse : goal.returns-in-IfElse
returns-in-IfElse t c =
    let is = c.in-IfElse.is in
    record {
      found = run_if _ c.args.setting.now.below.now _ _ _ c.args.linked _ _
          _ _ _ _ _ _ _ _ c.if_else_rule.ensures
          is c.statement_node.ensures c.frame.ensures c.args.setting.now.file c.requires.0
          c.type_in-x-in-IfElse.ensures c.effect_of-y-in-IfElse.ensures.found
          c.effect_of-y-in-IfElse.ensures.leaves c.effect_of-z.ensures.found;
      leaves = c.effect_of-z.ensures.leaves ∙ c.effect_of-y-in-IfElse.ensures.leaves;
    }

pub returns-in-While : goal.returns-in-While
returns-in-While t c = record { found = search run_while; leaves = search rules }

pub returns-in-Generate : goal.returns-in-Generate
returns-in-Generate t c = record {
  found = run_signal _ c.args.setting.now.below.now _ _ _ c.args.linked _ _ _ _ _ c.in-Generate.is
      c.statement_node.ensures c.frame.ensures c.args.setting.now.file c.requires.0 c.event_at.ensures
      c.signal_rule.ensures;
  leaves = search rules;
}
