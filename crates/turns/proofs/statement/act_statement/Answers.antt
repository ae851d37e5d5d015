-- `act_statement` meets its contract.
use borrow.Author.Rules.{rules}
use Rattle.turns.proofs.OperandLaws.{statement_named, under_laws}
use Rattle.turns.proofs.StatementRows.{acts_nothing, acts_cooperate, acts_seq, acts_do}
use Rattle.turns.proofs.StatementRows.{acts_start, acts_wait, acts_let, acts_store, acts_if}
use Rattle.turns.proofs.StatementRows.{acts_while}
use Rattle.turns.proofs.StatementRows.{acts_generate, acts_await}
use Rattle.turns.proofs.statement.act_statement.Goals as goal

pub statement_node-requires : goal.statement_node-requires
statement_node-requires c =
    statement_named _ _ _ _ _ _ c.frame_of_word.ensures c.requires.0 c.requires.1

pub starts-requires : goal.starts-requires
starts-requires c =
    (search under_laws, search under_laws, c.requires.0.state)

pub starts-requires-in-StartWait : goal.starts-requires-in-StartWait
starts-requires-in-StartWait c =
    (search under_laws, search under_laws, c.requires.0.state)

pub evaluate-x-requires : goal.evaluate-x-requires
evaluate-x-requires c =
    (search under_laws, c.requires.0.state)

pub store-x-requires : goal.store-x-requires
store-x-requires c =
    (search under_laws, search under_laws, c.requires.0.state)

pub evaluate-x-requires-in-IfElse : goal.evaluate-x-requires-in-IfElse
evaluate-x-requires-in-IfElse c =
    (search under_laws, c.requires.0.state)

pub evaluate-x-requires-in-While : goal.evaluate-x-requires-in-While
evaluate-x-requires-in-While c =
    (search under_laws, c.requires.0.state)

pub returns-in-Nothing : goal.returns-in-Nothing
returns-in-Nothing c = record { found = search acts_nothing; rest = search rules }

pub returns-in-Seq : goal.returns-in-Seq
returns-in-Seq c =
    let acted = rw (c.from.ensures, c.from-in-Seq.ensures) at c.stays_with_two.ensures in
    record { found = search acts_seq; rest = search rules }

pub returns-in-DoAt : goal.returns-in-DoAt
returns-in-DoAt c =
    let acted = rw c.from-in-DoAt.ensures at c.does_at.ensures in
    record { found = search acts_do; rest = search rules }

pub returns-in-Start : goal.returns-in-Start
returns-in-Start c = record { found = search acts_start; rest = search rules }

pub returns-in-StartWait : goal.returns-in-StartWait
returns-in-StartWait c = record { found = search acts_wait; rest = search rules }

pub returns-in-Cooperate : goal.returns-in-Cooperate
returns-in-Cooperate c = record { found = search acts_cooperate; rest = search rules }

pub returns-in-LetIn : goal.returns-in-LetIn
returns-in-LetIn c =
    let acted = rw c.from-in-LetIn.ensures at c.lets_after.ensures in
    record { found = search acts_let; rest = search rules }

pub returns-in-Store : goal.returns-in-Store
returns-in-Store c = record { found = search acts_store; rest = search rules }

pub returns-in-IfElse : goal.returns-in-IfElse
returns-in-IfElse c =
    let acted = rw (c.from-in-IfElse.ensures, c.from-in-IfElse-2.ensures) at c.chooses_after.ensures in
    record { found = search acts_if; rest = search rules }

pub returns-in-While : goal.returns-in-While
returns-in-While c =
    let acted = rw c.from-in-While.ensures at c.loops_after.ensures in
    record { found = search acts_while; rest = search rules }

pub returns-in-Generate : goal.returns-in-Generate
returns-in-Generate c = record { found = search acts_generate; rest = search rules }

pub returns-in-Await : goal.returns-in-Await
returns-in-Await c = record { found = search acts_await; rest = search rules }
