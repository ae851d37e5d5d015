-- `take_accesses` meets its contract.
use borrow.Author.Rules.{rules}
use Rattle.stepper.proofs.TurnLaws.{taken_words}
use Rattle.stepper.proofs.turn.take_accesses.Goals as goal

pub returns : goal.returns
returns c = record { accesses = search rules; words = search taken_words }
