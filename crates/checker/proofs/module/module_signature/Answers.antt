-- `module_signature` meets its contract.
use borrow.Author.Rules.{rules}
use Rattle.rules.proofs.StartLaws.{word_says}
use Rattle.checker.proofs.module.module_signature.Goals as goal

pub returns : goal.returns
returns c = record { kept = search rules; says = search (word_says, rules) }
