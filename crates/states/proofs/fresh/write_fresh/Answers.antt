-- `write_fresh` meets its contract.
use mathlib.Core.Path.{ap, ◌∙◌}
use Prim.Native.Nat.{ℕ}
use lib.ListN.{replicate}
use borrow.Author.Rules.{rules}
use Rattle.states.proofs.FreshWords.{fresh_words}
use Rattle.states.proofs.fresh.write_fresh.Goals as goal

pub returns : goal.returns
returns c =
    fresh_words _ _ _ _ _ _ (c.fill.ensures.after (λ y e. e) ∙ ap (λ (n : ℕ). replicate n 0) {y = 4834} (search rules))
    c.write_cells.ensures c.main_body.ensures c.new.ensures c.add_thread.ensures
