-- `step_lines` meets its contract.
use borrow.Author.Rules.{rules}
use mathlib.Core.Path.{◌∙◌}
use Rattle.runs.proofs.ListingLoop.{lining_start, lining_asks}
use Rattle.runs.proofs.ListingLoop.{lining_cells, lining_more, lining_words, lining_lines}
use Rattle.runs.proofs.lines.step_lines.Goals as goal

pub loop-k-init : goal.loop-k-init
loop-k-init c = lining_start _ _ _ _ _ c.requires.0.words

pub step_valid-s-requires : goal.step_valid-s-requires
step_valid-s-requires c =
    let start = c.requires.0 in (
      lining_asks _ _ _ _ _ _ _ _ _ start.laid_out start.numbers c.loop-k.invariant,
      start.numbers,
    )

pub overflow_cast-cells : goal.overflow_cast-cells
overflow_cast-cells c =
    let start = c.requires.0 in
    let l = lining_cells _ _ _ _ _ _ _ _ _ start.laid_out start.numbers c.loop-k.invariant _
    (c.from.ensures ∙ c.choice_at-c.ensures) c.requires.1 c.loop-k-test.true _ _
    c.step_valid-s.ensures in
    record { fits = l }

pub loop-k-preserved : goal.loop-k-preserved
loop-k-preserved c =
    let start = c.requires.0 in
    lining_more _ _ _ _ _ _ _ _ _ start.laid_out start.numbers c.loop-k.invariant _
    (c.from.ensures ∙ c.choice_at-c.ensures) c.requires.1 c.loop-k-test.true _ _
    c.step_valid-s.ensures _ _ c.from.ensures c.number.ensures _ _
    c.choice_line-line.ensures c.put.ensures (search rules) (search rules) c.requires.2

pub returns : goal.returns
returns c = record { words = search lining_words; lines = search lining_lines }
