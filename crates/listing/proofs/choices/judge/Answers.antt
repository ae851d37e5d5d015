-- `judge` meets its contract.
use Rattle.listing.proofs.ChoiceLaws.{judging_start, judging_more, judged_over, judged_none}
use Rattle.listing.proofs.ChoiceLaws.{judged_all, count_fits, less_left}
use Rattle.listing.proofs.choices.judge.Goals as goal

pub returns-then-n-gt-MOST_CHOICE_BYTES : goal.returns-then-n-gt-MOST_CHOICE_BYTES
returns-then-n-gt-MOST_CHOICE_BYTES c = search judged_over

pub loop-k-init : goal.loop-k-init
loop-k-init c = search judging_start

pub returns-then-ahead-eq0 : goal.returns-then-ahead-eq0
returns-then-ahead-eq0 c = search judged_none

pub overflow_add-k : goal.overflow_add-k
overflow_add-k c = record { fits = search count_fits }

pub loop-k-smaller : goal.loop-k-smaller
loop-k-smaller c = search less_left

pub loop-k-preserved : goal.loop-k-preserved
loop-k-preserved c = search judging_more

pub returns : goal.returns
returns c = search judged_all
