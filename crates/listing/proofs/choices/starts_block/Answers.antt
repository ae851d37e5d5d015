-- `starts_block` meets its contract.
use Rattle.listing.proofs.ChoiceLaws.{block_start, block_more, block_short, block_told}
use Rattle.listing.proofs.choices.starts_block.Goals as goal

pub returns-then-bytes-lt-BLOCK_BYTES : goal.returns-then-bytes-lt-BLOCK_BYTES
returns-then-bytes-lt-BLOCK_BYTES c = search block_short

pub loop-k-init : goal.loop-k-init
loop-k-init c = search block_start

pub loop-k-preserved : goal.loop-k-preserved
loop-k-preserved c = search block_more

pub returns : goal.returns
returns c = search block_told
