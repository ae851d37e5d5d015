-- The blocks of the words, and a block replaced: what the code copies. Assumes nothing:
-- definitions.
use Rattle.std.specs.Prelude.{List, ℕ, take, drop, get_or}
use Rattle.std.proofs.Math.Seq.{paste}
use Rattle.language.specs.Limits.{most_cells}
use Rattle.machine.specs.Offsets.{scheduler_length, thread_length}
use Rattle.machine.specs.State.{Stored, Thread, Scheduler, cell_at}
use Rattle.machine.specs.Words.{tabulate, thread_word, scheduler_word, cell_word}

-- n words of w from i
unfoldable pub part : List ℕ → ℕ → ℕ → List ℕ
part w i n = take n (drop i w)

-- w with the first n words of v from i
unfoldable pub pasted : List ℕ → ℕ → List ℕ → ℕ → List ℕ
pasted w i v n = paste w i v n

-- the first n of the words, 0 after their end: a list's space after its length
unfoldable pub padded : ℕ → List ℕ → List ℕ
padded n ws = tabulate n (λ j. get_or ws j 0) 0

unfoldable pub thread_words : Thread → List ℕ
thread_words x = tabulate thread_length (thread_word x) 0

unfoldable pub scheduler_words : Scheduler → List ℕ
scheduler_words x = tabulate scheduler_length (scheduler_word x) 0

unfoldable pub cell_words : List Stored → List ℕ
cell_words cs = tabulate most_cells (λ i. cell_word (cell_at cs i)) 0
