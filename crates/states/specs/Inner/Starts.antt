-- What the code makes the fresh state's words of. No reader has to believe it: together they are
-- `pack` of the fresh state (proofs/FreshWords). Assumes nothing: definitions.
use Rattle.std.specs.Prelude.{List, [], ◌∷◌, map, ℕ, leb, length}
use Rattle.basics.specs.If.{when◌then◌else◌}
use Rattle.language.specs.Places.{home}
use Rattle.language.specs.Limits.{most_variables, most_cells, most_items}
use Rattle.program.specs.Programs.{SharedCell}
use Rattle.machine.specs.Offsets.{cells_at}
use Rattle.machine.specs.Fresh.{first_cell}
use Rattle.machine.specs.Inner.Blocks.{pasted, padded, cell_words}
use Rattle.states.specs.declared.thread.ThreadWords.{ThreadWords}

-- the words with the first contents of those cells, at most 256
unfoldable pub with_shared : List ℕ → List SharedCell → List ℕ
with_shared w cs =
    pasted w cells_at (cell_words (map first_cell cs))
    (when leb (length cs) most_cells then length cs else most_cells)

-- a new thread at that place, which that thread started, with that body and no variables, in the
-- code's form
abbrev pub new_words : ℕ → ℕ → ℕ → ThreadWords
new_words place starter body =
    record {
      place = place;
      starter = starter;
      alive = 1;
      items = 1;
      continuation = padded most_items (body ∷ []);
      values = 0;
      variables = padded most_variables [];
    }

-- main's thread, with that body
abbrev pub main_words : ℕ → ThreadWords
main_words body = new_words home 0 body
