-- What the test for a cycle holds on its way down. No reader has to believe it: proofs/ ties it to
-- the definitions. Assumes nothing: definitions.
use Rattle.std.specs.Prelude.{◌≡◌, Bool, true, false, List, [], ◌∷◌, ℕ, zero, suc, ◌*◌, ◌/◌, ◌%◌, ◌^◌, ◌<◌, ltb, eqb, length, get_or, set}
use Rattle.basics.specs.If.{when◌then◌else◌}
use Rattle.language.specs.Limits.{most_lines}
use Rattle.language.specs.declared.frame.Frame.{Frame}
use Rattle.drawing.specs.Inner.Finds.{is_below}
use Rattle.forest.specs.declared.cycle.Met.{Met}

-- the marks, the queue, and how many of its places are filled
pub record Walk : Type 0 where
  pub marks : List Bool
  pub queue : List ℕ
  pub filled : ℕ

abbrev pub walk : List Bool → List ℕ → ℕ → Walk
walk marks queue filled = record { marks = marks; queue = queue; filled = filled }

-- how many marks a word has
abbrev pub word_bits : ℕ
word_bits = 64

-- what bit j % 64 of word j / 64 says
abbrev pub is_marked : List ℕ → ℕ → Bool
is_marked words j = eqb (get_or words (j / word_bits) 0 / 2 ^ (j % word_bits) % 2) 1

-- f of each number below n
unfoldable pub each_below : ℕ → (ℕ → Bool) → List Bool
each_below zero f = []
each_below (suc n) f = f 0 ∷ each_below n (λ (j : ℕ). f (suc j))

-- the marks that are kept as the bits of these words
unfoldable pub marks_of : List ℕ → List Bool
marks_of words = each_below (length words * word_bits) (is_marked words)

-- how many are marked
unfoldable pub tally : List Bool → ℕ
tally [] = 0
tally (true ∷ bs) = suc (tally bs)
tally (false ∷ bs) = tally bs

-- each place is filled by a mark of its own, so that the queue has a place for what is not marked
pub record QueueRoom (marks : List Bool) (filled : ℕ) : Type 0 where
  pub long : length marks ≡ most_lines
  pub each : filled ≡ tally marks

-- what the code keeps of a walk
abbrev pub met : Met → Walk
met m = walk (marks_of m.marks) m.queue m.filled

abbrev pub HasRoom : Met → Type 0
HasRoom m = QueueRoom (marks_of m.marks) m.filled

-- no frame before i is on a cycle; so none of them is on a cycle through i
abbrev pub NoCycleBefore : List Frame → ℕ → Type 0
NoCycleBefore fs i = (j : ℕ) → j < i → is_below fs j j ≡ false

-- frame v of n frames is met, on a way from i
unfoldable pub entered : ℕ → ℕ → Walk → ℕ → Walk
entered i n w v =
    when ltb v i then w else
    (when ltb v n then
    (when get_or w.marks v false then w else
    walk (set w.marks v true) (set w.queue w.filled v) (suc w.filled))
    else w)
