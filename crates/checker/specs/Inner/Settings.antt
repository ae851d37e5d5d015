-- How the code is lent a file's setting: its frames, which have the owners of its events and its
-- links, the types of its shared cells and the labels of its schedulers. Assumes nothing:
-- definitions.
use Rattle.std.specs.Prelude.{◌≡◌, List, ℕ}
use Rattle.language.specs.Inner.Labels.{labels_of}
use Rattle.text.specs.Frames.{frames_of}
use Rattle.program.specs.Programs.{events_of, links_of}
use Rattle.rules.specs.Rules.{Setting}

abbrev pub setting_in : List ℕ → List ℕ → Setting
setting_in words cells =
    record {
      cells = cells;
      events = events_of (frames_of words);
      links = links_of (frames_of words);
    }

-- the labels are those of the file's links
pub record LabelsOf (words labels : List ℕ) : Type 0 where
  pub same : labels ≡ labels_of (links_of (frames_of words))
