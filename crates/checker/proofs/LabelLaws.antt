-- The labels that the check lends: made from a laid_out file's links, they say who is in step.
-- Assumes nothing.
use mathlib.Core.Path.{◌≡◌, ap, ◌∙◌}
use mathlib.Core.List.{List}
use Prim.Native.Nat.{ℕ}
use Rattle.language.specs.Effects.{within}
use Rattle.language.specs.Inner.Labels.{labels_of, within_in}
use Rattle.language.proofs.Labels.{within_is}
use Rattle.text.specs.Frames.{frames_of}
use Rattle.program.specs.Programs.{links_of}
use Rattle.program.specs.Inner.Links.{LinksPlaced}
use Rattle.layout.proofs.Links.{links_placed}
use Rattle.checker.specs.Inner.Frames.{FileIn}
use Rattle.checker.specs.Inner.Settings.{LabelsOf}

pub file_links : (ws : List ℕ) → FileIn ws → LinksPlaced (frames_of ws)
file_links ws g = links_placed (frames_of ws) g.laid_out

pub labels_made : (ws labels : List ℕ) → labels ≡ labels_of (links_of (frames_of ws))
    → LabelsOf ws labels
labels_made ws labels e = record { same = e }

-- by the labels and by the links a place allows the same effects
pub same_test : (ws labels : List ℕ) → LabelsOf ws labels
    → within_in labels ≡ within (links_of (frames_of ws))
same_test ws labels l =
    ap within_in l.same ∙ (λ i p e. within_is (links_of (frames_of ws)) p e i)
