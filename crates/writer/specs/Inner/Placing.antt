-- Lines in the lent buffer, and what the writer's functions rely on. No reader has to believe it.
-- Assumes nothing: definitions.
use Rattle.std.specs.Prelude.{Err}
use Rattle.std.specs.Prelude.{◌≡◌, true, List, [], ◌∷◌, map, ℕ, ◌+◌, ◌*◌, ◌<◌, ◌≤◌, eqb, length}
use Rattle.std.proofs.Math.Seq.{paste}
use Rattle.basics.specs.If.{when◌then◌else◌}
use Rattle.language.specs.Limits.{line_length, most_lines}
use Rattle.language.specs.declared.refusal.Rule.TheVariants.{WrongState}
use Rattle.language.specs.declared.frame.Frame.{Frame}
use Rattle.language.specs.Verdicts.{Verdict}
use Rattle.language.specs.Verdicts.{Accepted, Rejected}
use Rattle.text.specs.Frames.{frames_of}
use Rattle.drawing.specs.Drawings.{drawn, lined_all, rank, levels, drawing, laid_out}
use Rattle.drawing.specs.Texts.{bytes_of}
use Rattle.drawing.specs.Writings.{Writing, as_writing, Writable}
use Rattle.drawing.specs.Inner.Finds.{drawing_verdict}
use Rattle.drawing.specs.Inner.Heights.{Within}
use Rattle.writer.specs.declared.child.Holds.{Holds}
use Rattle.writer.specs.Inner.Fields.{names_child}

-- ---- the buffer

-- with these lines from line n on
unfoldable pub with_lines : List ℕ → ℕ → List ℕ → List ℕ
with_lines out n ws = paste out (line_length * n) (bytes_of ws) (line_length * length ws)

-- it has room for k lines from line n on, and with them there are no more than a file may have
pub record LineRoom (out : List ℕ) (n k : ℕ) : Type 0 where
  pub fits : line_length * (n + k) ≤ length out
  pub few : n + k ≤ most_lines

-- ---- a tree

-- the frames are writable, and frame i has a tree of at most d levels
pub record HasTree (ws : List ℕ) (d i : ℕ) : Type 0 where
  pub writable : Writable (frames_of ws)
  pub inside : i < length ws
  pub within : Within (frames_of ws) d i

-- the child that a field names, if it names one, has such a tree
pub record FieldHasTree (ws : List ℕ) (d : ℕ) (h : Holds) (v : ℕ) : Type 0 where
  pub tree : names_child h v ≡ true → HasTree ws d v

-- ---- a file

-- the lines, from number n on, of the trees at these frames
unfoldable pub lines_at : List ℕ → ℕ → List ℕ → List ℕ
lines_at ws n is = lined_all n (map (λ i. drawn levels ws i) is)

-- the frame f, of number i, if it is of rank r
unfoldable pub root_at : ℕ → ℕ → Frame → List ℕ
root_at r i f = when eqb (rank f.kind) r then i ∷ [] else []

-- ---- the answer: lines, a buffer, and the verdict on the lines' frames
abbrev pub arranged_after : List ℕ → List ℕ → Verdict → Writing
arranged_after ws out Accepted =
    when eqb (length out) (line_length * length ws)
    then as_writing Accepted (bytes_of (laid_out (drawing ws)))
    else as_writing (Rejected WrongState 0) out
arranged_after ws out (Err r) = as_writing (Err r) out

unfoldable pub arranged : List ℕ → List ℕ → Writing
arranged ws out = arranged_after ws out (drawing_verdict (frames_of ws))
