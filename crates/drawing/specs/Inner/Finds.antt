-- What the writer refuses, as functions that compute. No reader has to believe it: proofs/Answers
-- shows that they give what `HasWriting` allows. Assumes nothing: definitions.
use Rattle.std.specs.Prelude.{Err}
use Rattle.std.specs.Prelude.{Bool, false, not, ◌&&◌, ◌||◌, List, ℕ, zero, suc, leb, ltb, eqb, length, drop}
use Rattle.std.specs.Prelude.{Option}
use Rattle.basics.specs.If.{when◌then◌else◌}
use Rattle.basics.specs.Members.{any}
use Rattle.basics.specs.Inner.Searches.{lowest}
use Rattle.language.specs.Kinds.{is_module, class_of, Child, children}
use Rattle.language.specs.Limits.{most_depth}
use Rattle.language.specs.declared.refusal.Rule.TheVariants.{WrongHeader, WrongField, WrongTree}
use Rattle.language.specs.declared.refusal.Rule.TheVariants.{WrongOrder, TooDeep, WrongState}
use Rattle.language.specs.declared.frame.Frame.{Frame}
use Rattle.language.specs.Verdicts.{Verdict}
use Rattle.language.specs.Verdicts.{Accepted, Rejected}
use Rattle.program.specs.Trees.{frame_at}
use Rattle.program.specs.Inner.Children.{same_class}
use Rattle.text.specs.Reading.{Reading, frames, refused}
use Rattle.fields.specs.Inner.Scans.{header_fault, field_fault, refused_at, then_try}
use Rattle.layout.specs.Order.{has_child, has_class}
use Rattle.layout.specs.Uses.{used}
use Rattle.drawing.specs.Writings.{Writing, as_writing, rewritten}

-- ---- 21
-- j is below frame i, in at most k + 1 steps
unfoldable pub below_to : ℕ → List Frame → ℕ → ℕ → Bool
below_to zero fs j i = has_child j (frame_at fs i)
below_to (suc k) fs j i =
    has_child j (frame_at fs i)
    || any (λ (c : Child). below_to k fs j c.at) (children (frame_at fs i))

-- as many steps as there are frames are enough
abbrev pub is_below : List Frame → ℕ → ℕ → Bool
is_below fs j i = below_to (suc (length fs)) fs j i

unfoldable pub is_tree_fault : List Frame → ℕ → Frame → Bool
is_tree_fault fs i f =
    any (λ (c : Child). leb (length fs) c.at) (children f)
    || (leb 2 (used i fs) || is_below fs i i)

unfoldable pub tree_fault_at : List Frame → Option ℕ
tree_fault_at fs = lowest (is_tree_fault fs) 0 fs

-- ---- 6
abbrev pub is_module_frame : Frame → Bool
is_module_frame f = is_module f.kind

abbrev pub wrong_class : List Frame → Child → Bool
wrong_class fs c = not (same_class (class_of (frame_at fs c.at).kind) c.class)

unfoldable pub is_shape_fault : List Frame → ℕ → Frame → Bool
is_shape_fault fs i f =
    any (wrong_class fs) (children f)
    || ((has_class (class_of f.kind) && not (any (has_child i) fs))
    || ((is_module f.kind && not (any is_module_frame (drop (suc i) fs)) && not (eqb f.s 0))
    || (eqb (suc i) (length fs) && not (any is_module_frame fs))))

unfoldable pub shape_fault_at : List Frame → Option ℕ
shape_fault_at fs = lowest (is_shape_fault fs) 0 fs

-- ---- 7
-- in the tree at frame i, which stands at the depth d, frame j stands deeper than 24; n bounds the
-- steps down
unfoldable pub deeper_to : ℕ → List Frame → ℕ → ℕ → ℕ → Bool
deeper_to zero fs j d i = false
deeper_to (suc n) fs j d i =
    (ltb most_depth d && eqb i j)
    || any (λ (c : Child). deeper_to n fs j (suc d) c.at) (children (frame_at fs i))

-- in the body of a module; without a circle no path of children is longer than there are frames
unfoldable pub is_deep : List Frame → ℕ → Frame → Bool
is_deep fs j f =
    any (λ (g : Frame). is_module g.kind && deeper_to (suc (length fs)) fs j 1 g.a) fs

unfoldable pub depth_fault_at : List Frame → Option ℕ
depth_fault_at fs = lowest (is_deep fs) 0 fs

-- ---- 4, 5, 21, 6 and 7
abbrev pub form_verdict : List Frame → Verdict
form_verdict fs =
    then_try (refused_at WrongTree (tree_fault_at fs)) λ _.
    then_try (refused_at WrongOrder (shape_fault_at fs)) λ _.
    refused_at TooDeep (depth_fault_at fs)

unfoldable pub drawing_verdict : List Frame → Verdict
drawing_verdict fs =
    then_try (refused_at WrongHeader (header_fault fs)) λ _.
    then_try (refused_at WrongField (field_fault fs)) λ _.
    form_verdict fs

-- ---- the answer, from that verdict; 14 comes last
abbrev pub writing_after : List ℕ → List ℕ → Verdict → Writing
writing_after bs out Accepted =
    when eqb (length out) (length bs) then as_writing Accepted (rewritten bs) else
    as_writing (Rejected WrongState 0) out
writing_after bs out (Err r) = as_writing (Err r) out

unfoldable pub writing_of : List ℕ → List ℕ → List Frame → Writing
writing_of bs out fs = writing_after bs out (drawing_verdict fs)

abbrev pub writing_read : List ℕ → List ℕ → Reading → Writing
writing_read bs out (frames fs) = writing_of bs out fs
writing_read bs out (refused m j) = as_writing (Rejected m j) out
