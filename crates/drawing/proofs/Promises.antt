-- What the writer promises of a text. Assumes nothing.
use mathlib.Core.Path.{◌≡◌, refl, sym, ap, subst, ◌∙◌}
use mathlib.Core.Bool.{true, false, true≢false}
use mathlib.Core.List.{List, [], ◌∷◌}
use Prim.Native.Nat.{ℕ, zero, suc, ◌+◌, ◌*◌, ◌/◌, ◌≤◌, ◌<◌}
use native.Mathlib.Omega.{arith}
use lib.ListN.{length}
use Rattle.language.specs.declared.refusal.Rule.{Rule}
use Rattle.language.specs.declared.refusal.Rule.TheVariants.{WrongHeader}
use Rattle.language.specs.declared.frame.Frame.{Frame}
use Rattle.language.specs.Verdicts.{Accepted, Rejected}
use Rattle.layout.specs.Verdicts.{LayoutVerdict}
use Rattle.layout.specs.Verdicts.{LaidOut, Rejected}
use Rattle.text.specs.Frames.{frames_of, text_frames}
use Rattle.text.specs.Reading.{Reading, frames, Reads}
use Rattle.text.proofs.ReadLaws.{length_words}
use Rattle.text.proofs.FrameWords.{frames_length}
use Rattle.layout.specs.Faults.{Fault, NoFault, LayoutSays}
use Rattle.language.specs.Kinds.{declaration_rank, file_rank, class_of}
use Rattle.language.specs.declared.kind.DeclarationKind.{DeclarationKind}
use Rattle.language.specs.declared.kind.Kind.TheVariants.{Declared}
use Rattle.program.specs.Trees.{frame_at}
use Rattle.layout.specs.Order.{Tree, has_child, has_class, is_main}
use Rattle.fields.specs.Fields.{frame_fine}
use Rattle.layout.specs.Depths.{Depth}
use Rattle.layout.specs.LaidOut.{HasLayout}
use Rattle.layout.specs.Inner.Layouts.{layout_verdict}
use Rattle.layout.proofs.Judged.{has_layout, layout_only}
use Rattle.drawing.specs.Drawings.{drawing, laid_out}
use Rattle.drawing.specs.Texts.{digits_onto, bytes_of, lines_in}
use Rattle.drawing.specs.Writings.{Writing, as_writing, Writable, rewritten, HasWriting}
use Rattle.drawing.specs.Answers.{WellWritten, WritesWell, KeepsOrder}
use Rattle.drawing.proofs.Whole.{in_order_same}
use Rattle.drawing.proofs.Bytes.{Right, right_text, bytes_back, words_small}
use Rattle.drawing.proofs.Counted.{nothing_lost}
use Rattle.drawing.proofs.Writables.{same_drawing, out_small, out_spots, out_in_place}
use Rattle.drawing.proofs.Mains.{out_main}
use Rattle.drawing.proofs.Output.{Spot, no_order, no_leftover, depth_most}
use Rattle.drawing.proofs.Kept.{out_header_fine, out_fields}
use Rattle.drawing.proofs.Ordered.{in_order_writable}
use Rattle.drawing.proofs.Rereads.{lines_back, bytes_read}

-- a text that reads as frames: they are its lines', and it has no wrong byte
pub record Lines (bs : List ℕ) (fs : List Frame) : Type 0 where
  pub same : fs ≡ frames_of (lines_in bs)
  pub right : Right (length bs / 17) bs
  pub some : 0 < length (lines_in bs)
  pub most : length (lines_in bs) ≤ 1024

lines_by : {bs : List ℕ} {r : Reading} {fs : List Frame} → Reads bs r → r ≡ frames fs → Lines bs fs
unfolding text_frames
lines_by Reads.empty e = absurd (let z : ◌≡◌ {A = ℕ} 0 1 = cc in omega arith)
lines_by (Reads.over h) e = absurd (let z : ◌≡◌ {A = ℕ} 0 1 = cc in omega arith)
lines_by (Reads.wrong a b w l) e = absurd (let z : ◌≡◌ {A = ℕ} 0 1 = cc in omega arith)
lines_by {fs = fs} (Reads.whole {bs = bs} a b h) e =
    let q : text_frames bs ≡ fs = cc in
    let r = right_text bs h in
    let s = r.size in
    let n = length_words (length bs / 17) bs in
    record { same = sym q; right = r; some = omega arith; most = omega arith }

pub lines_of : {bs : List ℕ} {fs : List Frame} → Reads bs (frames fs) → Lines bs fs
lines_of r = lines_by r refl

-- ---- 'A file that is already in order comes out byte for byte equal.'
no_fault_of : {bs : List ℕ} {v : LayoutVerdict} → HasLayout bs v → v ≡ LaidOut → rewritten bs ≡ bs
unfolding rewritten
no_fault_of (HasLayout.text h) e = absurd (let z : ◌≡◌ {A = ℕ} 0 1 = cc in omega arith)
no_fault_of {bs} (HasLayout.layout {fs = fs} {v = v} r s) e =
    let l = lines_of r in
    let f : NoFault fs = subst (LayoutSays fs) e s in
    let g : NoFault (frames_of (lines_in bs)) = subst NoFault l.same f in
    ap bytes_of (in_order_same (lines_in bs) (words_small (length bs / 17) bs l.right) g l.some) ∙ bytes_back (length bs / 17) bs l.right

pub in_order_equal : (bs : List ℕ) → layout_verdict bs ≡ LaidOut → rewritten bs ≡ bs
in_order_equal bs e = no_fault_of (has_layout bs) e

-- ---- 'an output .. as long as the text'
digits_length : (n w : ℕ) (rest : List ℕ) → length (digits_onto n w rest) ≡ n + length rest
unfolding digits_onto
digits_length zero w rest = omega arith
digits_length (suc n) w rest = let e = digits_length n (w / 16) (_ ∷ rest) in e ∙ omega arith

pub bytes_length : (ws : List ℕ) → length (bytes_of ws) ≡ 17 * length ws
unfolding bytes_of
bytes_length [] = refl
bytes_length (w ∷ ws) =
    let a = digits_length 16 w (10 ∷ bytes_of ws) in
    let b = bytes_length ws in
    omega arith

writable_lines : {bs : List ℕ} {fs : List Frame} → Reads bs (frames fs) → Writable fs
    → Writable (frames_of (lines_in bs))
writable_lines r s = subst Writable (lines_of r).same s

pub same_length : {bs : List ℕ} {fs : List Frame} → Reads bs (frames fs) → Writable fs
    → length (rewritten bs) ≡ length bs
unfolding rewritten
same_length {bs} r s =
    let l = lines_of r in
    let a = bytes_length (laid_out (drawing (lines_in bs))) in
    let b = nothing_lost (lines_in bs) (writable_lines r s) in
    let c = l.right.size in
    let n = length_words (length bs / 17) bs in
    omega arith

-- ---- 'Read back, the lines give the same tree.'
module _ {bs : List ℕ} {fs : List Frame} (r : Reads bs (frames fs)) (s : Writable fs) where
  abbrev Out : List ℕ
  Out = laid_out (drawing (lines_in bs))

  out_length : length Out ≡ length (lines_in bs)
  out_length = nothing_lost (lines_in bs) (writable_lines r s)

  pub reads_back : Reads (rewritten bs) (frames (frames_of Out))
  unfolding rewritten
  reads_back =
      let l = lines_of r in
      let n = out_length in
      let a = l.some in
      let b = l.most in
      bytes_read (out_small (lines_in bs) (writable_lines r s) l.some l.most) (omega arith) (omega arith)

  pub same_tree : drawing (lines_in (rewritten bs)) ≡ drawing (lines_in bs)
  unfolding rewritten
  same_tree =
      let l = lines_of r in
      ap drawing (lines_back (out_small (lines_in bs) (writable_lines r s) l.some l.most))
      ∙ same_drawing (lines_in bs) (writable_lines r s) l.some l.most

  -- ---- the output has no fault of children's order or class, no leftover, nothing too deep
  spot : (p : ℕ) → p < length Out → Spot Out p
  spot = let l = lines_of r in out_spots (lines_in bs) (writable_lines r s) l.some l.most

  pub out_order : (j : ℕ) → j < length (frames_of Out) → ((lo : ℕ) → Tree (frames_of Out) lo j → ⊥)
      → ⊥
  out_order = no_order Out spot

  pub out_leftover : (j : ℕ) → j < length (frames_of Out)
      → has_class (class_of (frame_at (frames_of Out) j).kind) ≡ true
      → ((i : ℕ) → i < length (frames_of Out) → has_child j (frame_at (frames_of Out) i) ≡ false) → ⊥
  out_leftover = no_leftover Out spot

  pub out_depth : (j d : ℕ) → Depth (frames_of Out) j d → d ≤ 24
  out_depth = depth_most Out spot

  -- no declaration after a frame that it should precede, and main is last
  pub out_misplaced : (i j : ℕ) (d : DeclarationKind) → i < j → j < length (frames_of Out)
      → (frame_at (frames_of Out) j).kind ≡ Declared d
      → declaration_rank d < file_rank (frame_at (frames_of Out) i).kind → ⊥
  out_misplaced =
      let l = lines_of r in
      out_in_place (lines_in bs) (writable_lines r s) l.some l.most

  pub out_last : (j : ℕ) → suc j ≡ length (frames_of Out) → is_main (frame_at (frames_of Out) j) ≡ true
  out_last = let l = lines_of r in out_main (lines_in bs) (writable_lines r s) l.some l.most

  -- and every line has a kind and fields that are right
  pub out_right : (j : ℕ) → j < length (frames_of Out)
      → frame_fine (frames_of Out) j (frame_at (frames_of Out) j) ≡ true
  out_right = let l = lines_of r in out_fields (lines_in bs) (writable_lines r s) l.some l.most

  -- ---- so it passes 4 to 7
  pub out_fault : NoFault (frames_of Out)
  out_fault n j (Fault.header h) =
      let l = lines_of r in
      let w = writable_lines r s in
      w.early WrongHeader 0 (omega arith) (Fault.header (sym (out_header_fine (lines_in bs) w l.some l.most) ∙ h))
  out_fault n j (Fault.field {j = k} l h) = true≢false (sym (out_right k l) ∙ h)
  out_fault n j (Fault.order {j = k} l h) = out_order k l h
  out_fault n j (Fault.misplaced {i = i} {j = k} {d = d} a b c m) = out_misplaced i k d a b c m
  out_fault n j (Fault.leftover {j = k} a b c) = out_leftover k a b c
  out_fault n j (Fault.main {j = k} a b) = true≢false (sym (out_last k a) ∙ b)
  out_fault n j (Fault.depth {j = k} {d = d} a b) = let m = out_depth k d a in omega arith

-- ---- so of every text that is written
no_refusal : {m : Rule} {j : ℕ} {a b : List ℕ} → as_writing (Rejected m j) a ≡ as_writing Accepted b → ⊥
no_refusal {m} {j} e =
    let v : Rejected m j ≡ Accepted = ap (λ (w : Writing). w.verdict) e in
    let z : ◌≡◌ {A = ℕ} 0 1 = cc in
    omega arith

written_by : {bs lent : List ℕ} {w : Writing} (out : List ℕ) → HasWriting bs lent w
    → w ≡ as_writing Accepted out → WellWritten bs out
written_by out (HasWriting.text r) e = absurd (no_refusal e)
written_by out (HasWriting.early r f l) e =
    absurd (no_refusal e)
written_by out (HasWriting.tree r a h) e = absurd (no_refusal e)
written_by out (HasWriting.shape r a t h) e =
    absurd (no_refusal e)
written_by out (HasWriting.depth r a t m h) e = absurd (no_refusal e)
written_by out (HasWriting.unfit r s d) e = absurd (no_refusal e)
written_by {bs} out (HasWriting.lines r s l) e =
    let q : rewritten bs ≡ out = ap (λ (w : Writing). w.out) e in
    subst (WellWritten bs) q (record { passes = HasLayout.layout {v = LaidOut} (reads_back r s) (out_fault r s); tree = same_tree r s; long = same_length r s })

pub writes_well : WritesWell
writes_well bs lent out h = written_by out h refl

-- ---- and of every file in order
kept_by : {bs lent : List ℕ} {v : LayoutVerdict} → HasLayout bs v → v ≡ LaidOut
    → length lent ≡ length bs → HasWriting bs lent (as_writing Accepted (rewritten bs))
kept_by (HasLayout.text h) e m = absurd (let z : ◌≡◌ {A = ℕ} 0 1 = cc in omega arith)
kept_by {bs} (HasLayout.layout {fs = fs} r s) e m =
    let l = lines_of r in
    let n = frames_length (lines_in bs) in
    let k = l.some in
    let some : 0 < length fs = subst (λ (gs : List Frame). 0 < length gs) (sym l.same) (omega arith) in
    HasWriting.lines r (in_order_writable fs (subst (LayoutSays fs) e s) some) m

pub keeps_order : KeepsOrder
keeps_order bs lent h m =
    subst (λ (out : List ℕ). HasWriting bs lent (as_writing Accepted out))
    (in_order_equal bs (sym (layout_only h))) (kept_by h refl m)
