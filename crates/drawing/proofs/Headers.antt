-- The first line that is laid out from a writable file is the header as it was. Assumes nothing.
use mathlib.Core.Path.{◌≡◌, refl, sym, ap, subst, ◌∙◌}
use mathlib.Core.List.{List, [], ◌∷◌, ◌++◌, map}
use Prim.Native.Nat.{ℕ, ◌+◌, ◌<◌}
use native.Mathlib.Omega.{arith}
use lib.ListN.{length, get_or}
use Rattle.language.specs.Kinds.{uses, child_in}
use Rattle.language.specs.declared.kind.Kind.{Kind}
use Rattle.language.specs.declared.kind.Kind.TheVariants.{Header}
use Rattle.language.specs.Limits.{most_depth}
use Rattle.language.specs.declared.frame.Frame.{Frame}
use Rattle.text.specs.Frames.{frame_of_word, frames_of}
use Rattle.text.proofs.FrameWords.{frames_length, frame_at_lem}
use Rattle.program.specs.Trees.{no_frame, frame_at}
use Rattle.drawing.specs.Drawings.{head_of, Drawn, node, kept, size, size_in, field_with, drawn}
use Rattle.drawing.specs.Drawings.{value_from, lined, lined_all, rank, ranks, levels, roots_to}
use Rattle.drawing.specs.Drawings.{drawing, laid_out, module_rank}
use Rattle.drawing.specs.Writings.{Writable}
use Rattle.drawing.proofs.Lines.{frame_head}
use Rattle.drawing.proofs.Back.{Fits, node_same}
use Rattle.drawing.proofs.Roots.{rank_of}
use Rattle.drawing.proofs.Counted.{roots_within}
use Rattle.drawing.proofs.Output.{Lies, parts}
use Rattle.drawing.proofs.Writables.{drawn_fits, begins, first_kind}

module _ (ws : List ℕ) (writable : Writable (frames_of ws)) (some : 0 < length ws) where
  abbrev Fs : List Frame
  Fs = frames_of ws

  abbrev w : ℕ
  w = get_or ws 0 0

  abbrev f : Frame
  f = frame_of_word w

  abbrev line : Drawn
  line = node (head_of w) (kept f.a) (kept f.b) (kept f.c)

  kind : f.kind ≡ Header
  kind = ap (λ (g : Frame). g.kind) (sym (frame_at_lem ws 0 no_frame some)) ∙ first_kind ws writable

  one_line : drawn levels ws 0 ≡ line
  unfolding drawn
  one_line = node_same (head_of w)
      (ap (λ (k : Kind). field_with (λ j. drawn most_depth ws j) f.a (child_in (uses k).a f.a)) kind)
      (ap (λ (k : Kind). field_with (λ j. drawn most_depth ws j) f.b (child_in (uses k).b f.b)) kind)
      (ap (λ (k : Kind). field_with (λ j. drawn most_depth ws j) f.c (child_in (uses k).c f.c)) kind)

  line_fits : Fits line
  line_fits =
      let n = frames_length ws in
      let r : rank_of (frame_at Fs 0) ≡ 0 = ap rank (first_kind ws writable) in
      subst Fits one_line (drawn_fits ws writable (roots_within ws writable 0 (omega arith) (omega arith)) some)

  pub out_header : frame_at (frames_of (laid_out (drawing ws))) 0 ≡ frame_at Fs 0
  unfolding drawing laid_out lined_all size size_in value_from
  out_header =
      let n = frames_length ws in
      let b = begins ws writable module_rank (omega arith) in
      let draw : ℕ → Drawn = λ i. drawn levels ws i in
      let out : List ℕ = lined_all 0 (map draw (roots_to ranks Fs)) in
      let same : lined_all 0 (map draw (roots_to ranks Fs)) ≡ lined 0 line ++ lined_all (0 + size line) (map draw b.rest) = ap (λ (is : List ℕ). lined_all 0 (map draw is)) b.same ∙ ap (λ (t : Drawn). lined_all 0 (t ∷ map draw b.rest)) one_line in
      let lies : Lies out 0 line = record { pre = []; after = lined_all (0 + size line) (map draw b.rest); len = refl; same = same; fits = line_fits; room = omega arith; begin = λ q. absurd (omega arith) } in
      (parts out lies).frame ∙ sym (frame_head w) ∙ sym (frame_at_lem ws 0 no_frame some)
