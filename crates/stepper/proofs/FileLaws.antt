-- What a step needs to know of a file, from its frames. Assumes nothing.
use Prim.Native.Nat.{ℕ, ◌^◌, ◌<◌}
use mathlib.Core.Path.{◌≡◌, sym, ap, ◌∙◌}
use mathlib.Core.List.{List}
use native.Mathlib.Omega.{arith}
use lib.ListN.{get_or, length}
use borrow.Author.Tests.{eq-eqb, ne_eqb}
use Rattle.basics.proofs.Ifs.{if_yes, if_no}
use Rattle.language.specs.declared.frame.Frame.{Frame}
use Rattle.language.specs.Limits.{default_allowance}
use Rattle.text.specs.Frames.{frame_of_word, frames_of}
use Rattle.text.proofs.FrameWords.{frames_length, frame_at_lem}
use Rattle.program.specs.Trees.{no_frame}
use Rattle.language.specs.Inner.Labels.{labels_of}
use Rattle.program.specs.Programs.{shared_of, links_of, allowance_of, program_of}
use Rattle.program.specs.Inner.Links.{LinksPlaced}
use Rattle.layout.proofs.Links.{links_placed}
use Rattle.reach.proofs.Passed.{schedulers_range, some_frame}
use Rattle.stepper.specs.declared.file.File.{File}
use Rattle.stepper.specs.Inner.Files.{FileWords, file_of}

-- ---- the allowance
module _ (a : ℕ) where
  pub allowance_none : a ≡ 0 → default_allowance ≡ allowance_of a
  unfolding allowance_of
  allowance_none h = sym (if_yes _ _ (eq-eqb a 0 h))

  pub allowance_some : (a ≡ 0 → ⊥) → a ≡ allowance_of a
  unfolding allowance_of
  allowance_some h = sym (if_no _ _ (ne_eqb a 0 h))

pub ruleset allowance_laws = (allowance_none, allowance_some)

-- ---- the header
module _ (words : List ℕ) (g : FileWords words) where
  pub file_some : 0 < length words
  file_some = let l = some_frame g.laid_out in let z = frames_length words in omega arith

  file_header : (f : Frame) → f ≡ frame_of_word (get_or words 0 0) → f ≡ get_or (frames_of words) 0 no_frame
  file_header f e = e ∙ sym (frame_at_lem words 0 no_frame file_some)

pub file_fits : (words : List ℕ) (f : Frame) → f ≡ frame_of_word (get_or words 0 0) → FileWords words
    → f.b < 2 ^ 8
file_fits words f e g =
    let r = (schedulers_range g.laid_out).1 in
    let z = ap (λ (x : Frame). x.b) (file_header words g f e) in
    omega arith

-- each link names two schedulers
pub file_links : (words : List ℕ) → FileWords words → LinksPlaced (frames_of words)
file_links words g = links_placed (frames_of words) g.laid_out

pub file_is : (words : List ℕ) (f : Frame) (n a : ℕ) (labels : List ℕ)
    → f ≡ frame_of_word (get_or words 0 0) → n ≡ length (shared_of (frames_of words)) → a ≡ allowance_of f.a
    → labels ≡ labels_of (links_of (frames_of words)) → FileWords words
    → ◌≡◌ {A = File} (record { schedulers = record { labels = labels; count = f.b }; shared = n; allowance = a })
    (file_of (program_of (frames_of words)))
unfolding program_of
file_is words f n a labels e h k l g =
    let z = file_header words g f e in
    let y = k ∙ ap (λ (x : Frame). allowance_of x.a) z in
    λ i. record { schedulers = record { labels = l i; count = (z i).b }; shared = h i; allowance = y i }
