-- Main's body as the code finds it, from the last frame down: the first module met is the program's
-- last. Assumes nothing.
use Prim.Native.Nat.{ℕ, suc, ◌+◌, ◌-◌, ◌<◌, ◌≤◌}
use mathlib.Core.Path.{◌≡◌, refl, sym, ap, ap₂, ◌∙◌}
use mathlib.Core.List.{List, [], ◌∷◌, ◌++◌}
use mathlib.Core.Bool.{Bool, true, false}
use native.Mathlib.Omega.{arith}
use native.Mathlib.Nat.{zero-add}
use lib.ListN.{get_or, length, drop, take, length-append, take-append-drop}
use lib.Seq.{get_or_at, length-take-le}
use Rattle.language.specs.Kinds.{is_module}
use Rattle.language.specs.declared.kind.Kind.{Kind}
use Rattle.language.specs.declared.kind.Kind.TheVariants.{Header, Declared, Module, Statement}
use Rattle.language.specs.declared.kind.Kind.TheVariants.{Expression, Unknown}
use Rattle.language.specs.declared.frame.Frame.{Frame}
use Rattle.text.specs.Frames.{frame_of_word, frames_of}
use Rattle.text.proofs.FrameWords.{frames_length, next_frame, frames_end}
use Rattle.program.specs.Trees.{root_s}
use Rattle.program.specs.Programs.{Part, part_of, modules_from, program_of, main_of}
use Rattle.program.specs.Inner.Modules.{with_part}
use Rattle.program.specs.Programs.{no_module}
use Rattle.program.proofs.Roots.{statement_root}
use Rattle.program.proofs.OneMore.{part_no, part_yes}

-- ---- the modules of frames, one frame more
part_append : (fs : List Frame) (i : ℕ) (f : Frame) (k : Kind) (ps qs : List Part)
    → with_part fs i f k (ps ++ qs) ≡ with_part fs i f k ps ++ qs
part_append fs i f Module ps qs = refl
part_append fs i f Header ps qs = refl
part_append fs i f (Declared d) ps qs = refl
part_append fs i f (Statement k) ps qs = refl
part_append fs i f (Expression k) ps qs = refl
part_append fs i f Unknown ps qs = refl

modules_append : (fs xs ys : List Frame) (i : ℕ)
    → modules_from fs i (xs ++ ys) ≡ modules_from fs i xs ++ modules_from fs (i + length xs) ys
unfolding modules_from
modules_append fs [] ys i = ap (λ (n : ℕ). modules_from fs n ys) (omega arith)
modules_append fs (x ∷ xs) ys i =
    let z : suc i + length xs ≡ i + suc (length xs) = omega arith in
    ap (with_part fs i x x.kind) (modules_append fs xs ys (suc i) ∙ ap (λ (n : ℕ). modules_from fs (suc i) xs ++ modules_from fs n ys) z)
    ∙ part_append fs i x x.kind (modules_from fs (suc i) xs)
    (modules_from fs (i + suc (length xs)) ys)

last_part : (ps : List Part) (p : Part)
    → get_or (ps ++ (p ∷ [])) (length (ps ++ (p ∷ [])) - 1) no_module ≡ p
last_part ps p =
    get_or_at ps p [] no_module (length (ps ++ (p ∷ [])) - 1) (size (length-append ps (p ∷ [])))
  where
    size : {n m : ℕ} → n ≡ m + 1 → m ≡ n - 1
    size e = omega arith

-- ---- the loop from the last frame down: i frames are left, and there is no module after them
-- the modules from frame i on
abbrev pub parts_from : List ℕ → ℕ → List Part
parts_from words i = modules_from (frames_of words) i (drop i (frames_of words))

pub main_start : (words : List ℕ) → parts_from words (length words) ≡ []
unfolding modules_from
main_start words =
    ap (modules_from (frames_of words) (length words)) (frames_end words (length words) (omega arith))

module _ (words : List ℕ) (i : ℕ) (f : Frame) (t : Bool) (e : f ≡ frame_of_word (get_or words (i - 1) 0)) (q : t ≡ is_module f.kind) (p : 0 < i) (l : i ≤ length words)
    (none : parts_from words i ≡ []) where
  after : suc (i - 1) ≡ i
  after = omega arith

  again : i - 1 + 1 ≡ i
  again = omega arith

  from_here : parts_from words (i - 1) ≡ with_part (frames_of words) (i - 1) f f.kind []
  unfolding modules_from
  from_here =
      ap (modules_from (frames_of words) (i - 1)) (next_frame words (i - 1) f (omega arith) e)
      ∙ ap (with_part (frames_of words) (i - 1) f f.kind) (ap₂ (λ (j k : ℕ). modules_from (frames_of words) j (drop k (frames_of words))) after again ∙ none)

  pub main_more : t ≡ false → parts_from words (i - 1) ≡ []
  main_more h = from_here ∙ part_no (frames_of words) (i - 1) f f.kind [] (sym q ∙ h)

  pub main_found : (n : ℕ) → t ≡ true → n ≡ f.a
      → n ≡ root_s (main_of (program_of (frames_of words))).body
  unfolding program_of
  main_found n h z = z ∙ sym (ap (λ (ps : List Part). root_s (get_or ps (length ps - 1) no_module).body) split ∙ ap (λ (x : Part). root_s x.body) (last_part (modules_from fs 0 (take (i - 1) fs)) (part_of fs (i - 1) f)) ∙ statement_root fs f.a)
    where
      fs : List Frame
      fs = frames_of words

      front : length (take (i - 1) (frames_of words)) ≡ i - 1
      front = length-take-le (i - 1) (frames_of words) (rw (frames_length words) (omega arith))

      place : 0 + length (take (i - 1) (frames_of words)) ≡ i - 1
      place = zero-add (length (take (i - 1) (frames_of words))) ∙ front

      split : modules_from (frames_of words) 0 (frames_of words)
          ≡ modules_from (frames_of words) 0
          (take (i - 1) (frames_of words)) ++ (part_of (frames_of words) (i - 1) f ∷ [])
      split =
          ap (modules_from fs 0) (sym (take-append-drop (i - 1) fs))
          ∙ modules_append fs (take (i - 1) fs) (drop (i - 1) fs) 0
          ∙ ap (λ (ps : List Part). modules_from fs 0 (take (i - 1) fs) ++ ps)
          (ap (λ (n : ℕ). modules_from fs n (drop (i - 1) fs)) place ∙ from_here ∙ part_yes fs (i - 1) f f.kind [] (sym q ∙ h))

pub main_none : (words : List ℕ) (i : ℕ) → parts_from words i ≡ [] → i ≤ 0
    → 0 ≡ root_s (main_of (program_of (frames_of words))).body
unfolding program_of
main_none words i e h =
    let z : 0 ≡ i = omega arith in
    sym (ap (λ (ps : List Part). root_s (get_or ps (length ps - 1) no_module).body) (ap (parts_from words) z ∙ e))
