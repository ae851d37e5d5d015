-- The code's pass of refusal 5 over the kinds and fields of the frames, with a running tally.
-- Assumes nothing.
use mathlib.Core.Path.{◌≡◌, refl, sym, ap, ◌∙◌}
use mathlib.Core.Bool.{Bool, true, false, not, ◌&&◌}
use mathlib.Core.List.{List, [], ◌∷◌, ◌++◌}
use Prim.Native.Nat.{ℕ, ◌+◌, ◌≤◌, ◌<◌}
use native.Mathlib.Omega.{arith}
use lib.Dec.{ltb, leb}
use lib.ListN.{length, take}
use borrow.Author.Tests.{ltb-true, ltb-false, leb-true, not-false}
use Rattle.basics.proofs.Ifs.{and_true}
use Rattle.language.specs.Limits.{most_shared}
use Rattle.language.specs.Places.{is_place, has_scheduler}
use Rattle.language.specs.Types.{cell_depth, cell_type, public, type_word, content_word, room_around}
use Rattle.language.specs.Kinds.{is_shared, is_module, uses}
use Rattle.language.specs.declared.kind.Kind.{Kind}
use Rattle.language.specs.declared.kind.DeclarationKind.TheVariants.{Shared}
use Rattle.language.specs.declared.kind.Kind.TheVariants.{Declared, Module}
use Rattle.language.specs.declared.frame.Frame.{Frame}
use Rattle.language.proofs.Words.{depth_3}
use Rattle.language.proofs.PlaceLaws.{scheduler_place, has_scheduler_lem}
use Rattle.text.specs.Frames.{frames_of}
use Rattle.program.specs.Trees.{frame_at}
use Rattle.program.specs.Programs.{shared_of}
use Rattle.program.proofs.FrameLaws.{frames_more}
use Rattle.std.specs.Prelude.{Some, None}
use Rattle.fields.specs.Fields.{schedulers_of, field_fine, count_of, kind_fine, frame_fine}
use Rattle.fields.specs.Inner.Scans.{field_fault}
use Rattle.fields.specs.Inner.Tallies.{Counted, tallied, tally_of}
use Rattle.fields.proofs.Seeking.{Seeking, seek_here, seek_next, seek_end}
use Rattle.fields.proofs.Tallies.{told_shared, told_module, tally_cells, tally_modules}
use Rattle.fields.proofs.Tallies.{tally_other, tally_module, tally_cell}

-- ---- the tally with one frame more
-- a content type has at most two cells, so there is room for one around it
word_depth : (b a : ℕ) → content_word b a ≡ true → cell_depth a ≤ 2
unfolding content_word
word_depth b a h =
    leb-true (cell_depth a) 2 (and_true (type_word b a && public a) (leb (cell_depth a) 2) h).1

word_room : (b a : ℕ) → content_word b a ≡ true → room_around a ≡ true
word_room b a h = go (ltb a 0x1000) refl
  where
    go : (t : Bool) → ltb a 0x1000 ≡ t → ltb a 0x1000 ≡ true
    go true e = e
    go false e = absurd (let l : 0x1000 ≤ a = ltb-false a 0x1000 e in let z = depth_3 a (omega arith) (omega arith) l in let d = word_depth b a h in omega arith)

-- a frame without fault 5 is right in its kind, its S and its A
pub fine_parts : (fs : List Frame) (i : ℕ) (f : Frame) → frame_fine fs i f ≡ true
    → (kind_fine fs i f.kind ≡ true) × (field_fine fs i f (uses f.kind).s f.s ≡ true)
    × (field_fine fs i f (uses f.kind).a f.a ≡ true)
unfolding frame_fine
fine_parts fs i f h =
    let c = and_true _ _ h in
    let b = and_true _ _ c.0 in
    let a = and_true _ _ b.0 in
    let s = and_true _ _ a.0 in
    (s.0, s.1, a.1)

-- and where it is a shared cell, there are fewer than 16 before it, its owner is a place, and there
-- is room around its content
module _ (fs : List Frame) (i : ℕ) (f : Frame) (fine : frame_fine fs i f ≡ true)
    (k : f.kind ≡ Declared Shared) where
  pub shared_few : count_of is_shared (take i fs) < most_shared
  shared_few = ltb-true _ _ (sym (ap (kind_fine fs i) k) ∙ (fine_parts fs i f fine).0)

  pub owner_place : is_place f.s ≡ true
  owner_place =
      let asked : Kind → Bool = λ (q : Kind). field_fine fs i f (uses q).s f.s in
      let a : has_scheduler (schedulers_of fs) f.s ≡ true =
      sym (ap asked k) ∙ (fine_parts fs i f fine).1 in
      scheduler_place f.s (has_scheduler_lem (schedulers_of fs) f.s a).0

  pub content_room : room_around f.a ≡ true
  content_room =
      let asked : Kind → Bool = λ (q : Kind). field_fine fs i f (uses q).a f.a in
      word_room (schedulers_of fs) f.a (sym (ap asked k) ∙ (fine_parts fs i f fine).2)

module _ (ws : List ℕ) (i : ℕ) (f : Frame) (t : Counted) (e : f ≡ frame_at (frames_of ws) i) (h : t ≡ tally_of (take i (frames_of ws))) (fine : frame_fine (frames_of ws) i (frame_at (frames_of ws) i) ≡ true) where
  fine_f : frame_fine (frames_of ws) i f ≡ true
  fine_f = ap (frame_fine (frames_of ws) i) e ∙ fine

  pub cell_room : f.kind ≡ Declared Shared → length t.types < 16
  cell_room k =
      let b = shared_few (frames_of ws) i f fine_f k in
      let c = tally_cells (take i (frames_of ws)) t h in
      omega arith

  pub module_room : f.kind ≡ Module → t.modules < 16
  module_room k =
      let a : ltb (count_of is_module (take i (frames_of ws))) 16 ≡ true = sym (ap (kind_fine (frames_of ws) i) k) ∙ (fine_parts (frames_of ws) i f fine_f).0 in
      let b : count_of is_module (take i (frames_of ws)) < 16 = ltb-true _ 16 a in
      let c = tally_modules (take i (frames_of ws)) t h in
      omega arith

  pub shared_owner : f.kind ≡ Declared Shared → is_place f.s ≡ true
  shared_owner k = owner_place (frames_of ws) i f fine_f k

  pub shared_room : f.kind ≡ Declared Shared → room_around f.a ≡ true
  shared_room k = content_room (frames_of ws) i f fine_f k

  pub with_other : (x y : Bool) → x ≡ is_shared f.kind → x ≡ false → y ≡ is_module f.kind
      → y ≡ false → i < length ws → t ≡ tally_of (take (i + 1) (frames_of ws))
  with_other x y p s q m l =
      tally_other (take i (frames_of ws)) f t h (sym p ∙ s) (sym q ∙ m)
      ∙ ap tally_of (frames_more ws i f e l)

  pub with_module : (r : Counted) → f.kind ≡ Module
      → r ≡ tallied t.types (t.modules + 1) → i < length ws
      → r ≡ tally_of (take (i + 1) (frames_of ws))
  with_module r q g l =
      g ∙ tally_module (take i (frames_of ws)) f t h (ap is_shared q) (ap is_module q)
      ∙ ap tally_of (frames_more ws i f e l)

  pub with_shared : (r : Counted) (w : ℕ) → f.kind ≡ Declared Shared → w ≡ cell_type f.s f.a
      → r ≡ tallied (t.types ++ (w ∷ [])) t.modules → i < length ws
      → r ≡ tally_of (take (i + 1) (frames_of ws))
  with_shared r w q v g l =
      g ∙ ap (λ (x : ℕ). tallied (t.types ++ (x ∷ [])) t.modules) v
      ∙ tally_cell (take i (frames_of ws)) f t h (ap is_shared q) (ap is_module q)
      ∙ ap tally_of (frames_more ws i f e l)

pub ruleset counted_laws = (with_module, with_shared, with_other, told_shared, told_module)

-- ---- the loop
abbrev field_test : List Frame → ℕ → Frame → Bool
field_test fs i f = not (frame_fine fs i f)

abbrev pub SeekingField : List Frame → ℕ → Type 0
SeekingField fs i = Seeking (field_test fs) fs i

pub tally_start : (t : Counted) → t ≡ tallied [] 0 → t ≡ tally_of []
unfolding tally_of count_of shared_of
tally_start t h = h

module _ (ws : List ℕ) (i : ℕ) (x : Bool) (e : x ≡ frame_fine (frames_of ws) i (frame_at (frames_of ws) i)) where
  pub is_fine : not x ≡ false → frame_fine (frames_of ws) i (frame_at (frames_of ws) i) ≡ true
  is_fine n = sym e ∙ not-false x n

  pub fields_here : not x ≡ true → SeekingField (frames_of ws) i → i < length ws
      → Some i ≡ field_fault (frames_of ws)
  unfolding field_fault
  fields_here n g l = seek_here (field_test (frames_of ws)) ws i g l (ap not (sym e) ∙ n)

  pub fields_next : not x ≡ false → SeekingField (frames_of ws) i → i < length ws
      → SeekingField (frames_of ws) (i + 1)
  fields_next n g l = seek_next (field_test (frames_of ws)) ws i g l (ap not (sym e) ∙ n)

pub fields_end : (ws : List ℕ) (i : ℕ) → SeekingField (frames_of ws) i → length ws ≤ i
    → None ≡ field_fault (frames_of ws)
unfolding field_fault
fields_end ws i g l = seek_end (field_test (frames_of ws)) ws i g l

pub ruleset pass_laws = (tally_start, is_fine, fields_here, fields_next, fields_end)
