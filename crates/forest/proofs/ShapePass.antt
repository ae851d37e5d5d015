-- The code's passes for the writer's 6: the classes, `main`, and the lower of both. Assumes
-- nothing.
use mathlib.Core.Path.{◌≡◌, refl, sym, ap, ap₂, ◌∙◌}
use mathlib.Core.Logic.{◌⊎◌, inl, inr, ⊎_elim}
use mathlib.Core.Bool.{Bool, true, false, not, ◌&&◌, ◌||◌, true≢false}
use mathlib.Core.List.{List, [], ◌∷◌}
use Rattle.std.specs.Prelude.{Option, Some, None}
use Prim.Native.Nat.{ℕ, suc, ◌+◌, ◌-◌, ◌≤◌, ◌<◌}
use native.Mathlib.Omega.{arith}
use lib.Dec.{eqb, ltb}
use lib.ListN.{get_or, length, drop, length-drop}
use lib.Seq.{get_or-drop}
use borrow.Author.Tests.{eq-eqb, ne_eqb, eqb-true, eqb-false, ltb-true, ltb-false, not-true}
use Rattle.basics.specs.Members.{any}
use Rattle.basics.specs.Inner.Searches.{lowest, earlier}
use Rattle.basics.proofs.Ifs.{and_true, and_both, or_true, or_left, or_right}
use Rattle.language.specs.Kinds.{is_module, class_of}
use Rattle.language.specs.declared.frame.Frame.{Frame}
use Rattle.text.specs.Frames.{frames_of}
use Rattle.text.proofs.FrameWords.{frames_length, frames_end}
use Rattle.program.specs.Trees.{no_frame, frame_at}
use Rattle.program.proofs.FrameLaws.{frames_next}
use Rattle.fields.proofs.Seeking.{Seeking, seek_here, seek_next, seek_end}
use Rattle.layout.specs.Order.{has_child, has_class}
use Rattle.layout.specs.Inner.Uses.{CountsUses}
use Rattle.layout.proofs.Searches.{Lowest, either, same_low, lowest_one, lowest_all, any_false}
use Rattle.drawing.specs.Inner.Finds.{is_module_frame, is_shape_fault, shape_fault_at}
use Rattle.forest.specs.Inner.FrameTests.{has_wrong_child, has_class_fault, is_main_fault}
use Rattle.forest.proofs.ShapeTests.{class_fault_is}

-- ---- the loop that looks for a class_fault
abbrev pub SeekingMisfit : List Frame → ℕ → Type 0
SeekingMisfit fs i = Seeking (has_class_fault fs) fs i

module _ (ws u : List ℕ) (i : ℕ) (f : Frame) (b : Bool)
    (e : f ≡ frame_at (frames_of ws) i)
    (h : b ≡ (has_wrong_child (frames_of ws) f
    || (has_class (class_of f.kind) && eqb (get_or u i 0) 0))) where
  pub class_fault_here : b ≡ true → CountsUses (frames_of ws) u → SeekingMisfit (frames_of ws) i
      → i < length ws → length ws ≤ 1024
      → Some i ≡ lowest (has_class_fault (frames_of ws)) 0 (frames_of ws)
  class_fault_here t cs g l m =
      seek_here (has_class_fault (frames_of ws)) ws i g l (class_fault_is ws u i f b e h cs l m ∙ t)

  pub class_fault_next : b ≡ false → CountsUses (frames_of ws) u → SeekingMisfit (frames_of ws) i
      → i < length ws → length ws ≤ 1024 → SeekingMisfit (frames_of ws) (i + 1)
  class_fault_next t cs g l m =
      seek_next (has_class_fault (frames_of ws)) ws i g l (class_fault_is ws u i f b e h cs l m ∙ t)

pub class_fault_end : (ws : List ℕ) (i : ℕ) → SeekingMisfit (frames_of ws) i → length ws ≤ i
    → None ≡ lowest (has_class_fault (frames_of ws)) 0 (frames_of ws)
class_fault_end ws i g l = seek_end (has_class_fault (frames_of ws)) ws i g l

-- ---- no module from n on
abbrev pub NoModuleFrom : List Frame → ℕ → Type 0
NoModuleFrom fs n = any is_module_frame (drop n fs) ≡ false

pub no_module_start : (ws : List ℕ) → NoModuleFrom (frames_of ws) (length ws)
no_module_start ws = ap (any is_module_frame) (frames_end ws (length ws) (omega arith)) ∙ end
  where
    end : any is_module_frame [] ≡ false
    end = unfold any in refl

-- one frame more, which is no module
pub no_module_next : (ws : List ℕ) (n : ℕ) (f : Frame) (b : Bool)
    → f ≡ frame_at (frames_of ws) (n - 1) → b ≡ is_module f.kind → b ≡ false
    → NoModuleFrom (frames_of ws) n → 0 < n → n ≤ length ws → NoModuleFrom (frames_of ws) (n - 1)
no_module_next ws n f b e h t g p l =
    let s : suc (n - 1) ≡ n = omega arith in
    ap (any is_module_frame) (frames_next ws (n - 1) (omega arith))
    ∙ step (ap is_module_frame (sym e) ∙ sym h ∙ t)
    ∙ ap (λ (k : ℕ). any is_module_frame (drop k (frames_of ws))) s ∙ g
  where
    step : is_module_frame (frame_at (frames_of ws) (n - 1)) ≡ false
        → any is_module_frame (frame_at (frames_of ws) (n - 1) ∷ drop (suc (n - 1)) (frames_of ws))
        ≡ any is_module_frame (drop (suc (n - 1)) (frames_of ws))
    step q = unfold any in
        ap
        (λ (x : Bool).
        elim x [
          | true ↦ true
          | false ↦ any is_module_frame (drop (suc (n - 1)) (frames_of ws))
        ])
        q

module_from : (fs : List Frame) (n : ℕ) → NoModuleFrom fs n → (k : ℕ) → n ≤ k → k < length fs
    → is_module (frame_at fs k).kind ≡ true → ⊥
module_from fs n h k a b t =
    let e : n + (k - n) ≡ k = omega arith in
    let l = length-drop n fs in
    let g = any_false no_frame is_module_frame (drop n fs) h (k - n) (omega arith) in
    let q = ap (frame_at fs) (sym e) ∙ sym (get_or-drop n fs (k - n) no_frame) in
    true≢false (sym t ∙ ap is_module_frame q ∙ g)

-- ---- what stands in the way of `main`
abbrev MainHit : List Frame → ℕ → Type 0
MainHit fs j = (j < length fs) × (is_main_fault fs j (frame_at fs j) ≡ true)

-- the two ways, as the test has them and as facts
abbrev last_test : List Frame → ℕ → Frame → Bool
last_test fs j f =
    is_module f.kind && not (any is_module_frame (drop (suc j) fs)) && not (eqb f.s 0)

abbrev none_test : List Frame → ℕ → Bool
none_test fs j = eqb (suc j) (length fs) && not (any is_module_frame fs)

abbrev LastHit : List Frame → ℕ → Type 0
LastHit fs j =
    (is_module (frame_at fs j).kind ≡ true) × NoModuleFrom fs (suc j)
    × ((frame_at fs j).s ≡ 0 → ⊥)

abbrev NoneHit : List Frame → ℕ → Type 0
NoneHit fs j = (suc j ≡ length fs) × NoModuleFrom fs 0

last_is : (fs : List Frame) (j : ℕ) → last_test fs j (frame_at fs j) ≡ true → LastHit fs j
last_is fs j e =
    let a = and_true _ _ e in
    let b = and_true _ _ a.0 in
    (b.0, not-true _ b.1, eqb-false (frame_at fs j).s 0 (not-true _ a.1))

none_is : (fs : List Frame) (j : ℕ) → none_test fs j ≡ true → NoneHit fs j
none_is fs j e = let a = and_true _ _ e in (eqb-true _ _ a.0, not-true _ a.1)

hit_is : (fs : List Frame) (j : ℕ) → is_main_fault fs j (frame_at fs j) ≡ true
    → LastHit fs j ⊎ NoneHit fs j
unfolding is_main_fault
hit_is fs j h =
    ⊎_elim (λ e. inl (last_is fs j e)) (λ e. inr (none_is fs j e))
    (or_true (last_test fs j (frame_at fs j)) (none_test fs j) h)

last_hit : (fs : List Frame) (j : ℕ) → is_module (frame_at fs j).kind ≡ true
    → NoModuleFrom fs (suc j) → ((frame_at fs j).s ≡ 0 → ⊥) → is_main_fault fs j (frame_at fs j) ≡ true
unfolding is_main_fault
last_hit fs j k h s =
    or_left _ (none_test fs j)
    (and_both _ _ (and_both _ _ k (ap not h)) (ap not (ne_eqb (frame_at fs j).s 0 s)))

none_hit : (fs : List Frame) (j : ℕ) → suc j ≡ length fs → NoModuleFrom fs 0
    → is_main_fault fs j (frame_at fs j) ≡ true
unfolding is_main_fault
none_hit fs j e h =
    or_right (last_test fs j (frame_at fs j)) _ (and_both _ _ (eq-eqb (suc j) (length fs) e) (ap not h))

-- k is the last module: it alone may stand in the way
module _ (fs : List Frame) (k : ℕ) (l : k < length fs)
    (is : is_module (frame_at fs k).kind ≡ true) (after : NoModuleFrom fs (suc k)) where
  only_last : (j : ℕ) → MainHit fs j → (j ≡ k) × ((frame_at fs k).s ≡ 0 → ⊥)
  only_last j h = ⊎_elim last_case none_case (hit_is fs j h.1)
    where
      none_case : NoneHit fs j → (j ≡ k) × ((frame_at fs k).s ≡ 0 → ⊥)
      none_case n = absurd (module_from fs 0 n.1 k (omega arith) l is)

      at_it : LastHit fs j → j ≡ k
      at_it m = go (ltb j k) refl (ltb k j) refl
        where
          go : (a : Bool) → ltb j k ≡ a → (b : Bool) → ltb k j ≡ b → j ≡ k
          go true p b q = absurd (module_from fs (suc j) m.1 k (ltb-true j k p) l is)
          go false p true q = absurd (module_from fs (suc k) after j (ltb-true k j q) h.0 m.0)
          go false p false q = (let x = ltb-false j k p in let y = ltb-false k j q in omega arith)

      last_case : LastHit fs j → (j ≡ k) × ((frame_at fs k).s ≡ 0 → ⊥)
      last_case m = (at_it m, λ z. m.2 (ap (λ (n : ℕ). (frame_at fs n).s) (at_it m) ∙ z))

  main_none : (frame_at fs k).s ≡ 0 → None ≡ lowest (is_main_fault fs) 0 fs
  main_none z =
      lowest_one (Lowest.nowhere (λ j h. (only_last j h).1 z))
      (lowest_all no_frame (is_main_fault fs) fs)

  main_some : ((frame_at fs k).s ≡ 0 → ⊥) → Some k ≡ lowest (is_main_fault fs) 0 fs
  main_some d = lowest_one low (lowest_all no_frame (is_main_fault fs) fs)
    where
      low : Lowest (MainHit fs) (Some k)
      low =
          Lowest.lowest_at (l, last_hit fs k is after d)
          (λ j h. let e = (only_last j h).0 in omega arith)

-- there is no module
no_main : (fs : List Frame) (k : ℕ) → suc k ≡ length fs → NoModuleFrom fs 0
    → Some k ≡ lowest (is_main_fault fs) 0 fs
no_main fs k e h = lowest_one low (lowest_all no_frame (is_main_fault fs) fs)
  where
    only : (j : ℕ) → MainHit fs j → k ≤ j
    only j p =
        ⊎_elim (λ m. absurd (module_from fs 0 h j (omega arith) p.0 m.0))
        (λ n. (let q = n.0 in omega arith)) (hit_is fs j p.1)

    low : Lowest (MainHit fs) (Some k)
    low = Lowest.lowest_at {j = k} (omega arith, none_hit fs k e h) only

-- ---- as the code finds it, from the last frame down
module _ (ws : List ℕ) (n : ℕ) (f : Frame) (b : Bool)
    (e : f ≡ frame_at (frames_of ws) (n - 1)) (h : b ≡ is_module f.kind) (t : b ≡ true) where
  module_is : is_module (frame_at (frames_of ws) (n - 1)).kind ≡ true
  module_is = ap is_module_frame (sym e) ∙ sym h ∙ t

  inside : 0 < n → n ≤ length ws → n - 1 < length (frames_of ws)
  inside p l = (let z = frames_length ws in omega arith)

  from_next : NoModuleFrom (frames_of ws) n → 0 < n → NoModuleFrom (frames_of ws) (suc (n - 1))
  from_next g p =
      let s : suc (n - 1) ≡ n = omega arith in
      ap (λ (k : ℕ). any is_module_frame (drop k (frames_of ws))) s ∙ g

  pub main_fine : f.s ≡ 0 → NoModuleFrom (frames_of ws) n → 0 < n → n ≤ length ws
      → None ≡ lowest (is_main_fault (frames_of ws)) 0 (frames_of ws)
  main_fine z g p l =
      let y = ap (λ (x : Frame). x.s) (sym e) ∙ z in
      main_none (frames_of ws) (n - 1) (inside p l) module_is (from_next g p) y

  pub main_wrong : (f.s ≡ 0 → ⊥) → NoModuleFrom (frames_of ws) n → 0 < n → n ≤ length ws
      → Some (n - 1) ≡ lowest (is_main_fault (frames_of ws)) 0 (frames_of ws)
  main_wrong d g p l =
      let y : (frame_at (frames_of ws) (n - 1)).s ≡ 0 → ⊥ = λ z. d (ap (λ (x : Frame). x.s) e ∙ z) in
      main_some (frames_of ws) (n - 1) (inside p l) module_is (from_next g p) y

pub main_missing : (ws : List ℕ) (n : ℕ) → NoModuleFrom (frames_of ws) n → n ≤ 0 → 0 < length ws
    → Some (length ws - 1) ≡ lowest (is_main_fault (frames_of ws)) 0 (frames_of ws)
main_missing ws n g z p =
    let e : n ≡ 0 = omega arith in
    let k = frames_length ws in
    let y = ap (λ (k : ℕ). any is_module_frame (drop k (frames_of ws))) (sym e) ∙ g in
    no_main (frames_of ws) (length ws - 1) (omega arith) y

-- ---- both halves
or_or : (a b c : Bool) → (a || (b || c)) ≡ ((a || b) || c)
or_or true b c = refl
or_or false b c = refl

halves : (fs : List Frame) (i : ℕ) (f : Frame)
    → is_shape_fault fs i f ≡ (has_class_fault fs i f || is_main_fault fs i f)
unfolding is_shape_fault has_class_fault is_main_fault has_wrong_child
halves fs i f =
    let c = has_wrong_child fs f in
    let l = has_class (class_of f.kind) && not (any (has_child i) fs) in
    or_or c l (is_main_fault fs i f)

shape_earlier : (fs : List Frame)
    → earlier (lowest (has_class_fault fs) 0 fs) (lowest (is_main_fault fs) 0 fs) ≡ shape_fault_at fs
unfolding shape_fault_at
shape_earlier fs =
    let a = lowest_all no_frame (has_class_fault fs) fs in
    let b = lowest_all no_frame (is_main_fault fs) fs in
    lowest_one (same_low to back (either a b)) (lowest_all no_frame (is_shape_fault fs) fs)
  where
    Hit : (ℕ → Frame → Bool) → ℕ → Type 0
    Hit test j = (j < length fs) × (test j (frame_at fs j) ≡ true)

    to : (j : ℕ) → Hit (has_class_fault fs) j ⊎ Hit (is_main_fault fs) j → Hit (is_shape_fault fs) j
    to j =
        let f = frame_at fs j in
        ⊎_elim (λ h. (h.0, halves fs j f ∙ or_left _ (is_main_fault fs j f) h.1))
        (λ h. (h.0, halves fs j f ∙ or_right (has_class_fault fs j f) _ h.1))

    back : (j : ℕ) → Hit (is_shape_fault fs) j → Hit (has_class_fault fs) j ⊎ Hit (is_main_fault fs) j
    back j h =
        let f = frame_at fs j in
        ⊎_elim (λ p. inl (h.0, p)) (λ q. inr (h.0, q))
        (or_true (has_class_fault fs j f) (is_main_fault fs j f) (sym (halves fs j f) ∙ h.1))

pub shape_is : (fs : List Frame) (a b r : Option ℕ) → a ≡ lowest (has_class_fault fs) 0 fs
    → b ≡ lowest (is_main_fault fs) 0 fs → r ≡ earlier a b → r ≡ shape_fault_at fs
shape_is fs a b r p q h = h ∙ ap₂ earlier p q ∙ shape_earlier fs

pub ruleset class_fault_laws = (class_fault_here, class_fault_next, class_fault_end)
