-- Nothing is lost: the lines laid out from a writable file are as many as its own. Assumes nothing.
use mathlib.Core.Path.{◌≡◌, refl, sym, ap, ◌∙◌}
use mathlib.Core.Bool.{Bool, true, false}
use mathlib.Core.List.{List, [], ◌∷◌, ◌++◌, map}
use Prim.Native.Nat.{ℕ, suc, ◌+◌, ◌*◌, ◌<◌, ◌≤◌}
use native.Mathlib.Omega.{arith}
use native.Mathlib.Nat.{zero-mul}
use lib.Dec.{eqb, ltb, leb}
use lib.ListN.{length, get_or, length-append}
use borrow.Author.Tests.{eqb-true, ltb-true, ltb-false, leb-true, leb-false}
use Rattle.basics.specs.If.{when◌then◌else◌}
use Rattle.basics.specs.Members.{In}
use Rattle.basics.proofs.Ifs.{if_yes, if_no}
use Rattle.language.specs.declared.refusal.Rule.TheVariants.{WrongField}
use Rattle.language.specs.Kinds.{uses, Child, child_in, children}
use Rattle.language.specs.declared.frame.Frame.{Frame}
use Rattle.text.specs.Frames.{frame_of_word, frames_of}
use Rattle.text.proofs.FrameWords.{frames_length, frame_at_lem}
use Rattle.program.specs.Trees.{no_frame, frame_at}
use Rattle.layout.specs.Depths.{Depth}
use Rattle.language.specs.Limits.{most_depth}
use Rattle.layout.specs.Faults.{Fault}
use Rattle.layout.specs.Order.{has_child, has_class}
use Rattle.layout.specs.Uses.{times, used}
use Rattle.layout.proofs.UseCounts.{used_some}
use Rattle.drawing.specs.Drawings.{head_of, Drawn, size, size_in, field_with}
use Rattle.drawing.specs.Drawings.{node_with, drawn, lined_all, ranks, levels, roots_to, drawing}
use Rattle.drawing.specs.Drawings.{laid_out}
use Rattle.drawing.specs.TreeFaults.{TreeFault, ShapeFault}
use Rattle.drawing.specs.Writings.{Writable}
use Rattle.drawing.proofs.Fields.{Few, few, all_classed, all_in}
use Rattle.drawing.proofs.Back.{lined-length}
use Rattle.drawing.proofs.InOrder.{Within, within}
use Rattle.drawing.proofs.Roots.{rank_of, kind_fine_lem}
use Rattle.drawing.proofs.Tiles.{root_class, rest_class}
use Rattle.drawing.proofs.Depths.{root_within}
use Rattle.drawing.proofs.Cycles.{within_all}
use Rattle.drawing.proofs.Answers.{all_inside, no_cycle}
use Rattle.drawing.proofs.Stable.{drawn_same}
use Rattle.drawing.proofs.Sums.{unit, over, over_append, sum_of, total_same}
use Rattle.drawing.proofs.Sums.{all_counted, roots_sum}

-- ---- sizes
field_size : (draw : ℕ → Drawn) {v : ℕ} {cs : List Child} → Few cs v
    → size_in (field_with draw v cs) ≡ over (λ j. size (draw j)) cs
unfolding size_in over
field_size draw Few.no_module = refl
field_size draw (Few.one {c = c} e) = omega arith

pub node_size : (draw : ℕ → Drawn) (h : ℕ) (f : Frame)
    → size (node_with draw h f) ≡ 1 + over (λ j. size (draw j)) (children f)
unfolding size children
node_size draw h f =
    let A = child_in (uses f.kind).a f.a in
    let B = child_in (uses f.kind).b f.b in
    let C = child_in (uses f.kind).c f.c in
    let s : ℕ → ℕ = λ j. size (draw j) in
    let a = field_size draw (few (uses f.kind).a f.a) in
    let b = field_size draw (few (uses f.kind).b f.b) in
    let c = field_size draw (few (uses f.kind).c f.c) in
    let p = over_append s (A ++ B) C in
    let q = over_append s A B in
    omega arith

over_same : (s t : ℕ → ℕ) (cs : List Child) → ((c : Child) → In c cs → s c.at ≡ t c.at)
    → over s cs ≡ over t cs
unfolding over
over_same s t [] h = refl
over_same s t (c ∷ cs) h =
    let a = h c In.first in
    let b = over_same s t cs (λ x m. h x (In.later m)) in
    omega arith

pub all_length : (n : ℕ) (draw : ℕ → Drawn) (is : List ℕ)
    → length (lined_all n (map draw is)) ≡ sum_of (λ i. size (draw i)) is
unfolding lined_all sum_of
all_length n draw [] = refl
all_length n draw (i ∷ is) =
    let a = lined-length n (draw i) in
    let b = all_length (n + size (draw i)) draw is in
    simp length-append (omega arith)

-- ---- how often a frame is used
pub times_none : (j : ℕ) (cs : List Child) → ((c : Child) → In c cs → c.at ≡ j → ⊥)
    → times j cs ≡ 0
unfolding times
times_none j [] h = refl
times_none j (c ∷ cs) h = go (eqb c.at j) refl (times_none j cs (λ x m. h x (In.later m)))
  where
    go : (b : Bool) → eqb c.at j ≡ b → times j cs ≡ 0
        → (when eqb c.at j then 1 else 0) + times j cs ≡ 0
    go true e t = absurd (h c In.first (eqb-true c.at j e))
    go false e t = let a = if_no {A = ℕ} 1 0 e in omega arith

pub used_none : (j : ℕ) (fs : List Frame)
    → ((i : ℕ) (c : Child) → i < length fs → In c (children (frame_at fs i)) → c.at ≡ j → ⊥)
    → used j fs ≡ 0
unfolding used
used_none j [] h = refl
used_none j (f ∷ fs) h =
    let a = times_none j (children f) (λ c m. h 0 c (omega arith) m) in
    let b = used_none j fs (λ i c l m. h (suc i) c (omega arith) m) in
    omega arith

-- ---- a writable file
module _ (fs : List Frame) (writable : Writable fs) where
  pub not_deep : (j d : ℕ) → Depth fs j d → d ≤ most_depth
  not_deep j d h = go (leb d most_depth) refl
    where
      go : (b : Bool) → leb d most_depth ≡ b → d ≤ most_depth
      go true e = leb-true d most_depth e
      go false e = absurd (writable.shallow j (Fault.depth h (leb-false d most_depth e)))

  pub right_class : (i : ℕ) (c : Child) → i < length fs → In c (children (frame_at fs i))
      → rank_of (frame_at fs c.at) < ranks → ⊥
  right_class i c l m r =
      writable.shaped i (ShapeFault.class l m (λ e. root_class (frame_at fs c.at).kind r (ap has_class e ∙ all_in (all_classed (frame_at fs i)) m)))

  pub once : (j : ℕ) → j < length fs → unit (ltb (rank_of (frame_at fs j)) ranks) + used j fs ≡ 1
  once j l = go (ltb (rank_of (frame_at fs j)) ranks) refl
    where
      few_users : used j fs ≤ 1
      few_users = by (leb 2 (used j fs)) refl
        where
          by : (b : Bool) → leb 2 (used j fs) ≡ b → used j fs ≤ 1
          by true e = absurd (writable.trees j (TreeFault.twice l (leb-true 2 (used j fs) e)))
          by false e = let a = leb-false 2 (used j fs) e in omega arith

      some_user : ranks ≤ rank_of (frame_at fs j) → 1 ≤ used j fs
      some_user r = by (leb 1 (used j fs)) refl
        where
          unused : used j fs < 1 → (i : ℕ) → i < length fs → (b : Bool)
              → has_child j (frame_at fs i) ≡ b → b ≡ false
          unused z i k true e =
              let u = used_some j fs i k e in absurd (omega arith)
          unused z i k false e = refl

          by : (b : Bool) → leb 1 (used j fs) ≡ b → 1 ≤ used j fs
          by true e = leb-true 1 (used j fs) e
          by false e =
              let z = leb-false 1 (used j fs) e in
              let k = rest_class fs j (frame_at fs j).kind r (kind_fine_lem fs (λ i f. writable.early WrongField i (omega arith) f) j l) in
              absurd (writable.shaped j (ShapeFault.leftover l k (λ i q. unused z i q (has_child j (frame_at fs i)) refl)))

      go : (b : Bool) → ltb (rank_of (frame_at fs j)) ranks ≡ b
          → unit (ltb (rank_of (frame_at fs j)) ranks) + used j fs ≡ 1
      go true e =
          let a = if_yes {A = ℕ} 1 0 e in
          let u = used_none j fs (λ i c k m q. right_class i c k m (let r = ltb-true (rank_of (frame_at fs j)) ranks e in let z = ap (λ (n : ℕ). rank_of (frame_at fs n)) q in omega arith)) in
          omega arith
      go false e =
          let a = if_no {A = ℕ} 1 0 e in
          let p = few_users in
          let q = some_user (ltb-false (rank_of (frame_at fs j)) ranks e) in
          omega arith

module _ (ws : List ℕ) (writable : Writable (frames_of ws)) where
  abbrev Fs : List Frame
  Fs = frames_of ws

  pub lines_inside : (i : ℕ) (c : Child) → In c (children (frame_at Fs i)) → c.at < length ws
  lines_inside i c m =
      let n = frames_length ws in
      let a = all_inside Fs writable.trees i c m in
      omega arith

  pub every_within : (i : ℕ) → Within Fs (suc (length Fs)) i
  every_within i =
      within_all Fs (all_inside Fs writable.trees) (no_cycle Fs writable.trees) i

  pub roots_within : (i : ℕ) → i < length Fs → rank_of (frame_at Fs i) < ranks → Within Fs levels i
  roots_within i l r = root_within Fs (not_deep Fs writable) i l r

  abbrev size_at : ℕ → ℕ
  size_at j = size (drawn (suc (length Fs)) ws j)

  sizes : (i : ℕ) → i < length Fs → size_at i ≡ 1 + over size_at (children (frame_at Fs i))
  unfolding drawn
  sizes i l =
      let n = frames_length ws in
      let f = frame_of_word (get_or ws i 0) in
      let e : frame_at Fs i ≡ f = frame_at_lem ws i no_frame (omega arith) in
      let s : ℕ → ℕ = λ j. size (drawn (length Fs) ws j) in
      node_size (λ j. drawn (length Fs) ws j) (head_of (get_or ws i 0)) f
      ∙ ap (λ (g : Frame). 1 + over s (children g)) (sym e)
      ∙ ap (λ (k : ℕ). 1 + k) (over_same s size_at (children (frame_at Fs i)) (λ c m. ap size (drawn_same ws lines_inside (below_within i c m (every_within i)) (every_within c.at) (lines_inside i c m))))
    where
      below_within : (i : ℕ) (c : Child) → In c (children (frame_at Fs i))
          → Within Fs (suc (length Fs)) i → Within Fs (length Fs) c.at
      below_within i c m (within g) = g c m

  pub nothing_lost : length (laid_out (drawing ws)) ≡ length ws
  unfolding laid_out drawing
  nothing_lost =
      let n = frames_length ws in
      let s : ℕ → ℕ = λ i. size (drawn levels ws i) in
      let a = all_length 0 (λ i. drawn levels ws i) (roots_to ranks Fs) in
      let b = roots_sum s ranks Fs in
      let c = total_same (λ j f. unit (ltb (rank_of f) ranks) * s j) (λ j f. unit (ltb (rank_of f) ranks) * size_at j) 0 Fs (λ q l. (let z : 0 + q ≡ q = omega arith in ap (λ (k : ℕ). unit (ltb (rank_of (frame_at Fs q)) ranks) * s k) z ∙ same q l (ltb (rank_of (frame_at Fs q)) ranks) refl ∙ ap (λ (k : ℕ). unit (ltb (rank_of (frame_at Fs q)) ranks) * size_at k) (sym z))) in
      let d = all_counted Fs size_at (λ f. ltb (rank_of f) ranks) (λ i c l m. all_inside Fs writable.trees i c m) (once Fs writable) sizes in
      omega arith
    where
      same : (q : ℕ) → q < length Fs → (b : Bool) → ltb (rank_of (frame_at Fs q)) ranks ≡ b
          → unit (ltb (rank_of (frame_at Fs q)) ranks) * size (drawn levels ws q) ≡ unit (ltb (rank_of (frame_at Fs q)) ranks) * size_at q
      same q l true e =
          let n = frames_length ws in
          ap (λ (t : Drawn). unit (ltb (rank_of (frame_at Fs q)) ranks) * size t) (drawn_same ws lines_inside (roots_within q l (ltb-true _ _ e)) (every_within q) (omega arith))
      same q l false e =
          ap (λ (k : ℕ). k * size (drawn levels ws q)) (if_no 1 0 e)
          ∙ zero-mul (size (drawn levels ws q))
          ∙ sym (ap (λ (k : ℕ). k * size_at q) (if_no 1 0 e) ∙ zero-mul (size_at q))
