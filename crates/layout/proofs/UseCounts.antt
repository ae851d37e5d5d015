-- How the code counts the uses of each frame, and that its array then holds them. Assumes nothing.
use mathlib.Core.Path.{◌≡◌, refl, sym, ap, ap₂, ◌∙◌}
use mathlib.Core.Bool.{Bool, true, false, not, ◌&&◌}
use mathlib.Core.List.{List, [], ◌∷◌}
use Rattle.std.specs.Prelude.{fold}
use Prim.Native.Nat.{ℕ, zero, suc, min, ◌+◌, ◌≤◌, ◌<◌}
use native.Mathlib.Nat.{min-eq_left, min-eq_right, min-le_left}
use native.Mathlib.Omega.{arith}
use lib.Dec.{eqb, leb, ltb}
use lib.ListN.{get_or, length, set, drop, replicate, get_or-replicate, length-replicate, length-set}
use lib.Seq.{get_or-set_same, get_or-set_other}
use borrow.Author.Tests.{lt-ltb, le-ltb, ltb-true, ltb-false, leb-true, leb-false, ne_eqb, eqb-true}
use borrow.Author.Tests.{eqb-false}
use Rattle.basics.specs.If.{when◌then◌else◌}
use Rattle.basics.specs.Members.{any}
use Rattle.basics.proofs.Ifs.{yes, no, if_all, if_yes, if_no, and_true}
use Rattle.language.specs.Kinds.{Child, children}
use Rattle.language.specs.declared.frame.Frame.{Frame}
use Rattle.text.specs.Frames.{frames_of}
use Rattle.text.proofs.FrameWords.{frames_end}
use Rattle.program.specs.Trees.{frame_at}
use Rattle.program.specs.Inner.Children.{over_children, child_numbers_of}
use Rattle.program.proofs.FrameLaws.{frames_next}
use Rattle.program.proofs.ChildFolds.{fold_keeps, children_folded}
use Rattle.layout.specs.Order.{has_child}
use Rattle.layout.specs.Uses.{times, used}
use Rattle.layout.specs.Inner.Uses.{counted, counted_in, CountsUses}

-- ---- one more use
pub count_past : (u : List ℕ) (v : ℕ) → 1024 ≤ v → u ≡ counted u v
unfolding counted
count_past u v l =
    let past = ap (λ (b : Bool). b && ltb (get_or u v 0) 2) (le-ltb v 1024 l) in
    no (set u v (suc (get_or u v 0))) past refl

-- j is v, as the code has it
module _ (u : List ℕ) (v j : ℕ) (e : j ≡ v) where
  pub count_over : 1024 ≤ j → u ≡ counted u v
  count_over l = count_past u v (omega arith)

  pub count_full : 2 ≤ get_or u j 0 → j < 1024 → u ≡ counted u v
  unfolding counted
  count_full h l =
      let full = ap₂ (λ (a b : Bool). a && b) (lt-ltb j 1024 l) (le-ltb (get_or u j 0) 2 h) in
      rw (sym e) (no (set u j (suc (get_or u j 0))) full refl)

  pub count_more : get_or u j 0 < 2 → j < 1024 → set u j (get_or u j 0 + 1) ≡ counted u v
  unfolding counted
  count_more h l =
      let s : get_or u j 0 + 1 ≡ suc (get_or u j 0) = omega arith in
      let few = ap₂ (λ (a b : Bool). a && b) (lt-ltb j 1024 l) (lt-ltb (get_or u j 0) 2 h) in
      rw (sym e) (ap (set u j) s ∙ yes u few refl)

pub ruleset count_laws = (count_over, count_full, count_more)

-- ---- what the counts say
pub cap_full : (n : ℕ) → 2 ≤ n → min 2 n ≡ 2
cap_full n l = min-eq_left l

pub cap_few : (n : ℕ) → n ≤ 2 → min 2 n ≡ n
cap_few n l = min-eq_right l

-- the cap at 2 may be taken at each step or once
cap_cap : (a b : ℕ) → min 2 (a + min 2 b) ≡ min 2 (a + b)
cap_cap a b = go (leb 2 b) refl
  where
    go : (t : Bool) → leb 2 b ≡ t → min 2 (a + min 2 b) ≡ min 2 (a + b)
    go true e =
        let l = leb-true 2 b e in
        let m : min 2 b ≡ 2 = cap_full b l in
        cap_full (a + min 2 b) (omega arith) ∙ sym (cap_full (a + b) (omega arith))
    go false e =
        let l = leb-false 2 b e in
        ap (λ (n : ℕ). min 2 (a + n)) (cap_few b (omega arith))

counted-length : (u : List ℕ) (v : ℕ) → length (counted u v) ≡ length u
unfolding counted
counted-length u v =
    if_all (λ (x : List ℕ). length x ≡ length u) (ltb v 1024 && ltb (get_or u v 0) 2) _ u
    (λ h. length-set u v _) (λ h. refl)

-- one use more where v is j
abbrev one : ℕ → ℕ → ℕ
one v j = when eqb v j then 1 else 0

module _ (u : List ℕ) (v j : ℕ) (o : j < 1024) (l : j < length u) (c : get_or u j 0 ≤ 2) where
  other : (x : List ℕ) → (v ≡ j → ⊥) → get_or x j 0 ≡ get_or u j 0
      → get_or x j 0 ≡ min 2 (one v j + get_or u j 0)
  other x d e =
      let z : one v j ≡ 0 = if_no {A = ℕ} 1 0 (ne_eqb v j d) in
      let w : one v j + get_or u j 0 ≡ get_or u j 0 = omega arith in
      e ∙ sym (ap (min 2) w ∙ cap_few (get_or u j 0) c)

  set_counted : get_or u v 0 < 2
      → get_or (set u v (suc (get_or u v 0))) j 0 ≡ min 2 (one v j + get_or u j 0)
  set_counted h = go (eqb v j) refl
    where
      go : (b : Bool) → eqb v j ≡ b
          → get_or (set u v (suc (get_or u v 0))) j 0 ≡ min 2 (one v j + get_or u j 0)
      go true e =
          let q : v ≡ j = eqb-true v j e in
          let z : one v j ≡ 1 = if_yes {A = ℕ} 1 0 e in
          let s : get_or u v 0 ≡ get_or u j 0 = ap (λ (n : ℕ). get_or u n 0) q in
          let w : one v j + get_or u j 0 ≡ suc (get_or u v 0) = omega arith in
          ap (λ (n : ℕ). get_or (set u n (suc (get_or u v 0))) j 0) q
          ∙ get_or-set_same u j (suc (get_or u v 0)) 0 l
          ∙ sym (ap (min 2) w ∙ cap_few (suc (get_or u v 0)) (omega arith))
      go false e =
          let d = eqb-false v j e in
          let n = suc (get_or u v 0) in
          other (set u v n) d (get_or-set_other u v j n 0 (λ q. d (sym q)))

  full_counted : 2 ≤ get_or u v 0 → get_or u j 0 ≡ min 2 (one v j + get_or u j 0)
  full_counted h = go (eqb v j) refl
    where
      go : (b : Bool) → eqb v j ≡ b → get_or u j 0 ≡ min 2 (one v j + get_or u j 0)
      go true e =
          let z : one v j ≡ 1 = if_yes {A = ℕ} 1 0 e in
          let s : get_or u v 0 ≡ get_or u j 0 = ap (λ (n : ℕ). get_or u n 0) (eqb-true v j e) in
          let w : get_or u j 0 ≡ 2 = omega arith in
          w ∙ sym (cap_full (one v j + get_or u j 0) (omega arith))
      go false e = other u (eqb-false v j e) refl

  counted_says : get_or (counted u v) j 0 ≡ min 2 (one v j + get_or u j 0)
  unfolding counted
  counted_says = if_all right (ltb v 1024 && ltb (get_or u v 0) 2) _ u set-right same_right
    where
      right : List ℕ → Type 0
      right x = get_or x j 0 ≡ min 2 (one v j + get_or u j 0)

      set-right : (ltb v 1024 && ltb (get_or u v 0) 2) ≡ true → right (set u v (suc (get_or u v 0)))
      set-right h =
          let both = and_true (ltb v 1024) (ltb (get_or u v 0) 2) h in
          set_counted (ltb-true (get_or u v 0) 2 both.1)

      past : 1024 ≤ v → right u
      past g = other u (λ q. omega arith) refl

      same_right : (ltb v 1024 && ltb (get_or u v 0) 2) ≡ false → right u
      same_right h = go (ltb v 1024) refl h
        where
          go : (b : Bool) → ltb v 1024 ≡ b → (b && ltb (get_or u v 0) 2) ≡ false → right u
          go true e k = full_counted (ltb-false (get_or u v 0) 2 k)
          go false e k = past (ltb-false v 1024 e)

children_length : (cs : List Child) (u : List ℕ) → length (over_children counted u cs) ≡ length u
children_length cs u =
    let same : List ℕ → Type 0 = λ x. length x ≡ length u in
    fold_keeps counted same (λ x v e. counted-length x v ∙ e) cs u refl

children_say : (cs : List Child) (u : List ℕ) (j : ℕ) → j < 1024 → j < length u → get_or u j 0 ≤ 2
    → get_or (over_children counted u cs) j 0 ≡ min 2 (times j cs + get_or u j 0)
unfolding over_children times
children_say [] u j o l c =
    let w : 0 + get_or u j 0 ≡ get_or u j 0 = omega arith in
    sym (ap (min 2) w ∙ cap_few (get_or u j 0) c)
children_say (x ∷ cs) u j o l c =
    let y = counted-length u x.at in
    let s = counted_says u x.at j o l c in
    let m = min-le_left 2 (one x.at j + get_or u j 0) in
    let n = one x.at j in
    let w : times j cs + (n + get_or u j 0) ≡ n + times j cs + get_or u j 0 = omega arith in
    children_say cs (counted u x.at) j o (omega arith) (omega arith)
    ∙ ap (λ (n : ℕ). min 2 (times j cs + n)) s
    ∙ cap_cap (times j cs) (one x.at j + get_or u j 0) ∙ ap (min 2) w

frames_say : (fs : List Frame) (u : List ℕ) (j : ℕ) → j < 1024 → j < length u → get_or u j 0 ≤ 2
    → get_or (counted_in u fs) j 0 ≡ min 2 (used j fs + get_or u j 0)
unfolding counted_in used
frames_say [] u j o l c =
    let w : 0 + get_or u j 0 ≡ get_or u j 0 = omega arith in
    sym (ap (min 2) w ∙ cap_few (get_or u j 0) c)
frames_say (f ∷ fs) u j o l c =
    let y = children_length (children f) u in
    let s = children_say (children f) u j o l c in
    let m = min-le_left 2 (times j (children f) + get_or u j 0) in
    let n = times j (children f) in
    let w : used j fs + (n + get_or u j 0) ≡ n + used j fs + get_or u j 0 = omega arith in
    frames_say fs (over_children counted u (children f)) j o (omega arith) (omega arith)
    ∙ ap (λ (n : ℕ). min 2 (used j fs + n)) s
    ∙ cap_cap (used j fs) (times j (children f) + get_or u j 0) ∙ ap (min 2) w

-- ---- the loop: from here on it is as from the start
abbrev pub CountingUses : List Frame → List ℕ → ℕ → Type 0
CountingUses fs u i = counted_in u (drop i fs) ≡ counted_in (replicate 1024 0) fs

pub counting_start : (fs : List Frame) (u : List ℕ) → u ≡ replicate 1024 0 → CountingUses fs u 0
counting_start fs u e = ap (λ (x : List ℕ). counted_in x fs) e

pub counting_next : (ws u t : List ℕ) (i : ℕ) (f : Frame) → f ≡ frame_at (frames_of ws) i
    → t ≡ fold counted u (child_numbers_of (children f)) → CountingUses (frames_of ws) u i
    → i < length ws → CountingUses (frames_of ws) t (i + 1)
counting_next ws u t i f e p g l =
    let s : i + 1 ≡ suc i = omega arith in
    let q : t ≡ over_children counted u (children f) = p ∙ children_folded counted count_past u f in
    let r : t ≡ over_children counted u (children (frame_at (frames_of ws) i)) = q ∙ ap with_frame e in
    rw s (ap from r ∙ sym step ∙ sym (ap (counted_in u) (frames_next ws i l)) ∙ g)
  where
    with_frame : Frame → List ℕ
    with_frame x = over_children counted u (children x)

    from : List ℕ → List ℕ
    from x = counted_in x (drop (suc i) (frames_of ws))

    step : counted_in u (frame_at (frames_of ws) i ∷ drop (suc i) (frames_of ws))
        ≡ from (with_frame (frame_at (frames_of ws) i))
    step = unfold counted_in in refl

pub counting_end : (ws u : List ℕ) (i : ℕ) → CountingUses (frames_of ws) u i → length ws ≤ i
    → CountsUses (frames_of ws) u
counting_end ws u i g l j o =
    let z = get_or-replicate {A = ℕ} 1024 j 0 0 o in
    let n = length-replicate {A = ℕ} 1024 0 in
    let k = used j (frames_of ws) in
    let w : k + get_or (replicate 1024 0) j 0 ≡ k = omega arith in
    ap (λ (x : List ℕ). get_or x j 0) (end ∙ ap (counted_in u) (sym (frames_end ws i l)) ∙ g)
    ∙ frames_say (frames_of ws) (replicate 1024 0) j o (omega arith) (omega arith) ∙ ap (min 2) w
  where
    end : u ≡ counted_in u []
    end = unfold counted_in in refl

pub ruleset counting_laws = (counting_start, counting_next, counting_end)

-- ---- a count of 0 is a frame that no frame has as a child
times_zero : (j : ℕ) (cs : List Child)
    → eqb (times j cs) 0 ≡ not (any (λ (c : Child). eqb c.at j) cs)
unfolding times any
times_zero j [] = refl
times_zero j (c ∷ cs) = go (eqb c.at j) refl (times_zero j cs)
  where
    go : (b : Bool) → eqb c.at j ≡ b
        → eqb (times j cs) 0 ≡ not (any (λ (x : Child). eqb x.at j) cs)
        → eqb ((when eqb c.at j then 1 else 0) + times j cs) 0
        ≡ not (elim b [ true ↦ true | false ↦ any (λ (x : Child). eqb x.at j) cs ])
    go true e h =
        let z = if_yes {A = ℕ} 1 0 e in
        ne_eqb ((when eqb c.at j then 1 else 0) + times j cs) 0 (λ q. omega arith)
    go false e h =
        let z = if_no {A = ℕ} 1 0 e in
        let w : (when eqb c.at j then 1 else 0) + times j cs ≡ times j cs = omega arith in
        ap (λ (n : ℕ). eqb n 0) w ∙ h

used_zero : (j : ℕ) (fs : List Frame) → eqb (used j fs) 0 ≡ not (any (has_child j) fs)
unfolding used any has_child
used_zero j [] = refl
used_zero j (f ∷ fs) =
    go (any (λ (c : Child). eqb c.at j) (children f)) (times_zero j (children f))
    (used_zero j fs)
  where
    go : (b : Bool) → eqb (times j (children f)) 0 ≡ not b
        → eqb (used j fs) 0 ≡ not (any (has_child j) fs)
        → eqb (times j (children f) + used j fs) 0
        ≡ not (elim b [ true ↦ true | false ↦ any (has_child j) fs ])
    go true e h =
        let d = eqb-false (times j (children f)) 0 e in
        ne_eqb (times j (children f) + used j fs) 0 (λ q. d (omega arith))
    go false e h =
        let z = eqb-true (times j (children f)) 0 e in
        let w : times j (children f) + used j fs ≡ used j fs = omega arith in
        ap (λ (n : ℕ). eqb n 0) w ∙ h

cap_none : (n : ℕ) → eqb (min 2 n) 0 ≡ eqb n 0
cap_none zero = ap (λ (n : ℕ). eqb n 0) (cap_few 0 (omega arith))
cap_none (suc zero) = ap (λ (n : ℕ). eqb n 0) (cap_few 1 (omega arith))
cap_none (suc (suc n)) =
    ap (λ (n : ℕ). eqb n 0) (cap_full (suc (suc n)) (omega arith))
    ∙ sym (ne_eqb (suc (suc n)) 0 (λ q. omega arith))

pub count_none : (fs : List Frame) (u : List ℕ) (j : ℕ) → CountsUses fs u → j < 1024
    → eqb (get_or u j 0) 0 ≡ not (any (has_child j) fs)
count_none fs u j h l =
    ap (λ (n : ℕ). eqb n 0) (h j l) ∙ cap_none (used j fs) ∙ used_zero j fs

-- a frame that another has as a child is used
pub frame_some : (j : ℕ) (f : Frame) → has_child j f ≡ true → 1 ≤ times j (children f)
unfolding has_child
frame_some j f h =
    let d = eqb-false (times j (children f)) 0 (times_zero j (children f) ∙ ap not h) in
    omega arith

pub used_some : (j : ℕ) (fs : List Frame) (i : ℕ) → i < length fs → has_child j (frame_at fs i) ≡ true
    → 1 ≤ used j fs
unfolding used
used_some j [] i l h = absurd (omega arith)
used_some j (f ∷ fs) zero l h = let a = frame_some j f h in omega arith
used_some j (f ∷ fs) (suc i) l h = let a = used_some j fs i (omega arith) h in omega arith
