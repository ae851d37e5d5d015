-- The queue of the test for a cycle holds frames below i; and when all of it was looked at, every
-- frame from i on that a way from i comes to by such frames alone. Where no frame before i is on a
-- cycle, these are all that a cycle through i has. Assumes nothing.
use mathlib.Core.Path.{◌≡◌, refl, sym, ap, subst, ◌∙◌}
use mathlib.Core.Bool.{Bool, true, false, true≢false}
use mathlib.Core.List.{List, [], ◌∷◌}
use Prim.Native.Nat.{ℕ, zero, suc, ◌+◌, ◌≤◌, ◌<◌}
use native.Mathlib.Omega.{arith}
use lib.Dec.{ltb, leb, eqb}
use borrow.Author.Tests.{ltb-true, ltb-false, eqb-true, eqb-false}
use borrow.Author.Tests.{le-leb}
use lib.ListN.{get_or, length, replicate, length-set}
use lib.Seq.{get_or-set_same, get_or-set_other}
use Rattle.basics.specs.Members.{In}
use Rattle.language.specs.Kinds.{Child, children}
use Rattle.language.specs.declared.frame.Frame.{Frame}
use Rattle.text.specs.Frames.{frames_of}
use Rattle.text.proofs.FrameWords.{frames_length}
use Rattle.program.specs.Trees.{frame_at}
use Rattle.program.specs.Inner.Children.{over_children}
use Rattle.drawing.specs.TreeFaults.{Below}
use Rattle.drawing.specs.Inner.Finds.{is_below}
use Rattle.drawing.proofs.Cycles.{only_frames, is_below_lem, below_is, any_in}
use Rattle.forest.specs.Inner.Walks.{Walk, walk, QueueRoom, NoCycleBefore}
use Rattle.forest.specs.Inner.Walks.{entered, marks_of}
use Rattle.forest.specs.Inner.FrameTests.{has_child_from}
use Rattle.forest.proofs.MarkBits.{no_marks}
use Rattle.forest.proofs.CycleWalk.{room_empty, room_less, RoomIn, more_room, with_new}
use Rattle.forest.proofs.CycleWalk.{by_entering}

-- ---- below a frame
above : {fs : List Frame} {i j : ℕ} → Below fs i j → i < length fs
above {fs} (Below.child {i = i} {c = c} m) = only_frames fs i c m
above {fs} (Below.further {i = i} {c = c} m b) = only_frames fs i c m

below_child : {fs : List Frame} {i j : ℕ} {c : Child} → Below fs i j
    → In c (children (frame_at fs j)) → Below fs i c.at
below_child (Below.child a) m = Below.further a (Below.child m)
below_child (Below.further a b) m = Below.further a (below_child b m)

below_then : {fs : List Frame} {i j k : ℕ} → Below fs i j → Below fs j k → Below fs i k
below_then (Below.child m) b = Below.further m b
below_then (Below.further m a) b = Below.further m (below_then a b)

-- a frame on a way from i to i is on a cycle itself
not_before : {fs : List Frame} {i : ℕ} (y : ℕ) → NoCycleBefore fs i → Below fs i y → Below fs y i
    → i ≤ y
not_before {fs} {i} y none a b = go (ltb y i) refl
  where
    go : (t : Bool) → ltb y i ≡ t → i ≤ y
    go true e =
        let own = below_is fs y y (above b) (below_then b a) in
        absurd (true≢false (sym own ∙ none y (ltb-true y i e)))
    go false e = ltb-false y i e

-- ---- marks and queue
abbrev Marked : Walk → ℕ → Type 0
Marked w j = get_or w.marks j false ≡ true

-- where a frame stands in the queue
record Place (w : Walk) (j : ℕ) : Type 0 where
  place : ℕ
  lies : place < w.filled
  holds : get_or w.queue place 0 ≡ j

-- what is entered stays
record Grows (w t : Walk) : Type 0 where
  marks_stay : (j : ℕ) → Marked w j → Marked t j
  fills : w.filled ≤ t.filled
  queue_stays : (p : ℕ) → p < w.filled → get_or t.queue p 0 ≡ get_or w.queue p 0

grows_same : (w : Walk) → Grows w w
grows_same w =
    record { marks_stay = λ j e. e; fills = omega arith; queue_stays = λ p l. refl }

grows_on : {w t u : Walk} → Grows w t → Grows t u → Grows w u
grows_on g h =
    let a = g.fills in
    let b = h.fills in
    record {
      marks_stay = λ j e. h.marks_stay j (g.marks_stay j e);
      fills = omega arith;
      queue_stays = λ p l. h.queue_stays p (omega arith) ∙ g.queue_stays p l;
    }

place_on : {w t : Walk} {j : ℕ} → Grows w t → Place w j → Place t j
place_on g a =
    let l = a.lies in
    let m = g.fills in
    record { place = a.place; lies = omega arith; holds = g.queue_stays a.place l ∙ a.holds }

-- the queue holds frames below i, all that are marked among them
record Reached (fs : List Frame) (i : ℕ) (w : Walk) : Type 0 where
  room : RoomIn w
  wide : length w.queue ≡ 1024
  met : (p : ℕ) → p < w.filled → Below fs i (get_or w.queue p 0)
  inside : (p : ℕ) → p < w.filled → get_or w.queue p 0 < length fs
  queued : (j : ℕ) → Marked w j → Place w j

record Step (fs : List Frame) (i : ℕ) (w t : Walk) : Type 0 where
  reached : Reached fs i t
  grows : Grows w t

abbrev AllBelow : List Frame → ℕ → List Child → Type 0
AllBelow fs i cs = (c : Child) → In c cs → Below fs i c.at

-- ---- one frame enters
module _ (fs : List Frame) (i : ℕ) (few : length fs ≤ 1024) where
  module _ (w : Walk) (r : Reached fs i w) (v : ℕ) (b : Below fs i v) where
    module _ (l : v < length fs) (new : get_or w.marks v false ≡ false) where
      abbrev next : Walk
      next = with_new w v

      last : get_or next.queue w.filled 0 ≡ v
      last =
          let a = r.wide in
          let h = room_less w.marks w.filled v (length fs) r.room few l new in
          get_or-set_same w.queue w.filled v 0 (omega arith)

      new_marked : Marked next v
      new_marked =
          let a = r.room.long in get_or-set_same w.marks v true false (omega arith)

      old_mark : (j : ℕ) → (v ≡ j → ⊥) → get_or next.marks j false ≡ get_or w.marks j false
      old_mark j d = get_or-set_other w.marks v j true false (λ q. d (sym q))

      old_place : (p : ℕ) → p < w.filled → get_or next.queue p 0 ≡ get_or w.queue p 0
      old_place p m = get_or-set_other w.queue w.filled p v 0 (λ q. absurd (omega arith))

      next_grows : Grows w next
      next_grows = record {
        marks_stay = λ j e. kept j (eqb v j) refl e;
        fills = omega arith;
        queue_stays = old_place;
      }
        where
          kept : (j : ℕ) (t : Bool) → eqb v j ≡ t → Marked w j → Marked next j
          kept j true q e = subst (Marked next) (eqb-true v j q) new_marked
          kept j false q e = old_mark j (eqb-false v j q) ∙ e

      -- P of each place of the longer queue
      each_place : (P : ℕ → Type 0) → P v → ((p : ℕ) → p < w.filled → P (get_or w.queue p 0))
          → (p : ℕ) → p < suc w.filled → P (get_or next.queue p 0)
      each_place P a h p m = go (ltb p w.filled) refl
        where
          go : (t : Bool) → ltb p w.filled ≡ t → P (get_or next.queue p 0)
          go true e =
              let k = ltb-true p w.filled e in subst P (sym (old_place p k)) (h p k)
          go false e =
              let k = ltb-false p w.filled e in
              let q : w.filled ≡ p = omega arith in
              subst (λ (y : ℕ). P (get_or next.queue y 0)) q (subst P (sym last) a)

      next_reached : Reached fs i next
      next_reached = record {
        room = more_room w.marks w.filled v (length fs) r.room few l new;
        wide = length-set w.queue w.filled v ∙ r.wide;
        met = each_place (Below fs i) b r.met;
        inside = each_place (λ (y : ℕ). y < length fs) l r.inside;
        queued = λ j e. at j (eqb v j) refl e;
      }
        where
          at : (j : ℕ) (t : Bool) → eqb v j ≡ t → Marked next j → Place next j
          at j true q e =
              record { place = w.filled; lies = omega arith; holds = last ∙ eqb-true v j q }
          at j false q e =
              place_on next_grows (r.queued j (sym (old_mark j (eqb-false v j q)) ∙ e))

    entered_step : Step fs i w (entered i (length fs) w v)
    entered_step =
        by_entering (Step fs i w) i (length fs) w v (λ _. same) (λ _. same) (λ _. same) more
      where
        same : Step fs i w w
        same = record { reached = r; grows = grows_same w }

        more : v < length fs → get_or w.marks v false ≡ false → Step fs i w (with_new w v)
        more l e = record { reached = next_reached l e; grows = next_grows l e }

    entered_marked : i ≤ v → v < length fs → Marked (entered i (length fs) w v) v
    entered_marked o l =
        by_entering (λ (t : Walk). Marked t v) i (length fs) w v (λ k. absurd (omega arith))
        (λ k. absurd (omega arith)) (λ e. e) new_marked

  -- ---- the children of a frame enter
  all_step : (cs : List Child) (w : Walk) → Reached fs i w → AllBelow fs i cs
      → Step fs i w (over_children (entered i (length fs)) w cs)
  unfolding over_children
  all_step [] w r h = record { reached = r; grows = grows_same w }
  all_step (c ∷ cs) w r h =
      let a = entered_step w r c.at (h c In.first) in
      let one = entered i (length fs) w c.at in
      let b = all_step cs one a.reached (λ d m. h d (In.later m)) in
      record { reached = b.reached; grows = grows_on a.grows b.grows }

  all_marked : (cs : List Child) (w : Walk) → Reached fs i w → AllBelow fs i cs → (c : Child)
      → In c cs → i ≤ c.at → c.at < length fs
      → Marked (over_children (entered i (length fs)) w cs) c.at
  unfolding over_children
  all_marked (c ∷ cs) w r h x In.first o l =
      let a = entered_step w r c.at (h c In.first) in
      let one = entered i (length fs) w c.at in
      let b = all_step cs one a.reached (λ d m. h d (In.later m)) in
      b.grows.marks_stay c.at (entered_marked w r c.at (h c In.first) o l)
  all_marked (c ∷ cs) w r h x (In.later m) o l =
      let a = entered_step w r c.at (h c In.first) in
      all_marked cs (entered i (length fs) w c.at) a.reached (λ d n. h d (In.later n)) x m o l
  all_marked [] w r h x x6 o l = elim x6 [ ]

-- ---- the loop: the children of i and of the first k frames of the queue are marked, and none of
-- these is i
abbrev ChildrenMarked : List Frame → ℕ → Walk → ℕ → Type 0
ChildrenMarked fs i w j =
    (c : Child) → In c (children (frame_at fs j)) → i ≤ c.at → c.at < length fs
    → Marked w c.at

pub record Looked (fs : List Frame) (i : ℕ) (w : Walk) (k : ℕ) : Type 0 where
  reached : Reached fs i w
  own : ChildrenMarked fs i w i
  passed : (p : ℕ) → p < k → ChildrenMarked fs i w (get_or w.queue p 0)
  other : (p : ℕ) → p < k → get_or w.queue p 0 ≡ i → ⊥

-- before anything enters; what the queue holds is not looked at
abbrev start : List ℕ → Walk
start queue = walk (replicate 1024 false) queue 0

unmarked : (n j : ℕ) → get_or (replicate n false) j false ≡ false
unmarked zero j = refl
unmarked (suc n) zero = refl
unmarked (suc n) (suc j) = unmarked n j

empty : (fs : List Frame) (i : ℕ) (queue : List ℕ) → length queue ≡ 1024
    → Reached fs i (start queue)
empty fs i queue e = record {
  room = room_empty;
  wide = e;
  met = λ p l. absurd (omega arith);
  inside = λ p l. absurd (omega arith);
  queued = λ j e. absurd (true≢false (sym e ∙ unmarked 1024 j));
}

module _ (fs : List Frame) (i : ℕ) (few : length fs ≤ 1024) where
  looked_start : (queue : List ℕ) → length queue ≡ 1024
      → Looked fs i (over_children (entered i (length fs)) (start queue) (children (frame_at fs i))) 0
  looked_start queue e =
      let r = empty fs i queue e in
      let cs = children (frame_at fs i) in
      let h : AllBelow fs i cs = (λ c m. Below.child m) in
      record {
        reached = (all_step fs i few cs (start queue) r h).reached;
        own = λ c m o l. all_marked fs i few cs (start queue) r h c m o l;
        passed = λ p l. absurd (omega arith);
        other = λ p l. absurd (omega arith);
      }

  module _ (w : Walk) (k : ℕ) (g : Looked fs i w k) (l : k < w.filled) where
    abbrev cs : List Child
    cs = children (frame_at fs (get_or w.queue k 0))

    abbrev after : Walk
    after = over_children (entered i (length fs)) w cs

    under : (c : Child) → In c cs → Below fs i c.at
    under c m = below_child (g.reached.met k l) m

    step : Step fs i w after
    step = all_step fs i few cs w g.reached under

    same : (p : ℕ) → p ≤ k → get_or after.queue p 0 ≡ get_or w.queue p 0
    same p m = step.grows.queue_stays p (omega arith)

    marked_on : (j : ℕ) → ChildrenMarked fs i w j → ChildrenMarked fs i after j
    marked_on j h c m o l = step.grows.marks_stay c.at (h c m o l)

    before : (p : ℕ) → p < suc k → (b : Bool) → ltb p k ≡ b
        → ChildrenMarked fs i after (get_or after.queue p 0)
    before p m true e =
        let z = ltb-true p k e in
        let h = marked_on (get_or w.queue p 0) (g.passed p z) in
        subst (ChildrenMarked fs i after) (sym (same p (omega arith))) h
    before p m false e =
        let z = ltb-false p k e in
        let q : p ≡ k = omega arith in
        let x : get_or after.queue p 0 ≡ get_or w.queue k 0 =
        same p (omega arith) ∙ ap (λ (y : ℕ). get_or w.queue y 0) q in
        subst (ChildrenMarked fs i after) (sym x) (all_marked fs i few cs w g.reached under)

    differs : (get_or w.queue k 0 ≡ i → ⊥) → (p : ℕ) → p < suc k → (b : Bool) → ltb p k ≡ b
        → get_or after.queue p 0 ≡ i → ⊥
    differs d p m true e h =
        let z = ltb-true p k e in
        g.other p z (sym (same p (omega arith)) ∙ h)
    differs d p m false e h =
        let z = ltb-false p k e in
        let q : k ≡ p = omega arith in
        d (sym (same k (omega arith)) ∙ ap (λ (y : ℕ). get_or after.queue y 0) q ∙ h)

    looked_next : (get_or w.queue k 0 ≡ i → ⊥) → Looked fs i after (suc k)
    looked_next d = record {
      reached = step.reached;
      own = marked_on i g.own;
      passed = λ p m. before p m (ltb p k) refl;
      other = λ p m. differs d p m (ltb p k) refl;
    }

  -- where all was looked at, a way back to i ends in a mark, if it leaves a frame whose children
  -- are below i and marked
  way_back : (w : Walk) (k : ℕ) → Looked fs i w k → w.filled ≤ k → NoCycleBefore fs i → {x j : ℕ}
      → AllBelow fs i (children (frame_at fs x)) → ChildrenMarked fs i w x → Below fs x j → j ≡ i
      → j < length fs → Marked w j
  way_back w k g l none u h (Below.child {c = c} m) e z = h c m (omega arith) z
  way_back w k g l none u h (Below.further {c = c} m b) e z =
      let o = not_before c.at none (u c m) (subst (Below fs c.at) e b) in
      let a = g.reached.queued c.at (h c m o (above b)) in
      let p = a.lies in
      let own = subst (ChildrenMarked fs i w) a.holds (g.passed a.place (omega arith)) in
      way_back w k g l none (λ d n. below_child (u c m) n) own b e z

  looked_end : (w : Walk) (k : ℕ) → Looked fs i w k → w.filled ≤ k → NoCycleBefore fs i
      → i < length fs → Below fs i i → ⊥
  looked_end w k g l none z b =
      let mark = way_back w k g l none (λ c m. Below.child m) g.own b refl z in
      let a = g.reached.queued i mark in
      let o = a.lies in
      g.other a.place (omega arith) a.holds

-- where no child of i is from i on, there is no way back either
childless : (fs : List Frame) (i : ℕ) → NoCycleBefore fs i → has_child_from i (frame_at fs i) ≡ false
    → Below fs i i → ⊥
childless fs i none h b = absurd (true≢false (sym (go b refl refl) ∙ h))
  where
    found : (c : Child) → In c (children (frame_at fs i)) → i ≤ c.at
        → has_child_from i (frame_at fs i) ≡ true
    found c m l =
        let passes = le-leb i c.at l in
        unfold has_child_from in any_in (λ (d : Child). leb i d.at) m passes

    go : {x j : ℕ} → Below fs x j → x ≡ i → j ≡ i → has_child_from i (frame_at fs i) ≡ true
    go (Below.child {c = c} m) e q =
        found c (subst (λ (y : ℕ). In c (children (frame_at fs y))) e m) (omega arith)
    go (Below.further {c = c} m a) e q =
        let n = subst (λ (y : ℕ). In c (children (frame_at fs y))) e m in
        found c n (not_before c.at none (Below.child n) (subst (Below fs c.at) q a))

-- ---- as the code needs them, over a text's lines
abbrev pub Looking : List ℕ → ℕ → List Bool → List ℕ → ℕ → ℕ → Type 0
Looking ws i marks queue filled k = Looked (frames_of ws) i (walk marks queue filled) k

-- what the code's call made of w is what the laws above speak of
as_entered : (ws : List ℕ) (i j : ℕ) (f : Frame) (w t : Walk) → f ≡ frame_at (frames_of ws) j
    → t ≡ over_children (entered i (length ws)) w (children f)
    → over_children (entered i (length (frames_of ws))) w (children (frame_at (frames_of ws) j)) ≡ t
as_entered ws i j f w t e h = rw (frames_length ws, sym e, sym h)

module _ (ws : List ℕ) (i : ℕ) (few : length ws ≤ 1024) where
  short : length (frames_of ws) ≤ 1024
  short = let z = frames_length ws in omega arith

  pub look_start : (marks : List Bool) (lent queue : List ℕ) (filled : ℕ) (f : Frame)
      → f ≡ frame_at (frames_of ws) i
      → walk marks queue filled
      ≡ over_children (entered i (length ws)) (walk (marks_of (replicate 16 0)) lent 0) (children f)
      → length lent ≡ 1024 → Looking ws i marks queue filled 0
  look_start marks lent queue filled f e h l =
      let none = rw no_marks at h in
      let same = as_entered ws i i f (start lent) (walk marks queue filled) e none in
      let first = looked_start (frames_of ws) i short lent l in
      subst (λ (w : Walk). Looked (frames_of ws) i w 0) same first

  module _ (marks : List Bool) (queue : List ℕ) (filled k : ℕ)
      (g : Looking ws i marks queue filled k) where
    abbrev held : Walk
    held = walk marks queue filled

    pub look_room : QueueRoom marks filled
    look_room = g.reached.room

    -- j is the frame in place k
    module _ (j : ℕ) (is : j ≡ get_or queue k 0) where
      pub look_inside : k < filled → j < length ws
      look_inside l =
          let z = frames_length ws in
          let a = g.reached.inside k l in
          omega (arith, is)

      pub look_next : (marks' : List Bool) (queue' : List ℕ) (filled' : ℕ) (f : Frame)
          → f ≡ frame_at (frames_of ws) j
          → walk marks' queue' filled'
          ≡ over_children (entered i (length ws)) (walk marks queue filled) (children f)
          → k < filled → (j ≡ i → ⊥) → Looking ws i marks' queue' filled' (k + 1)
      look_next marks' queue' filled' f e h l d =
          let one : k + 1 ≡ suc k = omega arith in
          let at = e ∙ ap (frame_at (frames_of ws)) is in
          let same = as_entered ws i (get_or queue k 0) f held (walk marks' queue' filled') at h in
          let on = looked_next (frames_of ws) i short held k g l (λ q. d (is ∙ q)) in
          rw one (subst (λ (w : Walk). Looked (frames_of ws) i w (suc k)) same on)

      pub look_found : j ≡ i → k < filled → i < length ws → true ≡ is_below (frames_of ws) i i
      look_found e l m =
          let z = frames_length ws in
          let b = subst (Below (frames_of ws) i) (sym is ∙ e) (g.reached.met k l) in
          sym (below_is (frames_of ws) i i (omega arith) b)

    pub look_end : filled ≤ k → NoCycleBefore (frames_of ws) i → i < length ws
        → false ≡ is_below (frames_of ws) i i
    look_end l none m = go (is_below (frames_of ws) i i) refl
      where
        go : (b : Bool) → is_below (frames_of ws) i i ≡ b → false ≡ b
        go true e =
            let z = frames_length ws in
            let b = is_below_lem (frames_of ws) i i e in
            absurd (looked_end (frames_of ws) i short held k g l none (omega arith) b)
        go false e = refl

-- what the code asks before it looks: x is what it answered
pub low_children : (ws : List ℕ) (i : ℕ) (f : Frame) (x : Bool) → f ≡ frame_at (frames_of ws) i
    → x ≡ has_child_from i f → x ≡ false → NoCycleBefore (frames_of ws) i
    → x ≡ is_below (frames_of ws) i i
low_children ws i f x e h t none = t ∙ go (is_below (frames_of ws) i i) refl
  where
    go : (b : Bool) → is_below (frames_of ws) i i ≡ b → false ≡ b
    go true q =
        let low = sym (ap (has_child_from i) e) ∙ sym h ∙ t in
        absurd (childless (frames_of ws) i none low (is_below_lem (frames_of ws) i i q))
    go false q = refl
