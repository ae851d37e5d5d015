-- How the test for a cycle enters frames into its queue, and that there is room for them. Assumes
-- nothing.
use mathlib.Core.Path.{◌≡◌, refl, sym, ap, subst, ◌∙◌}
use mathlib.Core.Bool.{Bool, true, false, true≢false}
use mathlib.Core.List.{List, [], ◌∷◌}
use Prim.Native.Nat.{ℕ, zero, suc, ◌+◌, ◌*◌, ◌^◌, ◌≤◌, ◌<◌}
use native.Mathlib.Omega.{arith}
use lib.Dec.{ltb}
use borrow.Author.Tests.{ltb-true, ltb-false, lt-ltb, le-ltb}
use lib.ListN.{get_or, length, set, replicate, length-replicate, length-set}
use Rattle.basics.specs.If.{when◌then◌else◌}
use Rattle.basics.proofs.Ifs.{yes, no, if_all}
use Rattle.language.specs.Kinds.{Child}
use Rattle.program.specs.Inner.Children.{over_children}
use Rattle.program.proofs.ChildFolds.{fold_keeps}
use Rattle.forest.specs.Inner.Walks.{Walk, walk, tally, QueueRoom, entered, marks_of}
use Rattle.forest.proofs.MarkBits.{no_marks}

-- ---- marks are counted
tally_most : (bs : List Bool) → tally bs ≤ length bs
unfolding tally
tally_most [] = omega arith
tally_most (true ∷ bs) = let m = tally_most bs in omega arith
tally_most (false ∷ bs) = let m = tally_most bs in omega arith

tally_less : (bs : List Bool) (v : ℕ) → v < length bs → get_or bs v false ≡ false
    → tally bs < length bs
unfolding tally
tally_less [] v l e = absurd (omega arith)
tally_less (true ∷ bs) zero l e = absurd (true≢false e)
tally_less (false ∷ bs) zero l e = let m = tally_most bs in omega arith
tally_less (true ∷ bs) (suc v) l e = let m = tally_less bs v (omega arith) e in omega arith
tally_less (false ∷ bs) (suc v) l e = let m = tally_less bs v (omega arith) e in omega arith

tally-set : (bs : List Bool) (v : ℕ) → v < length bs → get_or bs v false ≡ false
    → tally (set bs v true) ≡ suc (tally bs)
unfolding tally
tally-set [] v l e = absurd (omega arith)
tally-set (true ∷ bs) zero l e = absurd (true≢false e)
tally-set (false ∷ bs) zero l e = refl
tally-set (true ∷ bs) (suc v) l e = ap suc (tally-set bs v (omega arith) e)
tally-set (false ∷ bs) (suc v) l e = tally-set bs v (omega arith) e

-- ---- room
room_most : (marks : List Bool) (filled : ℕ) → QueueRoom marks filled → filled ≤ 1024
room_most marks filled r =
    let m = tally_most marks in let a = r.long in let b = r.each in omega arith

no_tally : (n : ℕ) → tally (replicate n false) ≡ 0
unfolding tally
no_tally zero = refl
no_tally (suc n) = no_tally n

pub room_empty : QueueRoom (replicate 1024 false) 0
room_empty =
    record { long = length-replicate {A = Bool} 1024 false; each = sym (no_tally 1024) }

pub room_zeros : QueueRoom (marks_of (replicate 16 0)) 0
room_zeros = subst (λ (marks : List Bool). QueueRoom marks 0) (sym no_marks) room_empty

-- a place for what is not marked
pub room_less : (marks : List Bool) (filled v n : ℕ) → QueueRoom marks filled → n ≤ 1024 → v < n
    → get_or marks v false ≡ false → filled < 1024
room_less marks filled v n r m l e =
    let a = r.long in
    let b = r.each in
    let z = tally_less marks v (omega arith) e in
    omega arith

abbrev pub RoomIn : Walk → Type 0
RoomIn w = QueueRoom w.marks w.filled

pub more_room : (marks : List Bool) (filled v n : ℕ) → QueueRoom marks filled → n ≤ 1024 → v < n
    → get_or marks v false ≡ false → QueueRoom (set marks v true) (suc filled)
more_room marks filled v n r m l e =
    let a = r.long in
    let b = tally-set marks v (omega arith) e in
    record { long = length-set marks v true ∙ a; each = ap suc r.each ∙ sym b }

-- ---- entering: v is before i, has no frame, was met, or is new
abbrev pub with_new : Walk → ℕ → Walk
with_new w v = walk (set w.marks v true) (set w.queue w.filled v) (suc w.filled)

pub by_entering : (P : Walk → Type 0) (i n : ℕ) (w : Walk) (v : ℕ) → (v < i → P w) → (n ≤ v → P w)
    → (get_or w.marks v false ≡ true → P w)
    → (v < n → get_or w.marks v false ≡ false → P (with_new w v)) → P (entered i n w v)
unfolding entered
by_entering P i n w v early past met new =
    if_all P (ltb v i) w _ (λ a. early (ltb-true v i a))
    (λ _. if_all P (ltb v n) _ w inner (λ a. past (ltb-false v n a)))
  where
    inner : ltb v n ≡ true → P (when get_or w.marks v false then w else with_new w v)
    inner a = if_all P (get_or w.marks v false) w (with_new w v) met (new (ltb-true v n a))

entered_room : (i n v : ℕ) (w : Walk) → n ≤ 1024 → RoomIn w → RoomIn (entered i n w v)
entered_room i n v w m r =
    let new = more_room w.marks w.filled v n r m in
    by_entering RoomIn i n w v (λ _. r) (λ _. r) (λ _. r) new

pub room_kept : (marks marks' : List Bool) (queue queue' : List ℕ) (filled filled' v i n : ℕ)
    → walk marks' queue' filled' ≡ entered i n (walk marks queue filled) v → QueueRoom marks filled
    → n ≤ 1024 → QueueRoom marks' filled'
room_kept marks marks' queue queue' filled filled' v i n e r m =
    subst RoomIn (sym e) (entered_room i n v (walk marks queue filled) m r)

all_room : (i n : ℕ) (cs : List Child) (w : Walk) → n ≤ 1024 → RoomIn w
    → RoomIn (over_children (entered i n) w cs)
all_room i n cs w m r =
    fold_keeps (entered i n) RoomIn (λ t v h. entered_room i n v t m h) cs w r

pub all_most : (marks marks' : List Bool) (queue queue' : List ℕ) (filled filled' i n : ℕ)
    (cs : List Child)
    → walk marks' queue' filled' ≡ over_children (entered i n) (walk marks queue filled) cs
    → QueueRoom marks filled → n ≤ 1024 → filled' ≤ 1024
all_most marks marks' queue queue' filled filled' i n cs e r m =
    room_most marks' filled' (subst RoomIn (sym e) (all_room i n cs (walk marks queue filled) m r))

-- a number after the last frame does not enter
pub entered_past : (i n : ℕ) → n ≤ 1024 → (w : Walk) (v : ℕ) → 1024 ≤ v → w ≡ entered i n w v
entered_past i n m w v l =
    by_entering (λ t. w ≡ t) i n w v (λ _. refl) (λ _. refl) (λ _. refl)
    (λ k _. absurd (omega arith))

-- ---- how the code enters a frame: x is what it found of the mark

-- the place, as the code's index and its new count
module _ (marks : List Bool) (filled v n : ℕ) (x : Bool) (h : x ≡ get_or marks v false)
    (e : x ≡ false) (r : QueueRoom marks filled) (m : n ≤ 1024) (l : v < n) where
  pub place_free : filled < 1024
  place_free = room_less marks filled v n r m l (sym h ∙ e)

  pub place_scales : filled * 2 < 2 ^ 64
  place_scales = let z = place_free in omega arith

  pub next_fits : filled + 1 < 2 ^ 64
  next_fits = let z = place_free in omega arith

-- j is v, as the code's index
module _ (marks : List Bool) (queue : List ℕ) (filled v i n j : ℕ) (same : j ≡ v) where
  pub enter_early : j < i → walk marks queue filled ≡ entered i n (walk marks queue filled) v
  unfolding entered
  enter_early l = yes _ (lt-ltb v i (omega (arith, same))) refl

  pub enter_past : i ≤ j → n ≤ j → walk marks queue filled ≡ entered i n (walk marks queue filled) v
  unfolding entered
  enter_past o l =
      no _ (le-ltb v i (omega (arith, same))) (no _ (le-ltb v n (omega (arith, same))) refl)

  module _ (x : Bool) (h : x ≡ get_or marks j false) where
    mark_is : get_or marks v false ≡ x
    mark_is = sym (h ∙ ap (λ (k : ℕ). get_or marks k false) same)

    pub enter_met : x ≡ true → i ≤ j → j < n
        → walk marks queue filled ≡ entered i n (walk marks queue filled) v
    unfolding entered
    enter_met e o l =
        no _ (le-ltb v i (omega (arith, same)))
        (yes _ (lt-ltb v n (omega (arith, same))) (yes _ (mark_is ∙ e) refl))

    pub enter_new : (marks' : List Bool) → marks' ≡ set marks j true → x ≡ false → i ≤ j → j < n
        → walk marks' (set queue filled v) (filled + 1) ≡ entered i n (walk marks queue filled) v
    unfolding entered
    enter_new marks' s e o l =
        no _ (le-ltb v i (omega (arith, same)))
        (yes _ (lt-ltb v n (omega (arith, same))) (no _ (mark_is ∙ e) (rw (s, same, one) refl)))
      where
        one : filled + 1 ≡ suc filled
        one = omega arith

pub ruleset enter_laws = (enter_early, enter_past, enter_met, enter_new)
