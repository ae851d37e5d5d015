-- Sums over a file's frames. Each number but the roots' is one frame's child, once: then the roots'
-- trees have all frames together. Assumes nothing.
use mathlib.Core.Path.{◌≡◌, refl, sym, ap, ap₂, ◌∙◌}
use mathlib.Core.Bool.{Bool, true, false}
use mathlib.Core.List.{List, [], ◌∷◌, ◌++◌}
use Prim.Native.Nat.{ℕ, zero, suc, ◌+◌, ◌*◌, ◌<◌, ◌≤◌}
use native.Mathlib.Omega.{arith}
use native.Mathlib.Decide.{ℕ_discrete}
use native.Mathlib.Nat.{add-mul, zero-mul, one-mul}
use lib.Dec.{eqb, ltb}
use lib.ListN.{length}
use borrow.Author.Tests.{eq-eqb, ne_eqb, ltb-true, ltb-false, eqb-true, eqb-false, lt-ltb, le-ltb}
use Rattle.basics.specs.If.{when◌then◌else◌}
use Rattle.basics.specs.Members.{In, All}
use Rattle.basics.proofs.Ifs.{if_yes, if_no}
use Rattle.language.specs.Kinds.{Child, children}
use Rattle.language.specs.declared.frame.Frame.{Frame}
use Rattle.program.specs.Trees.{frame_at}
use Rattle.layout.specs.Uses.{times, used}
use Rattle.drawing.specs.Drawings.{numbered, roots_to}
use Rattle.drawing.proofs.Roots.{rank_of}

abbrev pub unit : Bool → ℕ
unit b = when b then 1 else 0

-- ---- over frames, which stand from i on; over children; over numbers
unfoldable pub total : (ℕ → Frame → ℕ) → ℕ → List Frame → ℕ
total g i [] = 0
total g i (f ∷ fs) = g i f + total g (suc i) fs

unfoldable pub over : (ℕ → ℕ) → List Child → ℕ
over s [] = 0
over s (c ∷ cs) = s c.at + over s cs

unfoldable pub sum_of : (ℕ → ℕ) → List ℕ → ℕ
sum_of s [] = 0
sum_of s (i ∷ is) = s i + sum_of s is

pub over_append : (s : ℕ → ℕ) (xs ys : List Child) → over s (xs ++ ys) ≡ over s xs + over s ys
unfolding over
over_append s [] ys = omega arith
over_append s (x ∷ xs) ys = let e = over_append s xs ys in omega arith

pub sum_append : (s : ℕ → ℕ) (xs ys : List ℕ) → sum_of s (xs ++ ys) ≡ sum_of s xs + sum_of s ys
unfolding sum_of
sum_append s [] ys = omega arith
sum_append s (x ∷ xs) ys = let e = sum_append s xs ys in omega arith

pub total_same : (g h : ℕ → Frame → ℕ) (i : ℕ) (fs : List Frame)
    → ((q : ℕ) → q < length fs → g (i + q) (frame_at fs q) ≡ h (i + q) (frame_at fs q))
    → total g i fs ≡ total h i fs
unfolding total
total_same g h i [] e = refl
total_same g h i (f ∷ fs) e =
    let z : i + 0 ≡ i = omega arith in
    let a : g i f ≡ h i f = ap (λ (k : ℕ). g k f) (sym z) ∙ e 0 (omega arith) ∙ ap (λ (k : ℕ). h k f) z in
    let b = total_same g h (suc i) fs (λ q l. (let y : suc i + q ≡ i + suc q = omega arith in ap (λ (k : ℕ). g k (frame_at fs q)) y ∙ e (suc q) (omega arith) ∙ ap (λ (k : ℕ). h k (frame_at fs q)) (sym y))) in
    omega arith

total_add : (g h : ℕ → Frame → ℕ) (i : ℕ) (fs : List Frame)
    → total (λ j f. g j f + h j f) i fs ≡ total g i fs + total h i fs
unfolding total
total_add g h i [] = refl
total_add g h i (f ∷ fs) = let e = total_add g h (suc i) fs in omega arith

total_zero : (s : ℕ → ℕ) (i : ℕ) (fs : List Frame) → total (λ j f. 0 * s j) i fs ≡ 0
unfolding total
total_zero s i [] = refl
total_zero s i (f ∷ fs) = let a = zero-mul (s i) in let b = total_zero s (suc i) fs in omega arith

total_one : (i : ℕ) (fs : List Frame) → total (λ j f. 1) i fs ≡ length fs
unfolding total
total_one i [] = refl
total_one i (f ∷ fs) = let e = total_one (suc i) fs in omega arith

-- ---- one number
unit_off : (s : ℕ → ℕ) (c i : ℕ) → (c ≡ i → ⊥) → unit (eqb c i) * s i ≡ 0
unit_off s c i d = ap (λ (k : ℕ). k * s i) (if_no 1 0 (ne_eqb c i d)) ∙ zero-mul (s i)

sum_off : (s : ℕ → ℕ) (c i : ℕ) (fs : List Frame) → c < i
    → total (λ j f. unit (eqb c j) * s j) i fs ≡ 0
unfolding total
sum_off s c i [] l = refl
sum_off s c i (f ∷ fs) l =
    let a = unit_off s c i (λ e. omega arith) in
    let b = sum_off s c (suc i) fs (omega arith) in
    omega arith

sum_one : (s : ℕ → ℕ) (c i : ℕ) (fs : List Frame) → i ≤ c → c < i + length fs
    → total (λ j f. unit (eqb c j) * s j) i fs ≡ s c
unfolding total
sum_one s c i [] l k = absurd (omega arith)
sum_one s c i (f ∷ fs) l k = go (ℕ_discrete c i) (λ h. sum_one s c (suc i) fs h (omega arith))
  where
    go : Dec (c ≡ i) → (suc i ≤ c → total (λ j f. unit (eqb c j) * s j) (suc i) fs ≡ s c)
        → unit (eqb c i) * s i + total (λ j f. unit (eqb c j) * s j) (suc i) fs ≡ s c
    go (yes e) rec =
        let a : unit (eqb c i) * s i ≡ s i = ap (λ (k : ℕ). k * s i) (if_yes 1 0 (eq-eqb c i e)) ∙ one-mul (s i) in
        let b = sum_off s c (suc i) fs (omega arith) in
        let d = ap s e in
        omega arith
    go (no d) rec = let a = unit_off s c i d in let b = rec (omega (arith, d)) in omega arith

-- ---- the children's sum, number by number
over-times : (s : ℕ → ℕ) (fs : List Frame) (cs : List Child)
    → ((c : Child) → In c cs → c.at < length fs) → over s cs ≡ total (λ j f. times j cs * s j) 0 fs
unfolding over times
over-times s fs [] h = sym (total_zero s 0 fs)
over-times s fs (c ∷ cs) h =
    let a = sum_one s c.at 0 fs (omega arith) (let l = h c In.first in omega arith) in
    let b = over-times s fs cs (λ x m. h x (In.later m)) in
    let e = total_add (λ j f. unit (eqb c.at j) * s j) (λ j f. times j cs * s j) 0 fs in
    let d = total_same (λ j f. (unit (eqb c.at j) + times j cs) * s j) (λ j f. unit (eqb c.at j) * s j + times j cs * s j) 0 fs (λ q l. add-mul (unit (eqb c.at (0 + q))) (times (0 + q) cs) (s (0 + q))) in
    omega arith

over_all : (ℕ → ℕ) → List Frame → ℕ
over_all s [] = 0
over_all s (f ∷ fs) = over s (children f) + over_all s fs

swapped : (s : ℕ → ℕ) (fs gs : List Frame)
    → All (λ (g : Frame). (c : Child) → In c (children g) → c.at < length fs) gs
    → over_all s gs ≡ total (λ j f. used j gs * s j) 0 fs
unfolding used over_all
swapped s fs [] All.none = sym (total_zero s 0 fs)
swapped s fs (g ∷ gs) (All.more h hs) =
    let a = over-times s fs (children g) h in
    let b = swapped s fs gs hs in
    let e = total_add (λ j f. times j (children g) * s j) (λ j f. used j gs * s j) 0 fs in
    let d = total_same (λ j f. (times j (children g) + used j gs) * s j) (λ j f. times j (children g) * s j + used j gs * s j) 0 fs (λ q l. add-mul (times (0 + q) (children g)) (used (0 + q) gs) (s (0 + q))) in
    omega arith

over-total : (s : ℕ → ℕ) (i : ℕ) (fs : List Frame)
    → total (λ j f. over s (children f)) i fs ≡ over_all s fs
unfolding total over_all
over-total s i [] = refl
over-total s i (f ∷ fs) = let e = over-total s (suc i) fs in omega arith

all_frames : {P : Frame → Type 0} (fs : List Frame) → ((i : ℕ) → i < length fs → P (frame_at fs i))
    → All P fs
all_frames [] h = All.none
all_frames (f ∷ fs) h =
    All.more (h 0 (omega arith)) (all_frames fs (λ i l. h (suc i) (omega arith)))

-- each number but the roots' is one frame's child, once; s counts a tree's frames
pub all_counted : (fs : List Frame) (s : ℕ → ℕ) (root : Frame → Bool)
    → ((i : ℕ) (c : Child) → i < length fs → In c (children (frame_at fs i)) → c.at < length fs)
    → ((j : ℕ) → j < length fs → unit (root (frame_at fs j)) + used j fs ≡ 1)
    → ((i : ℕ) → i < length fs → s i ≡ 1 + over s (children (frame_at fs i)))
    → total (λ j f. unit (root f) * s j) 0 fs ≡ length fs
all_counted fs s root inside once size =
    let a = total_same (λ j f. s j) (λ j f. 1 + over s (children f)) 0 fs (λ q l. (let z : 0 + q ≡ q = omega arith in ap s z ∙ size q l)) in
    let b = total_add (λ j f. 1) (λ j f. over s (children f)) 0 fs in
    let c = total_one 0 fs in
    let o = over-total s 0 fs in
    let d = swapped s fs fs (all_frames fs (λ i l c m. inside i c l m)) in
    let e = total_add (λ j f. unit (root f) * s j) (λ j f. used j fs * s j) 0 fs in
    let f = total_same (λ j f. s j) (λ j f. unit (root f) * s j + used j fs * s j) 0 fs (λ q l. (let z : 0 + q ≡ q = omega arith in sym (one-mul (s (0 + q))) ∙ ap (λ (k : ℕ). k * s (0 + q)) (sym (ap (λ (k : ℕ). unit (root (frame_at fs q)) + used k fs) z ∙ once q l)) ∙ add-mul (unit (root (frame_at fs q))) (used (0 + q) fs) (s (0 + q)))) in
    omega arith

-- ---- the roots' sum, frame by frame
numbered_sum : (s : ℕ → ℕ) (r i : ℕ) (fs : List Frame)
    → sum_of s (numbered r i fs) ≡ total (λ j f. unit (eqb (rank_of f) r) * s j) i fs
unfolding sum_of numbered total
numbered_sum s r i [] = refl
numbered_sum s r i (f ∷ fs) =
    sum_append s (when eqb (rank_of f) r then i ∷ [] else []) (numbered r (suc i) fs)
    ∙ ap₂ (λ (a b : ℕ). a + b) (go (eqb (rank_of f) r) refl) (numbered_sum s r (suc i) fs)
  where
    go : (b : Bool) → eqb (rank_of f) r ≡ b
        → sum_of s (when eqb (rank_of f) r then i ∷ [] else []) ≡ unit (eqb (rank_of f) r) * s i
    go true e =
        let z : s i + 0 ≡ s i = omega arith in
        ap (sum_of s) (if_yes (i ∷ []) [] e) ∙ z
        ∙ sym (ap (λ (k : ℕ). k * s i) (if_yes 1 0 e) ∙ one-mul (s i))
    go false e =
        ap (sum_of s) (if_no (i ∷ []) [] e)
        ∙ sym (ap (λ (k : ℕ). k * s i) (if_no 1 0 e) ∙ zero-mul (s i))

unit_more : (a r : ℕ) → unit (ltb a (suc r)) ≡ unit (ltb a r) + unit (eqb a r)
unit_more a r = go (ltb a r) refl (eqb a r) refl
  where
    go : (x : Bool) → ltb a r ≡ x → (y : Bool) → eqb a r ≡ y
        → unit (ltb a (suc r)) ≡ unit (ltb a r) + unit (eqb a r)
    go true p y q =
        let l = ltb-true a r p in
        if_yes 1 0 (lt-ltb a (suc r) (omega arith))
        ∙ sym (ap₂ (λ (m n : ℕ). m + n) (if_yes 1 0 p) (if_no 1 0 (ne_eqb a r (λ e. omega arith))))
    go false p true q =
        let e = eqb-true a r q in
        if_yes 1 0 (lt-ltb a (suc r) (omega arith))
        ∙ sym (ap₂ (λ (m n : ℕ). m + n) (if_no 1 0 p) (if_yes 1 0 q))
    go false p false q =
        let e = eqb-false a r q in
        let l = ltb-false a r p in
        if_no 1 0 (le-ltb a (suc r) (omega (arith, e)))
        ∙ sym (ap₂ (λ (m n : ℕ). m + n) (if_no 1 0 p) (if_no 1 0 q))

pub roots_sum : (s : ℕ → ℕ) (r : ℕ) (fs : List Frame)
    → sum_of s (roots_to r fs) ≡ total (λ j f. unit (ltb (rank_of f) r) * s j) 0 fs
unfolding roots_to sum_of
roots_sum s zero fs =
    sym (total_same _ (λ j f. 0 * s j) 0 fs (λ q l. ap (λ (k : ℕ). k * s (0 + q)) (if_no 1 0 (le-ltb (rank_of (frame_at fs q)) 0 (omega arith)))) ∙ total_zero s 0 fs)
roots_sum s (suc r) fs =
    let a = sum_append s (roots_to r fs) (numbered r 0 fs) in
    let b = roots_sum s r fs in
    let c = numbered_sum s r 0 fs in
    let d = total_add (λ j f. unit (ltb (rank_of f) r) * s j) (λ j f. unit (eqb (rank_of f) r) * s j) 0 fs in
    let e = total_same (λ j f. unit (ltb (rank_of f) (suc r)) * s j) (λ j f. unit (ltb (rank_of f) r) * s j + unit (eqb (rank_of f) r) * s j) 0 fs (λ q l. ap (λ (k : ℕ). k * s (0 + q)) (unit_more (rank_of (frame_at fs q)) r) ∙ add-mul (unit (ltb (rank_of (frame_at fs q)) r)) (unit (eqb (rank_of (frame_at fs q)) r)) (s (0 + q))) in
    omega arith
