-- The array of depths: where each child stands before its parent, after one pass from the last
-- frame down 25 stands exactly at the frames that are too deep. Assumes nothing.
use mathlib.Core.Path.{◌≡◌, refl, sym, ap, ◌∙◌}
use mathlib.Core.Bool.{Bool, true, false, true≢false}
use mathlib.Core.List.{List, [], ◌∷◌}
use Prim.Native.Nat.{ℕ, zero, suc, ◌-◌, ◌≤◌, ◌<◌}
use native.Mathlib.Omega.{arith}
use lib.Dec.{ltb, eqb}
use borrow.Author.Tests.{ltb-true, ltb-false, eqb-true, eqb-false}
use lib.ListN.{get_or, length, set, length-set}
use lib.Seq.{get_or-set_same, get_or-set_other}
use Rattle.basics.specs.Members.{In}
use Rattle.basics.proofs.Ifs.{if_all}
use Rattle.language.specs.Kinds.{is_module, Child, children}
use Rattle.language.specs.declared.kind.Kind.TheVariants.{Module}
use Rattle.language.specs.declared.frame.Frame.{Frame}
use Rattle.program.specs.Trees.{frame_at}
use Rattle.program.specs.Inner.Children.{over_children}
use Rattle.program.proofs.ChildFolds.{fold_keeps}
use Rattle.layout.specs.Depths.{Depth}
use Rattle.layout.specs.Inner.Passes.{given, raised, depths_down}
use Rattle.layout.proofs.Trees.{is_module_lem, Among, in_body}
use Rattle.layout.proofs.Depths.{AtLeast, body_depth, child_depth}

-- ---- what raising does to the array
raised-length : (u : List ℕ) (v d : ℕ) → length (raised d u v) ≡ length u
unfolding raised
raised-length u v d = if_all (λ (x : List ℕ). length x ≡ length u) (ltb v 1024) _ _ (λ o. if_all (λ (x : List ℕ). length x ≡ length u) (ltb (get_or u v 0) d) _ _ (λ h. length-set u v d) (λ h. refl)) (λ o. refl)

-- what stands at j afterwards: what stood there, or j is the one raised
data After (u : List ℕ) (d j : ℕ) (here : Type 0) (x : ℕ) : Type 0 where
  kept : x ≡ get_or u j 0 → After u d j here x
  lifted : here → x ≡ d → After u d j here x

set_after : (u : List ℕ) (v d j : ℕ) → v < length u → After u d j (v ≡ j) (get_or (set u v d) j 0)
set_after u v d j l = go (eqb v j) refl
  where
    go : (b : Bool) → eqb v j ≡ b → After u d j (v ≡ j) (get_or (set u v d) j 0)
    go true e = (let q : v ≡ j = eqb-true v j e in After.lifted q (ap (λ (k : ℕ). get_or (set u v d) k 0) (sym q) ∙ get_or-set_same u v d 0 l))
    go false e = After.kept (get_or-set_other u v j d 0 (λ q. eqb-false v j e (sym q)))

raised_after : (u : List ℕ) (v d j : ℕ) → v < length u
    → After u d j (v ≡ j) (get_or (raised d u v) j 0)
unfolding raised
raised_after u v d j l = if_all (λ (x : List ℕ). After u d j (v ≡ j) (get_or x j 0)) (ltb v 1024) _ _ (λ o. if_all (λ (x : List ℕ). After u d j (v ≡ j) (get_or x j 0)) (ltb (get_or u v 0) d) _ _ (λ h. set_after u v d j l) (λ h. After.kept refl)) (λ o. After.kept refl)

raised_up : (u : List ℕ) (v d j : ℕ) → v < length u → get_or u j 0 ≤ get_or (raised d u v) j 0
unfolding raised
raised_up u v d j l = if_all (λ (x : List ℕ). get_or u j 0 ≤ get_or x j 0) (ltb v 1024) _ _ (λ o. if_all (λ (x : List ℕ). get_or u j 0 ≤ get_or x j 0) (ltb (get_or u v 0) d) _ _ (λ h. go (ltb-true _ _ h) _ (set_after u v d j l)) (λ h. omega arith)) (λ o. omega arith)
  where
    go : get_or u v 0 < d → (x : ℕ) → After u d j (v ≡ j) x → get_or u j 0 ≤ x
    go k x (After.kept e) = omega arith
    go k x (After.lifted q e) =
        (let y : get_or u v 0 ≡ get_or u j 0 = ap (λ (n : ℕ). get_or u n 0) q in omega arith)

raised_there : (u : List ℕ) (v d : ℕ) → v < 1024 → v < length u → d ≤ get_or (raised d u v) v 0
unfolding raised
raised_there u v d k l = if_all (λ (x : List ℕ). d ≤ get_or x v 0) (ltb v 1024) _ _ (λ o. if_all (λ (x : List ℕ). d ≤ get_or x v 0) (ltb (get_or u v 0) d) _ _ (λ h. (let e : get_or (set u v d) v 0 ≡ d = get_or-set_same u v d 0 l in omega arith)) (λ h. ltb-false _ _ h)) (λ o. absurd (let z = ltb-false v 1024 o in omega arith))

-- every child of the list has its place in the array
abbrev Fit : List ℕ → List Child → Type 0
Fit u cs = (c : Child) → In c cs → (c.at < 1024) × (c.at < length u)

fit_next : (u : List ℕ) (d : ℕ) (c : Child) (cs : List Child) → Fit u (c ∷ cs)
    → Fit (raised d u c.at) cs
fit_next u d c cs h x m =
    let a = h x (In.later m) in
    let b = raised-length u c.at d in
    let y = a.1 in
    (a.0, omega arith)

all_length : (cs : List Child) (u : List ℕ) (d : ℕ)
    → length (over_children (raised d) u cs) ≡ length u
all_length cs u d =
    let same : List ℕ → Type 0 = λ x. length x ≡ length u in
    fold_keeps (raised d) same (λ x v e. raised-length x v d ∙ e) cs u refl

all_up : (cs : List Child) (u : List ℕ) (d j : ℕ) → Fit u cs
    → get_or u j 0 ≤ get_or (over_children (raised d) u cs) j 0
unfolding over_children
all_up [] u d j h = omega arith
all_up (c ∷ cs) u d j h =
    let a = raised_up u c.at d j (h c In.first).1 in
    let b = all_up cs (raised d u c.at) d j (fit_next u d c cs h) in
    omega arith

all_there : (cs : List Child) (u : List ℕ) (d : ℕ) (c : Child) → Fit u cs → In c cs
    → d ≤ get_or (over_children (raised d) u cs) c.at 0
unfolding over_children
all_there (c ∷ cs) u d x h In.first =
    let a = raised_there u c.at d (h c In.first).0 (h c In.first).1 in
    let b = all_up cs (raised d u c.at) d c.at (fit_next u d c cs h) in
    omega arith
all_there (c ∷ cs) u d x h (In.later m) =
    all_there cs (raised d u c.at) d x (fit_next u d c cs h) m
all_there [] u d x h x3 = elim x3 [ ]

all_after : (cs : List Child) (u : List ℕ) (d j : ℕ) → Fit u cs
    → After u d j (Among cs j) (get_or (over_children (raised d) u cs) j 0)
unfolding over_children
all_after [] u d j h = After.kept refl
all_after (c ∷ cs) u d j h = go _ (all_after cs (raised d u c.at) d j (fit_next u d c cs h))
  where
    two : (x : ℕ) → After u d j (c.at ≡ j) x → After u d j (Among (c ∷ cs) j) x
    two x (After.kept e) = After.kept e
    two x (After.lifted q e) = After.lifted (record { child = c; among = In.first; at_it = q }) e

    go : (x : ℕ) → After (raised d u c.at) d j (Among cs j) x → After u d j (Among (c ∷ cs) j) x
    go x (After.kept e) = rw e (two _ (raised_after u c.at d j (h c In.first).1))
    go x (After.lifted a e) =
        After.lifted (record { child = a.child; among = In.later a.among; at_it = a.at_it }) e

-- ---- what a frame gives: enough, up to 25
given_up : (f : Frame) (x e : ℕ) → 0 < x → e ≤ suc x → e ≤ 25 → e ≤ given f x
unfolding given
given_up f x e p l m = if_all (λ (y : ℕ). e ≤ y) (eqb x 0) _ _ (λ h. absurd (let z : x ≡ 0 = eqb-true x 0 h in omega arith)) (λ h. if_all (λ (y : ℕ). e ≤ y) (ltb x 25) _ _ (λ k. l) (λ k. m))

given_module : (f : Frame) (x : ℕ) → is_module f.kind ≡ true → 1 ≤ given f x
unfolding given
given_module f x m = if_all (λ (y : ℕ). 1 ≤ y) (eqb x 0) _ _ (λ h. if_all (λ (y : ℕ). 1 ≤ y) (is_module f.kind) _ _ (λ k. omega arith) (λ k. absurd (true≢false (sym m ∙ k)))) (λ h. if_all (λ (y : ℕ). 1 ≤ y) (ltb x 25) _ _ (λ k. omega arith) (λ k. omega arith))

-- and not more
data Why (f : Frame) (x : ℕ) (y : ℕ) : Type 0 where
  nothing : y ≡ 0 → Why f x y
  module_body : is_module f.kind ≡ true → y ≡ 1 → Why f x y
  child_of : 0 < x → y ≤ suc x → Why f x y

given_why : (f : Frame) (x : ℕ) → Why f x (given f x)
unfolding given
given_why f x = if_all (Why f x) (eqb x 0) _ _ (λ h. if_all (Why f x) (is_module f.kind) _ _ (λ k. Why.module_body k refl) (λ k. Why.nothing refl))
    (λ h. (let z : x ≡ 0 → ⊥ = eqb-false x 0 h in if_all (Why f x) (ltb x 25) _ _ (λ k. Why.child_of (omega arith) (omega arith)) (λ k. Why.child_of (omega arith) (let y = ltb-false x 25 k in omega arith))))

-- ---- depths
-- a depth that comes from a frame not below n
data Via (fs : List Frame) (n : ℕ) : ℕ → ℕ → Type 0 where
  body : {i : ℕ} → n ≤ i → i < length fs → (frame_at fs i).kind ≡ Module
      → Via fs n (frame_at fs i).a 1
  child : {i d : ℕ} {c : Child} → n ≤ i → i < length fs → Depth fs i d
      → In c (children (frame_at fs i)) → Via fs n c.at (suc d)

positive : {fs : List Frame} {j d : ℕ} → Depth fs j d → 0 < d
positive (Depth.body l k) = omega arith
positive (Depth.child h m) = omega arith

module _ (fs : List Frame) (below : (i : ℕ) (c : Child) → i < length fs → In c (children (frame_at fs i)) → c.at < i) where
  pub inside : {j d : ℕ} → Depth fs j d → j < length fs
  inside (Depth.body {i = i} l k) = let a = below i _ l (in_body (frame_at fs i) k) in omega arith
  inside (Depth.child {i =
      i} {c = c} h m) = let a = inside h in let b = below i c a m in omega arith

  via : {j d : ℕ} → Depth fs j d → Via fs (suc j) j d
  via (Depth.body {i = i} l k) = Via.body (below i _ l (in_body (frame_at fs i) k)) l k
  via (Depth.child {i = i} {c = c} h m) = Via.child (below i c (inside h) m) (inside h) h m

  -- ---- the pass
  -- the array after the frames from n on: what stands in it is a depth, and each depth that these
  -- frames give stands in it, up to 25
  record Settled (n : ℕ) (u : List ℕ) : Type 0 where
    size : length fs ≤ length u
    room : length fs ≤ 1024
    sound : (j : ℕ) → 0 < get_or u j 0 → AtLeast fs j (get_or u j 0)
    complete : (j d e : ℕ) → Via fs n j d → e ≤ d → e ≤ 25 → e ≤ get_or u j 0

  module _ (n : ℕ) (u : List ℕ) (l : n < length fs) (t : Settled (suc n) u) where
    abbrev next : List ℕ
    next = over_children (raised (given (frame_at fs n) (get_or u n 0))) u (children (frame_at fs n))

    fits : Fit u (children (frame_at fs n))
    fits c m =
        let a = below n c l m in let b = t.size in let k = t.room in (omega arith, omega arith)

    lifted_sound : (j y : ℕ) → Among (children (frame_at fs n)) j → 0 < y
        → Why (frame_at fs n) (get_or u n 0) y → AtLeast fs j y
    lifted_sound j y a p (Why.nothing e) = absurd (omega arith)
    lifted_sound j y a p (Why.module_body k e) =
        record { depth = 1; is = body_depth l (is_module_lem _ k) a; least = omega arith }
    lifted_sound j y a p (Why.child_of k e) =
        let s = t.sound n k in
        record { depth = suc s.depth; is = child_depth s.is a; least = (let w = s.least in omega arith) }

    next_sound : (j x : ℕ)
        → After u (given (frame_at fs n) (get_or u n 0)) j (Among (children (frame_at fs n)) j) x
        → 0 < x → AtLeast fs j x
    next_sound j x (After.kept e) p = rw e (t.sound j (omega arith))
    next_sound j x (After.lifted a e) p =
        rw e (lifted_sound j _ a (omega arith) (given_why (frame_at fs n) (get_or u n 0)))

    kept_complete : (j d e : ℕ) → Via fs (suc n) j d → e ≤ d → e ≤ 25 → e ≤ get_or next j 0
    kept_complete j d e v p q =
        let a = t.complete j d e v p q in
        let b = all_up (children (frame_at fs n)) u (given (frame_at fs n) (get_or u n 0)) j fits in
        omega arith

    next_complete : (j d e : ℕ) → Via fs n j d → e ≤ d → e ≤ 25 → e ≤ get_or next j 0
    next_complete j d e (Via.body {i = i} m k z) p q = go (eqb i n) refl
      where
        go : (b : Bool) → eqb i n ≡ b → e ≤ get_or next (frame_at fs i).a 0
        go true w =
            let y : i ≡ n = eqb-true i n w in
            let zn : (frame_at fs n).kind ≡ Module = ap (λ (k : ℕ). (frame_at fs k).kind) (sym y) ∙ z in
            let a = all_there (children (frame_at fs n)) u (given (frame_at fs n) (get_or u n 0)) _ fits (in_body (frame_at fs n) zn) in
            let b : 1 ≤ given (frame_at fs n) (get_or u n 0) = given_module (frame_at fs n) (get_or u n 0) (ap is_module zn) in
            rw y (omega arith)
        go false w = (let y : i ≡ n → ⊥ = eqb-false i n w in kept_complete _ 1 e (Via.body {i = i} (omega arith) k z) p q)
    next_complete j d e (Via.child {i = i} {d = g} {c = c} m k h x) p q = go (eqb i n) refl
      where
        go : (b : Bool) → eqb i n ≡ b → e ≤ get_or next c.at 0
        go true w =
            let y : i ≡ n = eqb-true i n w in
            let hn : Depth fs n g = (rw y at h) in
            let xn : In c (children (frame_at fs n)) = (rw y at x) in
            let a = all_there (children (frame_at fs n)) u (given (frame_at fs n) (get_or u n 0)) c fits xn in
            let o = positive hn in
            let one : 1 ≤ get_or u n 0 = t.complete n g 1 (via hn) (omega arith) (omega arith) in
            let b : e - 1 ≤ get_or u n 0 = t.complete n g (e - 1) (via hn) (omega arith) (omega arith) in
            let r : e ≤ given (frame_at fs n) (get_or u n 0) = given_up (frame_at fs n) (get_or u n 0) e one (omega arith) q in
            omega arith
        go false w = (let y : i ≡ n → ⊥ = eqb-false i n w in kept_complete _ (suc g) e (Via.child {i = i} (omega arith) k h x) p q)

    settled_next : Settled n next
    settled_next = record { room = t.room; size = (let a = all_length (children (frame_at fs n)) u (given (frame_at fs n) (get_or u n 0)) in let b = t.size in omega arith); sound = λ j p. next_sound j _ (all_after (children (frame_at fs n)) u (given (frame_at fs n) (get_or u n 0)) j fits) p; complete = next_complete }

  settled_all : (n : ℕ) (u : List ℕ) → n ≤ length fs → Settled n u → Settled 0 (depths_down n fs u)
  unfolding depths_down
  settled_all zero u l t = t
  settled_all (suc n) u l t = settled_all n _ (omega arith) (settled_next n u (omega arith) t)

  settled_start : (u : List ℕ) → length fs ≤ 1024 → length fs ≤ length u
      → ((j : ℕ) → get_or u j 0 ≡ 0) → Settled (length fs) u
  settled_start u r s z = record { size = s; room = r; sound = λ j p. absurd (let e = z j in omega arith); complete = λ j d e v p q. absurd (past v) }
    where
      past : {j d : ℕ} → Via fs (length fs) j d → ⊥
      past (Via.body m k x) = omega arith
      past (Via.child m k h x) = omega arith

  -- 25 stands exactly at the frames that are too deep
  pub over_sound : (u : List ℕ) → length fs ≤ 1024 → length fs ≤ length u
      → ((j : ℕ) → get_or u j 0 ≡ 0) → (j : ℕ) → 24 < get_or (depths_down (length fs) fs u) j 0
      → AtLeast fs j 25
  over_sound u r s z j l =
      let t = settled_all (length fs) u (omega arith) (settled_start u r s z) in
      let a = t.sound j (omega arith) in
      record { depth = a.depth; is = a.is; least = (let w = a.least in omega arith) }

  pub over_complete : (u : List ℕ) → length fs ≤ 1024 → length fs ≤ length u
      → ((j : ℕ) → get_or u j 0 ≡ 0) → (j d : ℕ) → Depth fs j d → 24 < d
      → 24 < get_or (depths_down (length fs) fs u) j 0
  over_complete u r s z j d h l =
      let t = settled_all (length fs) u (omega arith) (settled_start u r s z) in
      t.complete j d 25 (low (via h)) (omega arith) (omega arith)
    where
      low : {m j d : ℕ} → Via fs m j d → Via fs 0 j d
      low (Via.body {i = i} m k x) = Via.body {i = i} (omega arith) k x
      low (Via.child {i = i} m k h x) = Via.child {i = i} (omega arith) k h x
