-- The code's pass for a frame that is no tree's root is `first_disorder`: its array of where the
-- trees begin tells of the frames passed. Assumes nothing.
use mathlib.Core.Path.{◌≡◌, refl, sym, ap, ◌∙◌}
use mathlib.Core.Bool.{Bool, true, false, not, ◌&&◌}
use mathlib.Core.List.{List, [], ◌∷◌, ◌++◌, reverse}
use Rattle.std.specs.Prelude.{Option, Some, None}
use Prim.Native.Nat.{ℕ, zero, suc, ◌+◌, ◌-◌, ◌≤◌, ◌<◌}
use native.Mathlib.Omega.{arith}
use lib.Dec.{eqb}
use lib.ListN.{length, get_or, set, drop}
use lib.Seq.{get_or-set_same, get_or-set_other}
use borrow.Author.Tests.{eq-eqb, ne_eqb, eqb-true, eqb-false, not-true, not-false}
use Rattle.basics.proofs.Ifs.{and_true}
use denote.Enum.Bare.{sameb}
use Rattle.language.specs.contracts.kind.Class.{the_type}
use Rattle.language.specs.Kinds.{class_of, Child, child, children}
use Rattle.language.specs.declared.kind.Class.{Class}
use Rattle.language.specs.declared.frame.Frame.{Frame}
use Rattle.text.specs.Frames.{frames_of}
use Rattle.text.proofs.FrameWords.{frames_end}
use Rattle.program.specs.Trees.{frame_at}
use Rattle.program.specs.declared.frames.Children.{Children}
use Rattle.program.specs.declared.frames.Children.TheVariants.{Nothing, One, Two, Three}
use Rattle.program.specs.Inner.Children.{same_class, list_of, children_of}
use Rattle.program.proofs.FrameLaws.{frames_next, children_are}
use Rattle.layout.specs.Inner.Scans.{Passed, passed, row_first, first_disorder}
use Rattle.layout.specs.Inner.Passes.{told, Backward}
use Rattle.layout.proofs.Disorder.{nobody, at_passed}

-- ---- what the array tells
told_get : (fs : List Frame) (first : List ℕ) (i c : ℕ) → c < i
    → get_or (told fs first i) (i - suc c) nobody
    ≡ passed (class_of (frame_at fs c).kind) (get_or first c 0)
unfolding told
told_get fs first zero c l = absurd (omega arith)
told_get fs first (suc i) c l = at_passed (λ (k : ℕ) (p : Passed). p ≡ passed (class_of (frame_at fs k).kind) (get_or first k 0)) i c _ (told fs first i) refl (λ k. told_get fs first i c k) l

told_kept : (fs : List Frame) (first : List ℕ) (n i x : ℕ) → n ≤ i
    → told fs (set first i x) n ≡ told fs first n
unfolding told
told_kept fs first zero i x l = refl
told_kept fs first (suc n) i x l =
    let a : get_or (set first i x) n 0 ≡ get_or first n 0 = get_or-set_other first i n x 0 (λ e. omega arith) in
    let t = told_kept fs first n i x (omega arith) in
    rw (a, t)

told_next : (fs : List Frame) (first : List ℕ) (i x : ℕ) → i < length first
    → told fs (set first i x) (suc i) ≡ passed (class_of (frame_at fs i).kind) x ∷ told fs first i
unfolding told
told_next fs first i x l =
    let a : get_or (set first i x) i 0 ≡ x = get_or-set_same first i x 0 l in
    let t = told_kept fs first i i x (omega arith) in
    rw (a, t)

-- ---- classes, compared by the derived `==`
same_is : (a b : Class) → sameb the_type a b ≡ same_class a b
same_is Class.Statement Class.Statement = refl
same_is Class.Statement Class.Expression = refl
same_is Class.Statement Class.Neither = refl
same_is Class.Expression Class.Statement = refl
same_is Class.Expression Class.Expression = refl
same_is Class.Expression Class.Neither = refl
same_is Class.Neither Class.Statement = refl
same_is Class.Neither Class.Expression = refl
same_is Class.Neither Class.Neither = refl

-- ---- one child
abbrev chosen : ℕ → Bool → Option ℕ
chosen m b = elim b [ true ↦ Some m | false ↦ None ]

module _ (fs : List Frame) (first : List ℕ) (i stop v : ℕ) (k : Class) where
  abbrev at_v : Passed
  at_v = get_or (told fs first i) (i - suc v) nobody

  one_child : row_first (told fs first i) i stop (child k v ∷ [])
      ≡ chosen at_v.first (eqb (suc v) stop && same_class at_v.class k)
  unfolding row_first
  one_child = refl

  -- a number from i on; one not just before `stop`; a frame of another class; and the child as it
  -- should be
  pub child_past : (j : ℕ) → j ≡ v → stop ≤ i → i ≤ j
      → None ≡ row_first (told fs first i) i stop (child k v ∷ [])
  child_past j w m l = sym (one_child ∙ ap (λ (b : Bool). chosen at_v.first (b && same_class at_v.class k)) (ne_eqb (suc v) stop (λ e. omega arith)))

  pub child_apart : (v + 1 ≡ stop → ⊥)
      → None ≡ row_first (told fs first i) i stop (child k v ∷ [])
  child_apart n = sym (one_child ∙ ap (λ (b : Bool). chosen at_v.first (b && same_class at_v.class k)) (ne_eqb (suc v) stop (λ e. n (omega arith))))

  known : v < i → v + 1 ≡ stop
      → row_first (told fs first i) i stop (child k v ∷ [])
      ≡ chosen (get_or first v 0) (same_class (class_of (frame_at fs v).kind) k)
  known l e =
      let s : suc v ≡ stop = omega arith in
      one_child
      ∙ ap (λ (b : Bool). chosen at_v.first (b && same_class at_v.class k))
      (eq-eqb (suc v) stop s)
      ∙ ap (λ (p : Passed). chosen p.first (same_class p.class k)) (told_get fs first i v l)

  class_is : (x : Bool) (f : Frame) (c : Class) → f ≡ frame_at fs v → c ≡ class_of f.kind
      → x ≡ same_class c k → same_class (class_of (frame_at fs v).kind) k ≡ x
  class_is x f c e g h =
      sym (h ∙ ap (λ (d : Class). same_class d k) (g ∙ ap (λ (q : Frame). class_of q.kind) e))

  module _ (j : ℕ) (w : j ≡ v) (x : Bool) (f : Frame) (c : Class) (e : f ≡ frame_at fs j)
      (g : c ≡ class_of f.kind) (h : x ≡ not (sameb the_type c k)) where
    not_same : not (same_class c k) ≡ x
    not_same = ap not (sym (same_is c k)) ∙ sym h

    pub child_class : x ≡ true → j < i → v + 1 ≡ stop
        → None ≡ row_first (told fs first i) i stop (child k v ∷ [])
    child_class n l s =
        let q = class_is false f c (e ∙ ap (frame_at fs) w) g (sym (not-true _ (not_same ∙ n))) in
        sym (known (omega arith) s ∙ ap (chosen (get_or first v 0)) q)

    pub child_there : x ≡ false → j < i → v + 1 ≡ stop
        → Some (get_or first j 0) ≡ row_first (told fs first i) i stop (child k v ∷ [])
    child_there n l s =
        let q = class_is true f c (e ∙ ap (frame_at fs) w) g (sym (not-false _ (not_same ∙ n))) in
        ap (λ (m : ℕ). Some (get_or first m 0)) w
        ∙ sym (known (omega arith) s ∙ ap (chosen (get_or first v 0)) q)

pub ruleset child_laws = (child_past, child_apart, child_class, child_there)

-- ---- the row
-- a row goes on where the row after it begins
abbrev and_then : Option ℕ → (ℕ → Option ℕ) → Option ℕ
and_then None f = None
and_then (Some s) f = f s

row_append : (ps : List Passed) (i : ℕ) (xs ys : List Child) (stop : ℕ)
    → row_first ps i stop (xs ++ ys) ≡ and_then (row_first ps i stop xs) (λ s. row_first ps i s ys)
unfolding row_first
row_append ps i [] ys stop = refl
row_append ps i (c ∷ xs) ys stop = go (eqb (suc c.at) stop && same_class (get_or ps (i - suc c.at) nobody).class c.class) (row_append ps i xs ys (get_or ps (i - suc c.at) nobody).first)
  where
    go : (b : Bool)
        → row_first ps i (get_or ps (i - suc c.at) nobody).first (xs ++ ys)
        ≡ and_then (row_first ps i (get_or ps (i - suc c.at) nobody).first xs)
        (λ s. row_first ps i s ys)
        → ◌≡◌ {A = Option ℕ} (elim b [ true ↦ row_first ps i (get_or ps (i - suc c.at) nobody).first (xs ++ ys) | false ↦ None ]) (and_then (elim b [ true ↦ row_first ps i (get_or ps (i - suc c.at) nobody).first xs | false ↦ None ]) (λ s. row_first ps i s ys))
    go true h = h
    go false h = refl

-- two children, the later one first
module _ (ps : List Passed) (i stop : ℕ) (k l : Class) (a b : ℕ) (x : Option ℕ) where
  pub pair_none : (r : Option ℕ) → r ≡ None → x ≡ None → x ≡ row_first ps i stop (child l b ∷ [])
      → r ≡ row_first ps i stop (child l b ∷ child k a ∷ [])
  pair_none r g e p =
      let z = sym p ∙ e in
      g ∙ sym (row_append ps i (child l b ∷ []) (child k a ∷ []) stop ∙ ap (λ (o : Option ℕ). and_then o (λ s. row_first ps i s (child k a ∷ []))) z)

  pub pair_some : (r : Option ℕ) (t : ℕ) → x ≡ Some t
      → x ≡ row_first ps i stop (child l b ∷ [])
      → r ≡ row_first ps i t (child k a ∷ [])
      → r ≡ row_first ps i stop (child l b ∷ child k a ∷ [])
  pair_some r t e p q =
      let z = sym p ∙ e in
      q ∙ sym (row_append ps i (child l b ∷ []) (child k a ∷ []) stop ∙ ap (λ (o : Option ℕ). and_then o (λ s. row_first ps i s (child k a ∷ []))) z)

-- each arm of the match on the children of a frame
module _ (ps : List Passed) (i : ℕ) (f : Frame) (x : Children) (h : x ≡ children_of f) where
  row_of : (v : Children) → x ≡ v
      → row_first ps i i (reverse (list_of v))
      ≡ row_first ps i i (reverse (children f))
  row_of v e =
      ap (λ (cs : List Child). row_first ps i i (reverse cs)) (children_are f x v h e)

  pub row_none : x ≡ Nothing → Some i ≡ row_first ps i i (reverse (children f))
  row_none e = end ∙ row_of Nothing e
    where
      end : Some i ≡ row_first ps i i []
      end = unfold row_first in refl

  module _ (k : Class) (a : ℕ) (r : Option ℕ) where
    pub row_one : x ≡ One k a → r ≡ row_first ps i i (child k a ∷ [])
        → r ≡ row_first ps i i (reverse (children f))
    row_one e p = p ∙ row_of (One k a) e

    module _ (l : Class) (b : ℕ) where
      pub row_two : x ≡ Two k a l b → r ≡ row_first ps i i (child l b ∷ child k a ∷ [])
          → r ≡ row_first ps i i (reverse (children f))
      row_two e p = p ∙ row_of (Two k a l b) e

      module _ (m : Class) (c : ℕ) (y : Option ℕ) (e : x ≡ Three k a l b m c) (q : y ≡ row_first ps i i (child m c ∷ [])) where
        rest : (o : Option ℕ) → row_first ps i i (child m c ∷ []) ≡ o
            → and_then o (λ s. row_first ps i s (child l b ∷ child k a ∷ []))
            ≡ row_first ps i i (reverse (children f))
        rest o z =
            ap (λ (o : Option ℕ). and_then o (λ s. row_first ps i s (child l b ∷ child k a ∷ []))) (sym z)
            ∙ sym (row_append ps i (child m c ∷ []) (child l b ∷ child k a ∷ []) i)
            ∙ row_of (Three k a l b m c) e

        pub row_last : r ≡ None → y ≡ None → r ≡ row_first ps i i (reverse (children f))
        row_last g n = g ∙ rest None (sym q ∙ n)

        pub row_three : (t : ℕ) → y ≡ Some t
            → r ≡ row_first ps i t (child l b ∷ child k a ∷ [])
            → r ≡ row_first ps i i (reverse (children f))
        row_three t n p = p ∙ rest (Some t) (sym q ∙ n)

-- ---- a row begins at its end or before, so that the next row ends within the frames passed
first_le : (fs : List Frame) (first : List ℕ) (i : ℕ) → Backward first i
    → (cs : List Child) (stop lo : ℕ) → stop ≤ i → row_first (told fs first i) i stop cs ≡ Some lo
    → lo ≤ stop
unfolding row_first
first_le fs first i h [] stop lo l e = let z : stop ≡ lo = cc in omega arith
first_le fs first i h (c ∷ cs) stop lo l e = go (eqb (suc c.at) stop && same_class (get_or (told fs first i) (i - suc c.at) nobody).class c.class) refl e (λ m k g. first_le fs first i h cs m lo k g)
  where
    go : (b : Bool)
        → (eqb (suc c.at) stop && same_class (get_or (told fs first i) (i - suc c.at) nobody).class c.class)
        ≡ b
        → elim b [ true ↦ row_first (told fs first i) i (get_or (told fs first i) (i - suc c.at) nobody).first cs | false ↦ None ]
        ≡ Some lo
        → ((m : ℕ) → m ≤ i → row_first (told fs first i) i m cs ≡ Some lo → lo ≤ m) → lo ≤ stop
    go false q g r = absurd (let z : ◌≡◌ {A = ℕ} 0 1 = cc in omega arith)
    go true q g r =
        let a : suc c.at ≡ stop = eqb-true _ _ (and_true _ _ q).0 in
        let k : c.at < i = omega arith in
        let m : (get_or (told fs first i) (i - suc c.at) nobody).first ≡ get_or first c.at 0 = ap (λ (p : Passed). p.first) (told_get fs first i c.at k) in
        let b = h c.at k in
        let d = r (get_or (told fs first i) (i - suc c.at) nobody).first (omega arith) g in
        omega arith

module _ (fs : List Frame) (first : List ℕ) (i : ℕ) (h : Backward first i) where
  pub row_within : (cs : List Child) (x : Option ℕ) (stop t : ℕ) → x ≡ Some t
      → x ≡ row_first (told fs first i) i stop cs → stop ≤ i → t ≤ i
  row_within cs x stop t e p l =
      let a = first_le fs first i h cs stop t l (sym p ∙ e) in
      omega arith

-- ---- the loop: the pass from here on is the pass from the start
abbrev pub SeekingDisorder : List Frame → List ℕ → ℕ → Type 0
SeekingDisorder fs first i = first_disorder (told fs first i) i (drop i fs) ≡ first_disorder [] 0 fs

pub disorder_start : (fs : List Frame) (first : List ℕ) → SeekingDisorder fs first 0
unfolding told
disorder_start fs first = refl

module _ (ws first : List ℕ) (i : ℕ) where
  abbrev next : Option ℕ → Option ℕ
  next o = elim o [ None ↦ Some i | Some lo ↦ first_disorder (passed (class_of (frame_at (frames_of ws) i).kind) lo ∷ told (frames_of ws) first i) (suc i) (drop (suc i) (frames_of ws)) ]

  look : i < length ws
      → first_disorder (told (frames_of ws) first i) i (drop i (frames_of ws))
      ≡ next
      (row_first (told (frames_of ws) first i) i i (reverse (children (frame_at (frames_of ws) i))))
  look l = ap (first_disorder (told (frames_of ws) first i) i) (frames_next ws i l) ∙ step
    where
      step : first_disorder (told (frames_of ws) first i) i (frame_at (frames_of ws) i ∷ drop (suc i) (frames_of ws))
          ≡ next (row_first (told (frames_of ws) first i) i i (reverse (children (frame_at (frames_of ws) i))))
      step = unfold first_disorder in refl

module _ (ws first : List ℕ) (i : ℕ) (f : Frame) (x : Option ℕ) (e : f ≡ frame_at (frames_of ws) i) (q : x ≡ row_first (told (frames_of ws) first i) i i (reverse (children f))) where
  row_here : x
      ≡ (row_first (told (frames_of ws) first i) i i (reverse (children (frame_at (frames_of ws) i))))
  row_here =
      q
      ∙ ap (λ (g : Frame). row_first (told (frames_of ws) first i) i i (reverse (children g))) e

  pub disorder_here : x ≡ None → SeekingDisorder (frames_of ws) first i → i < length ws
      → Some i ≡ first_disorder [] 0 (frames_of ws)
  disorder_here n g l =
      let z = sym row_here ∙ n in
      sym (ap (next ws first i) z) ∙ sym (look ws first i l) ∙ g

  pub disorder_next : (lo : ℕ) → x ≡ Some lo → SeekingDisorder (frames_of ws) first i
      → length first ≡ 1024 → i < length ws → length ws ≤ 1024
      → SeekingDisorder (frames_of ws) (set first i lo) (i + 1)
  disorder_next lo n g a l m =
      let z = sym row_here ∙ n in
      let t = told_next (frames_of ws) first i lo (omega arith) in
      let s : i + 1 ≡ suc i = omega arith in
      rw s (ap (λ (ps : List Passed). first_disorder ps (suc i) (drop (suc i) (frames_of ws))) t
      ∙ sym (ap (next ws first i) z)
      ∙ sym (look ws first i l) ∙ g)

  pub backward_next : (lo : ℕ) → x ≡ Some lo → Backward first i → length first ≡ 1024
      → i < length ws → length ws ≤ 1024 → Backward (set first i lo) (i + 1)
  backward_next lo n h a l m j k = go (eqb j i) refl
    where
      go : (b : Bool) → eqb j i ≡ b → get_or (set first i lo) j 0 ≤ j
      go true y =
          let w : j ≡ i = eqb-true j i y in
          let o : lo ≤ i = row_within (frames_of ws) first i h _ x i lo n q (omega arith) in
          let p : get_or (set first i lo) i 0 ≡ lo = get_or-set_same first i lo 0 (omega arith) in
          rw w (omega arith)
      go false y =
          let w : j ≡ i → ⊥ = eqb-false j i y in
          let p : get_or (set first i lo) j 0 ≡ get_or first j 0 = get_or-set_other first i j lo 0 w in
          let r : get_or first j 0 ≤ j = h j (omega arith) in
          omega arith

pub backward_start : (first : List ℕ) → Backward first 0
backward_start first j l = absurd (omega arith)

pub disorder_end : (ws first : List ℕ) (i : ℕ) → SeekingDisorder (frames_of ws) first i
    → length ws ≤ i → None ≡ first_disorder [] 0 (frames_of ws)
disorder_end ws first i g l =
    end ∙ ap (first_disorder (told (frames_of ws) first i) i) (sym (frames_end ws i l)) ∙ g
  where
    end : None ≡ first_disorder (told (frames_of ws) first i) i []
    end = unfold first_disorder in refl
