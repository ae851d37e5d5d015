-- The code's array of users: how it is filled, and what it says of frames that form trees. Assumes
-- nothing.
use mathlib.Core.Path.{◌≡◌, refl, sym, ap, ap₂, ◌∙◌}
use mathlib.Core.Bool.{Bool, true, false, true≢false}
use mathlib.Core.List.{List, [], ◌∷◌}
use Prim.Native.Nat.{ℕ, zero, suc, ◌+◌, ◌≤◌, ◌<◌}
use native.Mathlib.Omega.{arith}
use lib.Dec.{ltb, eqb}
use borrow.Author.Tests.{lt-ltb, le-ltb, ltb-false, eqb-true, eqb-false, ne_eqb}
use lib.ListN.{get_or, length, set, drop, replicate, get_or-replicate, length-replicate, length-set}
use lib.Seq.{get_or-set_same, get_or-set_other}
use Rattle.basics.specs.If.{when◌then◌else◌}
use Rattle.basics.specs.Members.{any}
use Rattle.basics.proofs.Ifs.{yes, no, if_all, if_yes, if_no}
use Rattle.language.specs.Kinds.{Child, children}
use Rattle.language.specs.Limits.{most_lines}
use Rattle.language.specs.declared.frame.Frame.{Frame}
use Rattle.text.specs.Frames.{frames_of}
use Rattle.text.proofs.FrameWords.{frames_end}
use Rattle.program.specs.Trees.{frame_at}
use Rattle.program.specs.Inner.Children.{over_children}
use Rattle.program.proofs.FrameLaws.{frames_next}
use Rattle.program.proofs.ChildFolds.{fold_keeps}
use Rattle.layout.specs.Order.{has_child}
use Rattle.layout.specs.Uses.{used}
use Rattle.layout.proofs.UseCounts.{frame_some, used_some}
use Rattle.forest.specs.Inner.Climbs.{with_user, users_from, users_of}

-- ---- one user
pub note_past : (n : ℕ) (u : List ℕ) (v : ℕ) → most_lines ≤ v → u ≡ with_user n u v
unfolding with_user
note_past n u v l = no (set u v n) (le-ltb v most_lines l) refl

-- j is v, as the code's index
module _ (n : ℕ) (u : List ℕ) (v j : ℕ) (same : j ≡ v) where
  pub note_after : most_lines ≤ j → u ≡ with_user n u v
  note_after l = note_past n u v (omega (arith, same))

  pub note_set : j < most_lines → set u j n ≡ with_user n u v
  unfolding with_user
  note_set l = rw same (yes u (lt-ltb v most_lines (omega (arith, same))) refl)

pub ruleset note_laws = (note_after, note_set)

-- ---- the loop that fills: from here on it is as from the start
abbrev pub Noting : List Frame → List ℕ → ℕ → Type 0
Noting fs u i = users_from u i (drop i fs) ≡ users_of fs

pub noting_start : (fs : List Frame) (u : List ℕ) → u ≡ replicate most_lines 0 → Noting fs u 0
unfolding users_of
noting_start fs u e = ap (λ (x : List ℕ). users_from x 0 fs) e

noting_step : (ws u : List ℕ) (i : ℕ) → i < length ws
    → users_from (over_children (with_user (suc i)) u (children (frame_at (frames_of ws) i))) (suc i)
    (drop (suc i) (frames_of ws))
    ≡ users_from u i (drop i (frames_of ws))
unfolding users_from
noting_step ws u i l = sym (ap (users_from u i) (frames_next ws i l))

pub noting_next : (ws u t : List ℕ) (i : ℕ) (f : Frame) → f ≡ frame_at (frames_of ws) i
    → t ≡ over_children (with_user (i + 1)) u (children f) → Noting (frames_of ws) u i → i < length ws
    → Noting (frames_of ws) t (i + 1)
noting_next ws u t i f e q g l =
    let s : i + 1 ≡ suc i = omega arith in
    let b = q ∙ ap₂ (λ (k : ℕ) (h : Frame). over_children (with_user k) u (children h)) s e in
    let rest = drop (suc i) (frames_of ws) in
    rw s (ap (λ (x : List ℕ). users_from x (suc i) rest) b ∙ noting_step ws u i l ∙ g)

pub noting_end : (ws u : List ℕ) (i : ℕ) → Noting (frames_of ws) u i → length ws ≤ i
    → u ≡ users_of (frames_of ws)
noting_end ws u i g l = end ∙ ap (users_from u i) (sym (frames_end ws i l)) ∙ g
  where
    end : u ≡ users_from u i []
    end = unfold users_from in refl

abbrev is_at : ℕ → Child → Bool
is_at j c = eqb c.at j

-- ---- a frame that is used once at most has one user at most
one_user : (j : ℕ) (fs : List Frame) → used j fs ≤ 1 → (i k : ℕ) → i < length fs → k < length fs
    → has_child j (frame_at fs i) ≡ true → has_child j (frame_at fs k) ≡ true → i ≡ k
unfolding used
one_user j [] s i k l m p q = absurd (omega arith)
one_user j (f ∷ fs) s zero zero l m p q = refl
one_user j (f ∷ fs) s zero (suc k) l m p q =
    let a = frame_some j f p in
    let b = used_some j fs k (omega arith) q in
    absurd (omega arith)
one_user j (f ∷ fs) s (suc i) zero l m p q =
    let a = frame_some j f q in
    let b = used_some j fs i (omega arith) p in
    absurd (omega arith)
one_user j (f ∷ fs) s (suc i) (suc k) l m p q =
    ap suc (one_user j fs (omega arith) i k (omega arith) (omega arith) p q)

-- ---- what stands at a frame
user_length : (n : ℕ) (u : List ℕ) (v : ℕ) → length (with_user n u v) ≡ length u
unfolding with_user
user_length n u v =
    let same : List ℕ → Type 0 = λ x. length x ≡ length u in
    if_all same (ltb v most_lines) (set u v n) u (λ h. length-set u v n) (λ h. refl)

users_length : (cs : List Child) (u : List ℕ) (n : ℕ)
    → length (over_children (with_user n) u cs) ≡ length u
users_length cs u n =
    let same : List ℕ → Type 0 = λ x. length x ≡ length u in
    fold_keeps (with_user n) same (λ x v e. user_length n x v ∙ e) cs u refl

module _ (j : ℕ) (o : j < most_lines) where
  set_says : (u : List ℕ) (n v : ℕ) → length u ≡ most_lines
      → get_or (set u v n) j 0 ≡ (when eqb v j then n else get_or u j 0)
  set_says u n v l = go (eqb v j) refl
    where
      go : (b : Bool) → eqb v j ≡ b → get_or (set u v n) j 0 ≡ (when b then n else get_or u j 0)
      go true e =
          ap (λ (k : ℕ). get_or (set u k n) j 0) (eqb-true v j e)
          ∙ yes (get_or u j 0) refl (get_or-set_same u j n 0 (omega arith))
      go false e =
          no n refl (get_or-set_other u v j n 0 (λ q. eqb-false v j e (sym q)))

  user_says : (u : List ℕ) (n v : ℕ) → length u ≡ most_lines
      → get_or (with_user n u v) j 0 ≡ (when eqb v j then n else get_or u j 0)
  unfolding with_user
  user_says u n v l =
      if_all Says (ltb v most_lines) (set u v n) u (λ h. set_says u n v l)
      (λ h. away (ltb-false v most_lines h))
    where
      Says : List ℕ → Type 0
      Says x = get_or x j 0 ≡ (when eqb v j then n else get_or u j 0)

      away : most_lines ≤ v → Says u
      away h = no n (ne_eqb v j (λ q. omega arith)) refl

  -- the last one noted, where `any` asks for the first
  either : (a b : Bool) (n x : ℕ) → (when b then n else (when a then n else x))
      ≡ (when elim a [ true ↦ true | false ↦ b ] then n else x)
  unfolding when◌then◌else◌
  either true true n x = refl
  either true false n x = refl
  either false b n x = refl

  users_say : (cs : List Child) (u : List ℕ) (n : ℕ) → length u ≡ most_lines
      → get_or (over_children (with_user n) u cs) j 0 ≡ (when any (is_at j) cs then n else get_or u j 0)
  unfolding over_children any
  users_say [] u n l = no n refl refl
  users_say (c ∷ cs) u n l =
      users_say cs (with_user n u c.at) n (user_length n u c.at ∙ l)
      ∙ ap (λ (x : ℕ). when any (is_at j) cs then n else x) (user_says u n c.at l)
      ∙ either (eqb c.at j) (any (is_at j) cs) n (get_or u j 0)

  frame_says : (f : Frame) (u : List ℕ) (n : ℕ) → length u ≡ most_lines
      → get_or (over_children (with_user n) u (children f)) j 0
      ≡ (when has_child j f then n else get_or u j 0)
  unfolding has_child
  frame_says f u n l = users_say (children f) u n l

  -- x stands at j after the frames fs, which stand from i on: a user's number plus 1, or, where
  -- none of them uses j, what stood there before
  data Noted (fs : List Frame) (u : List ℕ) (i x : ℕ) : Type 0 where
    kept : x ≡ get_or u j 0 → ((k : ℕ) → k < length fs → has_child j (frame_at fs k) ≡ false)
        → Noted fs u i x
    by : (k : ℕ) → x ≡ suc (i + k) → k < length fs → has_child j (frame_at fs k) ≡ true
        → Noted fs u i x

  all_noted : (fs : List Frame) (u : List ℕ) (i : ℕ) → length u ≡ most_lines
      → Noted fs u i (get_or (users_from u i fs) j 0)
  unfolding users_from
  all_noted [] u i l = Noted.kept refl (λ k q. absurd (omega arith))
  all_noted (f ∷ fs) u i l =
      let t = over_children (with_user (suc i)) u (children f) in
      let m = users_length (children f) u (suc i) ∙ l in
      go _ (has_child j f) refl (all_noted fs t (suc i) m)
    where
      none_of : ((k : ℕ) → k < length fs → has_child j (frame_at fs k) ≡ false)
          → has_child j f ≡ false → (k : ℕ) → k < suc (length fs)
          → has_child j (frame_at (f ∷ fs) k) ≡ false
      none_of h e zero q = e
      none_of h e (suc k) q = h k (omega arith)

      go : (x : ℕ) (b : Bool) → has_child j f ≡ b
          → Noted fs (over_children (with_user (suc i)) u (children f)) (suc i) x
          → Noted (f ∷ fs) u i x
      go x b e (Noted.by k z q h) = Noted.by (suc k) (omega arith) (omega arith) h
      go x true e (Noted.kept z h) =
          let a = frame_says f u (suc i) l ∙ if_yes (suc i) (get_or u j 0) e in
          Noted.by 0 (omega arith) (omega arith) e
      go x false e (Noted.kept z h) =
          Noted.kept (z ∙ frame_says f u (suc i) l ∙ if_no (suc i) (get_or u j 0) e) (none_of h e)

  users_noted : (fs : List Frame) → Noted fs (replicate most_lines 0) 0 (get_or (users_of fs) j 0)
  unfolding users_of
  users_noted fs = all_noted fs (replicate most_lines 0) 0 (length-replicate {A = ℕ} most_lines 0)

  zero_there : ◌≡◌ {A = ℕ} (get_or (replicate most_lines 0) j 0) 0
  zero_there = get_or-replicate {A = ℕ} most_lines j 0 0 o

  -- a user that stands there has j as a child
  pub user_of : (fs : List Frame) (i : ℕ) → get_or (users_of fs) j 0 ≡ suc i
      → (i < length fs) × (has_child j (frame_at fs i) ≡ true)
  user_of fs i e = go (get_or (users_of fs) j 0) e (users_noted fs)
    where
      go : (x : ℕ) → x ≡ suc i → Noted fs (replicate most_lines 0) 0 x
          → (i < length fs) × (has_child j (frame_at fs i) ≡ true)
      go x e (Noted.kept z h) = let a = zero_there in absurd (omega arith)
      go x e (Noted.by k z q h) =
          let s : k ≡ i = omega arith in
          (omega arith, ap (λ (m : ℕ). has_child j (frame_at fs m)) (sym s) ∙ h)

  pub user_inside : (fs : List Frame) → length fs ≤ most_lines → get_or (users_of fs) j 0 ≤ most_lines
  user_inside fs l = go (get_or (users_of fs) j 0) (users_noted fs)
    where
      go : (x : ℕ) → Noted fs (replicate most_lines 0) 0 x → x ≤ most_lines
      go x (Noted.kept z h) = let a = zero_there in omega arith
      go x (Noted.by k z q h) = omega arith

  -- where j is used once at most, its user stands there
  pub user_is : (fs : List Frame) (i : ℕ) → used j fs ≤ 1 → i < length fs
      → has_child j (frame_at fs i) ≡ true → get_or (users_of fs) j 0 ≡ suc i
  user_is fs i s l t = go (get_or (users_of fs) j 0) (users_noted fs)
    where
      go : (x : ℕ) → Noted fs (replicate most_lines 0) 0 x → x ≡ suc i
      go x (Noted.kept z h) = absurd (true≢false (sym t ∙ h i l))
      go x (Noted.by k z q h) = let e = one_user j fs s i k l q t h in omega arith

pub ruleset noting_laws = (noting_start, noting_next, noting_end)
