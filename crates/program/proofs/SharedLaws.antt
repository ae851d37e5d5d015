-- The frames that declare shared cells, sought one after the other and counted. Assumes nothing.
use mathlib.Core.Path.{◌≡◌, refl, sym, ap, subst, ◌∙◌}
use mathlib.Core.List.{List, [], ◌∷◌}
use mathlib.Core.Bool.{Bool, true, false}
use Prim.Native.Nat.{ℕ, zero, suc, ◌+◌, ◌-◌, ◌<◌, ◌≤◌}
use native.Mathlib.Omega.{arith}
use native.Mathlib.Numerals.{add-one}
use lib.Dec.{ltb}
use lib.ListN.{get_or, length, drop, drop_of_length-le}
use borrow.Author.Tests.{ltb-true, ltb-false}
use Rattle.std.specs.Prelude.{Some, cond, max, unwrap_or, find}
use Rattle.std.specs.List.{range_with_len}
use Rattle.std.proofs.lemmas.List.{drop_more}
use Rattle.basics.specs.If.{when◌then◌else◌}
use Rattle.basics.proofs.Ifs.{if_yes, if_no}
use Rattle.language.specs.Kinds.{is_shared}
use Rattle.language.specs.declared.frame.Frame.{Frame}
use Rattle.text.specs.Frames.{frame_of_word, frames_of}
use Rattle.text.proofs.FrameWords.{next_frame, frames_end}
use Rattle.program.specs.Programs.{shared_of, cell_of}
use Rattle.program.specs.Inner.Shared.{next_shared}
use Rattle.program.proofs.OneMore.{shared_no, shared_yes}

-- ---- the search: from frame k on
abbrev pub next_from : List ℕ → ℕ → ℕ
next_from ws k = next_shared k (drop k (frames_of ws))

-- frame k as the code reads it
abbrev line_at : List ℕ → ℕ → Frame
line_at ws k = frame_of_word (get_or ws k 0)

module _ (ws : List ℕ) (k : ℕ) (l : k < length ws) where
  next_step : next_from ws k ≡ (when is_shared (line_at ws k).kind then k else next_from ws (suc k))
  unfolding next_shared
  next_step =
      ap (next_shared k) (next_frame ws k (line_at ws k) l refl)
      ∙ ap (λ (i : ℕ). when is_shared (line_at ws k).kind then k else next_shared (suc k) (drop i (frames_of ws)))
      (add-one k)

  next_here : is_shared (line_at ws k).kind ≡ true → next_from ws k ≡ k
  next_here e = next_step ∙ if_yes _ _ e

  next_on : is_shared (line_at ws k).kind ≡ false → next_from ws k ≡ next_from ws (suc k)
  next_on e = next_step ∙ if_no _ _ e

next_none : (ws : List ℕ) (k : ℕ) → length ws ≤ k → next_from ws k ≡ k
unfolding next_shared
next_none ws k l = ap (next_shared k) (frames_end ws k l)

-- the first of the n frames from i on that declares a shared cell
abbrev declares_at : List ℕ → ℕ → Bool
declares_at ws k = is_shared (line_at ws k).kind

pub next_found : (ws : List ℕ) (n i : ℕ) → length ws - i ≡ n
    → unwrap_or (find (λ k. is_shared (line_at ws k).kind) (range_with_len i n)) (max i (length ws))
    ≡ next_from ws i
next_found ws zero i e = let z : length ws ≤ i = omega arith in omega (arith, next_none ws i z)
next_found ws (suc n) i e = by (declares_at ws i) refl (next_found ws n (i + 1) (omega arith))
  where
    l : i < length ws
    l = omega arith

    most : max (i + 1) (length ws) ≡ max i (length ws)
    most = omega arith

    by : (b : Bool) → declares_at ws i ≡ b
        → unwrap_or (find (declares_at ws) (range_with_len (i + 1) n)) (max (i + 1) (length ws))
        ≡ next_from ws (i + 1)
        → unwrap_or (cond b (Some i) (find (declares_at ws) (range_with_len (i + 1) n))) (max i (length ws))
        ≡ next_from ws i
    by true t r = sym (next_here ws i l t)
    by false t r =
        ap (unwrap_or (find (declares_at ws) (range_with_len (i + 1) n))) (sym most) ∙ r
        ∙ ap (next_from ws) (add-one i) ∙ sym (next_on ws i l t)

-- ---- what was found: no shared cell was passed, and where there is a frame it declares one
pub record Next (ws : List ℕ) (i r : ℕ) : Type 0 where
  pub same : shared_of (drop i (frames_of ws)) ≡ shared_of (drop r (frames_of ws))
  pub onward : i ≤ r
  pub is : r < length ws → is_shared (frame_of_word (get_or ws r 0)).kind ≡ true

next_past : (ws : List ℕ) (k : ℕ) → length ws ≤ k → Next ws k (next_from ws k)
next_past ws k l =
    subst (Next ws k) (sym (next_none ws k l))
    (record { same = refl; onward = omega arith; is = λ m. absurd (omega arith) })

module _ (ws : List ℕ) (k : ℕ) (l : k < length ws) where
  next_at : is_shared (line_at ws k).kind ≡ true → Next ws k (next_from ws k)
  next_at e = subst (Next ws k) (sym (next_here ws k l e)) (record { same = refl; onward = omega arith; is = λ _. e })

  next_before : is_shared (line_at ws k).kind ≡ false → Next ws (suc k) (next_from ws (suc k))
      → Next ws k (next_from ws k)
  next_before e m =
      let p = m.onward in
      subst (Next ws k) (sym (next_on ws k l e))
      (record {
        same =
            ap shared_of (next_frame ws k (line_at ws k) l refl) ∙ shared_no (line_at ws k) _ e
            ∙ ap (λ (i : ℕ). shared_of (drop i (frames_of ws))) (add-one k) ∙ m.same;
        onward = omega arith;
        is = m.is;
      })

  next_by : (b : Bool) → is_shared (line_at ws k).kind ≡ b → Next ws (suc k) (next_from ws (suc k))
      → Next ws k (next_from ws k)
  next_by true e m = next_at e
  next_by false e m = next_before e m

next_either : (ws : List ℕ) (k : ℕ) (b : Bool) → ltb k (length ws) ≡ b
    → Next ws (suc k) (next_from ws (suc k)) → Next ws k (next_from ws k)
next_either ws k true e m =
    next_by ws k (ltb-true k (length ws) e) (is_shared (line_at ws k).kind) refl m
next_either ws k false e m = next_past ws k (ltb-false k (length ws) e)

next_is : (ws : List ℕ) (n k : ℕ) → length ws ≤ n + k → Next ws k (next_from ws k)
next_is ws zero k h = next_past ws k (omega arith)
next_is ws (suc n) k h =
    next_either ws k (ltb k (length ws)) refl (next_is ws n (suc k) (omega arith))

pub found_next : (ws : List ℕ) (i r : ℕ) → r ≡ next_from ws i → Next ws i r
found_next ws i r e = subst (Next ws i) (sym e) (next_is ws (length ws) i (omega arith))

-- the frame that was found declares the next shared cell
pub next_cell : (ws : List ℕ) (i r : ℕ) → Next ws i r → r < length ws
    → shared_of (drop i (frames_of ws))
    ≡ cell_of (frame_of_word (get_or ws r 0)) ∷ shared_of (drop (r + 1) (frames_of ws))
next_cell ws i r s l =
    s.same ∙ ap shared_of (next_frame ws r (frame_of_word (get_or ws r 0)) l refl)
    ∙ shared_yes (frame_of_word (get_or ws r 0)) _ (s.is l)

pub next_end : (ws : List ℕ) (i r : ℕ) → Next ws i r → length ws ≤ r
    → shared_of (drop i (frames_of ws)) ≡ []
unfolding shared_of
next_end ws i r s l = s.same ∙ ap shared_of (frames_end ws r l)

-- ---- the count: n of the cells are declared by the first i frames
abbrev cells_left : List ℕ → ℕ → ℕ
cells_left ws i = length (shared_of (frames_of (drop i ws)))

module _ (ws : List ℕ) (i n : ℕ) (t : Bool) (l : i < length ws)
    (q : t ≡ is_shared (frame_of_word (get_or ws i 0)).kind)
    (b : n ≤ i) (s : n + cells_left ws i ≡ length (shared_of (frames_of ws))) where
  here : shared_of (frames_of (drop i ws))
      ≡ shared_of (frame_of_word (get_or ws i 0) ∷ frames_of (drop (i + 1) ws))
  here = ap (λ (vs : List ℕ). shared_of (frames_of vs)) (drop_more ws i 0 l)

  pub count_one : t ≡ true
      → (n + 1 ≤ i + 1) × (n + 1 + cells_left ws (i + 1) ≡ length (shared_of (frames_of ws)))
  count_one h =
      let e = ap length (here ∙ shared_yes _ (frames_of (drop (i + 1) ws)) (sym q ∙ h)) in
      (omega arith, omega arith)

  pub count_other : t ≡ false
      → (n ≤ i + 1) × (n + cells_left ws (i + 1) ≡ length (shared_of (frames_of ws)))
  count_other h =
      let e = ap length (here ∙ shared_no _ (frames_of (drop (i + 1) ws)) (sym q ∙ h)) in
      (omega arith, omega arith)

pub count_end : (ws : List ℕ) (i n : ℕ) → length ws ≤ i
    → n + cells_left ws i ≡ length (shared_of (frames_of ws)) → n ≡ length (shared_of (frames_of ws))
unfolding shared_of
count_end ws i n l s =
    let e = ap (λ (vs : List ℕ). length (shared_of (frames_of vs))) (drop_of_length-le ws {i = i} l) in
    omega arith
