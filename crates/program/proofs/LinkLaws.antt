-- A line told by its K, and the labels of a file's links, link by link. Assumes nothing.
use mathlib.Core.Path.{◌≡◌, refl, sym, ap, ap₂, subst, ◌∙◌}
use mathlib.Core.Bool.{Bool, true, false, not, true≢false}
use mathlib.Core.List.{List, [], ◌∷◌}
use Prim.Native.Nat.{ℕ, zero, suc, ◌+◌, ◌-◌, ◌/◌, ◌%◌, ◌^◌, ◌<◌, ◌≤◌}
use native.Mathlib.Omega.{arith}
use lib.Dec.{eqb, leb, ltb}
use lib.ListN.{length, get_or, drop, length-drop}
use lib.Seq.{get_or-drop}
use borrow.Author.Tests.{eqb-true, ne_eqb, leb-true, ltb-true, ltb-false, not-true, not-false}
use Rattle.std.specs.Prelude.{Some, None, cond, unwrap_or, position}
use Rattle.std.specs.List.{position_or_len}
use Rattle.std.proofs.lemmas.List.Sums.{passes_at_first, prefix_len-le-length}
use Rattle.basics.specs.If.{when◌then◌else◌, keep_if}
use Rattle.basics.proofs.Ifs.{if_all, if_no, yes, no}
use Rattle.language.specs.Kinds.{declares, is_link, kind_of}
use Rattle.language.specs.Places.{is_place, is_scheduler}
use Rattle.language.specs.declared.Place.{Place}
use Rattle.language.specs.declared.frame.Frame.{Frame}
use Rattle.language.specs.declared.kind.DeclarationKind.{DeclarationKind}
use Rattle.language.specs.declared.kind.DeclarationKind.TheVariants.{Shared, Event, Link as Links}
use Rattle.language.specs.declared.kind.Kind.{Kind}
use Rattle.language.specs.declared.kind.Kind.TheVariants.{Header, Declared, Module, Statement}
use Rattle.language.specs.declared.kind.Kind.TheVariants.{Expression, Unknown}
use Rattle.language.specs.Inner.Labels.{labels_of, label_at, relabelled}
use Rattle.language.proofs.PlaceLaws.{scheduler_place}
use Rattle.language.proofs.Labels.{labels_more}
use Rattle.text.specs.Frames.{frame_of_word, frames_of}
use Rattle.text.proofs.FrameWords.{next_frame, frames_end, frame_at_lem, frames_length}
use Rattle.program.specs.Trees.{frame_at, no_frame}
use Rattle.program.specs.Programs.{link_of, links_of}
use Rattle.program.specs.Inner.Links.{kind_number, LinkPlaced, is_early, LinksPlaced}
use Rattle.program.specs.Inner.Links.{with_line}

-- ---- each declaration has one number

past : (d : DeclarationKind) (b : Bool) (x y : Kind) → declares d x ≡ false → declares d y ≡ false
    → declares d (when b then x else y) ≡ false
past d b x y e f = if_all (λ (k : Kind). declares d k ≡ false) b x y (λ _. e) (λ _. f)

-- past each of the tests of `kind_of`
not_shared : (k : ℕ) → eqb k 1 ≡ false → declares Shared (kind_of k) ≡ false
unfolding kind_of
not_shared k e =
    past Shared _ _ _ refl (ap (declares Shared) (if_no _ _ e) ∙ past Shared _ _ _ refl (
    past Shared _ _ _ refl (past Shared _ _ _ refl (past Shared _ _ _ refl (
    past Shared _ _ _ refl (past Shared _ _ _ refl (past Shared _ _ _ refl (
    past Shared _ _ _ refl (past Shared _ _ _ refl (past Shared _ _ _ refl (
    past Shared _ _ _ refl (past Shared _ _ _ refl (past Shared _ _ _ refl (
    past Shared _ _ _ refl (past Shared _ _ _ refl (past Shared _ _ _ refl (
    past Shared _ _ _ refl (past Shared _ _ _ refl (past Shared _ _ _ refl (
    past Shared _ _ _ refl (past Shared _ _ _ refl (past Shared _ _ _ refl (
    past Shared _ _ _ refl (past Shared _ _ _ refl (refl)))))))))))))))))))))))))

not_event : (k : ℕ) → eqb k 3 ≡ false → declares Event (kind_of k) ≡ false
unfolding kind_of
not_event k e =
    past Event _ _ _ refl (past Event _ _ _ refl (
    past Event _ _ _ refl (ap (declares Event) (if_no _ _ e) ∙ past Event _ _ _ refl (
    past Event _ _ _ refl (past Event _ _ _ refl (past Event _ _ _ refl (past Event _ _ _ refl (
    past Event _ _ _ refl (past Event _ _ _ refl (past Event _ _ _ refl (past Event _ _ _ refl (
    past Event _ _ _ refl (past Event _ _ _ refl (past Event _ _ _ refl (past Event _ _ _ refl (
    past Event _ _ _ refl (past Event _ _ _ refl (past Event _ _ _ refl (past Event _ _ _ refl (
    past Event _ _ _ refl (past Event _ _ _ refl (past Event _ _ _ refl (past Event _ _ _ refl (
    past Event _ _ _ refl (refl)))))))))))))))))))))))))

not_link : (k : ℕ) → eqb k 4 ≡ false → declares Links (kind_of k) ≡ false
unfolding kind_of
not_link k e =
    past Links _ _ _ refl (past Links _ _ _ refl (past Links _ _ _ refl (
    past Links _ _ _ refl (ap (declares Links) (if_no _ _ e) ∙ past Links _ _ _ refl (
    past Links _ _ _ refl (past Links _ _ _ refl (past Links _ _ _ refl (past Links _ _ _ refl (
    past Links _ _ _ refl (past Links _ _ _ refl (past Links _ _ _ refl (past Links _ _ _ refl (
    past Links _ _ _ refl (past Links _ _ _ refl (past Links _ _ _ refl (past Links _ _ _ refl (
    past Links _ _ _ refl (past Links _ _ _ refl (past Links _ _ _ refl (past Links _ _ _ refl (
    past Links _ _ _ refl (past Links _ _ _ refl (past Links _ _ _ refl (
    past Links _ _ _ refl (refl)))))))))))))))))))))))))

its_number : (d : DeclarationKind) → true ≡ declares d (kind_of (kind_number d))
unfolding kind_of when◌then◌else◌
its_number Shared = refl
its_number Event = refl
its_number Links = refl

other_number : (d : DeclarationKind) (k : ℕ) → eqb k (kind_number d) ≡ false
    → declares d (kind_of k) ≡ false
other_number Shared k e = not_shared k e
other_number Event k e = not_event k e
other_number Links k e = not_link k e

declared_number : (d : DeclarationKind) (k : ℕ) → eqb k (kind_number d) ≡ declares d (kind_of k)
declared_number d k = go (eqb k (kind_number d)) refl
  where
    go : (b : Bool) → eqb k (kind_number d) ≡ b → eqb k (kind_number d) ≡ declares d (kind_of k)
    go true e =
        e ∙ its_number d ∙ ap (λ (j : ℕ). declares d (kind_of j)) (sym (eqb-true k (kind_number d) e))
    go false e = e ∙ sym (other_number d k e)

-- a line's first two digits are its kind
pub declared_line : (d : DeclarationKind) (w n : ℕ) → n ≡ kind_number d → w < 2 ^ 64
    → eqb (w / 0x0100000000000000) n ≡ declares d (frame_of_word w).kind
unfolding frame_of_word
declared_line d w n h l =
    let e : w / 0x0100000000000000 ≡ w / 16 ^ 14 % 16 ^ 2 = omega arith in
    ap₂ eqb e h ∙ declared_number d (w / 16 ^ 14 % 16 ^ 2)

-- ---- `take_link`: b is whether the line declares a link
module _ (labels : List ℕ) (w : ℕ) (b : Bool) (d : b ≡ is_link (frame_of_word w).kind) where
  pub other_line : not b ≡ true → labels ≡ with_line labels (frame_of_word w)
  unfolding with_line
  other_line h = no _ (sym d ∙ not-true b h) refl

  module _ (f : Frame) (e : f ≡ frame_of_word w) (h : not b ≡ false) (p : LinkPlaced (frame_of_word w)) where
    ends : (is_scheduler f.s ≡ true) × (is_scheduler f.a ≡ true)
    ends =
        let r = p (sym d ∙ not-false b h) in
        (ap (λ (x : Frame). is_scheduler x.s) e ∙ r.0, ap (λ (x : Frame). is_scheduler x.a) e ∙ r.1)

    -- u and v are what was made of the two numbers
    pub upper_place : (u : ℕ) → u ≡ f.s → is_place u ≡ true
    upper_place u x = rw x (scheduler_place f.s ends.0)

    pub lower_place : (v : ℕ) → v ≡ f.a → is_place v ≡ true
    lower_place v y = rw y (scheduler_place f.a ends.1)

    pub upper_scheduler : (q : Place) (u : ℕ) → q ≡ record { number = u } → u ≡ f.s
        → is_scheduler q.number ≡ true
    upper_scheduler q u k x = ap (λ (p : Place). is_scheduler p.number) k ∙ rw x ends.0

    pub lower_scheduler : (q : Place) (v : ℕ) → q ≡ record { number = v } → v ≡ f.a
        → is_scheduler q.number ≡ true
    lower_scheduler q v k y = ap (λ (p : Place). is_scheduler p.number) k ∙ rw y ends.1

    pub link_line : (after : List ℕ) (q r : Place) (u v : ℕ) → q ≡ record { number = u } → u ≡ f.s
        → r ≡ record { number = v } → v ≡ f.a
        → after ≡ relabelled (label_at labels q.number) (label_at labels r.number) labels
        → after ≡ with_line labels (frame_of_word w)
    unfolding with_line
    link_line after q r u v k x l y m =
        yes _ (sym d ∙ not-false b h)
        (m ∙ ap₂ (λ (x y : Place). relabelled (label_at labels x.number) (label_at labels y.number) labels) k l
        ∙ ap₂ (λ (i j : ℕ). relabelled (label_at labels i) (label_at labels j) labels) x y
        ∙ ap (λ (x : Frame). relabelled (label_at labels x.s) (label_at labels x.a) labels) e)

pub ruleset take_laws =
    (other_line, upper_place, lower_place, upper_scheduler, lower_scheduler)

-- ---- `declarations_end`
past_early : (b : Bool) (x y : Kind) → is_early x ≡ false → is_early y ≡ false
    → is_early (when b then x else y) ≡ false
past_early b x y e f = if_all (λ (k : Kind). is_early k ≡ false) b x y (λ _. e) (λ _. f)

-- K from 10 on is neither the header's nor a declaration's
late_number : (k : ℕ) → 16 ≤ k → is_early (kind_of k) ≡ false
unfolding kind_of
late_number k l =
    ap is_early (if_no _ _ (ne_eqb k 0 (λ z. omega arith)))
    ∙ ap is_early (if_no _ _ (ne_eqb k 1 (λ z. omega arith)))
    ∙ past_early _ _ _ refl
    (ap is_early (if_no _ _ (ne_eqb k 3 (λ z. omega arith)))
    ∙ ap is_early (if_no _ _ (ne_eqb k 4 (λ z. omega arith)))
    ∙ (
    past_early _ _ _ refl (past_early _ _ _ refl (past_early _ _ _ refl (past_early _ _ _ refl (
    past_early _ _ _ refl (past_early _ _ _ refl (past_early _ _ _ refl (past_early _ _ _ refl (
    past_early _ _ _ refl (past_early _ _ _ refl (past_early _ _ _ refl (past_early _ _ _ refl (
    past_early _ _ _ refl (past_early _ _ _ refl (past_early _ _ _ refl (past_early _ _ _ refl (
    past_early _ _ _ refl (past_early _ _ _ refl (past_early _ _ _ refl (past_early _ _ _ refl (
    past_early _ _ _ refl (refl)))))))))))))))))))))))

-- the lines at which `declarations_end` stops
abbrev pub is_late : ℕ → Bool
is_late w = leb 0x1000000000000000 w

late_line : (w : ℕ) → w < 2 ^ 64 → is_late w ≡ true → is_early (frame_of_word w).kind ≡ false
unfolding frame_of_word
late_line w l h =
    let m = leb-true 0x1000000000000000 w h in late_number (w / 16 ^ 14 % 16 ^ 2) (omega arith)

-- frames none of which is a link
no_links : (gs : List Frame) → ((j : ℕ) → j < length gs → is_link (frame_at gs j).kind ≡ false)
    → links_of gs ≡ []
unfolding links_of
no_links [] h = refl
no_links (f ∷ gs) h =
    ap (λ (b : Bool). keep_if b (link_of f) (links_of gs)) (h 0 (omega arith))
    ∙ no_links gs (λ j l. h (suc j) (omega arith))

link_early : (k : Kind) → is_early k ≡ false → is_link k ≡ false
link_early Header e = refl
link_early (Declared Shared) e = refl
link_early (Declared Event) e = refl
link_early (Declared Links) e = absurd (true≢false e)
link_early Module e = refl
link_early (Statement k) e = refl
link_early (Expression k) e = refl
link_early Unknown e = refl

ends_here : (ws : List ℕ) (i : ℕ) → LinksPlaced (frames_of ws)
    → is_early (frame_of_word (get_or ws i 0)).kind ≡ false → i < length ws
    → links_of (drop i (frames_of ws)) ≡ []
ends_here ws i h t l =
    no_links (drop i (frames_of ws)) (λ j a.
    let z = length-drop i (frames_of ws) in
    ap (λ (f : Frame). is_link f.kind) (get_or-drop i (frames_of ws) j no_frame)
    ∙ by j (omega arith) (is_link (frame_at (frames_of ws) (i + j)).kind) refl)
  where
    late : is_early (frame_at (frames_of ws) i).kind ≡ false
    late =
        ap (λ (f : Frame). is_early f.kind) (frame_at_lem ws i no_frame l) ∙ t

    by : (j : ℕ) → i + j < length (frames_of ws) → (b : Bool)
        → is_link (frame_at (frames_of ws) (i + j)).kind ≡ b
        → is_link (frame_at (frames_of ws) (i + j)).kind ≡ false
    by j a false e = e
    by zero a true e =
        let z : i + 0 ≡ i = omega arith in
        link_early (frame_at (frames_of ws) (i + 0)).kind (ap (λ (k : ℕ). is_early (frame_at (frames_of ws) k).kind) z ∙ late)
    by (suc j) a true e =
        absurd (true≢false (sym (h.early i (i + suc j) (omega arith) a e) ∙ late))

ends_after : (ws : List ℕ) (i : ℕ) → length ws ≤ i → links_of (drop i (frames_of ws)) ≡ []
unfolding links_of
ends_after ws i l = ap links_of (frames_end ws i l)

-- the position of a member that passes, or the list's length
or_length : {A : Type 0} (p : A → Bool) (xs : List A)
    → unwrap_or (position p xs) (length xs) ≡ position_or_len p xs
or_length p xs = by (ltb (position_or_len p xs) (length xs)) refl
  where
    by : (b : Bool) → ltb (position_or_len p xs) (length xs) ≡ b
        → unwrap_or (cond b (Some (position_or_len p xs)) None) (length xs) ≡ position_or_len p xs
    by true e = refl
    by false e =
        let l = ltb-false (position_or_len p xs) (length xs) e in
        omega (arith, prefix_len-le-length (λ x. not (p x)) xs)

pub links_end : (ws : List ℕ) (r : ℕ) → ((i : ℕ) → get_or ws i 0 < 2 ^ 64) → LinksPlaced (frames_of ws)
    → r ≡ unwrap_or (position is_late ws) (length ws) → links_of (drop r (frames_of ws)) ≡ []
links_end ws r fits h e = rw (e ∙ or_length is_late ws) (by (ltb n (length ws)) refl)
  where
    n : ℕ
    n = position_or_len is_late ws

    by : (b : Bool) → ltb n (length ws) ≡ b → links_of (drop n (frames_of ws)) ≡ []
    by true t =
        let l = ltb-true n (length ws) t in
        ends_here ws n h (late_line (get_or ws n 0) (fits n) (passes_at_first is_late ws 0 l)) l
    by false t = ends_after ws n (ltb-false n (length ws) t)

-- ---- `labels_of`: the links from line i on are taken
abbrev pub Taken : List ℕ → List ℕ → ℕ → Type 0
Taken ws labels i = labels ≡ labels_of (links_of (drop i (frames_of ws)))

pub taken_start : (ws labels : List ℕ) (i : ℕ) → labels ≡ labels_of []
    → links_of (drop i (frames_of ws)) ≡ [] → Taken ws labels i
taken_start ws labels i h e = h ∙ ap labels_of (sym e)

module _ (ws : List ℕ) (i : ℕ) (l : 0 < i) (m : i ≤ length ws) (h : LinksPlaced (frames_of ws)) where
  abbrev f : Frame
  f = frame_of_word (get_or ws (i - 1) 0)

  -- the links from this line on
  here : links_of (drop (i - 1) (frames_of ws))
      ≡ keep_if (is_link f.kind) (link_of f) (links_of (drop i (frames_of ws)))
  unfolding links_of
  here =
      let z : i - 1 + 1 ≡ i = omega arith in
      ap links_of (next_frame ws (i - 1) f (omega arith) refl)
      ∙ ap (λ (k : ℕ). keep_if (is_link f.kind) (link_of f) (links_of (drop k (frames_of ws)))) z

  pub line_placed : LinkPlaced (frame_of_word (get_or ws (i - 1) 0))
  line_placed =
      subst LinkPlaced (frame_at_lem ws (i - 1) no_frame (omega arith))
      (h.ends (i - 1) (let z = frames_length ws in omega arith))

  one_more : (labels : List ℕ) → Taken ws labels i → (b : Bool) → is_link f.kind ≡ b
      → (when b then relabelled (label_at labels f.s) (label_at labels f.a) labels else labels)
      ≡ labels_of (keep_if b (link_of f) (links_of (drop i (frames_of ws))))
  unfolding when◌then◌else◌
  one_more labels t false e = t
  one_more labels t true e =
      let z = line_placed e in
      ap (λ (xs : List ℕ). relabelled (label_at xs f.s) (label_at xs f.a) xs) t
      ∙ labels_more (link_of f) (links_of (drop i (frames_of ws))) z.0 z.1

  pub taken_more : (labels after : List ℕ) → Taken ws labels i
      → after ≡ with_line labels (frame_of_word (get_or ws (i - 1) 0)) → Taken ws after (i - 1)
  unfolding with_line
  taken_more labels after t e =
      e ∙ one_more labels t (is_link f.kind) refl ∙ ap labels_of (sym here)

pub taken_end : (ws labels : List ℕ) (i : ℕ) → i ≤ 0 → Taken ws labels i
    → labels ≡ labels_of (links_of (frames_of ws))
taken_end ws labels i l t =
    let z : i ≡ 0 = omega arith in
    t ∙ ap (λ (k : ℕ). labels_of (links_of (drop k (frames_of ws)))) z
