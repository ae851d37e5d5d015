-- The types of the shared cells: of one, in an array, and of all, read from after the header on.
-- Assumes nothing.
use Rattle.std.specs.Prelude.{Option, Some}
use mathlib.Core.Path.{◌≡◌, refl, sym, ap, ap₂, subst, ◌∙◌}
use mathlib.Core.Bool.{Bool, true, false, true≢false, not, ◌&&◌}
use mathlib.Core.List.{List, [], ◌∷◌, ◌++◌, map, append_assoc, append-nil}
use Prim.Native.Nat.{ℕ, suc, ◌+◌, ◌-◌, ◌<◌, ◌≤◌}
use native.Mathlib.Omega.{arith}
use native.Mathlib.Numerals.{add-one}
use lib.Dec.{ltb}
use lib.ListN.{length, take, drop, set, replicate, length-append, length-map, length-replicate}
use lib.Seq.{take-append_seam, set_at}
use borrow.Author.Tests.{ltb-true, ltb-false, not-true, not-false}
use Rattle.basics.proofs.Ifs.{if_yes}
use Rattle.language.specs.Kinds.{is_shared}
use Rattle.language.specs.Limits.{most_shared}
use Rattle.language.specs.Places.{is_place}
use Rattle.language.specs.Types.{cell_type, room_around}
use Rattle.language.specs.Inner.Reads.{cell_read}
use Rattle.language.specs.declared.Place.{Place}
use Rattle.language.specs.declared.frame.Frame.{Frame}
use Rattle.text.specs.Frames.{frames_of}
use Rattle.text.proofs.FrameWords.{frames_length, frame_at_lem, frames_end}
use Rattle.program.specs.Trees.{frame_at, no_frame}
use Rattle.program.specs.Programs.{SharedCell, type_of_shared, shared_of, cells_of}
use Rattle.program.specs.Inner.Shared.{padded_types, shared_types, SharedFirst}
use Rattle.program.specs.declared.shared.SharedTypes.{SharedTypes}
use Rattle.program.proofs.OneMore.{shared_no, shared_yes}
use Rattle.program.proofs.FrameLaws.{frames_next}
use Rattle.program.proofs.SharedLaws.{next_from, found_next, next_end}

-- ---- of one: its owner is a place and there is room around its content, so there is such a type
pub type_there : (f : Frame) (n : ℕ) (q : Place) (y : Option ℕ) → is_place f.s ≡ true
    → room_around f.a ≡ true → q ≡ record { number = n } → n ≡ f.s → y ≡ cell_read q.number f.a
    → y ≡ Some (cell_type f.s f.a)
unfolding cell_read
type_there f n q y h m e v g =
    let t : (is_place f.s && room_around f.a) ≡ true = (rw (h, m)) in
    g ∙ ap (λ (p : Place). cell_read p.number f.a) e ∙ ap (λ (k : ℕ). cell_read k f.a) v
    ∙ if_yes _ _ t

-- ---- in an array: one type more takes the place of the first 0
pub padded_more : (ts : List ℕ) (w : ℕ) → length ts < most_shared
    → set (padded_types ts) (length ts) w ≡ padded_types (ts ++ (w ∷ []))
padded_more ts w l =
    let left : ℕ = most_shared - suc (length ts) in
    let e : most_shared - length ts ≡ suc left = omega arith in
    let m : length (ts ++ (w ∷ [])) ≡ suc (length ts) = length-append ts (w ∷ []) ∙ omega arith in
    ap (λ (n : ℕ). set (ts ++ replicate n 0) (length ts) w) e
    ∙ set_at ts 0 (replicate left 0) w (length ts) refl
    ∙ sym (append_assoc ts (w ∷ []) (replicate left 0))
    ∙ ap (λ (n : ℕ). (ts ++ (w ∷ [])) ++ replicate (most_shared - n) 0) (sym m)

pub padded_taken : (ts : List ℕ) → take (length ts) (padded_types ts) ≡ ts
padded_taken ts = take-append_seam ts (replicate (most_shared - length ts) 0)

padded_length : (ts : List ℕ)
    → length (padded_types ts) ≡ length ts + (most_shared - length ts)
padded_length ts =
    length-append ts (replicate (most_shared - length ts) 0)
    ∙ ap (λ (k : ℕ). length ts + k) (length-replicate {A = ℕ} (most_shared - length ts) 0)

-- what the result says
module _ (fs : List Frame) (t : SharedTypes) (e : t ≡ shared_types fs) where
  count_is : t.count ≡ length (cells_of fs)
  unfolding shared_types
  count_is = ap (λ (x : SharedTypes). x.count) e

  types_are : t.types ≡ padded_types (cells_of fs)
  unfolding shared_types
  types_are = ap (λ (x : SharedTypes). x.types) e

  pub types_room : t.count ≤ length t.types
  types_room =
      let a = count_is in
      let b : length t.types ≡ length (cells_of fs) + (most_shared - length (cells_of fs)) =
      ap length types_are ∙ padded_length (cells_of fs) in
      omega arith

  pub types_taken : take t.count t.types ≡ cells_of fs
  types_taken = ap₂ take count_is types_are ∙ padded_taken (cells_of fs)

-- ---- of all: n types are written, and the other cells are declared from frame n + 1 on
pub record Collecting (ws types : List ℕ) (n : ℕ) : Type 0 where
  pub passed : List ℕ
  pub count : length passed ≡ n
  pub few : n ≤ most_shared
  pub written : types ≡ padded_types passed
  pub all : cells_of (frames_of ws) ≡ passed ++ cells_of (drop (n + 1) (frames_of ws))

after_first : (fs : List Frame) → is_shared (frame_at fs 0).kind ≡ false
    → cells_of fs ≡ cells_of (drop (0 + 1) fs)
after_first [] e = refl
after_first (f ∷ fs) e = ap (map type_of_shared) (shared_no f fs e)

pub collect_start : (ws : List ℕ) → SharedFirst (frames_of ws)
    → Collecting ws (replicate most_shared 0) 0
collect_start ws g =
    record {
      passed = [];
      count = refl;
      few = omega arith;
      written = refl;
      all = after_first (frames_of ws) g.header;
    }

-- where the scan stops no cell is left
module _ (ws types : List ℕ) (n : ℕ) (s : Collecting ws types n) where
  collect_done : shared_of (drop (n + 1) (frames_of ws)) ≡ []
      → record { count = n; types = types } ≡ shared_types (frames_of ws)
  unfolding shared_types
  collect_done e =
      let all : cells_of (frames_of ws) ≡ s.passed =
      s.all ∙ ap (λ (cs : List SharedCell). s.passed ++ map type_of_shared cs) e
      ∙ append-nil s.passed in
      ap₂ (λ (k : ℕ) (ts : List ℕ). record { count = k; types = ts })
      (sym s.count ∙ ap length (sym all)) (s.written ∙ ap padded_types (sym all))

  pub collect_end : (k : ℕ) → k ≡ n + 1 → length ws ≤ k
      → record { count = n; types = types } ≡ shared_types (frames_of ws)
  unfolding shared_of
  collect_end k z l = collect_done (ap shared_of (frames_end ws (n + 1) (rw z at l)))

  module _ (k : ℕ) (z : k ≡ n + 1) (f : Frame) (x : Bool) (g : SharedFirst (frames_of ws)) (m : k < length ws)
      (d : f ≡ frame_at (frames_of ws) k) (q : x ≡ is_shared f.kind) where
    l : n + 1 < length ws
    l = rw z at m

    e : f ≡ frame_at (frames_of ws) (n + 1)
    e = rw z at d

    kind_is : (b : Bool) → x ≡ b → is_shared (frame_at (frames_of ws) (n + 1)).kind ≡ b
    kind_is b h = ap (λ (h : Frame). is_shared h.kind) (sym e) ∙ sym q ∙ h

    inside : n + 1 < length (frames_of ws)
    inside = rw (frames_length ws) l

    none_left : is_shared (frame_at (frames_of ws) (n + 1)).kind ≡ false
        → shared_of (drop (n + 1) (frames_of ws)) ≡ []
    none_left h = go (ltb r (length ws)) refl
      where
        r : ℕ
        r = next_from ws (n + 1)

        -- a cell found further on would make this frame one
        found : r < length ws → is_shared (frame_at (frames_of ws) (n + 1)).kind ≡ true
        found m =
            let p = found_next ws (n + 1) r refl in
            let o = p.onward in
            let z = ap (λ (h : Frame). is_shared h.kind) (frame_at_lem ws r no_frame m) ∙ p.is m in
            by (ltb (n + 1) r) refl z o m
          where
            by : (b : Bool) → ltb (n + 1) r ≡ b → is_shared (frame_at (frames_of ws) r).kind ≡ true
                → n + 1 ≤ r → r < length ws → is_shared (frame_at (frames_of ws) (n + 1)).kind ≡ true
            by true t z o m =
                g.together (n + 1) r (omega arith) (ltb-true (n + 1) r t)
                (rw (frames_length ws) m) z
            by false t z o m =
                let k = ltb-false (n + 1) r t in
                let q : n + 1 ≡ r = omega arith in
                ap (λ (k : ℕ). is_shared (frame_at (frames_of ws) k).kind) q ∙ z

        go : (b : Bool) → ltb r (length ws) ≡ b → shared_of (drop (n + 1) (frames_of ws)) ≡ []
        go true t = absurd (true≢false (sym (found (ltb-true r (length ws) t)) ∙ h))
        go false t =
            next_end ws (n + 1) r (found_next ws (n + 1) r refl) (ltb-false r (length ws) t)

    pub collect_stop : not x ≡ true
        → record { count = n; types = types } ≡ shared_types (frames_of ws)
    collect_stop t = collect_done (none_left (kind_is false (not-true x t)))

    module _ (t : not x ≡ false) where
      is : is_shared (frame_at (frames_of ws) (n + 1)).kind ≡ true
      is = kind_is true (not-false x t)

      pub collect_owner : is_place f.s ≡ true
      collect_owner =
          subst (λ (h : Frame). is_place h.s ≡ true) (sym e) (g.owner (n + 1) inside is)

      pub collect_content : room_around f.a ≡ true
      collect_content =
          subst (λ (h : Frame). room_around h.a ≡ true) (sym e) (g.content (n + 1) inside is)

      abbrev later : List ℕ
      later = cells_of (drop (n + 1 + 1) (frames_of ws))

      -- this frame's type comes next
      here : cells_of (drop (n + 1) (frames_of ws)) ≡ cell_type f.s f.a ∷ later
      here =
          ap cells_of (frames_next ws (n + 1) l) ∙ ap (map type_of_shared) (shared_yes _ _ is)
          ∙ ap₂ (λ (h : Frame) (k : ℕ). cell_type h.s h.a ∷ cells_of (drop k (frames_of ws)))
          (sym e) (sym (add-one (n + 1)))

      next : cells_of (frames_of ws) ≡ (s.passed ++ (cell_type f.s f.a ∷ [])) ++ later
      next =
          s.all ∙ ap (λ (ts : List ℕ). s.passed ++ ts) here
          ∙ sym (append_assoc s.passed (cell_type f.s f.a ∷ []) _)

      pub collect_few : n < most_shared
      collect_few =
          let a = ap length next in
          let b = length-append (s.passed ++ (cell_type f.s f.a ∷ [])) later in
          let c = length-append s.passed (cell_type f.s f.a ∷ []) in
          let d = length-map (shared_of (frames_of ws)) type_of_shared in
          let k = g.few in
          let m = s.count in
          omega arith

      pub collect_more : (w : ℕ) → w ≡ cell_type f.s f.a
          → Collecting ws (set types n w) (n + 1)
      collect_more w v =
          record {
            passed = s.passed ++ (w ∷ []);
            count = length-append s.passed (w ∷ []) ∙ ap (λ (k : ℕ). k + 1) s.count;
            few = let k = collect_few in omega arith;
            written =
                ap₂ (λ (ts : List ℕ) (k : ℕ). set ts k w) s.written (sym s.count)
                ∙ padded_more s.passed w
                (let m = s.count in let k = collect_few in omega arith);
            all = next ∙ ap (λ (k : ℕ). (s.passed ++ (k ∷ [])) ++ later) (sym v);
          }
