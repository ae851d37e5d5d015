-- The roots of a file, laid out rank by rank. Assumes nothing.
use mathlib.Core.Path.{◌≡◌, refl, sym, ap, ap₂, subst, ◌∙◌}
use mathlib.Core.List.{List, [], ◌∷◌, ◌++◌, append-nil, map}
use Prim.Native.Nat.{ℕ, zero, suc, ◌+◌, ◌-◌, ◌*◌, ◌≤◌, ◌<◌}
use native.Mathlib.Omega.{arith}
use lib.ListN.{length, drop, length-append}
use lib.Seq.{drop-cons}
use borrow.Author.Tests.{eq-eqb, ne_eqb}
use Rattle.basics.proofs.Ifs.{if_yes, if_no}
use Rattle.language.specs.declared.frame.Frame.{Frame}
use Rattle.text.specs.Frames.{frames_of}
use Rattle.text.proofs.FrameWords.{frames_length, frames_end}
use Rattle.program.specs.Trees.{no_frame, frame_at}
use Rattle.drawing.specs.Drawings.{Drawn, size, drawn, lined, lined_all, rank, ranks, levels}
use Rattle.drawing.specs.Drawings.{numbered, roots_to, drawing, laid_out}
use Rattle.drawing.specs.Texts.{bytes_of}
use Rattle.drawing.specs.Writings.{Writable}
use Rattle.drawing.proofs.Back.{lined-length}
use Rattle.drawing.proofs.Shapes.{all_lined}
use Rattle.drawing.proofs.Writables.{map_append}
use Rattle.drawing.proofs.Mains.{all_append}
use Rattle.drawing.proofs.Counted.{roots_within, nothing_lost}
use Rattle.writer.specs.Inner.Placing.{with_lines, LineRoom, HasTree, lines_at, root_at}
use Rattle.writer.proofs.Buffers.{lines_none, lines_length, lines_more, lines_next}
use Rattle.writer.proofs.Buffers.{lines_all}

-- ---- the lines of several trees
module _ (ws : List ℕ) where
  abbrev Fs : List Frame
  Fs = frames_of ws

  none_lines : (n : ℕ) → lines_at ws n [] ≡ []
  unfolding lines_at lined_all
  none_lines n = refl

  one_lines : (n i : ℕ) → lines_at ws n (i ∷ []) ≡ lined n (drawn levels ws i)
  unfolding lines_at lined_all
  one_lines n i = append-nil (lined n (drawn levels ws i))

  more_lines : (n : ℕ) (xs ys : List ℕ)
      → lines_at ws n (xs ++ ys) ≡ lines_at ws n xs ++ lines_at ws (n + length (lines_at ws n xs)) ys
  unfolding lines_at
  more_lines n xs ys =
      let draw : ℕ → Drawn = λ i. drawn levels ws i in
      ap (lined_all n) (map_append draw xs ys) ∙ all_append n (map draw xs) (map draw ys)
      ∙ ap (λ (k : ℕ). lined_all n (map draw xs) ++ lined_all (n + k) (map draw ys))
      (sym (all_lined n (map draw xs)))

  -- ---- one root
  module _ (i r n : ℕ) (out : List ℕ) where
    abbrev root : List ℕ
    root = lines_at ws n (root_at r i (frame_at Fs i))

    module _ (f : Frame) (ef : f ≡ frame_at Fs i) (k : ℕ) (ek : k ≡ rank f.kind) where
      rank_is : rank (frame_at Fs i).kind ≡ k
      rank_is = ap (λ (g : Frame). rank g.kind) (sym ef) ∙ sym ek

      module _ (e : k ≡ r) where
        root_lines : root ≡ lined n (drawn levels ws i)
        unfolding root_at
        root_lines =
            ap (lines_at ws n)
            (if_yes (i ∷ []) [] (eq-eqb (rank (frame_at Fs i).kind) r (rank_is ∙ e)))
            ∙ one_lines n i

        root-size : length root ≡ size (drawn levels ws i)
        root-size = ap length root_lines ∙ lined-length n (drawn levels ws i)

        pub root_tree : Writable Fs → i < length ws → r < ranks → HasTree ws levels i
        root_tree s l m =
            let q = frames_length ws in
            let x = rank_is in
            record {
              writable = s;
              inside = l;
              within = roots_within ws s i (omega arith) (omega arith);
            }

        pub root_room : LineRoom out n (length root) → LineRoom out n (size (drawn levels ws i))
        root_room h = subst (LineRoom out n) root-size h

        pub root_written : (new : List ℕ) → new ≡ with_lines out n (lined n (drawn levels ws i))
            → new ≡ with_lines out n root
        root_written new h = h ∙ ap (with_lines out n) (sym root_lines)

        pub root_next : (m : ℕ) → m ≡ n + size (drawn levels ws i) → m ≡ n + length root
        root_next m h = let s = root-size in omega arith

      module _ (d : k ≡ r → ⊥) where
        no_lines : root ≡ []
        unfolding root_at
        no_lines =
            ap (lines_at ws n)
            (if_no (i ∷ []) [] (ne_eqb (rank (frame_at Fs i).kind) r (λ e. d (sym rank_is ∙ e))))
            ∙ none_lines n

        pub no_written : out ≡ with_lines out n root
        no_written = lines_none out n ∙ ap (with_lines out n) (sym no_lines)

        pub no_next : n ≡ n + length root
        no_next = let s : length root ≡ 0 = ap length no_lines in omega arith

  -- ---- the roots of a rank: the lines of those to come, after what is written, are all of them
  abbrev pub rest : ℕ → ℕ → ℕ → List ℕ
  rest r n i = lines_at ws n (numbered r i (drop i Fs))

  pub record Laying (r n₀ : ℕ) (out₀ : List ℕ) (n : ℕ) (out : List ℕ) (i : ℕ) : Type 0 where
    pub same : with_lines out n (rest r n i) ≡ with_lines out₀ n₀ (rest r n₀ 0)
    pub total : n + length (rest r n i) ≡ n₀ + length (rest r n₀ 0)
    pub room : LineRoom out n (length (rest r n i))
    pub long : length out ≡ length out₀

  pub laying_start : (r n : ℕ) (out : List ℕ)
      → LineRoom out n (length (lines_at ws n (numbered r 0 (frames_of ws)))) → Laying r n out n out 0
  laying_start r n out h = record { same = refl; total = refl; room = h; long = refl }

  module _ (r n₀ : ℕ) (out₀ : List ℕ) (n : ℕ) (out : List ℕ) (i : ℕ)
      (h : Laying r n₀ out₀ n out i) where
    abbrev here : List ℕ
    here = lines_at ws n (root_at r i (frame_at Fs i))

    split : i < length ws → rest r n i ≡ here ++ rest r (n + length here) (suc i)
    unfolding numbered root_at
    split l =
        let q = frames_length ws in
        ap (λ (fs : List Frame). lines_at ws n (numbered r i fs))
        (drop-cons Fs i no_frame (omega arith))
        ∙ more_lines n (root_at r i (frame_at Fs i)) (numbered r (suc i) (drop (suc i) Fs))

    pub laying_room : i < length ws → LineRoom out n (length here)
    laying_room l =
        let s = ap length (split l) in
        let a = length-append here (rest r (n + length here) (suc i)) in
        let p = h.room.fits in
        let q = h.room.few in
        record { fits = omega arith; few = omega arith }

    pub laying_more : (m : ℕ) (new : List ℕ) → new ≡ with_lines out n here → m ≡ n + length here
        → i < length ws → Laying r n₀ out₀ m new (i + 1)
    laying_more m new w e l =
        let z : suc i ≡ i + 1 = omega arith in
        let more : List ℕ = rest r (n + length here) (suc i) in
        let s : length (rest r n i) ≡ length (here ++ more) = ap length (split l) in
        let a = length-append here more in
        let p = h.room.fits in
        let q = h.room.few in
        let t = h.total in
        let long : length new ≡ length out = ap length w ∙ lines_length out n here (omega arith) in
        let k : length more ≡ length (rest r m (suc i)) =
        ap (λ (j : ℕ). length (rest r j (suc i))) (sym e) in
        subst (Laying r n₀ out₀ m new) z (record {
          same =
              ap₂ (λ (o : List ℕ) (j : ℕ). with_lines o j (rest r j (suc i))) w e
              ∙ lines_more out n here more (omega arith)
              ∙ ap (with_lines out n) (sym (split l)) ∙ h.same;
          total = omega arith;
          room = record { fits = omega arith; few = omega arith };
          long = long ∙ h.long;
        })

    none_left : length ws ≤ i → rest r n i ≡ []
    unfolding numbered
    none_left l =
        ap (λ (fs : List Frame). lines_at ws n (numbered r i fs)) (frames_end ws i l) ∙ none_lines n

    pub laying_end : length ws ≤ i
        → out ≡ with_lines out₀ n₀ (lines_at ws n₀ (numbered r 0 (frames_of ws)))
    laying_end l = lines_none out n ∙ ap (with_lines out n) (sym (none_left l)) ∙ h.same

    pub laying_next : length ws ≤ i → n ≡ n₀ + length (lines_at ws n₀ (numbered r 0 (frames_of ws)))
    laying_next l =
        let s : length (rest r n i) ≡ 0 = ap length (none_left l) in
        let t = h.total in
        omega arith

  -- ---- all ranks
  abbrev pub upto : ℕ → List ℕ
  upto r = lines_at ws 0 (roots_to r Fs)

  pub record LaidTo (out₀ : List ℕ) (n : ℕ) (out : List ℕ) (r : ℕ) : Type 0 where
    pub most : r ≤ ranks
    pub next : n ≡ length (upto r)
    pub is : out ≡ with_lines out₀ 0 (upto r)
    pub long : length out ≡ length out₀

  pub laid_start : (out : List ℕ) → LaidTo out 0 out 0
  unfolding roots_to
  laid_start out =
      let e : upto 0 ≡ [] = none_lines 0 in
      record {
        most = omega arith;
        next = sym (ap length e);
        is = lines_none out 0 ∙ ap (with_lines out 0) (sym e);
        long = refl;
      }

  rank_more : (r : ℕ) → upto (suc r) ≡ upto r ++ lines_at ws (length (upto r)) (numbered r 0 Fs)
  unfolding roots_to
  rank_more r =
      let z : 0 + length (upto r) ≡ length (upto r) = omega arith in
      more_lines 0 (roots_to r Fs) (numbered r 0 Fs)
      ∙ ap (λ (k : ℕ). upto r ++ lines_at ws k (numbered r 0 Fs)) z

  grows : (r k : ℕ) → length (upto r) ≤ length (upto (r + k))
  grows r zero =
      let z : r ≡ r + 0 = omega arith in
      let e = ap (λ (j : ℕ). length (upto j)) z in
      omega arith
  grows r (suc k) =
      let z : suc (r + k) ≡ r + suc k = omega arith in
      let e = ap (λ (j : ℕ). length (upto j)) z in
      let m = ap length (rank_more (r + k)) in
      let a = length-append (upto (r + k))
      (lines_at ws (length (upto (r + k))) (numbered (r + k) 0 Fs)) in
      let g = grows r k in
      omega arith

  module _ (writable : Writable (frames_of ws)) where
    all_lines : upto ranks ≡ laid_out (drawing ws)
    unfolding lines_at drawing laid_out
    all_lines = refl

    all_count : length (upto ranks) ≡ length ws
    all_count = ap length all_lines ∙ nothing_lost ws writable

    upto_few : (r : ℕ) → r ≤ ranks → length (upto r) ≤ length ws
    upto_few r l =
        let g = grows r (ranks - r) in
        let z : r + (ranks - r) ≡ ranks = omega arith in
        let e = ap (λ (j : ℕ). length (upto j)) z in
        let c = all_count in
        omega arith

    module _ (few : length ws ≤ 1024) (out₀ : List ℕ) (whole : length out₀ ≡ 17 * length ws) (n : ℕ)
        (out : List ℕ) (r : ℕ) (h : LaidTo out₀ n out r) where
      abbrev these : List ℕ
      these = lines_at ws n (numbered r 0 (frames_of ws))

      these_are : upto (suc r) ≡ upto r ++ these
      these_are =
          rank_more r ∙ ap (λ (k : ℕ). upto r ++ lines_at ws k (numbered r 0 Fs)) (sym h.next)

      these_count : r < ranks → n + length these ≤ length ws
      these_count l =
          let u = upto_few (suc r) (omega arith) in
          let e = ap length these_are in
          let a = length-append (upto r) these in
          let x = h.next in
          omega arith

      pub laid_room : r < ranks → LineRoom out n (length these)
      laid_room l =
          let c = these_count l in
          let x = h.long in
          record { fits = omega arith; few = omega arith }

      pub laid_more : (m : ℕ) (new : List ℕ) → new ≡ with_lines out n these → m ≡ n + length these
          → r < ranks → LaidTo out₀ m new (r + 1)
      laid_more m new w e l =
          let c = these_count l in
          let x = h.long in
          let y = h.next in
          let z : suc r ≡ r + 1 = omega arith in
          let a = length-append (upto r) these in
          let k : length (upto (suc r)) ≡ length (upto r ++ these) = ap length these_are in
          let long : length new ≡ length out =
          ap length w ∙ lines_length out n these (omega arith) in
          subst (LaidTo out₀ m new) z (record {
            most = omega arith;
            next = omega arith;
            is =
                lines_next out₀ out new 0 n (upto r) these h.is w (omega arith) (omega arith)
                ∙ ap (with_lines out₀ 0) (sym these_are);
            long = long ∙ h.long;
          })

      pub laid_end : ranks ≤ r → out ≡ bytes_of (laid_out (drawing ws))
      laid_end l =
          let m = h.most in
          let e : r ≡ ranks = omega arith in
          let c = all_count in
          h.is ∙ ap (λ (j : ℕ). with_lines out₀ 0 (upto j)) e
          ∙ lines_all out₀ (upto ranks) (omega arith) ∙ ap bytes_of all_lines
