-- The last line that is laid out from a writable file is main: the last module, with S 0. Assumes
-- nothing.
use mathlib.Core.Path.{◌≡◌, refl, sym, ap, ap₂, ◌∙◌}
use mathlib.Core.Logic.{◌⊎◌, inl, inr, ⊎_elim}
use mathlib.Core.Bool.{Bool, true, false, ◌&&◌}
use mathlib.Core.List.{List, [], ◌∷◌, ◌++◌, append_assoc, map}
use Prim.Native.Nat.{ℕ, zero, suc, ◌+◌, ◌-◌, ◌≤◌, ◌<◌}
use native.Mathlib.Omega.{arith}
use lib.Dec.{eqb}
use lib.ListN.{length, length-append, get_or}
use borrow.Author.Tests.{eqb-true, eqb-false, eq-eqb}
use Rattle.basics.specs.If.{when◌then◌else◌}
use Rattle.basics.proofs.Ifs.{if_yes, if_no}
use Rattle.language.specs.Kinds.{declarations, is_module}
use Rattle.language.specs.declared.kind.Kind.{Kind}
use Rattle.language.specs.declared.kind.Kind.TheVariants.{Header, Declared, Module, Statement}
use Rattle.language.specs.declared.kind.Kind.TheVariants.{Expression, Unknown}
use Rattle.language.specs.declared.frame.Frame.{Frame}
use Rattle.text.specs.Frames.{frames_of}
use Rattle.text.proofs.FrameWords.{frames_length, frame_at_lem}
use Rattle.program.specs.Trees.{no_frame, frame_at}
use Rattle.layout.specs.Order.{is_main}
use Rattle.drawing.specs.Drawings.{Drawn, size, drawn, root_from, lined, lined_all}
use Rattle.drawing.specs.Drawings.{rank, ranks, levels, numbered, roots_to, drawing, laid_out}
use Rattle.drawing.specs.Drawings.{module_rank}
use Rattle.drawing.specs.TreeFaults.{ShapeFault}
use Rattle.drawing.specs.Writings.{Writable}
use Rattle.drawing.proofs.Lines.{frame_head}
use Rattle.drawing.proofs.Back.{tree_kind, lined-length, root_inside, some_size}
use Rattle.drawing.proofs.InOrder.{Within, within}
use Rattle.drawing.proofs.Roots.{rank_of, declared_rank}
use Rattle.drawing.proofs.Counted.{roots_within, nothing_lost}
use Rattle.drawing.proofs.Shapes.{sizes, all_lined}
use Rattle.drawing.proofs.Output.{tree_s, Lies, root_kind, root_s}
use Rattle.drawing.proofs.Writables.{drawn_fits, map_append, begins}

-- ---- the last frame of a rank
record LastOf (r i : ℕ) (fs : List Frame) : Type 0 where
  front : List ℕ
  at : ℕ
  same : numbered r i fs ≡ front ++ ((i + at) ∷ [])
  inside : at < length fs
  is : rank_of (frame_at fs at) ≡ r
  after : (k : ℕ) → at < k → k < length fs → rank_of (frame_at fs k) ≡ r → ⊥

abbrev NoneOf : ℕ → List Frame → Type 0
NoneOf r fs = (q : ℕ) → q < length fs → rank_of (frame_at fs q) ≡ r → ⊥

none_numbered : (r i : ℕ) (fs : List Frame) → NoneOf r fs → numbered r i fs ≡ []
unfolding numbered
none_numbered r i [] h = refl
none_numbered r i (f ∷ fs) h =
    go (eqb (rank_of f) r) refl (none_numbered r (suc i) fs (λ q l. h (suc q) (omega arith)))
  where
    go : (b : Bool) → eqb (rank_of f) r ≡ b → numbered r (suc i) fs ≡ []
        → (when eqb (rank_of f) r then i ∷ [] else []) ++ numbered r (suc i) fs ≡ []
    go true e w = absurd (h 0 (omega arith) (eqb-true (rank_of f) r e))
    go false e w = ap₂ (λ (x y : List ℕ). x ++ y) (if_no (i ∷ []) [] e) w

last_of : (r i : ℕ) (fs : List Frame) → NoneOf r fs ⊎ LastOf r i fs
unfolding numbered
last_of r i [] = inl (λ q l e. omega arith)
last_of r i (f ∷ fs) = go (last_of r (suc i) fs) (eqb (rank_of f) r) refl
  where
    hd : List ℕ
    hd = when eqb (rank_of f) r then i ∷ [] else []

    later : LastOf r (suc i) fs → LastOf r i (f ∷ fs)
    later l =
        let z : suc i + l.at ≡ i + suc l.at = omega arith in
        let n = l.inside in
        record {
          front = (when eqb (rank_of f) r then i ∷ [] else []) ++ l.front;
          at = suc l.at;
          same =
              ap (λ (x : List ℕ). (when eqb (rank_of f) r then i ∷ [] else []) ++ x) (l.same ∙ ap (λ (k : ℕ). l.front ++ (k ∷ [])) z)
              ∙ sym (append_assoc (when eqb (rank_of f) r then i ∷ [] else []) l.front ((i + suc l.at) ∷ []));
          inside = omega arith;
          is = l.is;
          after =
              λ k. elim k as (λ k. suc l.at < k → k < length (f ∷ fs) → rank_of (frame_at (f ∷ fs) k) ≡ r → ⊥) [ zero ↦ λ a b e. absurd (omega arith) | suc k ↦ λ a b e. l.after k (omega arith) (omega arith) e ];
        }

    go : NoneOf r fs ⊎ LastOf r (suc i) fs → (b : Bool) → eqb (rank_of f) r ≡ b
        → NoneOf r (f ∷ fs) ⊎ LastOf r i (f ∷ fs)
    go (inr l) b e = inr (later l)
    go (inl h) true e =
        let z : i ≡ i + 0 = omega arith in
        inr (record { front = []; at = 0; same = ap₂ (λ (x y : List ℕ). x ++ y) (if_yes (i ∷ []) [] e) (none_numbered r (suc i) fs h) ∙ ap (λ (k : ℕ). k ∷ []) z; inside = omega arith; is = eqb-true (rank_of f) r e; after = λ k. elim k as (λ k. 0 < k → k < length (f ∷ fs) → rank_of (frame_at (f ∷ fs) k) ≡ r → ⊥) [ zero ↦ λ a b e. absurd (omega arith) | suc k ↦ λ a b e. h k (omega arith) e ] })
    go (inl h) false e =
        inl (λ q. elim q as (λ q. q < length (f ∷ fs) → rank_of (frame_at (f ∷ fs) q) ≡ r → ⊥) [ zero ↦ λ l w. eqb-false (rank_of f) r e w | suc q ↦ λ l w. h q (omega arith) w ])

-- ---- modules
rank_module : (k : Kind) → (rank k ≡ module_rank → ⊥) → is_module k ≡ false
rank_module Header h = refl
rank_module (Declared d) h = refl
rank_module Module h = absurd (h refl)
rank_module (Statement k) h = refl
rank_module (Expression k) h = refl
rank_module Unknown h = refl

module_rank_lem : (k : Kind) → rank k ≡ module_rank → is_module k ≡ true
module_rank_lem Header h = absurd (omega arith)
module_rank_lem (Declared d) h = absurd (let a = declared_rank d in omega arith)
module_rank_lem Module h = refl
module_rank_lem (Statement k) h = absurd (omega arith)
module_rank_lem (Expression k) h = absurd (omega arith)
module_rank_lem Unknown h = absurd (omega arith)

pub all_append : (n : ℕ) (xs ys : List Drawn)
    → lined_all n (xs ++ ys) ≡ lined_all n xs ++ lined_all (n + sizes xs) ys
unfolding lined_all sizes
all_append n [] ys = let z : n ≡ n + 0 = omega arith in ap (λ (k : ℕ). lined_all k ys) z
all_append n (x ∷ xs) ys =
    let z : n + size x + sizes xs ≡ n + (size x + sizes xs) = omega arith in
    ap (λ (l : List ℕ). lined n x ++ l) (all_append (n + size x) xs ys ∙ ap (λ (k : ℕ). lined_all (n + size x) xs ++ lined_all k ys) z)
    ∙ sym (append_assoc (lined n x) (lined_all (n + size x) xs) (lined_all (n + (size x + sizes xs)) ys))

module _ (ws : List ℕ) (writable : Writable (frames_of ws)) where
  abbrev Fs : List Frame
  Fs = frames_of ws

  abbrev draw : ℕ → Drawn
  draw i = drawn levels ws i

  main_last : 0 < length Fs → LastOf module_rank 0 Fs
  main_last l =
      ⊎_elim (λ h. absurd (writable.shaped (length Fs - 1) (ShapeFault.no_module (omega arith) (λ k q. rank_module (frame_at Fs k).kind (h k q))))) (λ x. x) (last_of module_rank 0 Fs)

  main_s : (x : LastOf module_rank 0 Fs) → (frame_at Fs x.at).s ≡ 0
  main_s x = go (eqb (frame_at Fs x.at).s 0) refl
    where
      go : (b : Bool) → eqb (frame_at Fs x.at).s 0 ≡ b → (frame_at Fs x.at).s ≡ 0
      go true e = eqb-true (frame_at Fs x.at).s 0 e
      go false e =
          absurd (writable.shaped x.at (ShapeFault.main x.inside (module_rank_lem (frame_at Fs x.at).kind x.is) (λ k p q. rank_module (frame_at Fs k).kind (x.after k p q)) (eqb-false (frame_at Fs x.at).s 0 e)))

  drawn_s : {d i : ℕ} → Within Fs d i → i < length ws → tree_s (drawn d ws i) ≡ (frame_at Fs i).s
  unfolding drawn
  drawn_s (within {d = d} {i = i} g) l =
      sym (ap (λ (f : Frame). f.s) (frame_head (get_or ws i 0)))
      ∙ ap (λ (f : Frame). f.s) (sym (frame_at_lem ws i no_frame l))

  some_sizes : (ts us : List Drawn) (t : Drawn) → ts ≡ t ∷ us → 0 < sizes ts
  unfolding sizes
  some_sizes [] us t e = absurd (let z : ◌≡◌ {A = ℕ} 0 1 = cc in omega arith)
  some_sizes (x ∷ ts) us t e = let s = some_size x in omega arith

  drawn_kind : {d i : ℕ} → Within Fs d i → i < length ws
      → tree_kind (drawn d ws i) ≡ (frame_at Fs i).kind
  unfolding drawn
  drawn_kind (within {d = d} {i = i} g) l =
      sym (ap (λ (f : Frame). f.kind) (frame_head (get_or ws i 0)))
      ∙ ap (λ (f : Frame). f.kind) (sym (frame_at_lem ws i no_frame l))

  lost : length (lined_all 0 (map draw (roots_to ranks Fs))) ≡ length ws
  unfolding drawing laid_out
  lost = nothing_lost ws writable

  -- the last tree
  last_tree : (x : LastOf module_rank 0 Fs)
      → lined_all 0 (map draw (roots_to ranks Fs)) ≡ lined_all 0 (map draw (roots_to module_rank Fs ++ x.front)) ++ (lined (0 + sizes (map draw (roots_to module_rank Fs ++ x.front))) (draw x.at) ++ [])
  unfolding roots_to lined_all
  last_tree x =
      let z : 0 + x.at ≡ x.at = omega arith in
      ap (λ (is : List ℕ). lined_all 0 (map draw is)) (ap (λ (q : List ℕ). roots_to module_rank Fs ++ q) (x.same ∙ ap (λ (m : ℕ). x.front ++ (m ∷ [])) z) ∙ sym (append_assoc (roots_to module_rank Fs) x.front (x.at ∷ [])))
      ∙ ap (lined_all 0) (map_append draw (roots_to module_rank Fs ++ x.front) (x.at ∷ []))
      ∙ all_append 0 (map draw (roots_to module_rank Fs ++ x.front)) (draw x.at ∷ [])

  module _ (l : 0 < length ws) (few : length ws ≤ 1024) (x : LastOf module_rank 0 Fs) (xs : List Drawn) (xs_is : xs ≡ map draw (roots_to module_rank Fs ++ x.front)) (out : List ℕ) (out_is : out ≡ lined_all 0 (map draw (roots_to ranks Fs))) where
    w : Within Fs levels x.at
    w = let r = x.is in roots_within ws writable x.at x.inside (omega arith)

    k : x.at < length ws
    k = let n = frames_length ws in let i = x.inside in omega arith

    same : out ≡ lined_all 0 xs ++ (lined (0 + sizes xs) (draw x.at) ++ [])
    same =
        out_is ∙ last_tree x
        ∙ ap (λ (ts : List Drawn). lined_all 0 ts ++ (lined (0 + sizes ts) (draw x.at) ++ [])) (sym xs_is)

    total : 0 + sizes xs + size (draw x.at) ≡ length out
    total =
        let a = all_lined 0 xs in
        let b = lined-length (0 + sizes xs) (draw x.at) in
        let c : length out ≡ length (lined_all 0 xs ++ (lined (0 + sizes xs) (draw x.at) ++ [])) = ap length same in
        let d = length-append (lined_all 0 xs) (lined (0 + sizes xs) (draw x.at) ++ []) in
        let e = length-append (lined (0 + sizes xs) (draw x.at)) [] in
        omega arith

    some : 0 < sizes xs
    some =
        let n = frames_length ws in
        let b = begins ws writable declarations (omega arith) in
        some_sizes xs _ (draw 0) (xs_is ∙ ap (λ (q : List ℕ). map draw (q ++ x.front)) b.same)

    lies : Lies out (0 + sizes xs) (draw x.at)
    lies =
        let a = all_lined 0 xs in
        let t = total in
        let o : length out ≡ length ws = ap length out_is ∙ lost in
        record { pre = lined_all 0 xs; after = []; len = omega arith; same = same; fits = drawn_fits ws writable w k; room = omega arith; begin = λ q. (let s = some in omega arith) }

    main_by : (j : ℕ) → suc j ≡ length (frames_of out) → is_main (frame_at (frames_of out) j) ≡ true
    main_by j e =
        let f = frames_length out in
        let t = total in
        let r = root_inside (0 + sizes xs) (draw x.at) in
        let q : j ≡ root_from (0 + sizes xs) (draw x.at) = omega arith in
        let kind : (frame_at (frames_of out) j).kind ≡ (frame_at Fs x.at).kind = ap (λ (i : ℕ). (frame_at (frames_of out) i).kind) q ∙ root_kind out (draw x.at) (0 + sizes xs) lies ∙ drawn_kind w k in
        let sis : (frame_at (frames_of out) j).s ≡ 0 = ap (λ (i : ℕ). (frame_at (frames_of out) i).s) q ∙ root_s out (draw x.at) (0 + sizes xs) lies ∙ drawn_s w k ∙ main_s x in
        ap₂ (λ (a b : Bool). a && b) (ap is_module kind ∙ module_rank_lem (frame_at Fs x.at).kind x.is) (eq-eqb (frame_at (frames_of out) j).s 0 sis)

  pub out_main : 0 < length ws → length ws ≤ 1024 → (j : ℕ)
      → suc j ≡ length (frames_of (laid_out (drawing ws)))
      → is_main (frame_at (frames_of (laid_out (drawing ws))) j) ≡ true
  unfolding drawing laid_out
  out_main l s j e =
      let n = frames_length ws in
      let x = main_last (omega arith) in
      main_by l s x (map draw (roots_to module_rank Fs ++ x.front)) refl (lined_all 0 (map draw (roots_to ranks Fs))) refl j e
