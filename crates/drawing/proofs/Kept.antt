-- The lines laid out from a writable file have no fault 4 or 5: the header is the same, each has the
-- kind and the fields of one of the file's lines, and of shared cells, events and modules there are
-- the same. Assumes nothing.
use mathlib.Core.Path.{◌≡◌, refl, sym, ap, ap₂, subst, ◌∙◌}
use mathlib.Core.Bool.{Bool, true, false, not, ◌&&◌, ◌||◌, true≢false}
use mathlib.Core.List.{List, [], ◌∷◌, ◌++◌}
use Prim.Native.Nat.{ℕ, zero, suc, ◌+◌, ◌%◌, ◌^◌, ◌≤◌, ◌<◌}
use native.Mathlib.Omega.{arith}
use lib.Dec.{leb, eqb}
use lib.ListN.{length, get_or, take}
use borrow.Author.Tests.{eqb-true, eqb-false, eq-eqb, ne_eqb, ltb-true, lt-ltb}
use Rattle.basics.specs.If.{when◌then◌else◌}
use Rattle.basics.specs.Members.{All}
use Rattle.basics.proofs.Ifs.{if_yes, if_no, and_true, or_on}
use Rattle.language.specs.declared.refusal.Rule.TheVariants.{WrongField}
use Rattle.language.specs.Limits.{most_schedulers, most_shared, most_events, most_modules}
use Rattle.language.specs.Kinds.{declaration_rank, is_header, is_shared, is_event, is_module, uses}
use Rattle.language.specs.Kinds.{child_in}
use Rattle.language.specs.declared.kind.DeclarationKind.TheVariants.{Shared, Event, Link}
use Rattle.language.specs.declared.kind.StatementKind.{StatementKind}
use Rattle.language.specs.declared.kind.ExpressionKind.{ExpressionKind}
use Rattle.language.specs.declared.kind.Kind.{Kind}
use Rattle.language.specs.declared.kind.Kind.TheVariants.{Header, Declared, Module, Statement}
use Rattle.language.specs.declared.kind.Kind.TheVariants.{Expression, Unknown}
use Rattle.language.specs.declared.kind.Use.{Use}
use Rattle.language.specs.declared.frame.Frame.{Frame}
use Rattle.text.specs.Frames.{frame_of_word, frames_of}
use Rattle.text.proofs.FrameWords.{frames_length, frame_at_lem}
use Rattle.program.specs.Trees.{no_frame, frame_at}
use Rattle.program.specs.Programs.{SharedCell, cell_of, shared_of}
use Rattle.program.proofs.OneMore.{shared_yes, shared_no}
use Rattle.fields.specs.Fields.{schedulers_of, field_fine, count_of, kind_fine}
use Rattle.fields.specs.Fields.{header_fine, frame_fine}
use Rattle.fields.proofs.Tallies.{is_shared_lem}
use Rattle.layout.specs.Faults.{Fault}
use Rattle.layout.proofs.Trees.{is_module_lem}
use Rattle.drawing.specs.Drawings.{head_of, Drawn, Field, node, kept, child, field_with}
use Rattle.drawing.specs.Drawings.{node_with, module_rank, rank, ranks}
use Rattle.drawing.specs.Drawings.{drawing, laid_out}
use Rattle.drawing.specs.Writings.{Writable}
use Rattle.drawing.proofs.Lines.{frame_head}
use Rattle.drawing.proofs.Roots.{rank_of}
use Rattle.drawing.proofs.Writables.{same_drawing, is_header_lem, first_kind}
use Rattle.drawing.proofs.Headers.{out_header}
use Rattle.drawing.proofs.Origins.{Like, out_lines}
use Rattle.drawing.proofs.Picks.{pick_trees, pick_frames, picked}
use Rattle.drawing.proofs.Earlier.{few_all, few_before, Contents, contents_of, contents_at}

-- ---- ranks and kinds
header_test : (k : Kind) → is_header k ≡ eqb (rank k) 0
header_test Header = refl
header_test (Declared Shared) = refl
header_test (Declared Event) = refl
header_test (Declared Link) = refl
header_test Module = refl
header_test (Statement k) = refl
header_test (Expression k) = refl
header_test Unknown = refl

shared_test : (k : Kind) → is_shared k ≡ eqb (rank k) (declaration_rank Shared)
shared_test Header = refl
shared_test (Declared Shared) = refl
shared_test (Declared Event) = refl
shared_test (Declared Link) = refl
shared_test Module = refl
shared_test (Statement k) = refl
shared_test (Expression k) = refl
shared_test Unknown = refl

event_test : (k : Kind) → is_event k ≡ eqb (rank k) (declaration_rank Event)
event_test Header = refl
event_test (Declared Shared) = refl
event_test (Declared Event) = refl
event_test (Declared Link) = refl
event_test Module = refl
event_test (Statement k) = refl
event_test (Expression k) = refl
event_test Unknown = refl

module_test : (k : Kind) → is_module k ≡ eqb (rank k) module_rank
module_test Header = refl
module_test (Declared Shared) = refl
module_test (Declared Event) = refl
module_test (Declared Link) = refl
module_test Module = refl
module_test (Statement k) = refl
module_test (Expression k) = refl
module_test Unknown = refl

-- ---- how many there are of a kind is the same where the drawing is
module _ (test : Kind → Bool) (r : ℕ) (by_rank : (k : Kind) → test k ≡ eqb (rank k) r) where
  count_picked : (fs : List Frame)
      → count_of test fs ≡ length (pick_frames {A = ℕ} r (λ (f : Frame). 0) fs)
  unfolding count_of pick_frames
  count_picked [] = refl
  count_picked (f ∷ fs) = go (test f.kind) refl (count_picked fs)
    where
      go : (b : Bool) → test f.kind ≡ b
          → count_of test fs ≡ length (pick_frames {A = ℕ} r (λ (f : Frame). 0) fs)
          → (when test f.kind then 1 else 0) + count_of test fs ≡ length ((when eqb (rank_of f) r then 0 ∷ [] else []) ++ pick_frames {A = ℕ} r (λ (f : Frame). 0) fs)
      go true e h =
          rw (if_yes {A = ℕ} 1 0 e, if_yes {A = List ℕ} (0 ∷ []) [] (sym (by_rank f.kind) ∙ e)) (omega arith)
      go false e h =
          rw (if_no {A = ℕ} 1 0 e, if_no {A = List ℕ} (0 ∷ []) [] (sym (by_rank f.kind) ∙ e)) (omega arith)

  pub same_count : (vs ws : List ℕ) → r < ranks → drawing vs ≡ drawing ws
      → count_of test (frames_of vs) ≡ count_of test (frames_of ws)
  same_count vs ws l e =
      let g : Drawn → ℕ = λ t. 0 in
      let h : Frame → ℕ = λ f. 0 in
      count_picked (frames_of vs)
      ∙ ap length (sym (picked r g vs h (λ draw w q. refl) l) ∙ ap (pick_trees r g) e ∙ picked r g ws h (λ draw w q. refl) l)
      ∙ sym (count_picked (frames_of ws))

-- ---- and so are the shared cells
abbrev kept_of : Field → ℕ
kept_of (kept v) = v
kept_of (child t) = 0

abbrev cell_of_tree : Drawn → SharedCell
cell_of_tree (node h a b c) = record { owner = h % 16 ^ 2; content = kept_of a; first = kept_of b }

rank_shared : (k : Kind) → rank k ≡ declaration_rank Shared → k ≡ Declared Shared
rank_shared k e = is_shared_lem k (shared_test k ∙ eq-eqb (rank k) (declaration_rank Shared) e)

cell_same : {o p x y u v : ℕ} → o ≡ p → x ≡ y → u ≡ v
    → ◌≡◌ {A = SharedCell} (record { owner = o; content = x; first = u }) (record { owner = p; content = y; first = v })
cell_same e f g = cc

cell_drawn : (draw : ℕ → Drawn) (w : ℕ) → rank (frame_of_word w).kind ≡ declaration_rank Shared
    → cell_of_tree (node_with draw (head_of w) (frame_of_word w)) ≡ cell_of (frame_of_word w)
cell_drawn draw w e =
    let f = frame_of_word w in
    let k = rank_shared (frame_of_word w).kind e in
    cell_same (sym (ap (λ (g : Frame). g.s) (frame_head w)))
    (ap (λ (q : Kind). kept_of (field_with draw f.a (child_in (uses q).a f.a))) k)
    (ap (λ (q : Kind). kept_of (field_with draw f.b (child_in (uses q).b f.b))) k)

shared_picked : (fs : List Frame) → shared_of fs ≡ pick_frames (declaration_rank Shared) cell_of fs
unfolding shared_of pick_frames
shared_picked [] = refl
shared_picked (f ∷ fs) = go (is_shared f.kind) refl (shared_picked fs)
  where
    go : (b : Bool) → is_shared f.kind ≡ b
        → shared_of fs ≡ pick_frames (declaration_rank Shared) cell_of fs
        → shared_of (f ∷ fs) ≡ (when eqb (rank_of f) (declaration_rank Shared) then cell_of f ∷ [] else []) ++ pick_frames (declaration_rank Shared) cell_of fs
    go true e h =
        shared_yes f fs e
        ∙ ap₂ (λ (xs ys : List SharedCell). xs ++ ys) (sym (if_yes (cell_of f ∷ []) [] (sym (shared_test f.kind) ∙ e))) h
    go false e h =
        shared_no f fs e
        ∙ ap₂ (λ (xs ys : List SharedCell). xs ++ ys) (sym (if_no (cell_of f ∷ []) [] (sym (shared_test f.kind) ∙ e))) h

same_shared : (vs ws : List ℕ) → drawing vs ≡ drawing ws
    → shared_of (frames_of vs) ≡ shared_of (frames_of ws)
same_shared vs ws e =
    shared_picked (frames_of vs)
    ∙ sym (picked (declaration_rank Shared) cell_of_tree vs cell_of cell_drawn (omega arith))
    ∙ ap (pick_trees (declaration_rank Shared) cell_of_tree) e
    ∙ picked (declaration_rank Shared) cell_of_tree ws cell_of cell_drawn (omega arith)
    ∙ sym (shared_picked (frames_of ws))

-- ---- a field that is right stays so, but for a first content
abbrev is_first : Use → Bool
is_first Use.FirstContent = true
is_first Use.Unused = false
is_first Use.Free = false
is_first Use.Truth = false
is_first Use.Place = false
is_first Use.Scheduler = false
is_first Use.Lower = false
is_first Use.Statement = false
is_first Use.Expression = false
is_first Use.Argument = false
is_first Use.Further = false
is_first Use.ContentType = false
is_first Use.Parameters = false
is_first Use.FirstType = false
is_first Use.SecondType = false

-- only the B of a shared cell is one
record Firsts (k : Kind) : Type 0 where
  s : is_first (uses k).s ≡ false
  a : is_first (uses k).a ≡ false
  b : is_first (uses k).b ≡ is_shared k
  c : is_first (uses k).c ≡ false

of_statement : (k : StatementKind) → Firsts (Statement k)
of_statement StatementKind.Nothing = record { s = refl; a = refl; b = refl; c = refl }
of_statement StatementKind.Then = record { s = refl; a = refl; b = refl; c = refl }
of_statement StatementKind.DoAt = record { s = refl; a = refl; b = refl; c = refl }
of_statement StatementKind.Start = record { s = refl; a = refl; b = refl; c = refl }
of_statement StatementKind.StartWait = record { s = refl; a = refl; b = refl; c = refl }
of_statement StatementKind.Cooperate = record { s = refl; a = refl; b = refl; c = refl }
of_statement StatementKind.Let = record { s = refl; a = refl; b = refl; c = refl }
of_statement StatementKind.Store = record { s = refl; a = refl; b = refl; c = refl }
of_statement StatementKind.If = record { s = refl; a = refl; b = refl; c = refl }
of_statement StatementKind.While = record { s = refl; a = refl; b = refl; c = refl }
of_statement StatementKind.Generate = record { s = refl; a = refl; b = refl; c = refl }
of_statement StatementKind.Await = record { s = refl; a = refl; b = refl; c = refl }

of_expression : (k : ExpressionKind) → Firsts (Expression k)
of_expression ExpressionKind.Number = record { s = refl; a = refl; b = refl; c = refl }
of_expression ExpressionKind.Truth = record { s = refl; a = refl; b = refl; c = refl }
of_expression ExpressionKind.Variable = record { s = refl; a = refl; b = refl; c = refl }
of_expression ExpressionKind.SharedCell = record { s = refl; a = refl; b = refl; c = refl }
of_expression ExpressionKind.NewCell = record { s = refl; a = refl; b = refl; c = refl }
of_expression ExpressionKind.Content = record { s = refl; a = refl; b = refl; c = refl }
of_expression ExpressionKind.Sum = record { s = refl; a = refl; b = refl; c = refl }
of_expression ExpressionKind.Less = record { s = refl; a = refl; b = refl; c = refl }
of_expression ExpressionKind.Choose = record { s = refl; a = refl; b = refl; c = refl }

firsts : (k : Kind) → Firsts k
firsts Header = record { s = refl; a = refl; b = refl; c = refl }
firsts (Declared Shared) = record { s = refl; a = refl; b = refl; c = refl }
firsts (Declared Event) = record { s = refl; a = refl; b = refl; c = refl }
firsts (Declared Link) = record { s = refl; a = refl; b = refl; c = refl }
firsts Module = record { s = refl; a = refl; b = refl; c = refl }
firsts (Statement k) = of_statement k
firsts (Expression k) = of_expression k
firsts Unknown = record { s = refl; a = refl; b = refl; c = refl }

-- 'a B without A'
further_again : (v w x y : ℕ) → (0 < x → 0 < y) → (v ≡ 0 → w ≡ 0)
    → (eqb v 0 || not (eqb x 0)) ≡ true → (eqb w 0 || not (eqb y 0)) ≡ true
further_again v w x y p q h = go (eqb v 0) refl (eqb x 0) refl
  where
    go : (b : Bool) → eqb v 0 ≡ b → (d : Bool) → eqb x 0 ≡ d → (eqb w 0 || not (eqb y 0)) ≡ true
    go true e d g = rw (eq-eqb w 0 (q (eqb-true v 0 e)))
    go false e true g = absurd (true≢false (sym (rw (e, g) at h)))
    go false e false g =
        let z = eqb-false x 0 g in
        let u = p (omega (arith, z)) in
        rw (ne_eqb y 0 (λ i. omega arith)) (or_on (eqb w 0))

module _ (fs gs : List Frame) (i j : ℕ) (f g : Frame) (same : frame_at gs 0 ≡ frame_at fs 0) (s_same : g.s ≡ f.s) (some : 0 < f.a → 0 < g.a) where
  schedulers : schedulers_of gs ≡ schedulers_of fs
  schedulers = ap (λ (q : Frame). q.b) same

  field_again : (u : Use) (v w : ℕ) → (child_in u v ≡ [] → w ≡ v) → is_first u ≡ false
      → field_fine fs i f u v ≡ true → field_fine gs j g u w ≡ true
  field_again Use.Unused v w k n h = rw (k refl) h
  field_again Use.Free v w k n h = refl
  field_again Use.Truth v w k n h = rw (k refl) h
  field_again Use.Place v w k n h = rw (k refl, schedulers) h
  field_again Use.Scheduler v w k n h = rw (k refl, schedulers) h
  field_again Use.Lower v w k n h = rw (k refl, schedulers, s_same) h
  field_again Use.Statement v w k n h = refl
  field_again Use.Expression v w k n h = refl
  field_again Use.Argument v w k n h = refl
  field_again Use.Further v w k n h = further_again v w f.a g.a some (λ e. none v e k) h
    where
      none : (v : ℕ) → v ≡ 0 → (child_in Use.Further v ≡ [] → w ≡ v) → w ≡ 0
      none zero e k = k refl
      none (suc v) e k = absurd (omega arith)
  field_again Use.ContentType v w k n h = rw (k refl, schedulers) h
  field_again Use.FirstContent v w k n h = absurd (true≢false n)
  field_again Use.Parameters v w k n h = rw (k refl) h
  field_again Use.FirstType v w k n h = rw (k refl, schedulers, s_same) h
  field_again Use.SecondType v w k n h = rw (k refl, schedulers, s_same) h

-- ---- a writable file
all_at : {P : ℕ → Type 0} {ws : List ℕ} → All P ws → (p : ℕ) → p < length ws → P (get_or ws p 0)
all_at All.none p l = absurd (omega arith)
all_at (All.more h a) zero l = h
all_at (All.more h a) (suc p) l = all_at a p (omega arith)

none_before : (test : Kind → Bool) (fs : List Frame) → count_of test (take 0 fs) ≡ 0
unfolding count_of
none_before test fs = refl

first_only : (p : ℕ) (gs : List Frame) → (frame_at gs 0).kind ≡ Header → p < length gs
    → count_of is_header (take p gs) ≡ 0 → p ≡ 0
unfolding count_of
first_only zero gs k q c = refl
first_only (suc p) [] k q c = absurd (omega arith)
first_only (suc p) (g ∷ gs) k q c =
    absurd (let z = if_yes {A = ℕ} 1 0 (ap is_header k) in omega arith)

-- the five parts of what 5 asks of a frame
record Parts (fs : List Frame) (i : ℕ) (f : Frame) : Type 0 where
  kind : kind_fine fs i f.kind ≡ true
  s : field_fine fs i f (uses f.kind).s f.s ≡ true
  a : field_fine fs i f (uses f.kind).a f.a ≡ true
  b : field_fine fs i f (uses f.kind).b f.b ≡ true
  c : field_fine fs i f (uses f.kind).c f.c ≡ true

parts_of : (fs : List Frame) (i : ℕ) (f : Frame) → frame_fine fs i f ≡ true → Parts fs i f
unfolding frame_fine
parts_of fs i f h =
    let p = and_true _ _ h in
    let q = and_true _ _ p.0 in
    let r = and_true _ _ q.0 in
    let t = and_true _ _ r.0 in
    record { kind = t.0; s = t.1; a = r.1; b = q.1; c = p.1 }

fine_by : (fs : List Frame) (i : ℕ) (f : Frame) → Parts fs i f → frame_fine fs i f ≡ true
unfolding frame_fine
fine_by fs i f p = rw (p.kind, p.s, p.a, p.b, p.c)

module _ (ws : List ℕ) (writable : Writable (frames_of ws)) (l : 0 < length ws) (most : length ws ≤ 1024) where
  abbrev Fs : List Frame
  Fs = frames_of ws

  abbrev Out : List ℕ
  Out = laid_out (drawing ws)

  abbrev Gs : List Frame
  Gs = frames_of Out

  fine : (i : ℕ) → i < length Fs → Parts Fs i (frame_at Fs i)
  fine i k = parts_of Fs i (frame_at Fs i) (go (frame_fine Fs i (frame_at Fs i)) refl)
    where
      go : (b : Bool) → frame_fine Fs i (frame_at Fs i) ≡ b → frame_fine Fs i (frame_at Fs i) ≡ true
      go true e = e
      go false e = absurd (writable.early WrongField i (omega arith) (Fault.field k e))

  same : drawing Out ≡ drawing ws
  same = same_drawing ws writable l most

  -- what the kind of a frame asks of the file
  kind_of : (i : ℕ) (k : Kind) → (frame_at Fs i).kind ≡ k → i < length Fs → kind_fine Fs i k ≡ true
  kind_of i k e q = ap (kind_fine Fs i) (sym e) ∙ (fine i q).kind

  headers : count_of is_header Gs ≤ 1
  headers =
      let a = few_all is_header 1 0 Fs (omega arith) (λ j q e. (let z = eqb-true j 0 (kind_of j Header (is_header_lem (frame_at Fs j).kind e) q) in subst (λ (k : ℕ). 0 + count_of is_header (take k Fs) < 1) (sym z) (omega (arith, none_before is_header Fs)))) in
      let b = same_count is_header 0 header_test Out ws (omega arith) same in
      omega arith

  cells : count_of is_shared Gs ≤ most_shared
  cells =
      let a = few_all is_shared most_shared 0 Fs (omega arith) (λ j q e. (let z = ltb-true (count_of is_shared (take j Fs)) most_shared (kind_of j (Declared Shared) (is_shared_lem (frame_at Fs j).kind e) q) in omega arith)) in
      let b = same_count is_shared (declaration_rank Shared) shared_test Out ws (omega arith) same in
      omega arith

  modules : count_of is_module Gs ≤ most_modules
  modules =
      let a = few_all is_module most_modules 0 Fs (omega arith) (λ j q e. (let z = ltb-true (count_of is_module (take j Fs)) most_modules (kind_of j Module (is_module_lem (frame_at Fs j).kind e) q) in omega arith)) in
      let b = same_count is_module module_rank module_test Out ws (omega arith) same in
      omega arith

  contents : Contents [] (shared_of Gs)
  contents =
      subst (Contents []) (sym (same_shared Out ws same)) (contents_of [] Fs (λ j q e. (let k = is_shared_lem (frame_at Fs j).kind e in sym (ap (λ (x : Kind). field_fine Fs j (frame_at Fs j) (uses x).b (frame_at Fs j).b) k) ∙ (fine j q).b)))

  -- the header is the same, and there are as many events
  pub out_header_fine : header_fine Gs ≡ header_fine Fs
  unfolding header_fine
  out_header_fine =
      ap₂ (λ (h : Frame) (n : ℕ). is_header h.kind && eqb h.s 1 && leb 1 h.b && leb h.b most_schedulers && leb h.c most_events && eqb n h.c) (out_header ws writable l)
      (same_count is_event (declaration_rank Event) event_test Out ws (omega arith) same)

  -- the header stands first, so another one would be a second
  header_first : (p : ℕ) → p < length Gs → (frame_at Gs p).kind ≡ Header → p ≡ 0
  header_first p q e =
      let a = few_before is_header Gs p q (ap is_header e) in
      let h = headers in
      first_only p Gs (ap (λ (f : Frame). f.kind) (out_header ws writable l) ∙ first_kind ws writable) q (omega arith)

  kind_kept : (p i : ℕ) (k : Kind) → p < length Gs → i < length Fs → (frame_at Gs p).kind ≡ k
      → (frame_at Fs i).kind ≡ k → kind_fine Gs p k ≡ true
  kind_kept p i Header q r e d = eq-eqb p 0 (header_first p q e)
  kind_kept p i (Declared Shared) q r e d =
      let a = few_before is_shared Gs p q (ap is_shared e) in
      let b = cells in
      lt-ltb (count_of is_shared (take p Gs)) most_shared (omega arith)
  kind_kept p i (Declared Event) q r e d = refl
  kind_kept p i (Declared Link) q r e d = refl
  kind_kept p i Module q r e d =
      let a = few_before is_module Gs p q (ap is_module e) in
      let b = modules in
      lt-ltb (count_of is_module (take p Gs)) most_modules (omega arith)
  kind_kept p i (Statement k) q r e d = refl
  kind_kept p i (Expression k) q r e d = refl
  kind_kept p i Unknown q r e d = absurd (true≢false (sym (kind_of i Unknown d r)))

  -- each line laid out is like one of the file's
  module _ (p i : ℕ) (q : p < length Gs) (r : i < length Fs) (like : Like (frame_at Fs i) (frame_at Gs p)) where
    abbrev f : Frame
    f = frame_at Fs i

    abbrev g : Frame
    g = frame_at Gs p

    again : (u : Use) (v w : ℕ) → (child_in u v ≡ [] → w ≡ v) → is_first u ≡ false
        → field_fine Fs i f u v ≡ true → field_fine Gs p g u w ≡ true
    again = field_again Fs Gs i p f g (out_header ws writable l) like.s like.some

    second : (b : Bool) → is_shared f.kind ≡ b
        → field_fine Gs p g (uses f.kind).b g.b ≡ true
    second true e =
        let k = is_shared_lem f.kind e in
        ap (λ (x : Kind). field_fine Gs p g (uses x).b g.b) k
        ∙ contents_at [] Gs contents p q (ap is_shared like.kind ∙ e)
    second false e =
        again (uses f.kind).b f.b g.b like.b ((firsts f.kind).b ∙ e) (fine i r).b

    as_like : Parts Gs p g
    as_like =
        let k = like.kind in
        let n = firsts f.kind in
        record {
          kind = kind_kept p i g.kind q r refl (sym k);
          s =
              ap (λ (x : Kind). field_fine Gs p g (uses x).s g.s) k
              ∙ again (uses f.kind).s f.s g.s (λ e. like.s) n.s (fine i r).s;
          a =
              ap (λ (x : Kind). field_fine Gs p g (uses x).a g.a) k
              ∙ again (uses f.kind).a f.a g.a like.a n.a (fine i r).a;
          b =
              ap (λ (x : Kind). field_fine Gs p g (uses x).b g.b) k
              ∙ second (is_shared f.kind) refl;
          c =
              ap (λ (x : Kind). field_fine Gs p g (uses x).c g.c) k
              ∙ again (uses f.kind).c f.c g.c like.c n.c (fine i r).c;
        }

  pub out_fields : (p : ℕ) → p < length Gs → frame_fine Gs p (frame_at Gs p) ≡ true
  out_fields p q =
      let n = frames_length Out in
      let o = all_at (out_lines ws writable l most) p (omega arith) in
      let e : frame_at Gs p ≡ frame_of_word (get_or Out p 0) = frame_at_lem Out p no_frame (omega arith) in
      fine_by Gs p (frame_at Gs p) (as_like p o.at q o.inside (subst (Like (frame_at Fs o.at)) (sym e) o.like))
