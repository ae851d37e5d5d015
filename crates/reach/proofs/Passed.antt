-- What refusals 4 to 7 leave of each frame. Assumes nothing.
use mathlib.Core.Path.{◌≡◌, refl, sym, ap, subst, ◌∙◌}
use mathlib.Core.Bool.{Bool, true, false, true≢false}
use mathlib.Core.List.{List}
use Prim.Native.Nat.{ℕ, suc, ◌-◌, ◌≤◌, ◌<◌}
use native.Mathlib.Omega.{arith}
use native.Mathlib.Decide.{dec_lt}
use lib.Dec.{eqb}
use borrow.Author.Tests.{eqb-true}
use lib.ListN.{length, get_or-eq_default}
use Rattle.language.specs.declared.refusal.Rule.{Rule}
use Rattle.basics.specs.Members.{In}
use Rattle.basics.proofs.Ifs.{and_true}
use Rattle.language.specs.Kinds.{uses, class_of, Child, children}
use Rattle.language.specs.declared.kind.Kind.{Kind}
use Rattle.language.specs.declared.kind.Kind.TheVariants.{Module}
use Rattle.language.specs.declared.frame.Frame.{Frame}
use Rattle.program.specs.Trees.{frame_at, no_frame}
use Rattle.program.specs.Inner.Ordered.{Ordered}
use Rattle.program.proofs.NodeLaws.{children_as}
use Rattle.fields.specs.Fields.{schedulers_of, field_fine, kind_fine, frame_fine}
use Rattle.fields.proofs.FieldLaws.{fine_header}
use Rattle.layout.specs.Order.{Row, has_class, is_main}
use Rattle.layout.specs.Depths.{Depth}
use Rattle.layout.specs.Faults.{Fault, NoFault}
use Rattle.layout.proofs.Trees.{HasTree, row_of, is_module_lem}
use Rattle.layout.proofs.Order.{all_trees, is_ordered}
use Rattle.layout.proofs.SharedCells.{header_there}

pub not_wrong : (b : Bool) → (b ≡ false → ⊥) → b ≡ true
not_wrong true h = refl
not_wrong false h = absurd (h refl)

-- the fields of frame j, read as those of a frame of the kind k
pub record FieldsFine (fs : List Frame) (j : ℕ) (k : Kind) : Type 0 where
  pub kind : kind_fine fs j k ≡ true
  pub s : field_fine fs j (frame_at fs j) (uses k).s (frame_at fs j).s ≡ true
  pub a : field_fine fs j (frame_at fs j) (uses k).a (frame_at fs j).a ≡ true
  pub b : field_fine fs j (frame_at fs j) (uses k).b (frame_at fs j).b ≡ true
  pub c : field_fine fs j (frame_at fs j) (uses k).c (frame_at fs j).c ≡ true

-- a child of a frame of the kind k, one deeper
pub child_depth : {fs : List Frame} {j d : ℕ} {c : Child} (k : Kind) → (frame_at fs j).kind ≡ k
    → Depth fs j d → In c (children_as k (frame_at fs j)) → Depth fs c.at (suc d)
unfolding children
child_depth {fs} {j} {c =
    c} k e h m = Depth.child h (subst (λ (q : Kind). In c (children_as q (frame_at fs j))) (sym e) m)

module _ {fs : List Frame} (fine : NoFault fs) where
  -- 'B schedulers, 1 to 8'
  pub schedulers_range : (1 ≤ schedulers_of fs) × (schedulers_of fs ≤ 8)
  schedulers_range =
      let h = fine_header fs (header_there fs fine) in (h.some_schedulers, h.few_schedulers)

  pub some_frame : 0 < length fs
  some_frame = go (dec_lt 0 (length fs))
    where
      go : Dec (0 < length fs) → 0 < length fs
      go (yes l) = l
      go (no n) =
          let b = schedulers_range.0 in
          let z : (frame_at fs 0).b ≡ 0 = ap (λ (f : Frame). f.b) (get_or-eq_default fs no_frame {n = 0} (omega (arith, n))) in
          absurd (omega arith)

  pub fields : (j : ℕ) → j < length fs → (k : Kind) → (frame_at fs j).kind ≡ k → FieldsFine fs j k
  unfolding frame_fine
  fields j l k e =
      let w : frame_fine fs j (frame_at fs j) ≡ true = not_wrong _ (λ f. fine Rule.WrongField j (Fault.field l f)) in
      subst (FieldsFine fs j) e
      (let p = and_true _ (field_fine fs j (frame_at fs j) (uses (frame_at fs j).kind).c (frame_at fs j).c) w in
      let q = and_true _ (field_fine fs j (frame_at fs j) (uses (frame_at fs j).kind).b (frame_at fs j).b) p.0 in
      let r = and_true _ (field_fine fs j (frame_at fs j) (uses (frame_at fs j).kind).a (frame_at fs j).a) q.0 in
      let s = and_true (kind_fine fs j (frame_at fs j).kind) (field_fine fs j (frame_at fs j) (uses (frame_at fs j).kind).s (frame_at fs j).s) r.0 in
      record { kind = s.0; s = s.1; a = r.1; b = q.1; c = p.1 })

  pub trees : (j : ℕ) → j < length fs → HasTree fs j
  trees = all_trees fs (fine Rule.WrongOrder)

  -- the row of its children, where it is of the kind k
  pub row_at : (j : ℕ) (l : j < length fs) (k : Kind) → (frame_at fs j).kind ≡ k
      → Row fs (trees j l).from j (children_as k (frame_at fs j))
  row_at j l k e = row_of k j _ e (trees j l).tree

  pub order : Ordered fs
  order = is_ordered fs (fine Rule.WrongOrder)

  -- a statement or an expression stands in the file
  pub inside : (j : ℕ) (k : Kind) → (frame_at fs j).kind ≡ k → has_class (class_of k) ≡ true
      → j < length fs
  inside j k e c = go (dec_lt j (length fs))
    where
      go : Dec (j < length fs) → j < length fs
      go (yes l) = l
      go (no n) =
          let z : frame_at fs j ≡ no_frame = get_or-eq_default fs no_frame {n = j} (omega (arith, n)) in
          absurd (true≢false (sym c ∙ ap (λ (q : Kind). has_class (class_of q)) (sym e) ∙ ap (λ (f : Frame). has_class (class_of f.kind)) z))

  -- 'The last frame is main, a module with S 0.'
  pub last_main : ((frame_at fs (length fs - 1)).kind ≡ Module) × ((frame_at fs (length fs - 1)).s ≡ 0)
  last_main =
      let l = some_frame in
      let m : is_main (frame_at fs (length fs - 1)) ≡ true = not_wrong _ (λ e. fine Rule.WrongOrder (length fs - 1) (Fault.main (omega arith) e)) in
      let r = and_true _ (eqb (frame_at fs (length fs - 1)).s 0) m in
      (is_module_lem _ r.0, eqb-true _ 0 r.1)

  -- 'the whole tree is at most 24 deep'
  pub not_deeper : {j d : ℕ} → Depth fs j d → d ≡ 25 → ⊥
  not_deeper {j} h e = fine Rule.TooDeep j (Fault.depth h (omega arith))
