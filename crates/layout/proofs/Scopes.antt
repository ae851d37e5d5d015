-- What a file without fault has: the verdict `LaidOut`, depths of at most 24, room for its
-- variables, children before their parents, places where frames name some, `main` last. Assumes
-- nothing.
use mathlib.Core.Path.{◌≡◌, refl, sym, ap, ◌∙◌}
use mathlib.Core.Bool.{Bool, true, false}
use mathlib.Core.List.{List, [], ◌∷◌, ◌++◌}
use Prim.Native.Nat.{ℕ, suc, ◌-◌, ◌≤◌, ◌<◌}
use native.Mathlib.Omega.{arith}
use lib.Dec.{ltb}
use lib.ListN.{length}
use borrow.Author.Tests.{ltb-true, ltb-false, eqb-true}
use Rattle.basics.specs.Members.{In}
use Rattle.basics.proofs.Ifs.{and_true}
use Rattle.language.specs.declared.refusal.Rule.TheVariants.{WrongField, WrongOrder, TooDeep}
use Rattle.language.specs.Kinds.{uses, Child, child_in, children}
use Rattle.language.specs.declared.kind.StatementKind.TheVariants.{Let}
use Rattle.language.specs.declared.kind.Kind.{Kind}
use Rattle.language.specs.declared.kind.Kind.TheVariants.{Module, Statement}
use Rattle.language.specs.declared.kind.Use.{Use}
use Rattle.language.specs.declared.frame.Frame.{Frame}
use Rattle.language.proofs.PlaceLaws.{has_place_lem}
use Rattle.program.specs.Trees.{frame_at}
use Rattle.program.specs.Inner.Ordered.{Placed}
use Rattle.program.proofs.NodeLaws.{children_as, children_as_lem}
use Rattle.fields.specs.Fields.{schedulers_of, field_fine, frame_fine}
use Rattle.fields.proofs.FramePass.{fine_parts}
use Rattle.layout.specs.Verdicts.{LaidOut}
use Rattle.layout.specs.Order.{is_main}
use Rattle.layout.specs.Depths.{Depth}
use Rattle.layout.specs.Faults.{Fault, NoFault, LayoutSays}
use Rattle.layout.specs.Inner.Scans.{layout_of}
use Rattle.layout.specs.Inner.Scope.{Room}
use Rattle.layout.proofs.Trees.{is_module_lem, tree_in}
use Rattle.layout.proofs.Order.{all_trees}
use Rattle.layout.proofs.Layouts.{layout_says, layout_one}

-- ---- the verdict and the faults
pub laid_out_no_fault : (fs : List Frame) → 0 < length fs → layout_of fs ≡ LaidOut → NoFault fs
laid_out_no_fault fs l e = says (layout_says fs l)
  where
    says : LayoutSays fs (layout_of fs) → NoFault fs
    says h = rw e at h

pub no_fault_laid_out : (fs : List Frame) → 0 < length fs → NoFault fs → layout_of fs ≡ LaidOut
no_fault_laid_out fs l h = layout_one fs (layout_of fs) LaidOut (layout_says fs l) h

-- ---- depths and scopes
in_left : {c : Child} {xs : List Child} (ys : List Child) → In c xs → In c (xs ++ ys)
in_left ys In.first = In.first
in_left ys (In.later m) = In.later (in_left ys m)

in_right : {c : Child} (xs ys : List Child) → In c ys → In c (xs ++ ys)
in_right [] ys m = m
in_right (x ∷ xs) ys m = In.later (in_right xs ys m)

-- the children that the fields of a frame of a known kind name
module _ (f : Frame) (k : Kind) (e : f.kind ≡ k) where
  in_children : {c : Child} → In c (children_as k f) → In c (children f)
  in_children m = rw (children_as_lem f k e) m

  pub in_a : {c : Child} → In c (child_in (uses k).a f.a) → In c (children f)
  in_a m = in_children (in_left (child_in (uses k).c f.c) (in_left (child_in (uses k).b f.b) m))

  pub in_b : {c : Child} → In c (child_in (uses k).b f.b) → In c (children f)
  in_b m = in_children (in_left (child_in (uses k).c f.c) (in_right (child_in (uses k).a f.a) (child_in (uses k).b f.b) m))

module _ {fs : List Frame} where
  -- a module's body has room for its parameters
  pub room_body : (i n : ℕ) → i < length fs → (frame_at fs i).kind ≡ Module → n ≤ 2
      → Room fs (frame_at fs i).a n
  room_body i n l e m = record { depth = 1; stands = Depth.body l e; enough = m }

  -- a child has room for one variable more than its parent, which the body of a let needs, and so
  -- for as many
  pub room_more : {i n : ℕ} {c : Child} → Room fs i n → In c (children (frame_at fs i))
      → Room fs c.at (suc n)
  room_more r m = record { depth = suc r.depth; stands = Depth.child r.stands m; enough = (let l = r.enough in omega arith) }

  pub room_child : {i n : ℕ} {c : Child} → Room fs i n → In c (children (frame_at fs i))
      → Room fs c.at n
  room_child r m = record { depth = suc r.depth; stands = Depth.child r.stands m; enough = (let l = r.enough in omega arith) }

  pub room_let : {i n : ℕ} → Room fs i n → (frame_at fs i).kind ≡ Statement Let
      → Room fs (frame_at fs i).b (suc n)
  room_let {i} r e = room_more r (in_b (frame_at fs i) (Statement Let) e In.first)

-- ---- a file without fault
module _ (fs : List Frame) (fine : NoFault fs) where
  pub depth_most : {j d : ℕ} → Depth fs j d → d ≤ 24
  depth_most {j} {d} h = go (ltb 24 d) refl
    where
      go : (b : Bool) → ltb 24 d ≡ b → d ≤ 24
      go true e = absurd (fine TooDeep j (Fault.depth h (ltb-true 24 d e)))
      go false e = ltb-false 24 d e

  pub room_most : {i n : ℕ} → Room fs i n → n ≤ 25
  room_most r = let d = depth_most r.stands in let l = r.enough in omega arith

  -- so a let has room for one more
  pub room_let_most : {i n : ℕ} → Room fs i n → (frame_at fs i).kind ≡ Statement Let → n ≤ 24
  room_let_most r e = let l = room_most (room_let r e) in omega arith

  -- each child stands before its parent
  pub child_below : {i : ℕ} {c : Child} → i < length fs → In c (children (frame_at fs i)) → c.at < i
  child_below {i} l m = tree_in (all_trees fs (λ k f. fine WrongOrder k f) i l).tree m

  -- 'The last frame is main, a module with S 0.'
  pub main_last : 0 < length fs
      → ((frame_at fs (length fs - 1)).kind ≡ Module) × ((frame_at fs (length fs - 1)).s ≡ 0)
  main_last l = go (is_main (frame_at fs (length fs - 1))) refl
    where
      go : (b : Bool) → is_main (frame_at fs (length fs - 1)) ≡ b
          → ((frame_at fs (length fs - 1)).kind ≡ Module) × ((frame_at fs (length fs - 1)).s ≡ 0)
      go true e = (let p = and_true _ _ e in (is_module_lem _ p.0, eqb-true _ 0 p.1))
      go false e = absurd (fine WrongOrder (length fs - 1) (Fault.main (omega arith) e))

  -- ---- what 5 leaves of each frame
  pub frame_right : (i : ℕ) → i < length fs → frame_fine fs i (frame_at fs i) ≡ true
  frame_right i l = go (frame_fine fs i (frame_at fs i)) refl
    where
      go : (b : Bool) → frame_fine fs i (frame_at fs i) ≡ b → frame_fine fs i (frame_at fs i) ≡ true
      go true e = e
      go false e = absurd (fine WrongField i (Fault.field l e))

  -- 5 refuses 'a place that the file lacks'
  pub placed : Placed fs
  placed i l u =
      let f = frame_at fs i in
      let h = (fine_parts fs i f (frame_right i l)).1 in
      let p = sym (ap (λ (v : Use). field_fine fs i f v f.s) u) ∙ h in
      (has_place_lem (schedulers_of fs) f.s p).0
