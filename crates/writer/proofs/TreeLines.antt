-- The lines of a tree, as the recursion writes them: its children's, then its own. Assumes nothing.
use mathlib.Core.Path.{◌≡◌, sym, ap, ap₂, subst, ◌∙◌}
use mathlib.Core.Bool.{Bool, true, false}
use mathlib.Core.List.{List, [], ◌∷◌, ◌++◌, append_assoc}
use Prim.Native.Nat.{ℕ, suc, ◌+◌, ◌-◌, ◌*◌, ◌^◌, ◌≤◌, ◌<◌}
use native.Mathlib.Omega.{arith}
use lib.ListN.{length, get_or, length-append}
use Rattle.basics.specs.Members.{In}
use Rattle.basics.proofs.Ifs.{if_yes, if_no}
use Rattle.language.specs.Kinds.{uses, Child, child_in, children}
use Rattle.language.specs.declared.frame.Frame.{Frame}
use Rattle.language.specs.declared.kind.Use.{Use}
use Rattle.language.specs.declared.kind.Uses.{Uses}
use Rattle.text.specs.Frames.{frame_of_word, frames_of}
use Rattle.text.proofs.FrameWords.{frame_at_lem}
use Rattle.program.specs.Trees.{no_frame, frame_at}
use Rattle.drawing.specs.Drawings.{line_from, head_of, Drawn, Field, node, kept, child, size, size_in}
use Rattle.drawing.specs.Drawings.{node_with, drawn, root_from, value_from, root_line, lined, lined_in}
use Rattle.drawing.specs.Inner.Heights.{Within, within}
use Rattle.drawing.proofs.Back.{lined_in-length, root_inside, node_same}
use Rattle.drawing.proofs.InOrder.{in_left, in_right}
use Rattle.drawing.proofs.Counted.{lines_inside}
use Rattle.writer.specs.declared.child.Holds.{Holds}
use Rattle.writer.specs.declared.child.ChildFields.{ChildFields}
use Rattle.writer.specs.declared.emit.Placed.{Placed}
use Rattle.writer.specs.Inner.Fields.{holds_of, child_fields, names_child, field_by, placed_from}
use Rattle.writer.specs.Inner.Placing.{with_lines, LineRoom, HasTree, FieldHasTree}
use Rattle.writer.proofs.FieldLaws.{field_by_lem, Named, named}
use Rattle.writer.proofs.Buffers.{lines_none, lines_length, lines_next}

-- ---- what a call measures: a tree's levels, and a field's in between
pub field_falls : (l t : ℕ) → 2 * l ≡ t → 1 ≤ l → 2 * (l - 1) + 1 < t
field_falls l t e s = omega arith

pub tree_falls : (l t : ℕ) → 2 * l + 1 ≡ t → 2 * l < t
tree_falls l t e = omega arith

-- ---- a field
module _ (ws : List ℕ) (d : ℕ) (h : Holds) (v : ℕ) where
  abbrev X : Field
  X = field_by (drawn d ws) h v

  -- j is v, as the code's index
  module _ (x : Bool) (ex : x ≡ names_child h v) (e : x ≡ true) (j : ℕ) (same : j ≡ v) where
    is_child : X ≡ child (drawn d ws j)
    unfolding field_by
    is_child =
        if_yes (child (drawn d ws v)) (kept v) (sym ex ∙ e)
        ∙ ap (λ (k : ℕ). child (drawn d ws k)) (sym same)

    pub child_tree : FieldHasTree ws d h v → HasTree ws d j
    child_tree t = subst (HasTree ws d) (sym same) (t.tree (sym ex ∙ e))

    pub child_room : (n : ℕ) (out : List ℕ) → LineRoom out n (size_in X)
        → LineRoom out n (size (drawn d ws j))
    unfolding size_in
    child_room n out r = subst (λ (f : Field). LineRoom out n (size_in f)) is_child r

    pub child_next : (n : ℕ) (out : List ℕ) (r : ℕ) → r ≡ n + size (drawn d ws j)
        → LineRoom out n (size_in X) → (1 ≤ r) × (r - 1 < 2 ^ 16)
    child_next n out r er room =
        let q = root_inside n (drawn d ws j) in
        let k = (child_room n out room).few in
        (omega arith, omega arith)

    pub child_written : (n : ℕ) (out new : List ℕ)
        → new ≡ with_lines out n (lined n (drawn d ws j)) → new ≡ with_lines out n (lined_in n X)
    unfolding lined_in
    child_written n out new en =
        en ∙ ap (λ (f : Field). with_lines out n (lined_in n f)) (sym is_child)

    pub child_placed : (n r : ℕ) → r ≡ n + size (drawn d ws j)
        → record { value = r - 1; next = r } ≡ placed_from n X
    unfolding size_in value_from
    child_placed n r er =
        let q = root_inside n (drawn d ws j) in
        let a : r - 1 ≡ root_from n (drawn d ws j) = omega arith in
        placed_same a er ∙ ap (placed_from n) (sym is_child)
      where
        placed_same : {p q r s : ℕ} → p ≡ q → r ≡ s
            → ◌≡◌ {A = Placed} (record { value = p; next = r }) (record { value = q; next = s })
        placed_same e f = cc

  module _ (x : Bool) (ex : x ≡ names_child h v) (e : x ≡ false) where
    is_kept : X ≡ kept v
    unfolding field_by
    is_kept = if_no (child (drawn d ws v)) (kept v) (sym ex ∙ e)

    pub kept_written : (n : ℕ) (out : List ℕ) → out ≡ with_lines out n (lined_in n X)
    unfolding lined_in
    kept_written n out =
        lines_none out n ∙ ap (λ (f : Field). with_lines out n (lined_in n f)) (sym is_kept)

    pub kept_placed : (n : ℕ) → record { value = v; next = n } ≡ placed_from n X
    unfolding size_in value_from
    kept_placed n =
        let z : n ≡ n + 0 = omega arith in
        ap (λ (k : ℕ). record { value = v; next = k }) z ∙ ap (placed_from n) (sym is_kept)

-- ---- a tree
record Under (fs : List Frame) (l i : ℕ) : Type 0 where
  some : 0 < l
  each : (c : Child) → In c (children (frame_at fs i)) → Within fs (l - 1) c.at

under : {fs : List Frame} {l i : ℕ} → Within fs l i → Under fs l i
under {fs} (within {d = d} g) =
    let e : d ≡ suc d - 1 = omega arith in
    record { some = omega arith; each = λ c m. subst (λ (k : ℕ). Within fs k c.at) e (g c m) }

pub some_levels : (ws : List ℕ) (l i : ℕ) → HasTree ws l i → 1 ≤ l
some_levels ws l i t = (under t.within).some

node_by : (draw : ℕ → Drawn) (k : ℕ) (f : Frame)
    → node_with draw k f
    ≡ node k (field_by draw (holds_of (uses f.kind).a) f.a)
    (field_by draw (holds_of (uses f.kind).b) f.b)
    (field_by draw (holds_of (uses f.kind).c) f.c)
node_by draw k f =
    node_same k (field_by_lem draw (uses f.kind).a f.a)
    (field_by_lem draw (uses f.kind).b f.b)
    (field_by_lem draw (uses f.kind).c f.c)

module _ (ws : List ℕ) (l i n : ℕ) (out : List ℕ) (t : HasTree ws l i)
    (room : LineRoom out n (size (drawn l ws i))) (f : Frame) (ef : f ≡ frame_of_word (get_or ws i 0))
    (h : ChildFields) (eh : h ≡ child_fields (uses f.kind)) where
  abbrev A : Field
  A = field_by (drawn (l - 1) ws) h.a f.a

  abbrev B : Field
  B = field_by (drawn (l - 1) ws) h.b f.b

  abbrev C : Field
  C = field_by (drawn (l - 1) ws) h.c f.c

  is_node : drawn l ws i ≡ node (head_of (get_or ws i 0)) A B C
  unfolding drawn
  is_node =
      let s = (under t.within).some in
      let e : l ≡ suc (l - 1) = omega arith in
      let k : ℕ = head_of (get_or ws i 0) in
      let draw : ℕ → Drawn = drawn (l - 1) ws in
      ap (λ (m : ℕ). drawn m ws i) e ∙ ap (λ (g : Frame). node_with draw k g) (sym ef)
      ∙ node_by draw k f
      ∙ ap
      (λ (x : ChildFields). node k (field_by draw x.a f.a) (field_by draw x.b f.b)
      (field_by draw x.c f.c))
      (sym eh)

  tree_size : size (drawn l ws i) ≡ suc (size_in A + size_in B + size_in C)
  unfolding size
  tree_size = ap size is_node

  child_in_lem : (c : Child) → In c (children f) → HasTree ws (l - 1) c.at
  child_in_lem c m =
      let e : frame_at (frames_of ws) i ≡ f = frame_at_lem ws i no_frame t.inside ∙ sym ef in
      let k : In c (children (frame_at (frames_of ws) i)) =
      subst (λ (g : Frame). In c (children g)) (sym e) m in
      record {
        writable = t.writable;
        inside = lines_inside ws t.writable i c k;
        within = (under t.within).each c k;
      }

  -- the child that a field names, where the field's children are the line's
  field_tree : (x : Holds) (u : Use) (v : ℕ) → x ≡ holds_of u
      → ((c : Child) → In c (child_in u v) → In c (children f)) → FieldHasTree ws (l - 1) x v
  field_tree x u v ex among =
      record { tree = λ e. by (named u v (ap (λ (y : Holds). names_child y v) (sym ex) ∙ e)) }
    where
      by : Named u v → HasTree ws (l - 1) v
      by m =
          subst (HasTree ws (l - 1)) m.at_it (child_in_lem m.child (among m.child m.among))

  abbrev U : Uses
  U = uses f.kind

  pub a_tree : FieldHasTree ws (l - 1) h.a f.a
  unfolding children
  a_tree =
      field_tree h.a U.a f.a (ap (λ (x : ChildFields). x.a) eh)
      (λ c m. in_left (in_left m (child_in U.b f.b)) (child_in U.c f.c))

  pub b_tree : FieldHasTree ws (l - 1) h.b f.b
  unfolding children
  b_tree =
      field_tree h.b U.b f.b (ap (λ (x : ChildFields). x.b) eh)
      (λ c m. in_left (in_right (child_in U.a f.a) m) (child_in U.c f.c))

  pub c_tree : FieldHasTree ws (l - 1) h.c f.c
  unfolding children
  c_tree =
      field_tree h.c U.c f.c (ap (λ (x : ChildFields). x.c) eh)
      (λ c m. in_right (child_in U.a f.a ++ child_in U.b f.b) m)

  pub a_room : LineRoom out n (size_in A)
  a_room =
      let s = tree_size in
      let p = room.fits in
      let q = room.few in
      record { fits = omega arith; few = omega arith }

  start : 17 * n ≤ length out
  start = let p = room.fits in omega arith

  module _ (a : Placed) (ea : a ≡ placed_from n A) (o1 : List ℕ)
      (w1 : o1 ≡ with_lines out n (lined_in n A)) where
    at_b : a.next ≡ n + size_in A
    at_b = ap (λ (x : Placed). x.next) ea

    long_1 : length o1 ≡ length out
    long_1 =
        let s = tree_size in
        let p = room.fits in
        let x = lined_in-length n A in
        ap length w1 ∙ lines_length out n (lined_in n A) (omega arith)

    pub b_room : LineRoom o1 a.next (size_in B)
    b_room =
        let s = tree_size in
        let p = room.fits in
        let q = room.few in
        let y = at_b in
        let l = long_1 in
        record { fits = omega arith; few = omega arith }

    module _ (b : Placed) (eb : b ≡ placed_from a.next B) (o2 : List ℕ)
        (w2 : o2 ≡ with_lines o1 a.next (lined_in a.next B)) where
      at_c : b.next ≡ n + size_in A + size_in B
      at_c = let y = at_b in ap (λ (x : Placed). x.next) eb ∙ omega arith

      abbrev AB : List ℕ
      AB = lined_in n A ++ lined_in (n + size_in A) B

      long_ab : length AB ≡ size_in A + size_in B
      long_ab =
          let x = lined_in-length n A in
          let y = lined_in-length (n + size_in A) B in
          let s = length-append (lined_in n A) (lined_in (n + size_in A) B) in
          omega arith

      two : o2 ≡ with_lines out n AB
      two =
          let y = at_b in
          let x = lined_in-length n A in
          lines_next out o1 o2 n a.next (lined_in n A) (lined_in (n + size_in A) B) w1
          (w2 ∙ ap (λ (k : ℕ). with_lines o1 a.next (lined_in k B)) y) (omega arith) start

      long_2 : length o2 ≡ length out
      long_2 =
          let s = tree_size in
          let p = room.fits in
          let x = long_ab in
          ap length two ∙ lines_length out n AB (omega arith)

      pub c_room : LineRoom o2 b.next (size_in C)
      c_room =
          let s = tree_size in
          let p = room.fits in
          let q = room.few in
          let y = at_c in
          let l = long_2 in
          record { fits = omega arith; few = omega arith }

      module _ (c : Placed) (ec : c ≡ placed_from b.next C) (o3 : List ℕ)
          (w3 : o3 ≡ with_lines o2 b.next (lined_in b.next C)) where
        at_line : c.next ≡ n + (size_in A + size_in B + size_in C)
        at_line = let y = at_c in ap (λ (x : Placed). x.next) ec ∙ omega arith

        abbrev LC : List ℕ
        LC = lined_in (n + size_in A + size_in B) C

        long_abc : length (AB ++ LC) ≡ size_in A + size_in B + size_in C
        long_abc =
            let x = long_ab in
            let y = lined_in-length (n + size_in A + size_in B) C in
            let s = length-append AB LC in
            omega arith

        three : o3 ≡ with_lines out n (AB ++ LC)
        three =
            let y = at_c in
            let x = long_ab in
            lines_next out o2 o3 n b.next AB LC two
            (w3 ∙ ap (λ (k : ℕ). with_lines o2 b.next (lined_in k C)) y) (omega arith) start

        pub line_room : LineRoom o3 c.next 1
        line_room =
            let s = tree_size in
            let p = room.fits in
            let q = room.few in
            let y = at_line in
            let x = long_abc in
            let l : length o3 ≡ length out =
            ap length three ∙ lines_length out n (AB ++ LC) (omega arith) in
            record { fits = omega arith; few = omega arith }

        pub line_fits : c.next + 1 < 2 ^ 64
        line_fits = let q = line_room.few in omega arith

        pub tree_next : c.next + 1 ≡ n + size (drawn l ws i)
        tree_next = let s = tree_size in let y = at_line in omega arith

        -- the line itself
        pub tree_written : (w line : ℕ) (new : List ℕ) → w ≡ get_or ws i 0
            → line ≡ line_from (head_of w) a.value b.value c.value
            → new ≡ with_lines o3 c.next (line ∷ [])
            → new ≡ with_lines out n (lined n (drawn l ws i))
        unfolding lined
        tree_written w line new ew el e =
            let y = at_line in
            let x = long_abc in
            let root : ℕ = root_line n (head_of (get_or ws i 0)) A B C in
            let va : a.value ≡ value_from n A = ap (λ (x : Placed). x.value) ea in
            let vb : b.value ≡ value_from (n + size_in A) B =
            ap (λ (x : Placed). x.value) eb ∙ ap (λ (k : ℕ). value_from k B) at_b in
            let vc : c.value ≡ value_from (n + size_in A + size_in B) C =
            ap (λ (x : Placed). x.value) ec ∙ ap (λ (k : ℕ). value_from k C) at_c in
            let is : line ≡ root =
            el ∙ ap (λ (k : ℕ). line_from (head_of k) a.value b.value c.value) ew
            ∙ ap₂ (λ (j k : ℕ). line_from (head_of (get_or ws i 0)) j k c.value) va vb
            ∙ ap (λ (k : ℕ).
            line_from (head_of (get_or ws i 0)) (value_from n A) (value_from (n + size_in A) B) k) vc in
            lines_next out o3 new n c.next (AB ++ LC) (line ∷ []) three e (omega arith) start
            ∙ ap (λ (x : ℕ). with_lines out n ((AB ++ LC) ++ (x ∷ []))) is
            ∙ ap (with_lines out n)
            (append_assoc AB LC (root ∷ [])
            ∙ append_assoc (lined_in n A) (lined_in (n + size_in A) B) (LC ++ (root ∷ [])))
            ∙ ap (λ (d : Drawn). with_lines out n (lined n d)) (sym is_node)
