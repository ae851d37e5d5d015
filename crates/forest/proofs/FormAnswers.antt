-- What the writer's passes answer together: the code stops at the first that finds a frame. Assumes
-- nothing.
use Rattle.std.specs.Prelude.{Err, Option, None}
use mathlib.Core.Path.{◌≡◌, sym, ap, ◌∙◌}
use mathlib.Core.List.{List}
use Prim.Native.Nat.{ℕ}
use Rattle.language.specs.declared.frame.Frame.{Frame}
use Rattle.language.specs.declared.refusal.Refusal.{Refusal}
use Rattle.language.specs.declared.refusal.Rule.TheVariants.{WrongHeader, WrongField, WrongTree}
use Rattle.language.specs.declared.refusal.Rule.TheVariants.{WrongOrder, TooDeep}
use Rattle.language.specs.Verdicts.{Verdict, Accepted}
use Rattle.fields.specs.Inner.Scans.{header_fault, field_fault, refused_at}
use Rattle.fields.proofs.Finds.{found_none}
use Rattle.drawing.specs.Inner.Finds.{tree_fault_at, shape_fault_at, depth_fault_at, form_verdict}
use Rattle.drawing.specs.Inner.Finds.{drawing_verdict}

-- ---- 21, 6 and 7
module _ (fs : List Frame) (x : Option ℕ) (hx : x ≡ tree_fault_at fs) (a : Verdict)
    (ha : a ≡ refused_at WrongTree x) where
  pub form_21 : (r : Refusal) → a ≡ Err r → Err r ≡ form_verdict fs
  form_21 r e = rw (sym (ha ∙ ap (refused_at WrongTree) hx) ∙ e)

  module _ (na : a ≡ Accepted) (y : Option ℕ) (hy : y ≡ shape_fault_at fs) (b : Verdict)
      (hb : b ≡ refused_at WrongOrder y) where
    tree_none : tree_fault_at fs ≡ None
    tree_none = sym hx ∙ found_none WrongTree x na ha

    pub form_6 : (r : Refusal) → b ≡ Err r → Err r ≡ form_verdict fs
    form_6 r e = rw (tree_none, sym (hb ∙ ap (refused_at WrongOrder) hy) ∙ e)

    pub form_7 : b ≡ Accepted → (z : Option ℕ) → z ≡ depth_fault_at fs → (c : Verdict)
        → c ≡ refused_at TooDeep z → c ≡ form_verdict fs
    form_7 nb z hz c hc =
        let n : shape_fault_at fs ≡ None = sym hy ∙ found_none WrongOrder y nb hb in
        rw (tree_none, n) (hc ∙ ap (refused_at TooDeep) hz)

-- ---- 4 and 5 before them
module _ (fs : List Frame) (x : Option ℕ) (hx : x ≡ header_fault fs) (a : Verdict)
    (ha : a ≡ refused_at WrongHeader x) where
  pub drawing_4 : (r : Refusal) → a ≡ Err r → Err r ≡ drawing_verdict fs
  unfolding drawing_verdict
  drawing_4 r e = rw (sym (ha ∙ ap (refused_at WrongHeader) hx) ∙ e)

  module _ (na : a ≡ Accepted) (y : Option ℕ) (hy : y ≡ field_fault fs) (b : Verdict)
      (hb : b ≡ refused_at WrongField y) where
    header_none : header_fault fs ≡ None
    header_none = sym hx ∙ found_none WrongHeader x na ha

    pub drawing_5 : (r : Refusal) → b ≡ Err r → Err r ≡ drawing_verdict fs
    unfolding drawing_verdict
    drawing_5 r e = rw (header_none, sym (hb ∙ ap (refused_at WrongField) hy) ∙ e)

    pub drawing_form : b ≡ Accepted → (v : Verdict) → v ≡ form_verdict fs → v ≡ drawing_verdict fs
    unfolding drawing_verdict
    drawing_form nb v h =
        let n : field_fault fs ≡ None = sym hy ∙ found_none WrongField y nb hb in
        rw (header_none, n) h
