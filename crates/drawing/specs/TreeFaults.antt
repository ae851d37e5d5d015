-- 02, change 2: the writer's refusals 21, children that form no trees, and 6, without the order.
-- Nothing is computed here. Frames are named by their number in the given text.
use Rattle.std.specs.Prelude.{◌≤◌, ◌<◌, ◌≡◌}
use Rattle.basics.specs.Prelude.{List, true, false, ℕ, suc, length, In}
use Rattle.language.specs.{Kinds.is_module, Kinds.class_of, Kinds.Child, Kinds.children}
use Rattle.language.specs.declared.frame.Frame.{Frame}
use Rattle.program.specs.Trees.{frame_at}
use Rattle.layout.specs.{Order.has_child, Order.has_class, Uses.used}

-- ---- 21

-- `Below fs i j`: frame i has j as a child, or has a child below which j is
pub data Below (fs : List Frame) : ℕ → ℕ → Type 0 where
  child : {i : ℕ} {c : Child} → In c (children (frame_at fs i)) → Below fs i c.at
  further : {i j : ℕ} {c : Child}
      → In c (children (frame_at fs i)) → Below fs c.at j → Below fs i j

-- '21, a child number without a frame, a frame used twice, or a circle of children, named at the
-- .. frame that has the bad number, is used twice or lies on the circle'
pub data TreeFault (fs : List Frame) : ℕ → Type 0 where
  missing : {i : ℕ} {c : Child}
      → i < length fs → In c (children (frame_at fs i)) → length fs ≤ c.at → TreeFault fs i
  twice : {j : ℕ} → j < length fs → 2 ≤ used j fs → TreeFault fs j
  cycle : {j : ℕ} → j < length fs → Below fs j j → TreeFault fs j

-- ---- 6, 'The writer's 6 leaves order out and wants as main the last module; with no module the
-- last frame is named.'
pub data ShapeFault (fs : List Frame) : ℕ → Type 0 where
  -- 'a child of the wrong class': the parent is named
  class : {i : ℕ} {c : Child}
      → i < length fs → In c (children (frame_at fs i))
      → (class_of (frame_at fs c.at).kind ≡ c.class → ⊥)
      → ShapeFault fs i
  -- 'a leftover frame (a statement or expression that no frame has as a child)'
  leftover : {j : ℕ}
      → j < length fs → has_class (class_of (frame_at fs j).kind) ≡ true
      → ((i : ℕ) → i < length fs → has_child j (frame_at fs i) ≡ false)
      → ShapeFault fs j
  -- the last module has parameters
  main : {j : ℕ}
      → j < length fs → is_module (frame_at fs j).kind ≡ true
      → ((k : ℕ) → j < k → k < length fs → is_module (frame_at fs k).kind ≡ false)
      → ((frame_at fs j).s ≡ 0 → ⊥)
      → ShapeFault fs j
  -- there is no module
  no_module : {j : ℕ}
      → suc j ≡ length fs → ((k : ℕ) → k < length fs → is_module (frame_at fs k).kind ≡ false)
      → ShapeFault fs j
