-- Refusals 4 to 7: what each fault of the layout is, and which comes first. Nothing is computed
-- here.
use Rattle.std.specs.Prelude.{Err}
use Rattle.std.specs.Prelude.{◌≤◌, ◌<◌, ◌≡◌, ◌⊎◌}
use Rattle.basics.specs.Prelude.{List, true, false, ℕ, suc, length}
use Rattle.language.specs.{Kinds.declaration_rank, Kinds.file_rank, Kinds.class_of}
use Rattle.language.specs.{declared.kind.DeclarationKind.DeclarationKind}
use Rattle.language.specs.{declared.kind.Kind.TheVariants.Declared}
use Rattle.language.specs.{declared.frame.Frame.Frame, Refusals.rule_number, Limits.most_depth}
use Rattle.language.specs.declared.refusal.{Rule.Rule, Rule.TheVariants.WrongHeader}
use Rattle.language.specs.declared.refusal.Rule.TheVariants.{WrongField, WrongOrder, TooDeep}
use Rattle.program.specs.Trees.{frame_at}
use Rattle.fields.specs.Fields.{header_fine, frame_fine}
use Rattle.layout.specs.Verdicts.{LayoutVerdict}
use Rattle.layout.specs.Verdicts.{LaidOut}
use Rattle.layout.specs.Order.{Tree, has_child, has_class, is_main}
use Rattle.layout.specs.Depths.{Depth}

-- `Fault fs n j`: the frame j breaks the rule n
pub data Fault (fs : List Frame) : Rule → ℕ → Type 0 where
  header : header_fine fs ≡ false → Fault fs WrongHeader 0
  -- 'kind (a later 00 too), field .., type word, owner, a 17th shared cell or module, or a place
  -- that the file lacks'
  field : {j : ℕ} → j < length fs → frame_fine fs j (frame_at fs j) ≡ false → Fault fs WrongField j
  -- 'order, a child of the wrong class': no tree ends at j
  order : {j : ℕ} → j < length fs → ((lo : ℕ) → Tree fs lo j → ⊥) → Fault fs WrongOrder j
  -- 'Frames stand as header, shared cells .., then the rest'; 02, change 5: 'Where a declaration or
  -- a shared cell stands behind a frame that it should precede, 6 names it and not that frame.'
  misplaced : {i j : ℕ} {d : DeclarationKind}
      → i < j → j < length fs → (frame_at fs j).kind ≡ Declared d
      → declaration_rank d < file_rank (frame_at fs i).kind
      → Fault fs WrongOrder j
  -- 'a leftover frame (a statement or expression that no frame has as a child)'
  leftover : {j : ℕ}
      → j < length fs → has_class (class_of (frame_at fs j).kind) ≡ true
      → ((i : ℕ) → i < length fs → has_child j (frame_at fs i) ≡ false)
      → Fault fs WrongOrder j
  -- 'no main last (frame: that last frame)'
  main : {j : ℕ} → suc j ≡ length fs → is_main (frame_at fs j) ≡ false → Fault fs WrongOrder j
  -- 'the whole tree is at most 24 deep'
  depth : {j d : ℕ} → Depth fs j d → most_depth < d → Fault fs TooDeep j

-- the file passes refusals 4 to 7
abbrev pub NoFault : List Frame → Type 0
NoFault fs = (n : Rule) (j : ℕ) → Fault fs n j → ⊥

-- 'Over the whole file, smallest number first, then lowest frame'
pub record FirstFault (fs : List Frame) (n : Rule) (j : ℕ) : Type 0 where
  pub fault : Fault fs n j
  pub least : (m : Rule) (k : ℕ)
      → Fault fs m k → (rule_number n < rule_number m) ⊎ ((n ≡ m) × (j ≤ k))

-- what refusals 4 to 7 say of the frames
abbrev pub LayoutSays : List Frame → LayoutVerdict → Type 0
LayoutSays fs LaidOut = NoFault fs
LayoutSays fs (Err r) = FirstFault fs r.rule r.frame
