-- The lines that declare something, told by their first two digits, and what the code asks of the
-- links. No reader has to believe it: proofs/LinkLaws ties the labels to the program's links.
-- Assumes nothing: definitions.
use Rattle.std.specs.Prelude.{◌≡◌, Bool, true, List, ℕ, ◌<◌, leb, length}
use Rattle.basics.specs.If.{when◌then◌else◌}
use Rattle.language.specs.Kinds.{is_link, file_rank, declarations}
use Rattle.language.specs.Places.{is_scheduler}
use Rattle.language.specs.declared.frame.Frame.{Frame}
use Rattle.language.specs.declared.kind.Kind.{Kind}
use Rattle.language.specs.declared.kind.DeclarationKind.{DeclarationKind}
use Rattle.language.specs.declared.kind.DeclarationKind.TheVariants.{Shared, Event, Link}
use Rattle.language.specs.Inner.Labels.{label_at, relabelled}
use Rattle.program.specs.Trees.{frame_at}

-- the K of a declaration
abbrev pub kind_number : DeclarationKind → ℕ
kind_number Shared = 0x01
kind_number Event = 0x03
kind_number Link = 0x04

-- a link names two schedulers: 5 refuses any other
abbrev pub LinkPlaced : Frame → Type 0
LinkPlaced f =
    is_link f.kind ≡ true → (is_scheduler f.s ≡ true) × (is_scheduler f.a ≡ true)

-- of a kind: it stands before the modules, statements and expressions
abbrev pub is_early : Kind → Bool
is_early k = leb (file_rank k) declarations

-- each link names two schedulers, and nothing stands before it but the header and declarations: 5
-- and 6 refuse any other file
pub record LinksPlaced (fs : List Frame) : Type 0 where
  pub ends : (i : ℕ) → i < length fs → LinkPlaced (frame_at fs i)
  pub early : (i j : ℕ) → i < j → j < length fs → is_link (frame_at fs j).kind ≡ true
      → is_early (frame_at fs i).kind ≡ true

-- the labels with the link of that frame, if it is one
unfoldable pub with_line : List ℕ → Frame → List ℕ
with_line labels f =
    when is_link f.kind
    then relabelled (label_at labels f.s) (label_at labels f.a) labels
    else labels
