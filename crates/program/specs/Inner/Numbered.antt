-- The frame of an event or of a module as the code finds it, by its number. No reader has to
-- believe it: proofs/EventLaws and proofs/ModuleLaws tie it to the program's lists. Assumes
-- nothing: definitions.
use Rattle.std.specs.Prelude.{Bool, List, [], ◌∷◌, ℕ, Option, slice_get}
use Rattle.basics.specs.If.{keep_if}
use Rattle.language.specs.Kinds.{is_event, is_module}
use Rattle.language.specs.declared.frame.Frame.{Frame}
use Rattle.language.specs.declared.kind.Kind.{Kind}
use Rattle.program.specs.declared.numbered.Numbered.{Numbered}

abbrev pub is_numbered : Numbered → Kind → Bool
is_numbered Numbered.Event k = is_event k
is_numbered Numbered.Module k = is_module k

-- the events or the modules among those frames
unfoldable pub numbered_of : Numbered → List Frame → List Frame
numbered_of what [] = []
numbered_of what (f ∷ fs) = keep_if (is_numbered what f.kind) f (numbered_of what fs)

-- the frame of number n among them, if there is one
abbrev pub numbered_in : Numbered → List Frame → ℕ → Option Frame
numbered_in what fs n = slice_get (numbered_of what fs) n
