-- An event as the code finds it, and as the program has it. Assumes nothing.
use Prim.Native.Nat.{ℕ, ◌<◌, ◌≤◌}
use mathlib.Core.Path.{◌≡◌, refl, sym, ap, ◌∙◌}
use mathlib.Core.List.{List, [], ◌∷◌, map}
use lib.Dec.{ltb}
use Rattle.basics.specs.If.{keep_if}
use lib.ListN.{length}
use Rattle.std.specs.Prelude.{Option, Some, None, option_map, slice_get, is_some, unwrap_or}
use Rattle.std.proofs.lemmas.Option.{slice_get-map, slice_get_within, slice_get_past, slice_get-get_or, get_or_from_slice_get, unwrap_or-slice_get}
use Rattle.language.specs.Kinds.{is_event}
use Rattle.language.specs.declared.frame.Frame.{Frame}
use Rattle.program.specs.Programs.{Program, events_of, program_of, owner_of_event}
use Rattle.program.specs.Inner.Events.{event_in}
use Rattle.program.specs.Inner.Numbered.{numbered_of, numbered_in}
use Rattle.program.specs.declared.numbered.Numbered.TheVariants.{Event}
use Rattle.program.proofs.NumberedLaws.{keep_map, slice_get-is_some}

-- ---- `event_at`: the owner of the frame that was found

abbrev owner_of : Frame → ℕ
owner_of f = f.s

events_are : (fs : List Frame) → events_of fs ≡ map owner_of (numbered_of Event fs)
unfolding events_of numbered_of
events_are [] = refl
events_are (f ∷ fs) =
    ap (keep_if (is_event f.kind) f.s) (events_are fs)
    ∙ keep_map owner_of (is_event f.kind) f (numbered_of Event fs)

event_is : (fs : List Frame) (e : ℕ)
    → option_map owner_of (numbered_in Event fs e) ≡ event_in (program_of fs) e
unfolding event_in program_of
event_is fs e =
    sym (slice_get-map owner_of (numbered_of Event fs) e)
    ∙ ap (λ (es : List ℕ). slice_get es e) (sym (events_are fs))

module _ (fs : List Frame) (e : ℕ) (x : Option Frame) (q : x ≡ numbered_in Event fs e) where
  pub event_there : (f : Frame) → x ≡ Some f → Some f.s ≡ event_in (program_of fs) e
  event_there f h = ap (option_map owner_of) (sym h ∙ q) ∙ event_is fs e

  pub event_nowhere : (r : Option ℕ) → r ≡ None → x ≡ None → r ≡ event_in (program_of fs) e
  event_nowhere r z h = z ∙ ap (option_map owner_of) (sym h ∙ q) ∙ event_is fs e

-- ---- what was found, by the program's list of events
module _ (p : Program) (e : ℕ) where
  pub event_is_there : is_some (event_in p e) ≡ ltb e (length p.events)
  unfolding event_in
  event_is_there = slice_get-is_some p.events e

  pub event_owner : unwrap_or (event_in p e) 0 ≡ owner_of_event p e
  unfolding event_in
  event_owner = unwrap_or-slice_get p.events e 0

  pub event_found : e < length p.events → event_in p e ≡ Some (owner_of_event p e)
  unfolding event_in
  event_found h = slice_get-get_or p.events e 0 h

  pub event_missing : length p.events ≤ e → event_in p e ≡ None
  unfolding event_in
  event_missing h = slice_get_past p.events e h

  pub event_within : (o : ℕ) → event_in p e ≡ Some o → e < length p.events
  unfolding event_in
  event_within o h = slice_get_within p.events e o h

  pub event_owned : (o : ℕ) → event_in p e ≡ Some o → owner_of_event p e ≡ o
  unfolding event_in
  event_owned o h = get_or_from_slice_get p.events e o 0 h
