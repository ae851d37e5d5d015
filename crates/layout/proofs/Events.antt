-- What a file without fault has of events: as many as the header says, at most 16, each with a
-- scheduler of the file as owner. Assumes nothing.
use mathlib.Core.Path.{◌≡◌, refl, sym, ap, ◌∙◌}
use mathlib.Core.Bool.{Bool, true, false, true≢false}
use mathlib.Core.List.{List, [], ◌∷◌}
use Prim.Native.Nat.{ℕ, zero, suc, ◌+◌, ◌≤◌, ◌<◌}
use native.Mathlib.Omega.{arith}
use lib.ListN.{length, get_or}
use Rattle.basics.specs.If.{when◌then◌else◌, keep_if}
use Rattle.language.specs.Kinds.{is_event, uses}
use Rattle.language.specs.Places.{has_scheduler}
use Rattle.language.specs.declared.kind.DeclarationKind.TheVariants.{Shared, Event, Link}
use Rattle.language.specs.declared.kind.Kind.{Kind}
use Rattle.language.specs.declared.kind.Kind.TheVariants.{Header, Declared, Module, Statement}
use Rattle.language.specs.declared.kind.Kind.TheVariants.{Expression, Unknown}
use Rattle.language.specs.declared.frame.Frame.{Frame}
use Rattle.program.specs.Trees.{frame_at}
use Rattle.program.specs.Programs.{events_of}
use Rattle.fields.specs.Fields.{count_of, schedulers_of, field_fine}
use Rattle.fields.proofs.FieldLaws.{fine_header}
use Rattle.fields.proofs.FramePass.{fine_parts}
use Rattle.layout.specs.Faults.{NoFault}
use Rattle.layout.proofs.Scopes.{frame_right}
use Rattle.layout.proofs.SharedCells.{header_there}

pub is_event_lem : (k : Kind) → is_event k ≡ true → k ≡ Declared Event
is_event_lem (Declared Event) h = refl
is_event_lem (Declared Shared) h = absurd (true≢false (sym h))
is_event_lem (Declared Link) h = absurd (true≢false (sym h))
is_event_lem Header h = absurd (true≢false (sym h))
is_event_lem Module h = absurd (true≢false (sym h))
is_event_lem (Statement k) h = absurd (true≢false (sym h))
is_event_lem (Expression k) h = absurd (true≢false (sym h))
is_event_lem Unknown h = absurd (true≢false (sym h))

-- each event of the frames is one of those counted
pub count_events : (gs : List Frame) → count_of is_event gs ≡ length (events_of gs)
unfolding count_of events_of when◌then◌else◌
count_events [] = refl
count_events (f ∷ gs) = go (is_event f.kind) (count_events gs)
  where
    go : (b : Bool) → count_of is_event gs ≡ length (events_of gs)
        → (when b then 1 else 0) + count_of is_event gs ≡ length (keep_if b f.s (events_of gs))
    go true h = omega arith
    go false h = omega arith

-- what holds of the owner in each frame that declares an event, holds of each event's owner
owners : (P : ℕ → Type 0) (gs : List Frame)
    → ((i : ℕ) → i < length gs → is_event (frame_at gs i).kind ≡ true → P (frame_at gs i).s)
    → (e : ℕ) → e < length (events_of gs) → P (get_or (events_of gs) e 0)
unfolding events_of
owners P [] h e l = absurd (omega arith)
owners P (f ∷ gs) h e l = go (is_event f.kind) refl e l (owners P gs (λ i m t. h (suc i) (omega arith) t))
  where
    go : (b : Bool) → is_event f.kind ≡ b → (e : ℕ) → e < length (keep_if b f.s (events_of gs))
        → ((d : ℕ) → d < length (events_of gs) → P (get_or (events_of gs) d 0))
        → P (get_or (keep_if b f.s (events_of gs)) e 0)
    go false t e l rest = rest e l
    go true t zero l rest = h 0 (omega arith) t
    go true t (suc e) l rest = rest e (omega arith)

module _ (fs : List Frame) (fine : NoFault fs) where
  pub events_count : length (events_of fs) ≡ (frame_at fs 0).c
  events_count = sym (count_events fs) ∙ (fine_header fs (header_there fs fine)).all_events

  pub events_few : (frame_at fs 0).c ≤ 16
  events_few = (fine_header fs (header_there fs fine)).few_events

  -- 'K 03 declares an event with owner S, a scheduler'
  pub event_owners : (e : ℕ) → e < length (events_of fs)
      → has_scheduler (schedulers_of fs) (get_or (events_of fs) e 0) ≡ true
  event_owners = owners (λ (s : ℕ). has_scheduler (schedulers_of fs) s ≡ true) fs owner
    where
      owner : (i : ℕ) → i < length fs → is_event (frame_at fs i).kind ≡ true
          → has_scheduler (schedulers_of fs) (frame_at fs i).s ≡ true
      owner i l t =
          let f = frame_at fs i in
          let asked : Kind → Bool = λ (k : Kind). field_fine fs i f (uses k).s f.s in
          sym (ap asked (is_event_lem f.kind t)) ∙ (fine_parts fs i f (frame_right fs fine i l)).1
