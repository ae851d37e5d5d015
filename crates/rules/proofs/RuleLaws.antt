-- What the rules' functions take from the calls that read places: owners of cells and of events.
-- Assumes nothing.
use Rattle.std.specs.Prelude.{Option, Some, None}
use mathlib.Core.Path.{◌≡◌, refl, sym, ap, ◌∙◌}
use mathlib.Core.Bool.{Bool, true, false, ◌&&◌, true≢false}
use Prim.Native.Nat.{ℕ}
use native.Mathlib.Omega.{arith}
use Rattle.basics.proofs.Ifs.{if_all, if_no, and_true}
use Rattle.language.specs.Places.{is_place, is_scheduler}
use Rattle.language.specs.Inner.Reads.{place_read, cell_read}
use Rattle.language.specs.Types.{cell_type, room_around}
use Rattle.language.specs.Effects.{with_member, with_owner, with_event}
use Rattle.language.specs.declared.Place.{Place}
use Rattle.language.specs.declared.effect.Effect.{Effect}
use Rattle.language.proofs.PlaceLaws.{read_at, read_none, scheduler_place}

-- ---- 24: what the constructor of a cell's type answered
pub read_room : (o t w : ℕ) → cell_read o t ≡ Some w → room_around t ≡ true
unfolding cell_read
read_room o t w =
    if_all (λ (r : Option ℕ). r ≡ Some w → room_around t ≡ true) (is_place o && room_around t) _ _
    (λ k e. (and_true (is_place o) (room_around t) k).1)
    (λ k e. absurd (let z : ◌≡◌ {A = ℕ} 0 1 = cc in omega arith))

pub read_word : (o t w : ℕ) → cell_read o t ≡ Some w → w ≡ cell_type o t
unfolding cell_read
read_word o t w =
    if_all (λ (r : Option ℕ). r ≡ Some w → w ≡ cell_type o t) (is_place o && room_around t) _ _
    (λ k e. cc)
    (λ k e. absurd (let z : ◌≡◌ {A = ℕ} 0 1 = cc in omega arith))

pub read_deep : (o t : ℕ) → is_place o ≡ true → cell_read o t ≡ None → room_around t ≡ false
unfolding cell_read
read_deep o t p =
    if_all (λ (r : Option ℕ). r ≡ None → room_around t ≡ false) (is_place o && room_around t) _ _
    (λ k e. absurd (let z : ◌≡◌ {A = ℕ} 0 1 = cc in omega arith))
    (λ k e. sym (ap (λ (x : Bool). x && room_around t) p) ∙ k)

pub ruleset read_laws = (read_room, read_word, read_deep)

-- ---- an owner, added to an effect if it is a scheduler
pub read_number : (b : Bool) (n : ℕ) (q : Place) → place_read b n ≡ Some q → q.number ≡ n
read_number b n q h = (read_at b n q h).1

-- what is no place is no scheduler
no_scheduler : (n : ℕ) (b : Bool) → is_scheduler n ≡ b → is_place n ≡ false → is_scheduler n ≡ false
no_scheduler n true e h = absurd (true≢false (sym (scheduler_place n e) ∙ h))
no_scheduler n false e h = e

pub no_owner : (n : ℕ) (e : Effect) → place_read (is_place n) n ≡ None → with_owner n e ≡ e
unfolding with_member
no_owner n e h =
    ap (λ (s : ℕ). record { cells = s; events = e.events })
    (if_no _ _ (no_scheduler n (is_scheduler n) refl (read_none (is_place n) n h)))

pub no_event : (n : ℕ) (e : Effect) → place_read (is_scheduler n) n ≡ None → with_event n e ≡ e
unfolding with_member
no_event n e h =
    ap (λ (s : ℕ). record { cells = e.cells; events = s })
    (if_no _ _ (read_none (is_scheduler n) n h))

pub ruleset owner_laws = (read_number, no_owner)

pub ruleset event_laws = (read_number, no_event)
