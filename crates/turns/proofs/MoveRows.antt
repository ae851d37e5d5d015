-- The returns of moving.rt. Assumes nothing.
use mathlib.Core.Path.{◌≡◌, sym, ap, ◌∙◌}
use mathlib.Core.Bool.{Bool, true, false, not, ◌&&◌}
use Prim.Native.Nat.{ℕ, ◌+◌, ◌<◌, ◌≤◌}
use lib.Dec.{eqb}
use borrow.Author.Tests.{le-leb, lt-leb, not-true, not-false}
use Rattle.basics.proofs.Ifs.{yes, no}
use Rattle.language.specs.Places.{private}
use Rattle.language.specs.declared.Place.{Place}
use Rattle.acts.specs.declared.act.Transition.TheVariants.{Stays, Leaves, Joins}
use Rattle.acts.specs.declared.act.Change.{Change}
use Rattle.acts.specs.declared.act.Change.TheVariants.{Same, Items, Enter}
use Rattle.std.specs.Prelude.{Err}
use Rattle.language.specs.declared.refusal.Rule.{Rule}
use Rattle.acts.specs.Inner.Transitions.{TurnAnswer, action}
use Rattle.turns.specs.declared.counts.Counts.{Counts}
use Rattle.turns.specs.Inner.Actions.{go_to_act, unlinked_again, do_there, cooperation}

-- ---- to place q: s is whether it is the same place, b whether it is private
module _
    (from q : Place) (same moved : Change) (r : TurnAnswer)
    (s : Bool) (z : s ≡ eqb q.number from.number) where
  pub goes_nowhere : s ≡ true → r ≡ action Stays same → r ≡ go_to_act from q same moved
  unfolding go_to_act
  goes_nowhere h e = yes _ (sym z ∙ h) e

  module _ (b : Bool) (y : b ≡ eqb q.number private) (h : s ≡ false) where
    pub goes_unlinked : b ≡ true → r ≡ action Leaves moved → r ≡ go_to_act from q same moved
    unfolding go_to_act
    goes_unlinked k e = no _ (sym z ∙ h) (yes _ (sym y ∙ k) e)

    pub goes_joins : b ≡ false → r ≡ action (Joins q) moved → r ≡ go_to_act from q same moved
    unfolding go_to_act
    goes_joins k e = no _ (sym z ∙ h) (no _ (sym y ∙ k) e)

pub ruleset goes_rows = (goes_nowhere, goes_unlinked, goes_joins)

-- ---- unlinked already: not unlinked, or what q says
pub again_linked : (from q : Place) (b : Bool) → b ≡ eqb from.number private → not b ≡ true
    → false ≡ unlinked_again from q
again_linked from q b z h =
    ap (λ (x : Bool). x && eqb q.number private) (sym (not-true b h) ∙ z)

pub again_unlinked : (from q : Place) (b r : Bool) → b ≡ eqb from.number private
    → r ≡ eqb q.number private → not b ≡ false → r ≡ unlinked_again from q
again_unlinked from q b r z e h =
    e ∙ ap (λ (x : Bool). x && eqb q.number private) (sym (not-false b h) ∙ z)

pub ruleset again_rows = (again_linked, again_unlinked)

-- ---- 12: b is whether the thread is unlinked already
module _
    (from : Place) (counts : Counts) (q : Place) (body : ℕ) (r : TurnAnswer)
    (b : Bool) (z : b ≡ unlinked_again from q) where
  pub does_again : b ≡ true → r ≡ Err Rule.Stuck → r ≡ do_there from counts q body
  unfolding do_there
  does_again h e = yes _ (sym z ∙ h) e

  pub does_full : b ≡ false → 24 ≤ counts.items → r ≡ Err Rule.Stuck
      → r ≡ do_there from counts q body
  unfolding do_there
  does_full h l e = no _ (sym z ∙ h) (yes _ (le-leb 24 counts.items l) e)

  pub does_there : (w : ℕ) → w ≡ from.number → b ≡ false → counts.items < 24
      → r ≡ go_to_act from q (Items body (1024 + w)) (Enter q body) → r ≡ do_there from counts q body
  unfolding do_there
  does_there w f h l e =
      no _ (sym z ∙ h)
      (no _ (lt-leb 24 counts.items l)
      (e ∙ ap (λ (x : ℕ). go_to_act from q (Items body (1024 + x)) (Enter q body)) f))

pub ruleset does_rows = (does_again, does_full, does_there)

-- ---- 15
module _ (p : Place) (r : TurnAnswer) (b : Bool) (z : b ≡ eqb p.number private) where
  pub cooperates_unlinked : b ≡ true → r ≡ Err Rule.Stuck → r ≡ cooperation p
  unfolding cooperation
  cooperates_unlinked h e = yes _ (sym z ∙ h) e

  pub cooperates_next : b ≡ false → r ≡ action (Joins p) Same → r ≡ cooperation p
  unfolding cooperation
  cooperates_next h e = no _ (sym z ∙ h) e

pub ruleset cooperates_rows = (cooperates_unlinked, cooperates_next)
