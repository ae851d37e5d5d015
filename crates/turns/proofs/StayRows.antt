-- The returns of staying.rt: a full space or a missing variable first. Assumes nothing.
use mathlib.Core.Path.{◌≡◌}
use Prim.Native.Nat.{ℕ, ◌<◌, ◌≤◌}
use borrow.Author.Tests.{le-leb, lt-leb, eq-eqb, ne_eqb}
use Rattle.basics.proofs.Ifs.{yes, no}
use Rattle.acts.specs.declared.act.Transition.TheVariants.{Stays}
use Rattle.acts.specs.declared.act.Change.TheVariants.{Item, Items, Let, Drop}
use Rattle.std.specs.Prelude.{Err}
use Rattle.language.specs.declared.refusal.Rule.{Rule}
use Rattle.acts.specs.Inner.Transitions.{TurnAnswer, action}
use Rattle.turns.specs.declared.counts.Counts.{Counts}
use Rattle.turns.specs.Inner.Actions.{one_more, two_more, let_more, drop_one}

module _ (counts : Counts) (r : TurnAnswer) where
  pub one_full : (a : ℕ) → 25 ≤ counts.items → r ≡ Err Rule.Stuck → r ≡ one_more counts a
  unfolding one_more
  one_full a h e = yes _ (le-leb 25 counts.items h) e

  pub one_more_lem : (a : ℕ) → counts.items < 25 → r ≡ action Stays (Item a) → r ≡ one_more counts a
  unfolding one_more
  one_more_lem a h e = no _ (lt-leb 25 counts.items h) e

  pub two_full : (a b : ℕ) → 24 ≤ counts.items → r ≡ Err Rule.Stuck → r ≡ two_more counts a b
  unfolding two_more
  two_full a b h e = yes _ (le-leb 24 counts.items h) e

  pub two_more_lem : (a b : ℕ) → counts.items < 24 → r ≡ action Stays (Items a b)
      → r ≡ two_more counts a b
  unfolding two_more
  two_more_lem a b h e = no _ (lt-leb 24 counts.items h) e

  pub lets_values : (x body : ℕ) → 25 ≤ counts.variables → r ≡ Err Rule.Stuck
      → r ≡ let_more counts x body
  unfolding let_more
  lets_values x body h e = yes _ (le-leb 25 counts.variables h) e

  pub lets_items : (x body : ℕ) → counts.variables < 25 → 24 ≤ counts.items → r ≡ Err Rule.Stuck
      → r ≡ let_more counts x body
  unfolding let_more
  lets_items x body h k e =
      no _ (lt-leb 25 counts.variables h) (yes _ (le-leb 24 counts.items k) e)

  pub lets_more : (x body : ℕ) → counts.variables < 25 → counts.items < 24
      → r ≡ action Stays (Let x body) → r ≡ let_more counts x body
  unfolding let_more
  lets_more x body h k e =
      no _ (lt-leb 25 counts.variables h) (no _ (lt-leb 24 counts.items k) e)

  pub drops_none : counts.variables ≡ 0 → r ≡ Err Rule.Stuck → r ≡ drop_one counts
  unfolding drop_one
  drops_none h e = yes _ (eq-eqb counts.variables 0 h) e

  pub drops_one : (counts.variables ≡ 0 → ⊥) → r ≡ action Stays Drop → r ≡ drop_one counts
  unfolding drop_one
  drops_one h e = no _ (ne_eqb counts.variables 0 h) e

pub ruleset one_rows = (one_full, one_more_lem)

pub ruleset two_rows = (two_full, two_more_lem)

pub ruleset lets_rows = (lets_values, lets_items, lets_more)

pub ruleset drops_rows = (drops_none, drops_one)
