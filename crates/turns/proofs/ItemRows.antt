-- The returns of item.rt: what the word on top of the continuation says, and the end of a thread
-- without an item. Assumes nothing.
use mathlib.Core.Path.{◌≡◌, ap, ◌∙◌}
use mathlib.Core.List.{List}
use Prim.Native.Nat.{ℕ, ◌-◌, ◌<◌, ◌≤◌}
use native.Mathlib.Omega.{arith}
use borrow.Author.Tests.{lt-ltb, le-ltb, eq-eqb, ne_eqb}
use Rattle.basics.proofs.Ifs.{yes, no}
use Rattle.language.specs.declared.Place.{Place}
use Rattle.language.specs.declared.frame.Frame.{Frame}
use Rattle.program.specs.Trees.{statement_at}
use Rattle.operations.specs.declared.Who.{Who}
use Rattle.acts.specs.declared.act.Transition.TheVariants.{Leaves}
use Rattle.acts.specs.declared.act.Change.TheVariants.{End}
use Rattle.acts.specs.Inner.Transitions.{TurnAnswer, action}
use Rattle.turns.specs.declared.counts.Counts.{Counts}
use Rattle.turns.specs.Inner.Acts.{TurnWords}
use Rattle.turns.specs.Inner.Actions.{act_result, place_at, go_back, drop_one, statement_act}
use Rattle.turns.specs.Inner.Actions.{item_act}
use Rattle.turns.specs.Inner.Actions.{below, turn_act}

-- what a caller has shown holds without the top item
pub below_words : (fw : List ℕ) (who : Who) (counts : Counts) (w : List ℕ)
    → TurnWords fw who counts w → TurnWords fw who (below counts) w
below_words fw who counts w g =
    record {
      ordered = g.ordered;
      placed = g.placed;
      place = g.place;
      items = let h = g.items in omega arith;
      count = g.count;
      state = g.state;
    }

module _
    (fs : List Frame) (who : Who) (counts : Counts) (item : ℕ) (vs : List ℕ) (n : ℕ) (ws : List ℕ)
    (r : TurnAnswer) where
  -- ---- by the item: a statement, a way back to a place, a drop
  pub item_statement : (m : ℕ) (us : List ℕ) → item < 1024
      → act_result r m us ≡ statement_act who counts (statement_at fs item) vs n ws
      → act_result r m us ≡ item_act fs who counts item vs n ws
  unfolding item_act
  item_statement m us h z = yes _ (lt-ltb item 1024 h) z

  pub item_back : (q : Place) → 1024 ≤ item → item < 2048 → q ≡ place_at (item - 1024)
      → r ≡ go_back who.place q → act_result r n ws ≡ item_act fs who counts item vs n ws
  unfolding item_act
  item_back q h k e z =
      no _ (le-ltb item 1024 h)
      (yes _ (lt-ltb item 2048 k)
      (ap (λ (x : TurnAnswer). act_result x n ws) z
      ∙ ap (λ (p : Place). act_result (go_back who.place p) n ws) e))

  pub item_drop : 1024 ≤ item → 2048 ≤ item → r ≡ drop_one counts
      → act_result r n ws ≡ item_act fs who counts item vs n ws
  unfolding item_act
  item_drop h k z =
      no _ (le-ltb item 1024 h)
      (no _ (le-ltb item 2048 k) (ap (λ (x : TurnAnswer). act_result x n ws) z))

  -- ---- the turn
  pub turn_ends : counts.items ≡ 0 → r ≡ action Leaves End
      → act_result r n ws ≡ turn_act fs who counts item vs n ws
  unfolding turn_act
  turn_ends h e = yes _ (eq-eqb counts.items 0 h) (ap (λ (x : TurnAnswer). act_result x n ws) e)

  pub turn_item : (m : ℕ) (us : List ℕ) → (counts.items ≡ 0 → ⊥)
      → act_result r m us ≡ item_act fs who (below counts) item vs n ws
      → act_result r m us ≡ turn_act fs who counts item vs n ws
  unfolding turn_act
  turn_item m us h z = no _ (ne_eqb counts.items 0 h) z
