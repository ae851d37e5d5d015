-- The acts after which the thread is at a place are its turns. Assumes nothing.
use mathlib.Core.Path.{◌≡◌, refl, sym, ap, ◌∙◌}
use mathlib.Core.Bool.{Bool, true, false, ◌&&◌}
use Prim.Native.Nat.{ℕ, ◌+◌}
use lib.Dec.{leb, eqb}
use borrow.Author.Tests.{leb-false}
use Rattle.basics.specs.If.{when◌then◌else◌}
use Rattle.basics.proofs.Ifs.{if_all, yes, no}
use Rattle.language.specs.Places.{private}
use Rattle.language.specs.declared.Place.{Place}
use Rattle.operations.specs.declared.Who.{Who}
use Rattle.states.specs.declared.thread.ThreadWords.{ThreadWords}
use Rattle.states.specs.Inner.Stacks.{push_item, move_to}
use Rattle.acts.specs.declared.act.Transition.TheVariants.{Stays, Leaves, Joins}
use Rattle.acts.specs.declared.act.Change.{Change}
use Rattle.acts.specs.declared.act.Change.TheVariants.{Same, Items, Move, Enter}
use Rattle.acts.specs.Inner.Transitions.{TurnAnswer, acted_in, action, changed, turned, change_of}
use Rattle.acts.specs.Inner.Transitions.{RoomFor}
use Rattle.turns.specs.declared.counts.Counts.{Counts}
use Rattle.turns.specs.Inner.Acts.{goes_in, does_in, cooperates_in, Seen}
use Rattle.turns.specs.Inner.Actions.{go_to_act, go_back, unlinked_again, do_there, cooperation}
use Rattle.turns.proofs.SeenLaws.{Turns}

-- ---- the act made in a thread: with either change it is the thread that goes, and there is room
-- for both
module _ (from q : Place) (same moved : Change) where
  abbrev act : Bool → Bool → TurnAnswer
  act b c =
      when b then action Stays same else
      when c then action Leaves moved else
      action (Joins q) moved

  goes_made : (n : ℕ) (th p : ThreadWords) → changed same th ≡ p
      → changed moved th ≡ move_to q.number p
      → turned (go_to_act from q same moved) n th ≡ goes_in from.number p n q.number
  unfolding go_to_act goes_in when◌then◌else◌
  goes_made n th p h k = by (eqb q.number from.number) (eqb q.number private)
    where
      by : (b c : Bool)
          → turned (act b c) n th
          ≡ (when b then acted_in Stays p n else
          when c then acted_in Leaves (move_to q.number p) n else
          acted_in (Joins q) (move_to q.number p) n)
      by true c = ap (λ (x : ThreadWords). acted_in Stays x n) h
      by false true = ap (λ (x : ThreadWords). acted_in Leaves x n) k
      by false false = ap (λ (x : ThreadWords). acted_in (Joins q) x n) k

  goes_room : (items values : ℕ) → RoomFor same items values → RoomFor moved items values
      → RoomFor (change_of (go_to_act from q same moved)) items values
  unfolding go_to_act when◌then◌else◌
  goes_room items values h k = by (eqb q.number from.number) (eqb q.number private)
    where
      by : (b c : Bool) → RoomFor (change_of (act b c)) items values
      by true c = h
      by false true = k
      by false false = k

module _ (who : Who) (counts : Counts) (n : ℕ) where
  pub back_turns : (q : Place)
      → Turns (go_back who.place q) n who counts (λ th. goes_in th.place th n q.number)
  back_turns q =
      record {
        thread =
            λ th w.
            goes_made who.place q Same (Move q) n th th refl refl
            ∙ ap (λ (x : ℕ). goes_in x th n q.number) (sym w.place);
        room = goes_room who.place q Same (Move q) counts.items counts.variables tt tt;
      }

  again_at : {th : ThreadWords} {t : Bool} (q : Place) → Seen who counts th
      → unlinked_again who.place q ≡ t
      → (eqb th.place private && eqb q.number private) ≡ t
  again_at q w e = ap (λ (x : ℕ). eqb x private && eqb q.number private) w.place ∙ e

  pub does_turns : (q : Place) (body : ℕ)
      → Turns (do_there who.place counts q body) n who counts (λ th. does_in th n q.number body)
  unfolding do_there does_in
  does_turns q body =
      if_all (λ (a : TurnAnswer). Turns a n who counts (λ th. does_in th n q.number body))
      (unlinked_again who.place q) _ _
      (λ e. record { thread = λ th w. yes _ (again_at q w e) refl; room = tt })
      (λ e.
      if_all (λ (a : TurnAnswer). Turns a n who counts (λ th. does_in th n q.number body))
      (leb 24 counts.items) _ _
      (λ k.
      record {
        thread = λ th w. no _ (again_at q w e) (yes _ (ap (leb 24) w.items ∙ k) refl);
        room = tt;
      })
      (λ k.
      record {
        thread =
            λ th w.
            no _ (again_at q w e)
            (no _ (ap (leb 24) w.items ∙ k)
            (let p = push_item body (push_item (1024 + th.place) th) in
            goes_made who.place q (Items body (1024 + who.place.number)) (Enter q body) n th p
            (ap (λ (x : ℕ). push_item body (push_item (1024 + x) th)) (sym w.place))
            refl
            ∙ ap (λ (x : ℕ). goes_in x p n q.number) (sym w.place)));
        room =
            let h = leb-false 24 counts.items k in
            goes_room who.place q (Items body (1024 + who.place.number)) (Enter q body)
            counts.items counts.variables h h;
      }))

  pub cooperates_turns : Turns (cooperation who.place) n who counts (λ th. cooperates_in th n)
  unfolding cooperation cooperates_in
  cooperates_turns =
      if_all (λ (a : TurnAnswer). Turns a n who counts (λ th. cooperates_in th n))
      (eqb who.place.number private) _ _
      (λ e.
      record {
        thread = λ th w. yes _ (ap (λ (x : ℕ). eqb x private) w.place ∙ e) refl;
        room = tt;
      })
      (λ e.
      record {
        thread =
            λ th w.
            no _ (ap (λ (x : ℕ). eqb x private) w.place ∙ e)
            (ap (λ (x : ℕ). acted_in (Joins (record { number = x })) th n) (sym w.place));
        room = tt;
      })
