-- The acts after which the thread stays where it is are its turns. Assumes nothing.
use mathlib.Core.Path.{refl, ap, ◌∙◌}
use Prim.Native.Nat.{ℕ}
use native.Mathlib.Omega.{arith}
use lib.Dec.{leb, eqb}
use borrow.Author.Tests.{leb-false, eqb-false}
use Rattle.basics.proofs.Ifs.{if_all, yes, no}
use Rattle.operations.specs.declared.Who.{Who}
use Rattle.acts.specs.Inner.Transitions.{TurnAnswer}
use Rattle.turns.specs.declared.counts.Counts.{Counts}
use Rattle.turns.specs.Inner.Acts.{one_in, two_in, lets_in, drops_in}
use Rattle.turns.specs.Inner.Actions.{one_more, two_more, let_more, drop_one}
use Rattle.turns.proofs.SeenLaws.{Turns}

module _ (who : Who) (counts : Counts) (n : ℕ) where
  pub one_turns : (a : ℕ) → Turns (one_more counts a) n who counts (λ th. one_in th n a)
  unfolding one_more one_in
  one_turns a =
      if_all (λ (x : TurnAnswer). Turns x n who counts (λ th. one_in th n a))
      (leb 25 counts.items) _ _
      (λ e. record { thread = λ th w. yes _ (ap (leb 25) w.items ∙ e) refl; room = tt })
      (λ e.
      record {
        thread = λ th w. no _ (ap (leb 25) w.items ∙ e) refl;
        room = leb-false 25 counts.items e;
      })

  pub two_turns : (a b : ℕ) → Turns (two_more counts a b) n who counts (λ th. two_in th n a b)
  unfolding two_more two_in
  two_turns a b =
      if_all (λ (x : TurnAnswer). Turns x n who counts (λ th. two_in th n a b))
      (leb 24 counts.items) _ _
      (λ e. record { thread = λ th w. yes _ (ap (leb 24) w.items ∙ e) refl; room = tt })
      (λ e.
      record {
        thread = λ th w. no _ (ap (leb 24) w.items ∙ e) refl;
        room = leb-false 24 counts.items e;
      })

  pub lets_turns : (x body : ℕ)
      → Turns (let_more counts x body) n who counts (λ th. lets_in th n x body)
  unfolding let_more lets_in
  lets_turns x body =
      if_all (λ (a : TurnAnswer). Turns a n who counts (λ th. lets_in th n x body))
      (leb 25 counts.variables) _ _
      (λ e. record { thread = λ th w. yes _ (ap (leb 25) w.variables ∙ e) refl; room = tt })
      (λ e.
      if_all (λ (a : TurnAnswer). Turns a n who counts (λ th. lets_in th n x body))
      (leb 24 counts.items) _ _
      (λ k.
      record {
        thread =
            λ th w.
            no _ (ap (leb 25) w.variables ∙ e) (yes _ (ap (leb 24) w.items ∙ k) refl);
        room = tt;
      })
      (λ k.
      record {
        thread =
            λ th w.
            no _ (ap (leb 25) w.variables ∙ e) (no _ (ap (leb 24) w.items ∙ k) refl);
        room = (leb-false 24 counts.items k, leb-false 25 counts.variables e);
      }))

  pub drops_turns : Turns (drop_one counts) n who counts (λ th. drops_in th n)
  unfolding drop_one drops_in
  drops_turns =
      if_all (λ (x : TurnAnswer). Turns x n who counts (λ th. drops_in th n))
      (eqb counts.variables 0) _ _
      (λ e.
      record {
        thread = λ th w. yes _ (ap (λ (m : ℕ). eqb m 0) w.variables ∙ e) refl;
        room = tt;
      })
      (λ e.
      record {
        thread = λ th w. no _ (ap (λ (m : ℕ). eqb m 0) w.variables ∙ e) refl;
        room = let h = eqb-false counts.variables 0 e in omega (arith, h);
      })
