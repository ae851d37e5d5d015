-- What a `?` hands on, and where it goes on. Assumes nothing.
use Rattle.std.specs.Prelude.{◌≡◌, Option, Result, Ok, Err, IsErrAnd, ok_or}
use Rattle.std.proofs.Common.{sym, ap, ◌∙◌}
use Rattle.std.proofs.lemmas.Result.{err_from_is_err_and}
use Rattle.language.specs.declared.refusal.Rule.{Rule}
use Rattle.acts.specs.Inner.Transitions.{turn_and_then}

module _ {A B : Type 0} (v : Result A Rule) (k : A → Result B Rule) where
  pub goes_on : (x : A) → v ≡ Ok x → (r : Result B Rule) → r ≡ k x → r ≡ turn_and_then v k
  goes_on x h r e = e ∙ ap (λ (y : Result A Rule). turn_and_then y k) (sym h)

  pub stops : (e : Rule) → v ≡ Err e → Err e ≡ turn_and_then v k
  stops e h = ap (λ (y : Result A Rule). turn_and_then y k) (sym h)

pub raised : {B : Type 0} (r : Result B Rule) (e : Rule) → IsErrAnd r (λ y. y ≡ e) → r ≡ Err e
raised r e h = let p = err_from_is_err_and r h in p.1 ∙ ap Err p.2

-- what is found, or the rule where it is not
pub found_as : {A : Type 0} (c : Rule) (x y : Option A) (f : Result A Rule) → f ≡ ok_or x c → x ≡ y
    → f ≡ ok_or y c
found_as {A = A} c x y f e h = e ∙ ap (λ (z : Option A). ok_or z c) h
