-- The words after a start, call by call: the new thread added, then its entry in the next list of
-- place q, and after it that of a starter that waits. Assumes nothing.
use Prim.Native.Nat.{ℕ, ◌+◌, ◌*◌}
use mathlib.Core.Path.{◌≡◌, ap, ap₂, ◌∙◌}
use mathlib.Core.List.{List}
use mathlib.Core.Bool.{Bool, true, false}
use lib.ListN.{get_or}
use Rattle.basics.proofs.Ifs.{yes, no}
use Rattle.language.specs.declared.Place.{Place}
use Rattle.states.specs.declared.thread.ThreadWords.{ThreadWords}
use Rattle.states.specs.Inner.Threads.{with_one_more}
use Rattle.acts.specs.declared.act.Arguments.{Arguments}
use Rattle.commits.specs.Inner.Commits.{joined_in, new_at, started_on}

module _ (w v₁ v₂ : List ℕ) (t body n : ℕ) (args : Arguments) (q : Place) (x : ThreadWords)
    (waits : Bool) (k : n ≡ get_or w 0 0) (g : x ≡ new_at args q t body) (f : v₁ ≡ with_one_more w x)
    (e : v₂ ≡ joined_in v₁ q.number (n + 1)) where
  -- after the new thread's entry
  joined : v₂ ≡ joined_in (with_one_more w (new_at args q t body)) q.number (get_or w 0 0 + 1)
  joined =
      e ∙ ap₂ (λ (l : List ℕ) (i : ℕ). joined_in l q.number (i + 1)) (f ∙ ap (with_one_more w) g) k

  pub start_alone : waits ≡ false → v₂ ≡ started_on w t q body waits args
  unfolding started_on
  start_alone h = no _ h joined

  pub start_waited : waits ≡ true → (v : List ℕ)
      → v ≡ joined_in v₂ q.number (128 * (n + 1) + t) → v ≡ started_on w t q body waits args
  unfolding started_on
  start_waited h v d =
      yes _ h (d
      ∙ ap₂ (λ (l : List ℕ) (i : ℕ). joined_in l q.number (128 * (i + 1) + t)) joined k)
