-- The ready test on the words: the set of threads in whose families one lives, thread by thread, and
-- an entry asked by it. Assumes nothing.
use Prim.Native.Nat.{ℕ, suc, ◌+◌, ◌*◌, ◌/◌, ◌<◌, ◌≤◌}
use mathlib.Core.Path.{◌≡◌, refl, sym, ap, ◌∙◌}
use mathlib.Core.List.{List}
use mathlib.Core.Bool.{Bool, true, false, not, ◌&&◌, ◌||◌, true≢false}
use native.Mathlib.Numerals.{add-one}
use lib.ListN.{get_or}
use lib.Dec.{ltb}
use borrow.Author.Tests.{lt-ltb, le-ltb, eq-eqb, ne_eqb}
use Rattle.basics.specs.If.{when◌then◌else◌}
use Rattle.basics.proofs.Ifs.{yes, no, or_off}
use Rattle.machine.specs.Inner.Ranges.{all_below, thread_in_range}
use Rattle.machine.proofs.AllBelow.{all_none}
use Rattle.lists.specs.Inner.Families.{is_of_family, is_awaited, none_awaited, is_ready_word}
use Rattle.lists.specs.Inner.Families.{has_thread, lacks_thread, HasStarters, AddsAncestors}
use Rattle.lists.specs.Inner.Families.{AddsAwaited, LivingTo, LivingFamilies, is_ready_by}
use Rattle.lists.proofs.ThreadSets.{is_thread, none_in}

-- ---- one thread more
module _ (w : List ℕ) (set k : ℕ) where
  pub ended_adds : get_or w (1042 + 55 * k + 2) 0 ≡ 0 → AddsAwaited w set k set
  unfolding is_awaited
  ended_adds e u h =
      or_off (has_thread set u)
      ∙ ap (λ (b : Bool). has_thread set u || (not b && is_of_family w u (suc k))) (sym (eq-eqb _ 0 e))

  pub living_adds : (r : ℕ) → (get_or w (1042 + 55 * k + 2) 0 ≡ 0 → ⊥)
      → AddsAncestors w set (k + 1) r → AddsAwaited w set k r
  unfolding is_awaited
  living_adds r d a u h =
      a u h ∙ ap (λ (t : ℕ). has_thread set u || is_of_family w u t) (add-one k)
      ∙ ap (λ (b : Bool). has_thread set u || (not b && is_of_family w u (suc k)))
      (sym (ne_eqb _ 0 d))

-- ---- the loop: none yet, one more, the end
module _ (w : List ℕ) where
  pub living_start : LivingTo w 0 0
  unfolding none_awaited
  living_start u h = none_in u ∙ ap not (sym (all_none (λ k. not (is_awaited w u k))))

  pub starters_start : HasStarters w 0
  starters_start x h e g = absurd (true≢false (sym e ∙ none_in x))

  pub living_more : (n set r : ℕ) → LivingTo w n set → AddsAwaited w set n r → LivingTo w (n + 1) r
  unfolding none_awaited all_below
  living_more n set r l a u h =
      a u h ∙ ap (λ (b : Bool). b || is_awaited w u n) (l u h)
      ∙ either (is_awaited w u n) (none_awaited w u n)
      ∙ ap (λ (k : ℕ). not (none_awaited w u k)) (sym (add-one n))
    where
      either : (a b : Bool) → (not b || a) ≡ not (not a && b)
      either true true = refl
      either true false = refl
      either false true = refl
      either false false = refl

-- ---- an entry
pub ready_plain : (living e : ℕ) → e < 128 → true ≡ is_ready_by living e
unfolding is_ready_by
ready_plain living e h = yes _ (lt-ltb e 128 h) refl

pub ready_awaiting : (living e : ℕ) → 128 ≤ e → 16384 ≤ e → true ≡ is_ready_by living e
unfolding is_ready_by
ready_awaiting living e h g = no _ (le-ltb e 128 h) (no _ (le-ltb e 16384 g) refl)

pub ready_waiting : (living e : ℕ) (r : Bool) → 128 ≤ e → e < 16384
    → r ≡ lacks_thread living (e / 128) → r ≡ is_ready_by living e
unfolding is_ready_by
ready_waiting living e r h g q = no _ (le-ltb e 128 h) (yes _ (lt-ltb e 16384 g) q)

pub ruleset ready_laws = (ready_plain, ready_awaiting, ready_waiting)

-- the set says of every entry what the words say
pub ready_by : (w : List ℕ) (living : ℕ) → LivingFamilies w living → (e : ℕ)
    → is_ready_by living e ≡ is_ready_word w e
unfolding is_ready_by is_ready_word lacks_thread
ready_by w living l e =
    ap (λ (b : Bool). when ltb e 128 then true else when ltb e 16384 then b else true)
    (go (e / 128) (thread_in_range (e / 128)) refl)
  where
    twice : (b : Bool) → not (not b) ≡ b
    twice true = refl
    twice false = refl

    go : (u : ℕ) (b : Bool) → thread_in_range u ≡ b
        → (thread_in_range u && not (has_thread living u))
        ≡ (thread_in_range u && none_awaited w u (get_or w 0 0))
    go u true q =
        ap (λ (b : Bool). thread_in_range u && b)
        (ap not (l u (is_thread u q)) ∙ twice (none_awaited w u (get_or w 0 0)))
    go u false q =
        ap (λ (b : Bool). b && not (has_thread living u)) q
        ∙ sym (ap (λ (b : Bool). b && none_awaited w u (get_or w 0 0)) q)
