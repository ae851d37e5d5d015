-- The lists after a turn that is settled: what leaves its list, then what joins a next list.
-- Assumes nothing.
use Prim.Native.Nat.{ℕ, ◌+◌, ◌*◌}
use mathlib.Core.Path.{◌≡◌, refl, sym, ap, ◌∙◌, subst}
use mathlib.Core.List.{List}
use mathlib.Core.Bool.{Bool, true, false}
use lib.ListN.{length, get_or}
use Rattle.basics.proofs.Ifs.{if_yes, if_no, if_all}
use Rattle.language.specs.Places.{is_scheduler}
use Rattle.language.specs.declared.Place.{Place}
use Rattle.language.specs.declared.group.Schedulers.{Schedulers}
use Rattle.states.specs.Inner.Threads.{with_one_more}
use Rattle.acts.specs.declared.act.Arguments.{Arguments}
use Rattle.commits.specs.declared.decision.Passed.{Passed}
use Rattle.commits.specs.declared.decision.Passed.TheVariants.{Keep, Leave, Join, Start}
use Rattle.commits.specs.declared.decision.Passed.TheVariants.{Wake}
use Rattle.commits.specs.Inner.Commits.{left_in, joined_in, new_at, started_on, leaves_list}
use Rattle.commits.specs.Inner.Commits.{unlisted_in, enlisted_in, followed_in, StartWords}
use Rattle.commits.specs.Inner.Commits.{Follows}
use Rattle.commits.specs.Inner.Commits.{generated_in, WakeWords}
use Rattle.commits.proofs.WritingLaws.{left_count}

-- ---- `leaves`: a starter leaves its list where it waits
-- ---- `unlist`
module _ (w : List ℕ) (c : ℕ) (x : Passed) where
  leaves_is : leaves_list x ≡ true → unlisted_in w c x ≡ left_in w c
  unfolding unlisted_in
  leaves_is e = if_yes _ _ e

  pub keeps_is : leaves_list x ≡ false → unlisted_in w c x ≡ w
  unfolding unlisted_in
  keeps_is e = if_no _ _ e

  module _ (b : Bool) (e : b ≡ leaves_list x) where
    pub unlist_leaves : (v : List ℕ) → b ≡ true → v ≡ left_in w c → v ≡ unlisted_in w c x
    unlist_leaves v h f = f ∙ sym (leaves_is (sym e ∙ h))

    pub unlist_keeps : b ≡ false → w ≡ unlisted_in w c x
    unlist_keeps h = sym (keeps_is (sym e ∙ h))

pub ruleset unlist_laws = (unlist_leaves, unlist_keeps)

-- ---- `enlist`: what the match has found is what was asked for
module _ (G : Schedulers) (w : List ℕ) (t : ℕ) (x : Passed) where
  row : (v : List ℕ) (y : Passed) → x ≡ y → v ≡ enlisted_in G w t y → v ≡ enlisted_in G w t x
  row v y e h = h ∙ ap (enlisted_in G w t) (sym e)

  pub enlist_keep : x ≡ Keep → w ≡ enlisted_in G w t x
  enlist_keep e = row w Keep e refl

  pub enlist_leave : x ≡ Leave → w ≡ enlisted_in G w t x
  enlist_leave e = row w Leave e refl

  pub enlist_join : (v : List ℕ) (q : Place) → x ≡ Join q → v ≡ joined_in w q.number t
      → v ≡ enlisted_in G w t x
  enlist_join v q e h = row v (Join q) e h

  pub enlist_start : (v : List ℕ) (waits : Bool) (q : Place) (body : ℕ) (args : Arguments)
      → x ≡ Start waits q body args → v ≡ started_on w t q body waits args → v ≡ enlisted_in G w t x
  enlist_start v waits q body args e h = row v (Start waits q body args) e h

  pub enlist_wake : (v : List ℕ) (q : Place) (e : ℕ) → x ≡ Wake q e → v ≡ generated_in G w q.number e
      → v ≡ enlisted_in G w t x
  enlist_wake v q e d h = row v (Wake q e) d h

pub ruleset enlist_laws = (enlist_keep, enlist_leave, enlist_join, enlist_start, enlist_wake)

-- what an arm's call needs
module _ (G : Schedulers) (w : List ℕ) (x : Passed) where
  pub join_needs : (q : Place) → x ≡ Join q → Follows G w x → is_scheduler q.number ≡ true
  join_needs q e h = subst (Follows G w) e h

  pub start_needs : (waits : Bool) (q : Place) (body : ℕ) (args : Arguments)
      → x ≡ Start waits q body args → Follows G w x → StartWords w q
  start_needs waits q body args e h = subst (Follows G w) e h

  pub wake_needs : (q : Place) (e : ℕ) → x ≡ Wake q e → Follows G w x → WakeWords G w q e
  wake_needs q e d h = subst (Follows G w) d h

-- ---- `follow`
module _ (G : Schedulers) (w u : List ℕ) (c : ℕ) (x : Passed) (e : u ≡ unlisted_in w c x) where
  count_kept : length w ≡ 4834 → get_or u 0 0 ≡ get_or w 0 0
  unfolding unlisted_in
  count_kept h =
      ap (λ (l : List ℕ). get_or l 0 0) e
      ∙ if_all (λ (l : List ℕ). get_or l 0 0 ≡ get_or w 0 0) (leaves_list x) (left_in w c) w
      (λ _. left_count w c h) (λ _. refl)

  follows : (y : Passed) → x ≡ y → get_or u 0 0 ≡ get_or w 0 0 → Follows G w y → Follows G u y
  follows Keep z k h = tt
  follows Leave z k h = tt
  follows (Join q) z k h = h
  follows (Start waits q body args) z k h =
      record { scheduler = h.scheduler; count = rw k h.count }
  -- who generates keeps its entry
  follows (Wake q s) z k h =
      subst (λ (l : List ℕ). WakeWords G l q s) (sym (e ∙ keeps_is w c x (ap leaves_list z))) h

  pub still_follows : length w ≡ 4834 → Follows G w x → Follows G u x
  still_follows h g = follows x refl (count_kept h) g

  pub followed : (t : ℕ) (v : List ℕ) → v ≡ enlisted_in G u t x → v ≡ followed_in G w c t x
  followed t v f = f ∙ ap (λ (l : List ℕ). enlisted_in G l t x) e

-- ---- the words after each
module _ (G : Schedulers) (w : List ℕ) (c t : ℕ) where
  pub leave_is : followed_in G w c t Leave ≡ left_in w c
  leave_is = leaves_is w c Leave refl

  pub join_is : (q : Place) → followed_in G w c t (Join q) ≡ joined_in (left_in w c) q.number t
  join_is q = ap (λ (l : List ℕ). joined_in l q.number t) (leaves_is w c (Join q) refl)

  pub wake_is : (q : Place) (e : ℕ) → followed_in G w c t (Wake q e) ≡ generated_in G w q.number e
  wake_is q e = ap (λ (l : List ℕ). generated_in G l q.number e) (keeps_is w c (Wake q e) refl)

  module _ (q : Place) (body : ℕ) (args : Arguments) where
    pub start_is : followed_in G w c t (Start false q body args)
        ≡ joined_in (with_one_more w (new_at args q t body)) q.number (get_or w 0 0 + 1)
    unfolding started_on
    start_is =
        ap (λ (l : List ℕ). started_on l t q body false args)
        (keeps_is w c (Start false q body args) refl)
        ∙ if_no _ _ refl

    -- the new thread's number is the one before the starter left
    abbrev waiting : ℕ → List ℕ
    waiting n =
        joined_in (joined_in (with_one_more (left_in w c) (new_at args q t body)) q.number (n + 1))
        q.number (128 * (n + 1) + t)

    pub wait_is : length w ≡ 4834
        → followed_in G w c t (Start true q body args) ≡ waiting (get_or w 0 0)
    unfolding started_on
    wait_is h =
        ap (λ (l : List ℕ). started_on l t q body true args)
        (leaves_is w c (Start true q body args) refl)
        ∙ if_yes _ _ refl ∙ ap waiting (left_count w c h)
