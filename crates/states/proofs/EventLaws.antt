-- The events' words: one set, those of a group cleared, and what the state is then. Assumes
-- nothing.
use Prim.Native.Nat.{ℕ, zero, suc, ◌+◌, ◌-◌, ◌<◌, ◌≤◌}
use Prim.Native.Nat.{◌*◌}
use mathlib.Core.Path.{◌≡◌, refl, sym, ap, ap₂, ◌∙◌}
use mathlib.Core.List.{List, [], ◌∷◌}
use mathlib.Core.Bool.{Bool, true, false, not, ◌&&◌}
use native.Mathlib.Omega.{arith}
use native.Mathlib.Numerals.{add-one}
use native.Mathlib.Decide.{ℕ_discrete}
use lib.ListN.{get_or, length, set, drop, length-set, length-drop, get_or-eq_default}
use lib.Seq.{get_or-set_same, get_or-set_other, set-get_or, get_or-drop}
use lib.Dec.{eqb, ltb}
use borrow.Author.Tests.{ltb-true, ltb-false, eqb-true}
use Rattle.language.specs.Inner.Labels.{in_group}
use Rattle.basics.proofs.Ifs.{if_yes, if_no}
use Rattle.basics.proofs.Ifs.{if_all, and_true}
use Rattle.machine.specs.State.{State, is_present, with_present}
use Rattle.machine.specs.Steps.{without_events_of}
use Rattle.machine.specs.Words.{bit}
use Rattle.machine.specs.Inner.Ranges.{all_below}
use Rattle.machine.proofs.WordLaws.{Says}
use Rattle.states.specs.Inner.Events.{is_absent, without_owned, without_event, without_events}
use Rattle.basics.specs.If.{when◌then◌else◌, keep_if}
use Rattle.language.specs.Kinds.{is_event}
use Rattle.text.specs.Frames.{frame_of_word, frames_of}
use Rattle.text.proofs.FrameWords.{next_frame, frames_end}
use Rattle.language.specs.declared.frame.Frame.{Frame}
use Rattle.program.specs.Programs.{events_of}

-- ---- as the code computes them
module _ (labels : List ℕ) (p o : ℕ) (w : List ℕ) (e : ℕ) where
  -- one that is not present stays so
  pub absent_stays : get_or w (4562 + e) 0 ≡ 0 → w ≡ without_owned (in_group labels p) o w e
  unfolding without_owned
  absent_stays z =
      if_all (λ (v : List ℕ). w ≡ v) (in_group labels p o) _ _
      (λ _. sym (ap (set w (4562 + e)) (sym z) ∙ set-get_or w (4562 + e) 0)) (λ _. refl)

  -- b is whether the owner is in step with p
  module _ (b : Bool) (k : b ≡ in_group labels p o) where
    pub other_stays : b ≡ false → w ≡ without_owned (in_group labels p) o w e
    unfolding without_owned
    other_stays d = sym (if_no _ _ (sym k ∙ d))

    pub own_cleared : b ≡ true → set w (4562 + e) 0 ≡ without_owned (in_group labels p) o w e
    unfolding without_owned
    own_cleared d = sym (if_yes _ _ (sym k ∙ d))

-- where none is present, none is cleared
pub none_stay : (labels : List ℕ) (p : ℕ) (os w : List ℕ) (n : ℕ) → all_below n (is_absent w) ≡ true
    → w ≡ without_events (in_group labels p) os w n
unfolding without_events all_below
none_stay labels p os w zero h = refl
none_stay labels p os w (suc n) h =
    let z = and_true (is_absent w n) (all_below n (is_absent w)) h in
    absent_stays labels p (get_or os n 0) w n (eqb-true (get_or w (4562 + n) 0) 0 z.0)
    ∙ ap (λ (v : List ℕ). without_owned (in_group labels p) (get_or os n 0) v n)
    (none_stay labels p os w n z.1)

-- b is what `none_present` has answered of the header's count
pub clearing_none : (labels : List ℕ) (p : ℕ) (os w : List ℕ) (n m : ℕ) (b : Bool)
    → b ≡ all_below n (is_absent w) → b ≡ true → n ≡ m → w ≡ without_events (in_group labels p) os w m
clearing_none labels p os w n m b k h z =
    none_stay labels p os w n (sym k ∙ h) ∙ ap (without_events (in_group labels p) os w) z

pub event_length : (c : ℕ → Bool) (os w : List ℕ) (e : ℕ) → length (without_event c os w e) ≡ length w
unfolding without_owned
event_length c os w e =
    if_all (λ (v : List ℕ). length v ≡ length w) (c (get_or os e 0)) _ _
    (λ _. length-set w (4562 + e) 0) (λ _. refl)

-- ---- the pass over the lines: e events were met before line i, those from there on are the others,
-- and the words are without the first e
pub record Clearing (frames labels w : List ℕ) (p n e i : ℕ) (v : List ℕ) : Type 0 where
  pub few : e ≤ n
  pub short : i ≤ length frames
  pub others : events_of (drop i (frames_of frames)) ≡ drop e (events_of (frames_of frames))
  pub words : v ≡ without_events (in_group labels p) (events_of (frames_of frames)) w e
  pub long : length v ≡ length w

pub cleared_length : (c : ℕ → Bool) (os w : List ℕ) (n : ℕ) → length (without_events c os w n) ≡ length w
unfolding without_events
cleared_length c os w zero = refl
cleared_length c os w (suc n) =
    event_length c os (without_events c os w n) n ∙ cleared_length c os w n

-- one more of a list is passed
drop_more : (xs : List ℕ) (e y : ℕ) (ys : List ℕ) → drop e xs ≡ y ∷ ys → drop (suc e) xs ≡ ys
drop_more [] zero y ys h = absurd (no_list h)
  where
    no_list : {z : ℕ} {zs : List ℕ} → [] ≡ z ∷ zs → ⊥
    no_list q = let n : ◌≡◌ {A = ℕ} 0 1 = cc in omega arith
drop_more [] (suc e) y ys h = absurd (no_list h)
  where
    no_list : {z : ℕ} {zs : List ℕ} → [] ≡ z ∷ zs → ⊥
    no_list q = let n : ◌≡◌ {A = ℕ} 0 1 = cc in omega arith
drop_more (x ∷ xs) zero y ys h = cc
drop_more (x ∷ xs) (suc e) y ys h = drop_more xs e y ys h

-- events after the last one: no scheduler is number 0
none_owned : (labels : List ℕ) (p : ℕ) (w : List ℕ) (e : ℕ) → without_owned (in_group labels p) 0 w e ≡ w
unfolding without_owned
none_owned labels p w e = if_no _ _ refl

past_last : (labels : List ℕ) (p : ℕ) (os w : List ℕ) (e d : ℕ) → length os ≤ e
    → without_events (in_group labels p) os w (d + e) ≡ without_events (in_group labels p) os w e
unfolding without_events
past_last labels p os w e zero l =
    let z : 0 + e ≡ e = omega arith in ap (without_events (in_group labels p) os w) z
past_last labels p os w e (suc d) l =
    let z : suc d + e ≡ suc (d + e) = omega arith in
    ap (without_events (in_group labels p) os w) z
    ∙ ap (λ (o : ℕ). without_owned (in_group labels p) o (without_events (in_group labels p) os w (d + e)) (d + e))
    (get_or-eq_default os 0 {n = d + e} (omega arith))
    ∙ none_owned labels p _ (d + e) ∙ past_last labels p os w e d l

module _ (frames labels w : List ℕ) (p n : ℕ) where
  abbrev os : List ℕ
  os = events_of (frames_of frames)

  pub clearing_start : Clearing frames labels w p n 0 0 w
  unfolding without_events
  clearing_start =
      record { few = omega arith; short = omega arith; others = refl; words = refl; long = refl }

  module _ (e i : ℕ) (v : List ℕ) (t : Clearing frames labels w p n e i v) where
    module _ (l : i < length frames) (b : Bool)
        (k : b ≡ is_event (frame_of_word (get_or frames i 0)).kind) where
      abbrev f : Frame
      f = frame_of_word (get_or frames i 0)

      here : {d : Bool} → b ≡ d → keep_if d f.s (events_of (drop (i + 1) (frames_of frames))) ≡ drop e os
      unfolding events_of
      here h =
          ap (λ (d : Bool). keep_if d f.s (events_of (drop (i + 1) (frames_of frames)))) (sym (sym k ∙ h))
          ∙ ap events_of (sym (next_frame frames i f l refl)) ∙ t.others

      pub clearing_other : b ≡ false → Clearing frames labels w p n e (i + 1) v
      clearing_other h =
          record { few = t.few; short = omega arith; others = here h; words = t.words; long = t.long }

      pub clearing_event : (g : Frame) (u : List ℕ) → g ≡ frame_of_word (get_or frames i 0) → b ≡ true → e < n
          → u ≡ without_owned (in_group labels p) g.s v e → Clearing frames labels w p n (e + 1) (i + 1) u
      unfolding without_events
      clearing_event g u d h m q =
          record {
            few = omega arith;
            short = omega arith;
            others = sym (ap (λ (x : ℕ). drop x os) (add-one e) ∙ drop_more os e f.s _ (sym (here h)));
            words = now_is ∙ ap (without_events (in_group labels p) os w) (sym (add-one e));
            long = ap length now_is ∙ cleared_length (in_group labels p) os w (suc e);
          }
        where
          owner_is : f.s ≡ get_or os e 0
          owner_is =
              let z : e + 0 ≡ e = omega arith in
              ap (λ (xs : List ℕ). get_or xs 0 0) (here h) ∙ get_or-drop e os 0 0
              ∙ ap (λ (x : ℕ). get_or os x 0) z

          now_is : u ≡ without_events (in_group labels p) os w (suc e)
          now_is =
              q ∙ ap₂ (λ (o : ℕ) (x : List ℕ). without_owned (in_group labels p) o x e)
              (ap (λ (x : Frame). x.s) d ∙ owner_is) t.words

    pub clearing_done : (m : ℕ) → n ≡ m → n ≤ e → v ≡ without_events (in_group labels p) os w m
    clearing_done m q l =
        let a = t.few in
        let z : e ≡ m = omega arith in
        t.words ∙ ap (without_events (in_group labels p) os w) z

    pub clearing_end : (m : ℕ) → n ≡ m → length frames ≤ i → v ≡ without_events (in_group labels p) os w m
    unfolding events_of
    clearing_end m q l =
        let a = t.few in
        let z : m - e + e ≡ m = omega arith in
        let c = ap length (sym (ap events_of (frames_end frames i l)) ∙ t.others) in
        let d = length-drop e os in
        t.words ∙ sym (past_last labels p os w e (m - e) (omega arith))
        ∙ ap (without_events (in_group labels p) os w) z

-- ---- what they say

-- a word of no event
module _ (c : ℕ → Bool) (os w : List ℕ) where
  one_out : (e i : ℕ) → (i ≡ 4562 + e → ⊥) → get_or (without_event c os w e) i 0 ≡ get_or w i 0
  unfolding without_owned
  one_out e i f =
      if_all (λ (v : List ℕ). get_or v i 0 ≡ get_or w i 0) (c (get_or os e 0)) _ _
      (λ _. get_or-set_other w (4562 + e) i 0 0 f) (λ _. refl)

cleared_out : (c : ℕ → Bool) (os w : List ℕ) (n i : ℕ) → (4562 ≤ i → i < 4562 + n → ⊥)
    → get_or (without_events c os w n) i 0 ≡ get_or w i 0
unfolding without_events
cleared_out c os w zero i f = refl
cleared_out c os w (suc n) i f =
    one_out c os (without_events c os w n) n i (λ z. f (omega arith) (omega arith))
    ∙ cleared_out c os w n i (λ a b. f a (omega arith))

-- of event e
unfoldable cleared_word : (ℕ → Bool) → List ℕ → ℕ → ℕ → ℕ
cleared_word c os e x = when c (get_or os e 0) then 0 else x

one_in : (c : ℕ → Bool) (os w : List ℕ) (e : ℕ) → 4562 + e < length w
    → get_or (without_event c os w e) (4562 + e) 0 ≡ cleared_word c os e (get_or w (4562 + e) 0)
unfolding without_owned cleared_word when◌then◌else◌
one_in c os w e l = by (c (get_or os e 0))
  where
    by : (b : Bool)
        → get_or (when b then set w (4562 + e) 0 else w) (4562 + e) 0
        ≡ (when b then 0 else get_or w (4562 + e) 0)
    by true = get_or-set_same w (4562 + e) 0 0 l
    by false = refl

cleared_in : (c : ℕ → Bool) (os w : List ℕ) (n e : ℕ) → e < n → 4562 + n ≤ length w
    → get_or (without_events c os w n) (4562 + e) 0 ≡ cleared_word c os e (get_or w (4562 + e) 0)
unfolding without_events
cleared_in c os w zero e l h = absurd (omega arith)
cleared_in c os w (suc n) e l h =
    by (ℕ_discrete e n) (λ k. cleared_in c os w n e k (omega arith))
  where
    by : Dec (e ≡ n)
        → (e < n → get_or (without_events c os w n) (4562 + e) 0 ≡ cleared_word c os e (get_or w (4562 + e) 0))
        → get_or (without_event c os (without_events c os w n) n) (4562 + e) 0
        ≡ cleared_word c os e (get_or w (4562 + e) 0)
    by (yes q) r =
        ap (λ (i : ℕ). get_or (without_event c os (without_events c os w n) n) (4562 + i) 0) q
        ∙ one_in c os (without_events c os w n) n (rw (cleared_length c os w n) (omega arith))
        ∙ ap (cleared_word c os n)
        (cleared_out c os w n (4562 + n) (λ a b. omega arith))
        ∙ ap (λ (i : ℕ). cleared_word c os i (get_or w (4562 + i) 0)) (sym q)
    by (no q) r =
        one_out c os (without_events c os w n) n (4562 + e) (λ z. q (omega arith))
        ∙ r (omega (arith, q))

-- in the state: the same of each event that there is
without_at : (c : ℕ → Bool) (os : List ℕ) (bs : List Bool) (e : ℕ) → length os ≡ length bs
    → e < length bs
    → get_or (without_events_of c os bs) e false ≡ (get_or bs e false && not (c (get_or os e 0)))
unfolding without_events_of
without_at c [] [] e q l = absurd (omega arith)
without_at c [] (b ∷ bs) e q l = absurd (omega arith)
without_at c (o ∷ os) [] e q l = absurd (omega arith)
without_at c (o ∷ os) (b ∷ bs) zero q l = refl
without_at c (o ∷ os) (b ∷ bs) (suc e) q l = without_at c os bs e (omega arith) (omega arith)

without_length : (c : ℕ → Bool) (os : List ℕ) (bs : List Bool)
    → length (without_events_of c os bs) ≡ length bs
unfolding without_events_of
without_length c [] bs = refl
without_length c (o ∷ os) [] = refl
without_length c (o ∷ os) (b ∷ bs) = ap suc (without_length c os bs)

cleared_bit : (c : ℕ → Bool) (os : List ℕ) (e : ℕ) (b : Bool)
    → cleared_word c os e (bit b) ≡ bit (b && not (c (get_or os e 0)))
unfolding cleared_word when◌then◌else◌
cleared_bit c os e b = by (c (get_or os e 0)) b
  where
    by : (d b : Bool) → (when d then 0 else bit b) ≡ bit (b && not d)
    by true true = refl
    by true false = refl
    by false true = refl
    by false false = refl

-- words that say other events present and the rest as it was
other_events : (w v : List ℕ) (s : State) (bs : List Bool) → Says w s → length v ≡ length w
    → ((i : ℕ) → (4562 ≤ i → i < 4578 → ⊥) → get_or v i 0 ≡ get_or w i 0)
    → ((e : ℕ) → e < 16 → get_or v (4562 + e) 0 ≡ bit (get_or bs e false))
    → Says v (with_present bs s)
other_events w v s bs h l out is =
    record {
      all = l ∙ h.all;
      threads = out 0 (λ a b. omega arith) ∙ h.threads;
      cells = out 1 (λ a b. omega arith) ∙ h.cells;
      scheduler = λ k j a b. out (2 + 130 * k + j) (λ p q. omega arith) ∙ h.scheduler k j a b;
      thread = λ k j a b. out (1042 + 55 * k + j) (λ p q. omega arith) ∙ h.thread k j a b;
      event = is;
      cell = λ j a. out (4578 + j) (λ p q. omega arith) ∙ h.cell j a;
    }

-- `clear_events`, of n events
pub clear_says : (c : ℕ → Bool) (n : ℕ) (os w : List ℕ) (s : State) → Says w s → length os ≡ n
    → length s.present ≡ n → n ≤ 16
    → Says (without_events c os w n) (with_present (without_events_of c os s.present) s)
clear_says c n os w s h lo lp few =
    other_events w (without_events c os w n) s (without_events_of c os s.present) h
    (cleared_length c os w n)
    (λ i f. cleared_out c os w n i (λ a b. f a (omega arith)))
    (λ e l. at e l (ltb e n) refl)
  where
    at : (e : ℕ) → e < 16 → (b : Bool) → ltb e n ≡ b
        → get_or (without_events c os w n) (4562 + e) 0
        ≡ bit (get_or (without_events_of c os s.present) e false)
    at e l true q =
        let k = ltb-true e n q in
        let z = h.all in
        cleared_in c os w n e k (omega arith) ∙ ap (cleared_word c os e) (h.event e l)
        ∙ cleared_bit c os e (is_present s e)
        ∙ ap bit (sym (without_at c os s.present e (lo ∙ sym lp) (omega arith)))
    at e l false q =
        let k = ltb-false e n q in
        let z = without_length c os s.present in
        cleared_out c os w n (4562 + e) (λ a b. omega arith) ∙ h.event e l
        ∙ ap bit (get_or-eq_default s.present false {n = e} (omega arith))
        ∙ ap bit (sym (get_or-eq_default (without_events_of c os s.present) false {n = e} (omega arith)))

-- `set_present`
pub set_says : (e : ℕ) (w : List ℕ) (s : State) → Says w s → e < length s.present
    → length s.present ≤ 16
    → Says (set w (4562 + e) 1) (with_present (set s.present e true) s)
set_says e w s h l few =
    other_events w (set w (4562 + e) 1) s (set s.present e true) h (length-set w (4562 + e) 1)
    (λ i f. get_or-set_other w (4562 + e) i 1 0 (λ z. f (omega arith) (omega arith)))
    (λ i k. at i k (ℕ_discrete i e))
  where
    at : (i : ℕ) → i < 16 → Dec (i ≡ e)
        → get_or (set w (4562 + e) 1) (4562 + i) 0 ≡ bit (get_or (set s.present e true) i false)
    at i k (yes q) =
        let z = h.all in
        ap (λ (j : ℕ). get_or (set w (4562 + e) 1) (4562 + j) 0) q
        ∙ get_or-set_same w (4562 + e) 1 0 (omega arith)
        ∙ ap bit (sym (get_or-set_same s.present e true false l))
        ∙ ap (λ (j : ℕ). bit (get_or (set s.present e true) j false)) (sym q)
    at i k (no q) =
        get_or-set_other w (4562 + e) (4562 + i) 1 0 (λ z. q (omega arith)) ∙ h.event i k
        ∙ ap bit (sym (get_or-set_other s.present e i true false q))

-- `is_present`
pub present_says : (e : ℕ) (w : List ℕ) (s : State) → Says w s → e < 16
    → eqb (get_or w (4562 + e) 0) 1 ≡ is_present s e
present_says e w s h l = ap (λ (n : ℕ). eqb n 1) (h.event e l) ∙ by (is_present s e)
  where
    by : (b : Bool) → eqb (bit b) 1 ≡ b
    by true = refl
    by false = refl

-- `clear_event`
pub ruleset clear_laws = (absent_stays, other_stays, own_cleared)
