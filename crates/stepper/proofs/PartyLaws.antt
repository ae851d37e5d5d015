-- The party that a choice names, on words in range: a scheduler with an active thread or without,
-- an unlinked thread, or none; then by the thread that acts: what each call asks and what the
-- choice gives. Assumes nothing.
use Prim.Native.Nat.{ℕ, ◌+◌, ◌-◌, ◌*◌, ◌<◌, ◌≤◌}
use mathlib.Core.Path.{◌≡◌, refl, sym, ap, ap₂, ◌∙◌, subst}
use mathlib.Core.List.{List, [], ◌∷◌}
use mathlib.Core.Bool.{Bool, true, false, not, ◌&&◌, true≢false}
use native.Mathlib.Omega.{arith}
use lib.ListN.{length, get_or}
use lib.Dec.{leb}
use borrow.Author.Tests.{le-leb, lt-leb, leb-true, leb-false, not-true, not-false}
use Rattle.std.specs.Prelude.{Option}
use Rattle.stepper.specs.Inner.Files.{step_number}
use Rattle.language.specs.declared.refusal.Rule.{Rule}
use Rattle.basics.specs.Members.{All, more}
use Rattle.basics.proofs.Ifs.{if_yes, if_no}
use Rattle.language.specs.Places.{is_place, has_scheduler, is_scheduler}
use Rattle.language.specs.declared.Place.{Place}
use Rattle.language.proofs.PlaceLaws.{test_bounds, scheduler_place, has_scheduler_lem}
use Rattle.text.specs.Frames.{frames_of}
use Rattle.program.specs.Programs.{Program, program_of}
use Rattle.machine.specs.State.{State, scheduler_at}
use Rattle.basics.specs.If.{when◌then◌else◌}
use Rattle.machine.specs.Turns.{access_count, is_scheduler_of}
use Rattle.machine.specs.Inner.Parts.{step_thread, step_scheduler}
use Rattle.machine.specs.Steps.{end_instant, is_unlinked, step, step_within}
use Rattle.machine.specs.Calls.{CallResult, as_call, step_call, call_result}
use Rattle.machine.specs.Shapes.{IsThread, SchedulerFits}
use Rattle.machine.proofs.Calls.{called_in}
use Rattle.machine.proofs.KeptShape.{scheduler_fits, unlinked_is}
use Rattle.lists.proofs.SchedulerSays.{first_says}
use Rattle.states.specs.Inner.Parties.{is_unlinked_word}
use Rattle.states.proofs.PartyLaws.{unlinked_low, unlinked_says}
use Rattle.stepper.specs.declared.file.File.{File}
use Rattle.stepper.specs.declared.party.StepAnswer.{StepAnswer}
use Rattle.stepper.specs.Inner.Files.{nobody_answers, stepped_on, InstantWords}
use Rattle.stepper.specs.Inner.Files.{StepWords, state_in, TurnChoice, file_of, acting_in}
use Rattle.stepper.proofs.Transitions.{scheduler_there}
use Rattle.stepper.proofs.GoodWords.{fits_in, shaped, says}
use Rattle.program.specs.Trees.{frame_at}

module _ (frames : List ℕ) (shared : ℕ) (w : List ℕ) (h : StepWords frames shared w) (c : ℕ) where
  abbrev P : Program
  P = program_of (frames_of frames)

  abbrev s : State
  s = state_in frames w

  fit : SchedulerFits (frame_at (frames_of frames) 0).c (scheduler_at s c)
  fit = scheduler_fits (frames_of frames) P _ (fits_in frames shared w h) s (shaped frames shared w h) c

  -- ---- a scheduler of the file
  module _ (e : is_scheduler_of P c ≡ true) where
    there : (c - 2 < length s.schedulers) × (is_scheduler c ≡ true)
    unfolding is_scheduler_of
    there = scheduler_there (fits_in frames shared w h) (shaped frames shared w h) c e

    pub party_place : is_place c ≡ true
    party_place = scheduler_place c there.1

    in_lists : c - 2 < 8
    in_lists = let (a, b) = test_bounds 2 c there.1 in omega arith

    pub turn_choice : TurnChoice frames c
    turn_choice = e ∙ sym there.1

    first : (t : ℕ) → t ≡ get_or w (3 + 130 * (c - 2)) 0 → t ≡ get_or (scheduler_at s c).active 0 0
    first t q = q ∙ first_says w s (says frames shared w h) c in_lists there.0

    -- ---- with a first active thread
    module _ (t : ℕ) (q : t ≡ get_or w (3 + 130 * (c - 2)) 0) (some : t ≡ 0 → ⊥) where
      is_thread : IsThread t
      is_thread = by (scheduler_at s c).active (first t q) fit.threads
        where
          by : (ts : List ℕ) → t ≡ get_or ts 0 0 → All IsThread ts → IsThread t
          by [] z f = absurd (some z)
          by (a ∷ ts) z (more f fs) = subst IsThread (sym z) f

      pub turn_asks : (1 ≤ t) × (t ≤ 64)
      turn_asks = is_thread

      pub turn_done : (r : CallResult) → r ≡ as_call w (step_thread P s c t)
          → r ≡ as_call w (step_scheduler P s c (scheduler_at s c).active)
      turn_done r k = by (scheduler_at s c).active (first t q)
        where
          by : (ts : List ℕ) → t ≡ get_or ts 0 0 → r ≡ as_call w (step_scheduler P s c ts)
          by [] z = absurd (some z)
          by (a ∷ ts) z = k ∙ ap (λ (i : ℕ). as_call w (step_thread P s c i)) z

    -- ---- with none: an instant ends
    module _ (t : ℕ) (q : t ≡ get_or w (3 + 130 * (c - 2)) 0) (zero_is : t ≡ 0) where
      idle : (scheduler_at s c).active ≡ []
      idle = by (scheduler_at s c).active (sym zero_is ∙ first t q) fit.threads
        where
          by : (ts : List ℕ) → 0 ≡ get_or ts 0 0 → All IsThread ts → ts ≡ []
          by [] z f = refl
          by (a ∷ ts) z (more f fs) = absurd (let y = f.0 in omega arith)

      pub instant_ends : (r : CallResult) → r ≡ as_call w (end_instant P s c)
          → r ≡ as_call w (step_scheduler P s c (scheduler_at s c).active)
      instant_ends r k = k ∙ ap (λ (ts : List ℕ). as_call w (step_scheduler P s c ts)) (sym idle)

  -- ---- the whole choice, by the tests of `step_valid`
  module _ (b : Bool) (file : File) (f : file ≡ file_of P) (q : b ≡ has_scheduler file.schedulers.count c) where
    same : b ≡ is_scheduler_of P c
    unfolding is_scheduler_of
    same = q ∙ ap (λ (x : File). has_scheduler x.schedulers.count c) f

    pub is_scheduler_lem : b ≡ true → is_scheduler_of P c ≡ true
    is_scheduler_lem e = sym same ∙ e

    whole : step_call (frames_of frames) w c ≡ as_call w (step P s c)
    whole = called_in (frames_of frames) w c h.range

    pub scheduler_steps : b ≡ true → (r : CallResult)
        → r ≡ as_call w (step_scheduler P s c (scheduler_at s c).active)
        → r ≡ step_call (frames_of frames) w c
    unfolding step_within
    scheduler_steps e r k = k ∙ ap (as_call w) (sym (if_yes _ _ (is_scheduler_lem e))) ∙ sym whole

    module _ (no : b ≡ false) where
      not_scheduler : is_scheduler_of P c ≡ false
      not_scheduler = sym same ∙ no

      module _ (d : Bool) (u : d ≡ is_unlinked_word w c) where
        unlinked : d ≡ is_unlinked s c
        unlinked =
            u
            ∙ unlinked_says w s (says frames shared w h) (shaped frames shared w h).threads_room c

        module _ (yes : d ≡ true) where
          thread : IsThread (c - 16)
          thread = unlinked_is (frames_of frames) P _ (fits_in frames shared w h) s c (shaped frames shared w h) (sym unlinked ∙ yes)

          pub thread_asks : (1 ≤ c - 16) × (c - 16 ≤ 64) × TurnChoice frames c
          thread_asks = (thread.0, thread.1, not_scheduler ∙ sym over)
            where
              over : is_scheduler c ≡ false
              over =
                  let z = thread in ap₂ ◌&&◌ (le-leb 2 c (omega arith)) (lt-leb c 9 (omega arith))

          pub thread_steps : (r : CallResult) → r ≡ as_call w (step_thread P s c (c - 16))
              → r ≡ step_call (frames_of frames) w c
          unfolding step_within
          thread_steps r k =
              k ∙ ap (as_call w) (sym (if_no _ _ not_scheduler ∙ if_yes _ _ (sym unlinked ∙ yes)))
              ∙ sym whole

        pub no_party : d ≡ false → call_result 15 0 0 w ≡ step_call (frames_of frames) w c
        unfolding step_within access_count when◌then◌else◌
        no_party e =
            ap (as_call w) (sym (if_no _ _ not_scheduler ∙ if_no _ _ (sym unlinked ∙ e)))
            ∙ sym whole

  -- ---- by the thread that acts
  module _ (file : File) (f : file ≡ file_of P) (t : ℕ) (a : t ≡ acting_in file.schedulers.count w c) where
    abbrev has : Bool
    has = has_scheduler file.schedulers.count c

    abbrev unlinked_word : Bool
    unlinked_word = is_unlinked_word w c

    acting_cases : {Q : Type 0} → (has ≡ true → t ≡ get_or w (3 + 130 * (c - 2)) 0 → Q)
        → (has ≡ false → unlinked_word ≡ true → t ≡ c - 16 → Q)
        → (has ≡ false → unlinked_word ≡ false → t ≡ 0 → Q) → Q
    unfolding acting_in
    acting_cases {Q} first_active named nobody = by has refl unlinked_word refl
      where
        by : (b : Bool) → has ≡ b → (d : Bool) → unlinked_word ≡ d → Q
        by true e d u = first_active e (a ∙ if_yes _ _ e)
        by false e true u = named e u (a ∙ if_no _ _ e ∙ if_yes _ _ u)
        by false e false u = nobody e u (a ∙ if_no _ _ e ∙ if_no _ _ u)

    -- its turn
    module _ (some : t ≡ 0 → ⊥) where
      pub acting_asks : (1 ≤ t) × (t ≤ 64) × TurnChoice frames c
      acting_asks =
          acting_cases
          (λ e z. let i = is_scheduler_lem has file f refl e in let k = turn_asks i t z some in (k.0, k.1, turn_choice i))
          (λ e u z. subst (λ (i : ℕ). (1 ≤ i) × (i ≤ 64) × TurnChoice frames c) (sym z) (thread_asks has file f refl e unlinked_word refl u))
          (λ e u z. absurd (some z))

      pub acting_steps : (r : CallResult) → r ≡ as_call w (step_thread P s c t)
          → r ≡ step_call (frames_of frames) w c
      acting_steps r k =
          acting_cases
          (λ e z. scheduler_steps has file f refl e _ (turn_done (is_scheduler_lem has file f refl e) t z some r k))
          (λ e u z. thread_steps has file f refl e unlinked_word refl u _ (k ∙ ap (λ (i : ℕ). as_call w (step_thread P s c i)) z))
          (λ e u z. absurd (some z))

    -- where none acts
    module _ (none : t ≡ 0) (b : Bool) (q : b ≡ has_scheduler file.schedulers.count c) where
      pub nobody_steps : not b ≡ true → call_result 15 0 0 w ≡ step_call (frames_of frames) w c
      nobody_steps m =
          acting_cases
          (λ e z. absurd (true≢false (sym e ∙ sym q ∙ not-true b m)))
          (λ e u z. absurd (let k = (thread_asks has file f refl e unlinked_word refl u).0 in omega arith))
          (λ e u z. no_party has file f refl e unlinked_word refl u)

      module _ (yes : not b ≡ false) where
        has_is : has ≡ true
        has_is = sym q ∙ not-false b yes

        is : is_scheduler_of P c ≡ true
        is = is_scheduler_lem has file f refl has_is

        pub idle_place : is_place c ≡ true
        idle_place = party_place is

        first_none : t ≡ get_or w (3 + 130 * (c - 2)) 0
        first_none =
            acting_cases (λ e z. z) (λ e u z. absurd (true≢false (sym has_is ∙ e)))
            (λ e u z. absurd (true≢false (sym has_is ∙ e)))

        module _ (p : Place) (at : p ≡ record { number = c }) where
          pub idle_asks : InstantWords frames file.schedulers w p.number
          idle_asks =
              record {
                shared = shared;
                step = h;
                groups = ap (λ (x : File). x.schedulers) f;
                party = ap (λ (x : Place). is_scheduler_of P x.number) at ∙ is;
              }

          pub idle_steps : (r : CallResult) → r ≡ as_call w (end_instant P s p.number)
              → r ≡ step_call (frames_of frames) w c
          idle_steps r k =
              scheduler_steps has file f refl has_is _
              (instant_ends is t first_none none r (k ∙ ap (λ (x : Place). as_call w (end_instant P s x.number)) at))

-- ---- the acting thread, as the code finds it
module _ (n : ℕ) (w : List ℕ) (c : ℕ) (b : Bool) (q : b ≡ has_scheduler n c) where
  pub acting_place : b ≡ true → is_place c ≡ true
  acting_place e = scheduler_place c (has_scheduler_lem n c (sym q ∙ e)).0

  pub acting_list : b ≡ true → (p : Place) → p ≡ record { number = c }
      → is_scheduler p.number ≡ true
  acting_list e p at =
      ap (λ (x : Place). is_scheduler x.number) at ∙ (has_scheduler_lem n c (sym q ∙ e)).0

  pub acting_first : b ≡ true → (p : Place) → p ≡ record { number = c } → (r : ℕ)
      → r ≡ get_or w (3 + 130 * (p.number - 2)) 0 → r ≡ acting_in n w c
  unfolding acting_in
  acting_first e p at r k =
      k ∙ ap (λ (x : Place). get_or w (3 + 130 * (x.number - 2)) 0) at ∙ sym (if_yes _ _ (sym q ∙ e))

  module _ (no : b ≡ false) (d : Bool) (u : d ≡ is_unlinked_word w c) where
    pub acting_named : d ≡ true → c - 16 ≡ acting_in n w c
    unfolding acting_in
    acting_named e = sym (if_no _ _ (sym q ∙ no) ∙ if_yes _ _ (sym u ∙ e))

    pub acting_nobody : d ≡ false → 0 ≡ acting_in n w c
    unfolding acting_in
    acting_nobody e = sym (if_no _ _ (sym q ∙ no) ∙ if_no _ _ (sym u ∙ e))

pub named_low : (w : List ℕ) (c : ℕ) (d : Bool) → d ≡ is_unlinked_word w c → d ≡ true → 16 ≤ c
named_low w c d u e = by (leb c 16) refl
  where
    by : (b : Bool) → leb c 16 ≡ b → 16 ≤ c
    by true k = absurd (true≢false (sym e ∙ u ∙ sym (unlinked_low w c (leb-true c 16 k))))
    by false k = let l = leb-false c 16 k in omega arith

-- an answer in which no thread acts
pub answered : (r : StepAnswer) (n : Option Rule) (v : List ℕ) (k : CallResult)
    → r ≡ nobody_answers n → call_result (step_number n) 0 0 v ≡ k → stepped_on r v ≡ k
answered r n v k e h = ap (λ (x : StepAnswer). stepped_on x v) e ∙ h
