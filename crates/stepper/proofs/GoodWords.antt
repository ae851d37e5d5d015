-- What a file that passes refusals 1 to 7 and words in range give: a file that fits, the state that
-- the words are, its shape, and each thread that is there. Assumes nothing.
use Prim.Native.Nat.{ℕ, suc, ◌+◌, ◌-◌, ◌<◌, ◌≤◌}
use Prim.Native.Nat.{◌*◌}
use mathlib.Core.Path.{◌≡◌, sym, ap, ◌∙◌, subst}
use mathlib.Core.List.{List}
use mathlib.Core.Bool.{true}
use native.Mathlib.Omega.{arith}
use lib.ListN.{length, get_or, length-map}
use Rattle.language.specs.Places.{is_place}
use Rattle.language.specs.Places.{has_scheduler}
use Rattle.language.specs.declared.frame.Frame.{Frame}
use Rattle.language.proofs.PlaceLaws.{has_place_lem}
use Rattle.text.specs.Frames.{frames_of}
use Rattle.program.specs.Programs.{Program, program_of}
use Rattle.program.specs.Programs.{owner_of_event}
use Rattle.machine.specs.State.{State, nth, thread_at}
use Rattle.machine.specs.State.{no_scheduler}
use Rattle.machine.proofs.WordLaws.{Says}
use Rattle.machine.proofs.Blocks.{says_pack}
use Rattle.machine.specs.Shapes.{Shaped, ThreadFits}
use Rattle.machine.specs.Shapes.{SchedulerFits}
use Rattle.machine.proofs.Valid.{packed}
use Rattle.machine.proofs.InShape.{in_range_shaped}
use Rattle.machine.proofs.KeptShape.{FileFits}
use Rattle.machine.proofs.KeptShape.{scheduler_fits}
use Rattle.states.specs.Inner.Threads.{thread_words_of, thread_in}
use Rattle.states.proofs.ThreadSays.{load_is}
use Rattle.reach.proofs.Sizes.{Sized, fields_small}
use Rattle.reach.proofs.Fits.{file_fits}
use Rattle.stepper.specs.Inner.Files.{FileWords, StepWords, state_in}
use Rattle.program.specs.Trees.{frame_at}
use Rattle.machine.specs.Words.{entry_word}
use Rattle.machine.proofs.Round.{scheduler_active, scheduler_next}
use Rattle.layout.proofs.Events.{event_owners}

-- ---- the file
module _ (frames : List ℕ) (file : FileWords frames) where
  sized_words : Sized (frames_of frames)
  sized_words = record { few = rw length-map file.few; a = λ j. (fields_small frames j).0; b = λ j. (fields_small frames j).1 }

  pub fits_words : FileFits (frames_of frames) (program_of (frames_of frames)) (program_of (frames_of frames)).schedulers
  fits_words = file_fits sized_words file.laid_out

-- ---- the state
module _ (frames : List ℕ) (shared : ℕ) (w : List ℕ) (h : StepWords frames shared w) where
  abbrev fs : List Frame
  fs = frames_of frames

  abbrev P : Program
  P = program_of (frames_of frames)

  abbrev n : ℕ
  n = (program_of (frames_of frames)).schedulers

  abbrev s : State
  s = state_in frames w

  pub fits_in : FileFits fs P n
  fits_in = fits_words frames h.file

  pub few_events : (frame_at fs 0).c ≤ 16
  few_events = let l = fits_in.few_events in rw fits_in.events at l

  pub shaped : Shaped fs n s
  shaped = in_range_shaped fs n w fits_in.most_schedulers few_events h.range

  pub says : Says w s
  says = subst (λ (v : List ℕ). Says v s) (sym (packed fs n w h.range)) (says_pack s)

  pub step_long : length w ≡ 4834
  step_long = says.all

  pub threads_few : get_or w 0 0 ≤ 64
  threads_few = rw says.threads shaped.threads_room

  -- whose the events are
  pub owners_in : (e : ℕ) → e < length P.events → has_scheduler n (owner_of_event P e) ≡ true
  unfolding program_of
  owners_in e l = event_owners fs h.file.laid_out e l

  -- ---- lists within their spaces
  list_fits : (k : ℕ) → SchedulerFits (frame_at fs 0).c (get_or s.schedulers k no_scheduler)
  list_fits k =
      let z : k + 2 - 2 ≡ k = omega arith in
      subst (λ (i : ℕ). SchedulerFits (frame_at fs 0).c (get_or s.schedulers i no_scheduler)) z
      (scheduler_fits fs P n fits_in s shaped (k + 2))

  pub active_short : (k : ℕ) → k < 8 → get_or w (2 + 130 * k) 0 ≤ 64
  active_short k l =
      let x = get_or s.schedulers k no_scheduler in
      let z : 2 + 130 * k ≡ 2 + 130 * k + 0 = omega arith in
      let f = (list_fits k).active_room in
      rw (ap (λ (i : ℕ). get_or w i 0) z ∙ says.scheduler k 0 l (omega arith) ∙ scheduler_active x 0 (omega arith)) f

  pub next_short : (k : ℕ) → k < 8 → get_or w (67 + 130 * k) 0 ≤ 64
  next_short k l =
      let x = get_or s.schedulers k no_scheduler in
      let z : 67 + 130 * k ≡ 2 + 130 * k + (65 + 0) = omega arith in
      let f = (list_fits k).next_room in
      rw (ap (λ (i : ℕ). get_or w i 0) z ∙ says.scheduler k (65 + 0) l (omega arith) ∙ scheduler_next x 0 (omega arith) ∙ length-map x.next entry_word) f

  -- ---- a thread that is there; in the lists it counts from 0
  module _ (t : ℕ) (low : 1 ≤ t) (high : t ≤ get_or w 0 0) where
    pub index : suc (t - 1) ≡ t
    index = omega arith

    pub in_list : t - 1 < length s.threads
    in_list = let z = says.threads in omega arith

    pub thread_read : thread_in w (t - 1) ≡ thread_words_of (thread_at s t)
    thread_read =
        let a = threads_few in
        load_is w s says (t - 1) (omega arith)
        ∙ ap (λ (i : ℕ). thread_words_of (nth s.threads i)) index

    pub fit : ThreadFits fs n (thread_at s t)
    fit = subst (λ (i : ℕ). ThreadFits fs n (nth s.threads i)) index (shaped.threads (t - 1) in_list)

    pub place_in : is_place (thread_at s t).place ≡ true
    place_in = (has_place_lem n (thread_at s t).place fit.place).0
