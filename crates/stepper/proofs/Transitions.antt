-- Each transition of a turn, committed on the words, is what the rules make of the state. Assumes
-- nothing.
use Prim.Native.Nat.{ℕ, suc, ◌+◌, ◌-◌, ◌<◌, ◌≤◌}
use mathlib.Core.Path.{◌≡◌, refl, sym, ap, ◌∙◌, subst}
use mathlib.Core.List.{List, []}
use mathlib.Core.Bool.{Bool, true, false}
use native.Mathlib.Omega.{arith}
use lib.Dec.{leb, eqb}
use lib.ListN.{length, set, length-set}
use borrow.Author.Tests.{leb-true, eqb-false}
use Rattle.language.specs.declared.refusal.Rule.{Rule}
use Rattle.language.specs.Refusals.{rule_number}
use Rattle.stepper.proofs.RuleLaws.{rule_counts}
use Rattle.basics.specs.If.{when◌then◌else◌}
use Rattle.basics.proofs.Ifs.{if_all, if_yes, if_no}
use Rattle.language.specs.Places.{private, has_place, has_scheduler, is_scheduler}
use Rattle.language.specs.declared.frame.Frame.{Frame}
use Rattle.language.proofs.PlaceLaws.{from_home, has_scheduler_lem}
use Rattle.language.proofs.PlaceLaws.{place_scheduler as file_scheduler}
use Rattle.program.specs.Programs.{Program, owner_of_event}
use Rattle.machine.specs.Accesses.{Access}
use Rattle.machine.specs.State.{State, Stored, Thread, Entry, plain, scheduler_at, enlist}
use Rattle.machine.specs.State.{used_cells}
use Rattle.machine.specs.Turns.{state_spaces, StepResult, Turn, refuse, accept, settled}
use Rattle.machine.specs.Turns.{is_scheduler_of}
use Rattle.machine.specs.Turns.{leave, room}
use Rattle.machine.specs.Words.{pack, entry_word}
use Rattle.machine.specs.Inner.Blocks.{pasted, cell_words}
use Rattle.stepper.specs.Inner.Files.{as_committed, grouping_of}
use Rattle.commits.specs.Inner.Commits.{Committed, committed}
use Rattle.machine.proofs.WordLaws.{Says, is_pack}
use Rattle.machine.specs.Shapes.{Shaped}
use Rattle.machine.proofs.KeptShape.{FileFits, scheduler_fits, leave_next}
use Rattle.states.specs.declared.thread.ThreadWords.{ThreadWords}
use Rattle.states.specs.Inner.Threads.{thread_words_of}
use Rattle.acts.specs.declared.act.Transition.TheVariants.{Stays, Leaves, Joins}
use Rattle.acts.specs.Inner.Transitions.{TurnResult, acted_in, refused_in}
use Rattle.turns.specs.Inner.Acts.{TurnOutcome, turn_outcome}
use Rattle.commits.specs.Inner.Commits.{settled_in, left_in, room_in, joins_in, committed_in}
use Rattle.stepper.proofs.Grows.{Grown}
use Rattle.stepper.proofs.Commits.{with_cell_words, left_says, joined_says, settled_says}
use Rattle.stepper.proofs.Commits.{room_is, cleared_is}

-- ---- schedulers: how many there are, and which
pub leave_count : (u : Turn) (s : State) → length (leave u s).schedulers ≡ length s.schedulers
unfolding leave
leave_count u s =
    if_all (λ (r : State). length r.schedulers ≡ length s.schedulers)
    (is_scheduler_of u.program u.choice) _ s
    (λ _. length-set s.schedulers (u.choice - 2) _) (λ _. refl)

pub enlist_count : (q : ℕ) (e : Entry) (s : State)
    → length (enlist q e s).schedulers ≡ length s.schedulers
unfolding enlist
enlist_count q e s = length-set s.schedulers (q - 2) _

-- a place of the file that is not private is a scheduler
pub place_scheduler : (n q : ℕ) → has_place n q ≡ true → eqb q private ≡ false
    → has_scheduler n q ≡ true
place_scheduler n q p e =
    file_scheduler n q p (eqb-false q 1 e)

-- a scheduler of the file has its lists in the state and in the words
pub scheduler_there : {fs : List Frame} {P : Program} {n : ℕ} {s : State} → FileFits fs P n
    → Shaped fs n s → (q : ℕ) → has_scheduler n q ≡ true
    → (q - 2 < length s.schedulers) × (is_scheduler q ≡ true)
scheduler_there {n = n} F S q e =
    let (b, m) = has_scheduler_lem n q e in
    let l = from_home q b in
    let z = S.count in
    (omega arith, b)

less_one : (k : ℕ) → suc k - 1 ≡ k
less_one k = omega arith

-- ---- thread k + 1 is there and acts at choice c, on words w of the state s
pub record Acts (fs : List Frame) (P : Program) (n : ℕ) (w : List ℕ) (s : State) (c k : ℕ) : Type 0 where
  pub file : FileFits fs P n
  pub says : Says w s
  pub shape : Shaped fs n s
  pub there : k < length s.threads
  pub list : is_scheduler_of P c ≡ is_scheduler c
  pub owners : (e : ℕ) → e < length P.events → has_scheduler n (owner_of_event P e) ≡ true

module _ {fs : List Frame} {P : Program} {n : ℕ} {w : List ℕ} {s : State} {c k : ℕ} (A : Acts fs P n w s c k) where
  -- the turn of that thread, with those cells and accesses so far
  abbrev pub turn_at : Thread → List Stored → List Access → Turn
  turn_at x cs acc = record { program = P; state = s; choice = c; thread = suc k; self = x; cells = cs; accesses = acc; signals = []; spaces = state_spaces }

  -- what the turn has come to, committed on the words with its cells and their count; and where the
  -- cells are those
  abbrev pub commit_on : TurnOutcome → Committed
  commit_on r =
      committed_in P (grouping_of P) (set (pasted w 4578 r.cells 256) 1 r.acted.used) (used_cells s.cells) c
      (suc k) r.acted r.acted.transition

  abbrev pub commit : TurnResult → List Stored → Committed
  commit a cs = commit_on (turn_outcome a (cell_words cs))

  -- ---- what holds of lists
  few : k < 64
  few = let a = A.shape.threads_room in let b = A.there in omega arith

  pub list_there : (q : ℕ) → has_scheduler n q ≡ true
      → (q - 2 < length s.schedulers) × (is_scheduler q ≡ true)
  list_there q e = scheduler_there A.file A.shape q e

  pub chosen_there : is_scheduler_of P c ≡ true → c - 2 < length s.schedulers
  unfolding is_scheduler_of
  chosen_there e =
      (list_there c (subst (λ (m : ℕ). has_scheduler m c ≡ true) A.file.schedulers e)).0

  pub active_few : (q : ℕ) → length (scheduler_at s q).active ≤ 64
  active_few q = (scheduler_fits fs P n A.file s A.shape q).active_room

  module _ (x : Thread) (cs : List Stored) (acc : List Access) where
    abbrev u : Turn
    u = turn_at x cs acc

    -- ---- refused
    pub refuse_is : (r : Rule) (th : ThreadWords) → Grown s.cells cs → used_cells cs ≤ 256
        → commit (refused_in r th (used_cells cs)) cs ≡ as_committed w (refuse u (rule_number r))
    refuse_is r th g l =
        let m = rule_number r in
        ap (committed m (suc k)) (cleared_is w s A.says cs g l)
        ∙ ap (λ (b : Bool). committed m (suc k) (elim b [ true ↦ pack s | false ↦ w ]))
        (sym (rule_counts r))

    -- ---- the acting thread is y after the turn
    module _ (y : Thread) where
      abbrev after : State
      after = settled u y

      pub settled_is : Says (settled_in (with_cell_words w cs) (suc k - 1) (thread_words_of y)) after
      settled_is =
          subst (λ (i : ℕ). Says (settled_in (with_cell_words w cs) i (thread_words_of y)) after)
          (sym (less_one k))
          (settled_says w s A.says cs k y few A.there)

      pub left_is :
          Says (left_in (settled_in (with_cell_words w cs) (suc k - 1) (thread_words_of y)) c)
          (leave u after)
      left_is = left_says _ after settled_is u A.list chosen_there (active_few c)

      pub stays_is : commit (acted_in Stays (thread_words_of y) (used_cells cs)) cs
          ≡ as_committed w (accept u after)
      stays_is = ap (committed 0 (suc k)) (is_pack _ after settled_is)

      pub leaves_is : commit (acted_in Leaves (thread_words_of y) (used_cells cs)) cs
          ≡ as_committed w (accept u (leave u after))
      leaves_is = ap (committed 0 (suc k)) (is_pack _ (leave u after) left_is)

      pub joins_is : (q : ℕ) → has_scheduler n q ≡ true → Grown s.cells cs → used_cells cs ≤ 256
          → commit (acted_in (Joins (record { number = q })) (thread_words_of y) (used_cells cs)) cs
          ≡ as_committed w (when room u 1 q then accept u (enlist q (plain (suc k)) (leave u after)) else refuse u 20)
      unfolding joins_in room entry_word
      joins_is q e g l =
          if_all (λ (r : StepResult). commit (acted_in (Joins (record { number = q })) (thread_words_of y) (used_cells cs)) cs ≡ as_committed w r) (leb (length (scheduler_at s q).next + 1) 64) _ _
          (λ b. if_yes _ _ (same ∙ b) ∙ ap (committed 0 (suc k)) (is_pack _ _ (joined_says _ left left_is q (plain (suc k)) z.1 (rw leave_count z.0) (short (leb-true _ 64 b)))))
          (λ b. if_no _ _ (same ∙ b) ∙ refuse_is Rule.Stuck (thread_words_of y) g l)
        where
          z : (q - 2 < length s.schedulers) × (is_scheduler q ≡ true)
          z = list_there q e

          left : State
          left = leave u after

          same : room_in (with_cell_words w cs) q 1 ≡ leb (length (scheduler_at s q).next + 1) 64
          same = room_is w s A.says cs q 1 z.1 z.0

          short : length (scheduler_at s q).next + 1 ≤ 64
              → length (scheduler_at (leave u after) q).next < 64
          short h = let e = leave_next fs P n A.file u after q in omega arith
