-- A start, committed on the words, is what the rules make of the state. Assumes nothing.
use Prim.Native.Nat.{ℕ, zero, suc, ◌+◌, ◌-◌, ◌*◌, ◌<◌, ◌≤◌}
use mathlib.Core.Path.{◌≡◌, refl, sym, ap, ap₂, ◌∙◌}
use mathlib.Core.List.{List, [], ◌∷◌, map}
use mathlib.Core.Bool.{Bool, true, false, not}
use native.Mathlib.Omega.{arith}
use native.Mathlib.Numerals.{add-one}
use lib.Dec.{ltb, leb, eqb}
use lib.ListN.{length, get_or}
use lib.Seq.{ext_get_or}
use borrow.Author.Tests.{leb-true, leb-false, le-ltb, lt-ltb, eqb-true, eqb-false, eq-eqb, ne_eqb}
use borrow.Author.Tests.{not-false}
use Rattle.language.specs.declared.refusal.Rule.{Rule}
use Rattle.basics.specs.If.{when◌then◌else◌}
use Rattle.basics.proofs.Ifs.{if_all, if_yes, if_no}
use Rattle.language.specs.Places.{has_place, has_scheduler, is_scheduler}
use Rattle.language.specs.declared.frame.Frame.{Frame}
use Rattle.program.specs.Trees.{root_s}
use Rattle.program.specs.Programs.{Program, module_at}
use Rattle.machine.specs.Accesses.{Access}
use Rattle.machine.specs.State.{State, Stored, Thread, plain, waiting, with_new, enlist, used_cells}
use Rattle.machine.specs.Turns.{StepResult, Turn, unlinked_here, refuse, accept, settled, leave}
use Rattle.machine.specs.Turns.{room}
use Rattle.machine.specs.Statements.{started, with_started, starting, started_wait}
use Rattle.machine.specs.Words.{item_word, value_word, entry_word}
use Rattle.machine.specs.Inner.Blocks.{padded}
use Rattle.stepper.specs.Inner.Files.{as_committed}
use Rattle.commits.specs.Inner.Commits.{committed}
use Rattle.machine.specs.declared.value.Value.{Value}
use Rattle.machine.proofs.WordLaws.{Says, is_pack}
use Rattle.machine.proofs.Padded.{padded-length, padded_at}
use Rattle.machine.proofs.Space.{leave_threads}
use Rattle.machine.proofs.KeptShape.{leave_next, enlist_next, has_room, settled-length}
use Rattle.states.specs.declared.thread.ThreadWords.{ThreadWords}
use Rattle.states.specs.Inner.Threads.{thread_words_of, with_one_more}
use Rattle.states.proofs.ThreadSays.{add_says}
use Rattle.acts.specs.declared.act.Arguments.{Arguments}
use Rattle.acts.specs.Inner.Transitions.{TurnResult, arguments_of}
use Rattle.turns.specs.Inner.Acts.{starts_with, request}
use Rattle.program.specs.Inner.Modules.{module_of}
use Rattle.program.specs.declared.module.Module.{Module}
use Rattle.program.proofs.ModuleLaws.{module_found, module_missing}
use Rattle.std.specs.Prelude.{Option, Ok, Err}
use Rattle.language.specs.Refusals.{rule_number}
use Rattle.commits.specs.Inner.Commits.{Committed, Obstacle, unless, starts_found}
use Rattle.commits.specs.Inner.Commits.{settled_in, left_in, room_in, joined_in, new_in}
use Rattle.commits.specs.Inner.Commits.{obstacle_in, refuses_in, starts_in, started_in, waiting_in}
use Rattle.stepper.proofs.Grows.{Grown}
use Rattle.stepper.proofs.Commits.{with_cell_words, cells_out, joined_says, room_is}
use Rattle.stepper.proofs.Transitions.{Acts, turn_at, commit, place_scheduler, list_there}
use Rattle.stepper.proofs.Transitions.{leave_count, enlist_count, refuse_is, settled_is, left_is}

padded_same : (n : ℕ) (a b : List ℕ) → ((j : ℕ) → get_or a j 0 ≡ get_or b j 0) → padded n a ≡ padded n b
padded_same n a b f =
    ext_get_or 0 (padded n a) (padded n b) (padded-length n a ∙ sym (padded-length n b))
    (λ j g. let l : j < n = rw (padded-length n a) at g in padded_at n a j l ∙ f j ∙ sym (padded_at n b j l))

-- at most two arguments are the words of two
two_words : (vs : List ℕ) → length vs ≤ 2 → (j : ℕ)
    → get_or (get_or vs 0 0 ∷ get_or vs 1 0 ∷ []) j 0 ≡ get_or vs j 0
two_words [] h zero = refl
two_words [] h (suc zero) = refl
two_words [] h (suc (suc j)) = refl
two_words (a ∷ []) h zero = refl
two_words (a ∷ []) h (suc zero) = refl
two_words (a ∷ []) h (suc (suc j)) = refl
two_words (a ∷ b ∷ []) h zero = refl
two_words (a ∷ b ∷ []) h (suc zero) = refl
two_words (a ∷ b ∷ []) h (suc (suc j)) = refl
two_words (a ∷ b ∷ d ∷ vs) h j = absurd (omega arith)

-- the words of those values, as a start takes them
abbrev argument_words : List Value → Arguments
argument_words vs =
    arguments_of (length vs) (get_or (map value_word vs) 0 0) (get_or (map value_word vs) 1 0)

-- the definition's tests and those of the rules
not_less : (a b : ℕ) → not (ltb a b) ≡ leb b a
not_less a b = go (leb b a) refl
  where
    go : (r : Bool) → leb b a ≡ r → not (ltb a b) ≡ leb b a
    go true e = ap not (le-ltb a b (leb-true b a e)) ∙ sym e
    go false e = ap not (lt-ltb a b (leb-false b a e)) ∙ sym e

eqb_sym : (a b : ℕ) → eqb a b ≡ eqb b a
eqb_sym a b = go (eqb a b) refl
  where
    go : (r : Bool) → eqb a b ≡ r → eqb a b ≡ eqb b a
    go true e = e ∙ sym (eq-eqb b a (sym (eqb-true a b e)))
    go false e = e ∙ sym (ne_eqb b a (λ z. eqb-false a b e (sym z)))

module _ {fs : List Frame} {P : Program} {n : ℕ} {w : List ℕ} {s : State} {c k : ℕ} (A : Acts fs P n w s c k) (x : Thread) (place : has_place n x.place ≡ true) (cs : List Stored) (acc : List Access)
    (g : Grown s.cells cs) (l : used_cells cs ≤ 256) where
  abbrev u : Turn
  u = turn_at A x cs acc

  abbrev v : List ℕ
  v = with_cell_words w cs

  -- the turn's words, with those arguments
  abbrev pub argued : Bool → ℕ → List Value → TurnResult
  argued waits m vs =
      starts_with (request waits m) (thread_words_of x) (used_cells cs) (argument_words vs)

  new_is : (waits : Bool) (m : ℕ) (vs : List Value) → length (map value_word vs) ≤ 2
      → new_in (argued waits m vs) (argument_words vs) (suc k) (root_s (module_at P m).body)
      ≡ thread_words_of (started u (module_at P m) vs)
  unfolding item_word
  new_is waits m vs h = λ i. record {
    place = x.place;
    starter = suc k;
    alive = 1;
    items = 1;
    continuation = padded 25 (root_s (module_at P m).body ∷ []);
    values = length vs;
    variables = padded_same 25 (get_or (map value_word vs) 0 0 ∷ get_or (map value_word vs) 1 0 ∷ []) (map value_word vs) (two_words (map value_word vs) h) i;
  }

  linked_place : unlinked_here u ≡ false → has_scheduler n x.place ≡ true
  linked_place e = place_scheduler n x.place place e

  room_same : (m : ℕ) → unlinked_here u ≡ false → room_in v x.place m ≡ room u m x.place
  unfolding room
  room_same m e =
      let z = list_there A x.place (linked_place e) in
      room_is w s A.says cs x.place m z.1 z.0

  count : get_or v 0 0 ≡ length s.threads
  count = cells_out w s A.says cs 0 (λ e. omega arith) (omega arith) ∙ A.says.threads

  -- ---- what stands in the way: the words' obstacle for each test of the rules, in their order
  module _ (m : ℕ) (vs : List Value) where
    abbrev obstacle : Obstacle
    obstacle = obstacle_in v (module_of (module_at P m)) x.place (length vs)

    module _ (linked : unlinked_here u ≡ false) where
      module _ (agrees : not (eqb (length vs) (length (module_at P m).types)) ≡ false) where
        before : obstacle
            ≡ (when not (room_in v x.place 1) then Err Rule.Stuck else
            when leb 64 (get_or v 0 0) then Err Rule.ThreadsSpent else Ok tt)
        unfolding obstacle_in
        before =
            if_no _ _ linked
            ∙ if_no _ _ (ap not (eqb_sym (length (module_at P m).types) (length vs)) ∙ agrees)

        full_list : not (room u 1 x.place) ≡ true → obstacle ≡ Err Rule.Stuck
        full_list e = before ∙ if_yes _ _ (ap not (room_same 1 linked) ∙ e)

        full_threads : not (room u 1 x.place) ≡ false → leb 64 (length s.threads) ≡ true
            → obstacle ≡ Err Rule.ThreadsSpent
        full_threads e f =
            before ∙ if_no _ _ (ap not (room_same 1 linked) ∙ e)
            ∙ if_yes _ _ (ap (leb 64) count ∙ f)

        none : not (room u 1 x.place) ≡ false → leb 64 (length s.threads) ≡ false
            → obstacle ≡ Ok tt
        none e f =
            before ∙ if_no _ _ (ap not (room_same 1 linked) ∙ e)
            ∙ if_no _ _ (ap (leb 64) count ∙ f)

      other_count : not (eqb (length vs) (length (module_at P m).types)) ≡ true
          → obstacle ≡ Err Rule.Stuck
      unfolding obstacle_in
      other_count e =
          if_no _ _ linked
          ∙ if_yes _ _ (ap not (eqb_sym (length (module_at P m).types) (length vs)) ∙ e)

    no_list : unlinked_here u ≡ true → obstacle ≡ Err Rule.Stuck
    unfolding obstacle_in
    no_list e = if_yes _ _ e

    module _ (waits : Bool) where
      -- a start of the module so found
      abbrev starts_by : Option Module → Committed
      starts_by y =
          starts_found v (used_cells s.cells) c (suc k) (argued waits m vs) waits
          (argument_words vs) y

      -- where nothing stands in the way
      abbrev free : Committed
      free =
          when not waits then
          committed 0 (suc k)
          (started_in v (suc k) (argued waits m vs) (argument_words vs) (root_s (module_at P m).body))
          else
          when not (room_in v x.place 2) then refuses_in v (used_cells s.cells) (suc k) Rule.Stuck else
          committed 0 (suc k)
          (waiting_in v c (suc k) (argued waits m vs) (argument_words vs)
          (root_s (module_at P m).body))

      no_module : leb (length P.modules) m ≡ true
          → commit A (argued waits m vs) cs ≡ as_committed w (refuse u 20)
      unfolding starts_in
      no_module e =
          ap starts_by (module_missing P m (leb-true (length P.modules) m e))
          ∙ refuse_is A x cs acc Rule.Stuck (thread_words_of x) g l

      refused : (i : Rule) → leb (length P.modules) m ≡ false → obstacle ≡ Err i
          → commit A (argued waits m vs) cs ≡ as_committed w (refuse u (rule_number i))
      unfolding starts_in
      refused i known h =
          ap starts_by (module_found P m (leb-false (length P.modules) m known))
          ∙ ap (λ (o : Obstacle). unless o (refuses_in v (used_cells s.cells) (suc k)) free) h
          ∙ refuse_is A x cs acc i (thread_words_of x) g l

      unlinked : (b : Bool) → leb (length P.modules) m ≡ b → unlinked_here u ≡ true
          → commit A (argued waits m vs) cs ≡ as_committed w (refuse u 20)
      unlinked true h e = no_module h
      unlinked false h e = refused Rule.Stuck h (no_list e)

      pub start_commits : (r : StepResult)
          → (leb (length P.modules) m ≡ false → obstacle ≡ Ok tt → unlinked_here u ≡ false
          → room u 1 x.place ≡ true → length s.threads < 64
          → commit A (argued waits m vs) cs ≡ as_committed w r)
          → commit A (argued waits m vs) cs ≡ as_committed w (starting u m vs r)
      unfolding starting
      start_commits r f =
          if_all G (unlinked_here u) _ _ (λ e. unlinked (leb (length P.modules) m) refl e)
          (λ linked. if_all G (leb (length P.modules) m) _ _ (λ e. no_module e)
          (λ known. if_all G (not (eqb (length vs) (length (module_at P m).types))) _ _ (λ e. refused Rule.Stuck known (other_count linked e))
          (λ agrees. if_all G (not (room u 1 x.place)) _ _ (λ e. refused Rule.Stuck known (full_list linked agrees e))
          (λ e4. if_all G (leb 64 (length s.threads)) _ _ (λ e. refused Rule.ThreadsSpent known (full_threads linked agrees e4 e))
          (λ e5. f known (none linked agrees e4 e5) linked (not-false (room u 1 x.place) e4) (leb-false 64 (length s.threads) e5))))))
        where
          G : StepResult → Type 0
          G y = commit A (argued waits m vs) cs ≡ as_committed w y

  module _ (m : ℕ) (vs : List Value) (few : length (map value_word vs) ≤ 2) (known : leb (length P.modules) m ≡ false) (ob : obstacle_in v (module_of (module_at P m)) x.place (length vs) ≡ Ok tt) (linked : unlinked_here u ≡ false)
      (less : length s.threads < 64) where
    list_here : (x.place - 2 < length s.schedulers) × (is_scheduler x.place ≡ true)
    list_here = list_there A x.place (linked_place linked)

    next_new : get_or v 0 0 + 1 ≡ suc (length s.threads)
    next_new = ap (λ (i : ℕ). i + 1) count ∙ add-one (length s.threads)

    plain_commit : commit A (argued false m vs) cs
        ≡ committed 0 (suc k)
        (started_in v (suc k) (argued false m vs) (argument_words vs) (root_s (module_at P m).body))
    unfolding starts_in
    plain_commit =
        ap (starts_by m vs false) (module_found P m (leb-false (length P.modules) m known))
        ∙ ap (λ (o : Obstacle). unless o (refuses_in v (used_cells s.cells) (suc k)) (free m vs false)) ob
        ∙ if_yes _ _ refl

    waiting_commit : commit A (argued true m vs) cs
        ≡ (when not (room_in v x.place 2) then refuses_in v (used_cells s.cells) (suc k) Rule.Stuck else
        committed 0 (suc k)
        (waiting_in v c (suc k) (argued true m vs) (argument_words vs) (root_s (module_at P m).body)))
    unfolding starts_in
    waiting_commit =
        ap (starts_by m vs true) (module_found P m (leb-false (length P.modules) m known))
        ∙ ap (λ (o : Obstacle). unless o (refuses_in v (used_cells s.cells) (suc k)) (free m vs true)) ob
        ∙ if_no _ _ refl

    -- ---- 13
    pub started_is : room u 1 x.place ≡ true
        → commit A (argued false m vs) cs ≡ as_committed w (accept u (with_started u m vs (settled u x)))
    unfolding entry_word
    started_is r =
        plain_commit
        ∙ ap (committed 0 (suc k))
        (ap₂ (λ (th : ThreadWords) (e : ℕ).
        joined_in (with_one_more (settled_in v (suc k - 1) (thread_words_of x)) th) x.place e)
        (new_is false m vs few) next_new
        ∙ is_pack _ _ says)
      where
        new : Thread
        new = started u (module_at P m) vs

        after : State
        after = with_new (started u (module_at P m) vs) (settled u x)

        says : Says
            (joined_in (with_one_more (settled_in v (suc k - 1) (thread_words_of x))
            (thread_words_of (started u (module_at P m) vs)))
            x.place (entry_word (plain (suc (length s.threads)))))
            (enlist x.place (plain (suc (length s.threads))) (with_new (started u (module_at P m) vs) (settled u x)))
        says =
            joined_says _ after (add_says _ (settled u x) (settled_is A x cs acc x) new (rw (settled-length fs P n A.file u x) less)) x.place (plain (suc (length s.threads))) list_here.1 list_here.0
            (let h = has_room fs P n A.file u 1 x.place refl r in omega arith)

    -- ---- 14
    pub waits_is : commit A (argued true m vs) cs ≡ as_committed w (started_wait u m vs)
    unfolding started_wait entry_word
    waits_is =
        waiting_commit
        ∙ if_all (λ (y : StepResult).
        (when not (room_in v x.place 2) then refuses_in v (used_cells s.cells) (suc k) Rule.Stuck else
        committed 0 (suc k)
        (waiting_in v c (suc k) (argued true m vs) (argument_words vs) (root_s (module_at P m).body)))
        ≡ as_committed w y)
        (room u 2 x.place) (accept u (enlist x.place (waiting (suc k) t) first)) (refuse u 20)
        (λ e. if_no _ _ (ap not (room_same 2 linked ∙ e))
        ∙ ap (committed 0 (suc k)) (ap₂ (λ (th : ThreadWords) (i : ℕ). joined_in (joined_in (with_one_more left th) x.place i) x.place (128 * i + suc k)) (new_is true m vs few) next_new ∙ is_pack _ _ (says e)))
        (λ e. if_yes _ _ (ap not (room_same 2 linked ∙ e)) ∙ refuse_is A x cs acc Rule.Stuck (thread_words_of x) g l)
      where
        left : List ℕ
        left = left_in (settled_in v (suc k - 1) (thread_words_of x)) c

        new : Thread
        new = started u (module_at P m) vs

        gone : State
        gone = leave u (settled u x)

        t : ℕ
        t = suc (length s.threads)

        first : State
        first = enlist x.place (plain (suc (length s.threads))) (with_new (started u (module_at P m) vs) (leave u (settled u x)))

        fewer : length (leave u (settled u x)).threads < 64
        fewer =
            let a = ap (length {A = Thread}) (leave_threads u (settled u x)) in
            let b = settled-length fs P n A.file u x in
            omega arith

        there : x.place - 2 < length (leave u (settled u x)).schedulers
        there = rw (leave_count u (settled u x)) list_here.0

        one : room u 2 x.place ≡ true
            → Says (joined_in (with_one_more left (thread_words_of new)) x.place (entry_word (plain t))) first
        one e =
            joined_says _ (with_new new gone) (add_says _ gone (left_is A x cs acc x) new fewer)
            x.place (plain t) list_here.1 there
            (let h = has_room fs P n A.file u 2 x.place refl e in let b = leave_next fs P n A.file u (settled u x) x.place in omega arith)

        says : room u 2 x.place ≡ true
            → Says (joined_in (joined_in (with_one_more left (thread_words_of new)) x.place (entry_word (plain t))) x.place (entry_word (waiting (suc k) t))) (enlist x.place (waiting (suc k) t) first)
        says e =
            joined_says _ first (one e) x.place (waiting (suc k) t) list_here.1 kept
            (let h = has_room fs P n A.file u 2 x.place refl e in let b = leave_next fs P n A.file u (settled u x) x.place in let d = enlist_next fs P n A.file (with_new new gone) x.place (plain t) in omega arith)
          where
            kept : x.place - 2 < length first.schedulers
            kept = rw (enlist_count x.place (plain t) (with_new new gone)) there
