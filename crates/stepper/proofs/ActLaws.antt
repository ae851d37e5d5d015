-- What `act_in` reads of a thread that is there, that this is what `act` asks, and what it gives.
-- Assumes nothing.
use Prim.Native.Nat.{ℕ, zero, suc, ◌+◌, ◌-◌, ◌*◌, ◌%◌, ◌^◌, ◌<◌, ◌≤◌}
use mathlib.Core.Path.{◌≡◌, refl, sym, ap, ap₂, ◌∙◌, subst}
use mathlib.Core.List.{List, [], ◌∷◌, map}
use mathlib.Core.Bool.{Bool, true, false, false≢true}
use native.Mathlib.Omega.{arith}
use lib.ListN as list
use lib.Dec.{ltb, eqb}
use lib.ListN.{length, get_or, set, take, length-set, length-map, length-drop}
use lib.Seq.{ext_get_or, length-take-le, get_or-take, get_or-drop, take-take}
use lib.Seq.{get_or-set_same, get_or-set_other, set-set}
use borrow.Author.Tests.{ltb-true, ltb-false, eqb-true, eqb-false}
use Rattle.basics.specs.Members.{All, more}
use Rattle.language.specs.Places.{is_place}
use Rattle.language.specs.declared.Place.{Place}
use Rattle.language.specs.declared.kind.Kind.{Kind}
use Rattle.language.specs.declared.kind.Kind.TheVariants.{Header, Declared, Module, Statement}
use Rattle.language.specs.declared.kind.Kind.TheVariants.{Expression, Unknown}
use Rattle.language.proofs.PlaceLaws.{test_bounds, has_place_lem}
use Rattle.text.specs.Frames.{frames_of}
use Rattle.program.specs.Trees.{root_s, frame_at}
use Rattle.program.specs.Programs.{program_of}
use Rattle.layout.proofs.Scopes.{placed}
use Rattle.machine.specs.State.{State, Thread, Item, run, back, drop, thread_at, used_cells}
use Rattle.machine.specs.Words.{item_word, value_word}
use Rattle.machine.specs.Shapes.{is_statement, ThreadFits, ValueFits, ItemFits, run_fits, back_fits}
use Rattle.machine.specs.Inner.Blocks.{part, pasted, cell_words}
use Rattle.machine.specs.declared.value.Value.{Value}
use Rattle.machine.proofs.WordLaws.{part_length, pasted_length, pasted_in, pasted_out}
use Rattle.machine.proofs.Blocks.{cells_length, cells_at_lem}
use Rattle.machine.proofs.InShape.{value_in_lem}
use Rattle.machine.proofs.Padded.{padded_at}
use Rattle.operations.specs.declared.Who.{Who}
use Rattle.operations.specs.Inner.Lent.{Lent, variable_count, lent_variables, lent_count}
use Rattle.operations.specs.Inner.Lent.{lent_cells}
use Rattle.operations.specs.Inner.Lent.{lent_rest}
use Rattle.operations.specs.Inner.Heaps.{cells_in, accesses_in}
use Rattle.operations.proofs.HeapLaws.{few_cells, no_accesses}
use Rattle.evaluator.specs.Inner.Results.{CellWords, HeapWords, ValueWords}
use Rattle.evaluator.proofs.Holding.{holds_words}
use Rattle.states.specs.declared.thread.ThreadWords.{ThreadWords}
use Rattle.states.specs.Inner.Threads.{thread_words_of, thread_in}
use Rattle.states.proofs.StackLaws.{with_continuation, top_item_is}
use Rattle.acts.specs.Inner.Transitions.{TurnAnswer, popped, turned, change_of, RoomFor}
use Rattle.turns.specs.declared.counts.Counts.{Counts}
use Rattle.turns.specs.Inner.Actions.{act_in, turn_act}
use Rattle.turns.specs.Inner.Acts.{TurnOutcome, turn_outcome, turn_in, top_in, variables_in, Seen}
use Rattle.turns.specs.Inner.Acts.{WholeTurn, TurnWords, ItemWord}
use Rattle.turns.specs.Inner.TurnCounts.{turn_count}
use Rattle.turns.proofs.TurnLaws.{act_turns, act_counts}
use Rattle.reach.proofs.Passed.{order, inside, some_frame}
use Rattle.stepper.specs.Inner.Files.{StepWords, state_in, who_in, turn_of, turn_left}
use Rattle.stepper.specs.Inner.Files.{turn_accesses}
use Rattle.stepper.proofs.Variables.{variables_words}
use Rattle.stepper.proofs.GoodWords.{shaped, says, step_long, threads_few, thread_read, fit}
use Rattle.stepper.proofs.GoodWords.{place_in}
use Rattle.stepper.proofs.Counted.{turn_few_accesses}

-- ---- the place on which a thread stands
pub number_is : (p : Place) (i : ℕ) → p ≡ record { number = i } → p.number ≡ i
number_is p i e = ap (λ (q : Place). q.number) e

-- ---- where the words lie that are read
pub act_bounds : {frames : List ℕ} {shared : ℕ} {w : List ℕ} {t : ℕ}
    → StepWords frames shared w × (1 ≤ t) × (t ≤ get_or w 0 0)
    → (length w ≡ 4834) × (1 ≤ t) × (t ≤ 64)
act_bounds {frames} {shared} {w} p =
    let m = threads_few frames shared w p.0 in
    let a = p.1 in
    let b = p.2 in
    (step_long frames shared w p.0, a, omega arith)

module _
    (frames : List ℕ) (shared : ℕ) (w : List ℕ) (h : StepWords frames shared w) (t : ℕ)
    (low : 1 ≤ t) (high : t ≤ get_or w 0 0) where
  abbrev s : State
  s = state_in frames w

  abbrev x : Thread
  x = thread_at (state_in frames w) t

  abbrev th : ThreadWords
  th = thread_in w (t - 1)

  abbrev n : ℕ
  n = (program_of (frames_of frames)).schedulers

  read : th ≡ thread_words_of x
  read = thread_read frames shared w h t low high

  fits : ThreadFits (frames_of frames) n x
  fits = fit frames shared w h t low high

  long : length w ≡ 4834
  long = step_long frames shared w h

  -- ---- the place and the counts
  pub place_read : (p : ℕ) → p ≡ get_or w (1042 + 55 * (t - 1)) 0 → is_place p ≡ true
  place_read p e =
      subst (λ (i : ℕ). is_place i ≡ true) (sym (e ∙ ap (λ (y : ThreadWords). y.place) read))
      (place_in frames shared w h t low high)

  pub items_read : get_or w (1042 + 55 * (t - 1) + 3) 0 ≤ 25
  items_read = subst (λ (y : ThreadWords). y.items ≤ 25) (sym read) fits.items_room

  values_read : get_or w (1042 + 55 * (t - 1) + 29) 0 ≤ 25
  values_read = subst (λ (y : ThreadWords). y.values ≤ 25) (sym read) fits.variables_room

  -- ---- the variables, where they lie
  module _ (who : Who) (e : who.thread ≡ t) where
    lent : Lent who w
    unfolding variable_count
    lent =
        let m = threads_few frames shared w h in
        let b = values_read in
        let r : 1042 + 55 * (who.thread - 1) + 29 ≡ 1042 + 55 * (t - 1) + 29 = omega arith in
        record { first = omega arith; last = omega arith; few = rw r b }

    variables_are : lent_variables who w ≡ variables_in th
    unfolding lent_variables variable_count part
    variables_are =
        ap (λ (i : ℕ). take (get_or w (1042 + 55 * (i - 1) + 29) 0)
        (list.drop (1042 + 55 * (i - 1) + 29 + 1) w)) e
        ∙ ap (λ (i : ℕ). take th.values (list.drop i w)) lies
        ∙ sym (take-take th.values 25 (list.drop (1042 + 55 * (t - 1) + 30) w) values_read)
      where
        lies : 1042 + 55 * (t - 1) + 29 + 1 ≡ 1042 + 55 * (t - 1) + 30
        lies = omega arith

  wide : length th.variables ≡ 25
  wide =
      let l = long in
      let m = threads_few frames shared w h in
      part_length w (1042 + 55 * (t - 1) + 30) 25 (omega arith)

  values_in : (vs : List Value) → All ValueFits vs → ValueWords (map value_word vs)
  values_in [] f k g = absurd (omega arith)
  values_in (v ∷ vs) (more p f) zero g = value_in_lem v p
  values_in (v ∷ vs) (more p f) (suc k) g = values_in vs f k (omega arith)

  variables_in_lem : ValueWords (variables_in (thread_words_of x))
  variables_in_lem =
      subst ValueWords (sym (variables_words x fits.variables_room))
      (values_in x.variables fits.values)

  -- ---- the top item: one that is a statement's is a frame of the file
  statement_there : (i : ℕ) → is_statement (frame_at (frames_of frames) i).kind ≡ true
      → i < length frames
  statement_there i e = rw length-map at (by (frame_at (frames_of frames) i).kind refl e)
    where
      by : (k : Kind) → (frame_at (frames_of frames) i).kind ≡ k → is_statement k ≡ true
          → i < length (frames_of frames)
      by (Statement k) q e = inside h.file.laid_out i (Statement k) q refl
      by (Expression k) q e = absurd (false≢true e)
      by Header q e = absurd (false≢true e)
      by (Declared d) q e = absurd (false≢true e)
      by Module q e = absurd (false≢true e)
      by Unknown q e = absurd (false≢true e)

  item_there : (i : Item) → ItemFits (frames_of frames) n i → item_word i < 1024
      → item_word i < length frames
  unfolding item_word
  item_there (run st) (run_fits l k e) g = statement_there (root_s st) k
  item_there (back q) f g = absurd (omega arith)
  item_there drop f g = absurd (omega arith)

  -- one that is 'back to q' has a place of the file
  item_place : (i : Item) → ItemFits (frames_of frames) n i → 1024 ≤ item_word i → item_word i < 2048
      → is_place (item_word i - 1024) ≡ true
  unfolding item_word
  item_place (run st) (run_fits l k e) a b =
      absurd (let z = statement_there (root_s st) k in let y = h.file.few in omega arith)
  item_place (back q) (back_fits l p) a b =
      let z : 1024 + q - 1024 ≡ q = omega arith in rw z (has_place_lem n q p).0
  item_place drop f a b = absurd (omega arith)

  item_word_lem : (i : Item) → ItemFits (frames_of frames) n i → ItemWord frames (item_word i)
  item_word_lem i f = record { statement = item_there i f; back = item_place i f }

  -- where there is no item, its word is 0, which is a frame of every file
  none_word : ItemWord frames 0
  none_word =
      record {
        statement = λ g. rw length-map at (some_frame h.file.laid_out);
        back = λ a b. absurd (omega arith);
      }

  top_word : ItemWord frames (top_in (thread_words_of x))
  top_word = go x.continuation refl fits.items fits.items_room
    where
      Goal : List Item → Type 0
      Goal is = ItemWord frames (top_in (thread_words_of (with_continuation is x)))

      go : (is : List Item) → x.continuation ≡ is → All (ItemFits (frames_of frames) n) is
          → length is ≤ 25 → Goal x.continuation
      go [] e f l =
          subst Goal (sym e)
          (subst (ItemWord frames) (sym (padded_at 25 [] 0 (omega arith))) none_word)
      go (i ∷ is) e (more p f) l =
          subst Goal (sym e)
          (subst (ItemWord frames) (sym (top_item_is (with_continuation is x) i (omega arith)))
          (item_word_lem i p))

  -- ---- the cells: the words from 4578 on
  size : (v : List ℕ) → length v ≡ length w → length (lent_cells v) ≡ 256
  unfolding lent_cells
  size v l =
      let z = long in
      let r : length v - 4578 ≡ 256 = omega arith in
      length-drop 4578 v ∙ r

  cells_are : lent_cells w ≡ cell_words s.cells
  unfolding lent_cells
  cells_are =
      ext_get_or 0 (lent_cells w) (cell_words s.cells) (size w refl ∙ sym (cells_length s.cells))
      (λ j g.
      let l : j < 256 = rw (size w refl) at g in
      get_or-drop 4578 w j 0 ∙ (says frames shared w h).cell j l ∙ sym (cells_at_lem s.cells j l))

  cells_in_lem : CellWords (used_cells s.cells) (cell_words s.cells)
  cells_in_lem = holds_words (used_cells s.cells) (cell_words s.cells) s.cells
      (record {
        count = refl;
        words = refl;
        room = (shaped frames shared w h).cells_room;
        each = λ k g. ((shaped frames shared w h).cells k g).value;
      })

  -- how many are in use
  count_is : lent_count w ≡ used_cells s.cells
  unfolding lent_count
  count_is = (says frames shared w h).cells

  -- so the word counts the cells, and no access yet
  few_used : used_cells s.cells ≤ 256
  few_used = (shaped frames shared w h).cells_room

  cells_count : cells_in (lent_count w) ≡ used_cells s.cells
  cells_count = ap cells_in count_is ∙ few_cells (used_cells s.cells) few_used

  none_yet : accesses_in (lent_count w) ≡ 0
  none_yet = ap accesses_in count_is ∙ no_accesses (used_cells s.cells) few_used

  heap_in : HeapWords (lent_count w) (lent_cells w)
  heap_in =
      record {
        cells = rw (cells_count, cells_are) cells_in_lem;
        few = let e = none_yet in omega arith;
      }

  -- words that are as before but for the cells and their count
  module _ (v : List ℕ) (e : lent_rest v ≡ lent_rest w) (l : length v ≡ length w) where
    rest_at : (u : List ℕ) (j : ℕ) → (j ≡ 1 → ⊥) → j < 4578 → get_or (lent_rest u) j 0 ≡ get_or u j 0
    unfolding lent_rest
    rest_at u j d m = get_or-set_other (take 4578 u) 1 j 0 0 d ∙ get_or-take 4578 u j 0 m

    abbrev put : List ℕ
    put = pasted w 4578 (lent_cells v) 256

    words_room : 4578 + 256 ≤ length w
    words_room = let z = long in omega arith

    cells_room : 256 ≤ length (lent_cells v)
    cells_room = rw (size v l) (omega arith)

    put-length : length put ≡ length w
    put-length = pasted_length w 4578 (lent_cells v) 256 words_room cells_room

    word : (j : ℕ) → j < 4834 → (a b : Bool) → eqb j 1 ≡ a → ltb j 4578 ≡ b
        → get_or v j 0 ≡ get_or (set put 1 (lent_count v)) j 0
    unfolding lent_count lent_cells
    word j m true b p q =
        let i : j ≡ 1 = eqb-true j 1 p in
        let z = long in
        let y = put-length in
        ap (λ (k : ℕ). get_or v k 0) i
        ∙ sym (get_or-set_same put 1 (lent_count v) 0 (omega arith))
        ∙ ap (λ (k : ℕ). get_or (set put 1 (lent_count v)) k 0) (sym i)
    word j m false true p q =
        let d = eqb-false j 1 p in
        let i : j < 4578 = ltb-true j 4578 q in
        sym (rest_at v j d i)
        ∙ ap (λ (u : List ℕ). get_or u j 0) e
        ∙ rest_at w j d i
        ∙ sym (pasted_out w 4578 (lent_cells v) 256 words_room cells_room j (λ a b. omega arith))
        ∙ sym (get_or-set_other put 1 j (lent_count v) 0 d)
    word j m false false p q =
        let d = eqb-false j 1 p in
        let i : 4578 ≤ j = ltb-false j 4578 q in
        let y : 4578 + (j - 4578) ≡ j = omega arith in
        ap (λ (k : ℕ). get_or v k 0) (sym y)
        ∙ sym (get_or-drop 4578 v (j - 4578) 0)
        ∙ sym (pasted_in w 4578 (lent_cells v) 256 words_room cells_room (j - 4578) (omega arith))
        ∙ ap (λ (k : ℕ). get_or put k 0) y
        ∙ sym (get_or-set_other put 1 j (lent_count v) 0 d)

    whole : v ≡ set (pasted w 4578 (lent_cells v) 256) 1 (lent_count v)
    whole =
        ext_get_or 0 v (set put 1 (lent_count v))
        (l ∙ sym (length-set put 1 (lent_count v) ∙ put-length))
        (λ j g.
        let z = long in
        word j (omega arith) (eqb j 1) (ltb j 4578) refl refl)

  -- ---- `act`, on what is seen of the thread, its top item, its variables and the cells
  abbrev who_at : Place → Who
  who_at p = record { thread = t; place = p; shared = shared }

  module _
      (p : Place) (counts : Counts) (item : ℕ) (seen : Seen (who_at p) counts th)
      (top : item ≡ top_in th) where
    abbrev who : Who
    who = who_at p

    sees : Seen who counts (thread_words_of x)
    sees = subst (Seen who counts) read seen

    variables : lent_variables who w ≡ variables_in th
    variables = variables_are who refl

    pub act_asks : TurnWords frames who counts w × ItemWord frames item
    act_asks = (
      record {
        ordered = order h.file.laid_out;
        placed = placed (frames_of frames) h.file.laid_out;
        place = subst (λ (i : ℕ). i ≤ 9) sees.place
            (test_bounds 1 x.place (place_in frames shared w h t low high)).1;
        items = subst (λ (i : ℕ). i ≤ 25) sees.items fits.items_room;
        count = ap length variables
            ∙ length-take-le th.values th.variables
            (let a = values_read in let b = wide in omega arith)
            ∙ seen.variables;
        state = record {
          lent = lent who refl;
          variables = subst ValueWords (sym (variables ∙ ap variables_in read)) variables_in_lem;
          heap = heap_in;
        };
      },
      subst (ItemWord frames) (sym (top ∙ ap top_in read)) top_word,
    )

    -- the words after it are those before with its cells and their count, with which the accesses
    -- stand
    pub act_gives : (a : TurnAnswer) (v' : List ℕ)
        → act_in a v'
        ≡ turn_act (frames_of frames) who counts item (lent_variables who w) (lent_count w)
        (lent_cells w)
        → lent_rest v' ≡ lent_rest w → length v' ≡ length w → turn_left a v' frames shared w t
    unfolding lent_count
    act_gives a v' e k l = record {
      turn = record {
        acted =
            ap (λ (i : ℕ). turned a i (popped (thread_words_of x))) (get_or-set_same v' 1 m 0 inside)
            ∙ ap (λ (y : TurnOutcome). y.acted) same;
        words =
            ap (λ (u : List ℕ). set u 1 m) (whole v' k l)
            ∙ set-set (pasted w 4578 (lent_cells v') 256) 1 (lent_count v') m
            ∙ ap (λ (y : TurnOutcome). set (pasted w 4578 y.cells 256) 1 y.acted.used) same;
        whole = ap length (sym cells_left) ∙ size v' l;
        room = subst (λ (i : ℕ). RoomFor (change_of a) (i - 1) (thread_words_of x).values)
            (sym sees.items)
            (subst (RoomFor (change_of a) (counts.items - 1)) (sym sees.variables) r.room);
      };
      accesses = counted;
      few = few_accesses;
    }
      where
        room_in : cells_in (lent_count w) ≤ 256
        room_in = let q = cells_count in let y = few_used in omega arith

        m : ℕ
        m = cells_in (lent_count v')

        inside : 1 < length v'
        inside = let z = long in omega arith

        r : WholeTurn a (cells_in (lent_count v')) (lent_cells v') who counts item
            (lent_variables who w)
            (λ y. turn_in (frames_of frames) who y (cells_in (lent_count w)) (lent_cells w))
        r = act_turns (frames_of frames) who counts item (lent_variables who w) (lent_count w)
            (lent_cells w) room_in a (lent_count v') (lent_cells v') e

        who_is : who ≡ who_in frames shared w t
        who_is = ap (λ (i : ℕ). who_at (record { number = i })) (sym sees.place)

        turn_by : Who → ℕ → List ℕ → TurnOutcome
        turn_by y i ws = turn_in (frames_of frames) y (thread_words_of x) i ws

        same : turn_outcome (turned a (cells_in (lent_count v')) (popped (thread_words_of x)))
            (lent_cells v')
            ≡ turn_of frames shared w t
        same =
            r.thread (thread_words_of x) sees (sym (variables ∙ ap variables_in read))
            (sym (top ∙ ap top_in read))
            ∙ ap₂ (turn_by who) cells_count cells_are
            ∙ ap (λ (y : Who). turn_by y (used_cells s.cells) (cell_words s.cells)) who_is

        cells_left : lent_cells v' ≡ (turn_of frames shared w t).cells
        cells_left = ap (λ (y : TurnOutcome). y.cells) same

        count_by : Who → ℕ → ℕ → List ℕ → ℕ → List ℕ → ℕ
        count_by y i j vs n ws = turn_count (frames_of frames) y i j vs n ws

        -- the count, from what is seen of the thread
        seen_count :
            turn_count (frames_of frames) who counts.items item (lent_variables who w)
            (cells_in (lent_count w)) (lent_cells w)
            ≡ turn_accesses frames shared w t
        seen_count =
            ap (λ (i : ℕ).
            count_by who i item (lent_variables who w) (cells_in (lent_count w)) (lent_cells w))
            (sym sees.items)
            ∙ ap (λ (i : ℕ).
            count_by who (thread_words_of x).items i (lent_variables who w) (cells_in (lent_count w))
            (lent_cells w)) (top ∙ ap top_in read)
            ∙ ap (λ (vs : List ℕ).
            count_by who (thread_words_of x).items (top_in (thread_words_of x)) vs
            (cells_in (lent_count w)) (lent_cells w)) (variables ∙ ap variables_in read)
            ∙ ap₂ (count_by who (thread_words_of x).items (top_in (thread_words_of x))
            (variables_in (thread_words_of x))) cells_count cells_are
            ∙ ap (λ (y : Who).
            count_by y (thread_words_of x).items (top_in (thread_words_of x))
            (variables_in (thread_words_of x)) (used_cells s.cells) (cell_words s.cells)) who_is

        few_accesses : turn_accesses frames shared w t < 65536
        few_accesses =
            turn_few_accesses h.file.laid_out (rw length-map h.file.few) _ _ _ _ _ _

        small : {i : ℕ} → i < 65536 → (0 + i) % 2 ^ 48 ≡ i
        small q = omega arith

        counted : accesses_in (lent_count v') ≡ turn_accesses frames shared w t
        counted =
            act_counts (frames_of frames) who counts item (lent_variables who w) (lent_count w)
            (lent_cells w) room_in heap_in.few a (lent_count v') (lent_cells v') e
            ∙ ap₂ (λ (i j : ℕ). (i + j) % 2 ^ 48) none_yet seen_count
            ∙ small few_accesses
