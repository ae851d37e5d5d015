-- A state in shape comes back from its words. Assumes nothing.
use Prim.Native.Nat.{ℕ, suc, zero, ◌+◌, ◌*◌, ◌-◌, ◌/◌, ◌%◌, ◌^◌, ◌<◌, ◌≤◌}
use mathlib.Core.Path.{◌≡◌, refl, sym, ap, ap₂, ◌∙◌}
use mathlib.Core.List.{List, [], ◌∷◌, map, reverse, reverse-reverse}
use mathlib.Core.Bool.{Bool, true, false, not}
use native.Mathlib.Omega.{arith}
use lib.ListN.{get_or, length, length-map, length-reverse}
use lib.Seq.{ext_get_or}
use lib.Dec.{eqb}
use borrow.Author.Tests.{lt-ltb, le-ltb, ne_eqb}
use Rattle.basics.specs.Members.{All, none, more}
use Rattle.basics.proofs.Ifs.{if_yes, if_no}
use Rattle.language.specs.declared.frame.Frame.{Frame}
use Rattle.program.specs.Trees.{root_s, frame_at}
use Rattle.machine.specs.State.{State, Stored, Item, run, back, drop, Thread, Entry, plain}
use Rattle.machine.specs.State.{waiting, awaiting, Scheduler, no_thread, no_scheduler, no_cell}
use Rattle.machine.specs.declared.value.Value.{Value}
use Rattle.machine.specs.declared.value.Value.TheVariants.{Number, Truth, Cell}
use Rattle.machine.specs.Words.{bit, value_word, word_value, item_word, word_item, entry_word}
use Rattle.machine.specs.Words.{word_entry, cell_word, word_cell, list_word, thread_word}
use Rattle.machine.specs.Words.{scheduler_word, tabulate, words_at, thread_from, scheduler_from}
use Rattle.machine.specs.Words.{unpack, pack}
use Rattle.machine.proofs.WordLaws.{tab_length, tab_at, Says, thread_says, scheduler_says}
use Rattle.machine.specs.Shapes.{ValueFits, number, truth, cell, ItemFits, run_fits}
use Rattle.machine.specs.Shapes.{back_fits, drop_fits, EntryFits, plain_fits, waiting_fits}
use Rattle.machine.specs.Shapes.{awaiting_fits, ThreadFits, SchedulerFits, Shaped}
use Rattle.machine.proofs.Blocks.{says_pack}

-- ---- single words: `x_back` says that the word of x says x

pub value_back : (v : Value) → ValueFits v → word_value (value_word v) ≡ v
unfolding value_word word_value
value_back (Number n) (number h) = if_yes _ _ (lt-ltb n (2 ^ 32) h)
value_back (Truth true) truth = if_no _ _ refl ∙ if_yes _ _ refl
value_back (Truth false) truth = if_no _ _ refl ∙ if_yes _ _ refl
value_back (Cell c) (cell h) =
    let a : 2 * 2 ^ 32 + c - 2 * 2 ^ 32 ≡ c = omega arith in
    if_no _ _ (le-ltb (2 * 2 ^ 32 + c) (2 ^ 32) (omega arith))
    ∙ if_no _ _ (le-ltb (2 * 2 ^ 32 + c) (2 * 2 ^ 32) (omega arith)) ∙ ap Cell a

pub item_back : (fs : List Frame) (n : ℕ) (x : Item) → ItemFits fs n x
    → word_item fs (item_word x) ≡ x
unfolding item_word word_item
item_back fs n (run x) (run_fits h k e) = if_yes _ _ (lt-ltb (root_s x) 1024 h) ∙ ap run e
item_back fs n (back q) (back_fits h k) =
    let a : 1024 + q - 1024 ≡ q = omega arith in
    if_no _ _ (le-ltb (1024 + q) 1024 (omega arith))
    ∙ if_yes _ _ (lt-ltb (1024 + q) 2048 (omega arith)) ∙ ap back a
item_back fs n drop drop_fits = if_no _ _ refl ∙ if_no _ _ refl

pub entry_back : (m : ℕ) (e : Entry) → EntryFits m e → word_entry (entry_word e) ≡ e
unfolding entry_word word_entry
entry_back m (plain t) (plain_fits h) = let l = h.1 in if_yes _ _ (lt-ltb t 128 (omega arith))
entry_back m (waiting t u) (waiting_fits h g) =
    let l = h.1 in let k = g.0 in let j = g.1 in
    let a : (128 * u + t) % 128 ≡ t = omega arith in
    let b : (128 * u + t) / 128 ≡ u = omega arith in
    if_no _ _ (le-ltb (128 * u + t) 128 (omega arith))
    ∙ if_yes _ _ (lt-ltb (128 * u + t) 16384 (omega arith)) ∙ ap₂ waiting a b
entry_back m (awaiting t e) (awaiting_fits h g) =
    let l = h.1 in
    let a : (16384 + 128 * e + t) % 128 ≡ t = omega arith in
    let b : (16384 + 128 * e + t - 16384) / 128 ≡ e = omega arith in
    if_no _ _ (le-ltb (16384 + 128 * e + t) 128 (omega arith))
    ∙ if_no _ _ (le-ltb (16384 + 128 * e + t) 16384 (omega arith)) ∙ ap₂ awaiting a b

pub value_below : (v : Value) → ValueFits v → value_word v < 2 ^ 34
unfolding value_word
value_below (Number n) (number h) = omega arith
value_below (Truth true) truth = omega arith
value_below (Truth false) truth = omega arith
value_below (Cell c) (cell h) = omega arith

pub cell_back : (x : Stored) → ValueFits x.content → word_cell (cell_word x) ≡ x
unfolding cell_word word_cell
cell_back x h =
    let v : ℕ = value_word x.content in
    let l : value_word x.content < 2 ^ 34 = value_below x.content h in
    let a : (x.owner * 2 ^ 34 + value_word x.content) / 2 ^ 34 ≡ x.owner = omega arith in
    let b : (x.owner * 2 ^ 34 + value_word x.content) % 2 ^ 34 ≡ value_word x.content = omega arith in
    ap₂ (λ (p q : ℕ). record { owner = p; content = word_value q }) a b
    ∙ ap (λ (y : Value). record { owner = x.owner; content = y }) (value_back x.content h)

-- ---- lists

pub map_back : {A B : Type 0} (P : A → Type 0) (f : A → B) (g : B → A)
    → ((x : A) → P x → g (f x) ≡ x) → (xs : List A) → All P xs → map g (map f xs) ≡ xs
map_back P f g e [] none = refl
map_back {A} P f g e (x ∷ xs) (more h hs) =
    ap₂ (λ (y : A) (ys : List A). y ∷ ys) (e x h) (map_back P f g e xs hs)

-- a list's words after its length
tab_list : (n : ℕ) (ws : List ℕ) (f : ℕ → ℕ) (i : ℕ) → n ≡ length ws
    → ((j : ℕ) → j < length ws → f (i + j) ≡ get_or ws j 0) → tabulate n f i ≡ ws
unfolding tabulate
tab_list zero [] f i e h = refl
tab_list zero (x ∷ ws) f i e h = absurd (omega arith)
tab_list (suc n) [] f i e h = absurd (omega arith)
tab_list (suc n) (x ∷ ws) f i e h =
    let z : i ≡ i + 0 = omega arith in
    ap₂ (λ (y : ℕ) (ys : List ℕ). y ∷ ys) (ap f z ∙ h 0 (omega arith))
    (tab_list n ws f (suc i) (omega arith) (λ j g. let a : suc i + j ≡ i + suc j = omega arith in ap f a ∙ h (suc j) (omega arith)))

words_back : (w ws : List ℕ) (i : ℕ) → get_or w i 0 ≡ list_word ws 0
    → ((j : ℕ) → j < length ws → get_or w (i + suc j) 0 ≡ list_word ws (suc j)) → words_at w i ≡ ws
words_back w ws i e h = tab_list (get_or w i 0) ws (λ j. get_or w j 0) (suc i) e (λ j g. let a : suc i + j ≡ i + suc j = omega arith in ap (λ (m : ℕ). get_or w m 0) a ∙ h j g)

-- ---- what each word of a thread, of a scheduler is

pub thread_0 : (x : Thread) → thread_word x 0 ≡ x.place
unfolding thread_word
thread_0 x = if_yes _ _ refl

pub thread_1 : (x : Thread) → thread_word x 1 ≡ x.starter
unfolding thread_word
thread_1 x = if_no _ _ refl ∙ if_yes _ _ refl

pub thread_2 : (x : Thread) → thread_word x 2 ≡ bit (not x.ended)
unfolding thread_word
thread_2 x = if_no _ _ refl ∙ if_no _ _ refl ∙ if_yes _ _ refl

pub thread_continuation : (x : Thread) (j : ℕ) → j < 26
    → thread_word x (3 + j) ≡ list_word (reverse (map item_word x.continuation)) j
unfolding thread_word
thread_continuation x j h =
    let a : 3 + j - 3 ≡ j = omega arith in
    if_no _ _ (ne_eqb (3 + j) 0 (λ e. omega arith)) ∙ if_no _ _
    (ne_eqb (3 + j) 1 (λ e. omega arith)) ∙ if_no _ _ (ne_eqb (3 + j) 2 (λ e. omega arith))
    ∙ if_yes _ _ (lt-ltb (3 + j) 29 (omega arith))
    ∙ ap (list_word (reverse (map item_word x.continuation))) a

pub thread_variables : (x : Thread) (j : ℕ) → j < 26
    → thread_word x (29 + j) ≡ list_word (map value_word x.variables) j
unfolding thread_word
thread_variables x j h =
    let a : 29 + j - 29 ≡ j = omega arith in
    if_no _ _ (ne_eqb (29 + j) 0 (λ e. omega arith)) ∙ if_no _ _
    (ne_eqb (29 + j) 1 (λ e. omega arith)) ∙ if_no _ _ (ne_eqb (29 + j) 2 (λ e. omega arith))
    ∙ if_no _ _ (le-ltb (29 + j) 29 (omega arith)) ∙ ap (list_word (map value_word x.variables)) a

pub scheduler_active : (x : Scheduler) (j : ℕ) → j < 65 → scheduler_word x j ≡ list_word x.active j
unfolding scheduler_word
scheduler_active x j h = if_yes _ _ (lt-ltb j 65 h)

pub scheduler_next : (x : Scheduler) (j : ℕ) → j < 65
    → scheduler_word x (65 + j) ≡ list_word (map entry_word x.next) j
unfolding scheduler_word
scheduler_next x j h =
    let a : 65 + j - 65 ≡ j = omega arith in
    if_no _ _ (le-ltb (65 + j) 65 (omega arith)) ∙ ap (list_word (map entry_word x.next)) a

thread_path : (a b : Thread) → a.place ≡ b.place → a.continuation ≡ b.continuation
    → a.variables ≡ b.variables → a.starter ≡ b.starter → a.ended ≡ b.ended → a ≡ b
thread_path a b p q r s t =
    λ i. record { place = p i; continuation = q i; variables = r i; starter = s i; ended = t i }

-- a thread that has ended has 0 for its word `alive`
pub ended_bit : (b : Bool) → eqb (bit (not b)) 0 ≡ b
ended_bit true = refl
ended_bit false = refl

-- ---- the state that the words say
module _ (fs : List Frame) (n : ℕ) (w : List ℕ) (s : State) (h : Says w s) where
  pub thread_back : (k : ℕ) → k < 64 → ThreadFits fs n (get_or s.threads k no_thread)
      → thread_from fs w k ≡ get_or s.threads k no_thread
  unfolding thread_from
  thread_back k a f =
      thread_path _ x
      (thread_says h k 0 at a (omega arith) (omega arith) ∙ thread_0 x)
      (ap (λ (l : List ℕ). map (word_item fs) (reverse l)) continuation ∙ ap (map (word_item fs)) (reverse-reverse (map item_word x.continuation)) ∙ map_back (ItemFits fs n) item_word (word_item fs) (item_back fs n) x.continuation f.items)
      (ap (map word_value) variables ∙ map_back ValueFits value_word word_value value_back x.variables f.values)
      (thread_says h k 1 (at + 1) a (omega arith) (omega arith) ∙ thread_1 x)
      (ap (λ (m : ℕ). eqb m 0) (thread_says h k 2 (at + 2) a (omega arith) (omega arith) ∙ thread_2 x) ∙ ended_bit x.ended)
    where
      x : Thread
      x = get_or s.threads k no_thread

      at : ℕ
      at = 1042 + 55 * k

      long : length (reverse (map item_word x.continuation)) ≡ length x.continuation
      long = length-reverse (map item_word x.continuation) ∙ length-map x.continuation item_word

      continuation : words_at w (1042 + 55 * k + 3) ≡ reverse (map item_word x.continuation)
      continuation = words_back w (reverse (map item_word x.continuation)) (1042 + 55 * k + 3)
          (thread_says h k 3 (1042 + 55 * k + 3) a (omega arith) refl ∙ thread_continuation x 0 (omega arith))
          (λ j g. let r : length x.continuation ≤ 25 = f.items_room in let m : j < length x.continuation = rw long at g in
          thread_says h k (3 + suc j) (1042 + 55 * k + 3 + suc j) a (omega arith) (omega arith) ∙ thread_continuation x (suc j) (omega arith))

      variables : words_at w (1042 + 55 * k + 29) ≡ map value_word x.variables
      variables = words_back w (map value_word x.variables) (1042 + 55 * k + 29)
          (thread_says h k 29 (1042 + 55 * k + 29) a (omega arith) refl ∙ thread_variables x 0 (omega arith))
          (λ j g. let r : length x.variables ≤ 25 = f.variables_room in let m : j < length x.variables = rw (length-map x.variables value_word) at g in
          thread_says h k (29 + suc j) (1042 + 55 * k + 29 + suc j) a (omega arith) (omega arith) ∙ thread_variables x (suc j) (omega arith))

  pub scheduler_back : (m k : ℕ) → k < 8 → SchedulerFits m (get_or s.schedulers k no_scheduler)
      → scheduler_from w k ≡ get_or s.schedulers k no_scheduler
  unfolding scheduler_from
  scheduler_back m k a f =
      ap₂ (λ (p : List ℕ) (q : List Entry). record { active = p; next = q }) active
      (ap (map word_entry) next ∙ map_back (EntryFits m) entry_word word_entry (entry_back m) x.next f.entries)
    where
      x : Scheduler
      x = get_or s.schedulers k no_scheduler

      active : words_at w (2 + 130 * k) ≡ x.active
      active = words_back w x.active (2 + 130 * k)
          (scheduler_says h k 0 (2 + 130 * k) a (omega arith) (omega arith) ∙ scheduler_active x 0 (omega arith))
          (λ j g. let r : length x.active ≤ 64 = f.active_room in
          scheduler_says h k (suc j) (2 + 130 * k + suc j) a (omega arith) refl ∙ scheduler_active x (suc j) (omega arith))

      next : words_at w (67 + 130 * k) ≡ map entry_word x.next
      next = words_back w (map entry_word x.next) (67 + 130 * k)
          (scheduler_says h k 65 (67 + 130 * k) a (omega arith) (omega arith) ∙ scheduler_next x 0 (omega arith))
          (λ j g. let r : length x.next ≤ 64 = f.next_room in let m : j < length x.next = rw (length-map x.next entry_word) at g in
          scheduler_says h k (65 + suc j) (67 + 130 * k + suc j) a (omega arith) (omega arith) ∙ scheduler_next x (suc j) (omega arith))

  state_path : (a b : State) → a.threads ≡ b.threads → a.schedulers ≡ b.schedulers
      → a.cells ≡ b.cells → a.present ≡ b.present → a ≡ b
  state_path a b p q r e =
      λ i. record { threads = p i; schedulers = q i; cells = r i; present = e i }

  -- an event's word tells whether it is present
  present_back : (b : Bool) → eqb (bit b) 1 ≡ b
  present_back true = refl
  present_back false = refl

  table_back : {A : Type 0} (m : ℕ) (f : ℕ → A) (l : List A) (d : A) → m ≡ length l
      → ((k : ℕ) → k < length l → f k ≡ get_or l k d) → tabulate m f 0 ≡ l
  table_back m f l d e g =
      ext_get_or d (tabulate m f 0) l (tab_length m f 0 ∙ e)
      (λ k q. let b : k < m = rw (tab_length m f 0) at q in tab_at m f k d b ∙ g k (omega arith))

  pub unpack_says : Shaped fs n s → unpack fs n w ≡ s
  unfolding unpack
  unpack_says z = state_path _ s
      (table_back (get_or w 0 0) (thread_from fs w) s.threads no_thread h.threads (λ k g. thread_back k (let r : length s.threads ≤ 64 = z.threads_room in omega arith) (z.threads k g)))
      (table_back n (scheduler_from w) s.schedulers no_scheduler (sym z.count) (λ k g. scheduler_back (frame_at fs 0).c k (let r : length s.schedulers ≤ 8 = z.schedulers_room in omega arith) (z.schedulers k g)))
      (table_back (get_or w 1 0) (λ c. word_cell (get_or w (4578 + c) 0)) s.cells no_cell h.cells
      (λ k g. ap word_cell (h.cell k (let r : length s.cells ≤ 256 = z.cells_room in omega arith)) ∙ cell_back (get_or s.cells k no_cell) (z.cells k g).value))
      (table_back (frame_at fs 0).c (λ e. eqb (get_or w (4562 + e) 0) 1) s.present false (sym z.events)
      (λ k g. let r : length s.present ≤ 16 = z.events_room in ap (λ (m : ℕ). eqb m 1) (h.event k (omega arith)) ∙ present_back (get_or s.present k false)))

pub unpack-pack : (fs : List Frame) (n : ℕ) (s : State) → Shaped fs n s → unpack fs n (pack s) ≡ s
unpack-pack fs n s z = unpack_says fs n (pack s) s (says_pack s) z
