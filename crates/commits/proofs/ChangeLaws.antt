-- A thread's change made where its words lie: what each write of crate commits' `change` leaves is
-- the changed thread, put back in its words. Assumes nothing.
use Prim.Native.Nat.{ℕ, ◌+◌, ◌*◌, ◌-◌, ◌^◌, ◌<◌, ◌≤◌}
use mathlib.Core.Path.{◌≡◌, refl, sym, ap, ◌∙◌, subst}
use mathlib.Core.List.{List}
use mathlib.Core.Bool.{true}
use native.Mathlib.Omega.{arith}
use lib.ListN.{get_or, length}
use lib.Seq.{ext_get_or}
use lib.Dec.{eqb}
use borrow.Author.Tests.{eq-eqb, ne_eqb, eqb-true}
use Rattle.basics.proofs.Ifs.{yes, no, if_all}
use Rattle.language.specs.Places.{is_place}
use Rattle.language.specs.declared.Place.{Place}
use Rattle.language.proofs.PlaceLaws.{fits_byte}
use Rattle.machine.specs.Inner.Blocks.{part}
use Rattle.machine.proofs.WordLaws.{part_at, part_length}
use Rattle.states.specs.declared.thread.ThreadWords.{ThreadWords}
use Rattle.states.specs.Inner.Threads.{thread_in, put_thread}
use Rattle.states.specs.Inner.Stacks.{push_item, pop_item, push_value, pop_value, move_to, ended}
use Rattle.states.proofs.ThreadSays.{fields_path}
use Rattle.states.proofs.ThreadLaws.{Wide, in_wide, put_read, put_same, put_then}
use Rattle.states.proofs.StackWords.{push_item_wide, pop_item_wide, push_value_wide, pop_value_wide}
use Rattle.states.proofs.StackWords.{move_wide, ended_wide}
use Rattle.acts.specs.declared.act.Change.{Change}
use Rattle.acts.specs.declared.act.Change.TheVariants.{Same, Item, Items, Let, Drop, Move, Enter}
use Rattle.acts.specs.declared.act.Change.TheVariants.{End}
use Rattle.acts.specs.Inner.Transitions.{changed, popped, RoomFor}
use Rattle.commits.specs.Inner.Commits.{place_after}

-- ---- the thread without its top item, and the changed one: their spaces stay full, the counts and
-- the place
pub popped_wide : (x : ThreadWords) → Wide x → Wide (popped x)
unfolding popped
popped_wide x h = if_all Wide (eqb x.items 0) x (pop_item x) (λ _. h) (λ _. pop_item_wide x h)

pub changed_wide : (c : Change) (x : ThreadWords) → Wide x → Wide (changed c x)
changed_wide Same x h = h
changed_wide (Item a) x h = push_item_wide a x h
changed_wide (Items top below) x h =
    push_item_wide top (push_item below x) (push_item_wide below x h)
changed_wide (Let value body) x h = push_item_wide body (push_item 2048 (push_value value x)) (push_item_wide 2048 (push_value value x) (push_value_wide value x h))
changed_wide Drop x h = pop_value_wide x h
changed_wide (Move q) x h = move_wide q.number x h
changed_wide (Enter q body) x h =
    let from = 1024 + x.place in
    move_wide q.number (push_item body (push_item from x))
    (push_item_wide body (push_item from x) (push_item_wide from x h))
changed_wide End x h = ended_wide x h

module _ (x : ThreadWords) where
  pub popped_items : (popped x).items ≡ x.items - 1
  unfolding popped pop_item
  popped_items = if_all (λ (y : ThreadWords). y.items ≡ x.items - 1) (eqb x.items 0) x (pop_item x) (λ e. let z : x.items ≡ 0 = eqb-true x.items 0 e in omega arith) (λ _. refl)

  pub popped_values : (popped x).values ≡ x.values
  unfolding popped pop_item
  popped_values = if_all (λ (y : ThreadWords). y.values ≡ x.values) (eqb x.items 0) x (pop_item x) (λ _. refl) (λ _. refl)

  pub popped_place : (popped x).place ≡ x.place
  unfolding popped pop_item
  popped_place = if_all (λ (y : ThreadWords). y.place ≡ x.place) (eqb x.items 0) x (pop_item x) (λ _. refl) (λ _. refl)

-- a thread that stands at p before the change stands at `place_after c p` after it
changed_place : (c : Change) (x : ThreadWords) (p : Place) → p.number ≡ x.place
    → (place_after c p).number ≡ (changed c x).place
unfolding push_item pop_item push_value pop_value move_to ended
changed_place Same x p e = e
changed_place (Item a) x p e = e
changed_place (Items top below) x p e = e
changed_place (Let value body) x p e = e
changed_place Drop x p e = e
changed_place (Move q) x p e = refl
changed_place (Enter q body) x p e = refl
changed_place End x p e = e

-- where the thread stands after its turn
pub place_is : (x : ThreadWords) (c : Change)
    → (place_after c (record { number = x.place })).number ≡ (changed c (popped x)).place
place_is x c = changed_place c (popped x) (record { number = x.place }) (sym (popped_place x))

-- a place's number as a word of the continuation
pub back_fits : (n : ℕ) → is_place n ≡ true → 1024 + n < 2 ^ 64
back_fits n h = let z = fits_byte n h in omega arith

-- ---- each write, and two in a row
module _ (w : List ℕ) (k : ℕ) (all : length w ≡ 4834) (room : k < 64) where
  pub taken_none : get_or w (1042 + 55 * k + 3) 0 ≡ 0 → w ≡ put_thread w k (popped (thread_in w k))
  unfolding popped
  taken_none e =
      sym (put_same w k all room)
      ∙ ap (put_thread w k) (yes _ (eq-eqb (get_or w (1042 + 55 * k + 3) 0) 0 e) refl)

  pub taken : (v : List ℕ) → v ≡ put_thread w k (pop_item (thread_in w k))
      → (get_or w (1042 + 55 * k + 3) 0 ≡ 0 → ⊥) → v ≡ put_thread w k (popped (thread_in w k))
  unfolding popped
  taken v q e = q ∙ ap (put_thread w k) (no _ (ne_eqb (get_or w (1042 + 55 * k + 3) 0) 0 e) refl)

  -- the thread that was put there is read back
  put_back : (v : List ℕ) (y : ThreadWords) → Wide y → v ≡ put_thread w k y → thread_in v k ≡ y
  put_back v y h e = ap (λ (l : List ℕ). thread_in l k) e ∙ put_read w k all room y h

  pushed_wide : (a : ℕ) → Wide (push_item a (thread_in w k))
  pushed_wide a = push_item_wide a (thread_in w k) (in_wide w k all room)

  module _ (v : List ℕ) (below : ℕ) (e : v ≡ put_thread w k (push_item below (thread_in w k))) where
    pub pushed_two_room : (thread_in w k).items < 24 → (thread_in v k).items < 25
    unfolding push_item
    pushed_two_room h =
        let z : (thread_in v k).items ≡ (thread_in w k).items + 1 = ap (λ (y : ThreadWords). y.items) (put_back v (push_item below (thread_in w k)) (pushed_wide below) e) in
        omega arith

    pub pushed_two : (u : List ℕ) (top : ℕ) → u ≡ put_thread v k (push_item top (thread_in v k))
        → u ≡ put_thread w k (push_item top (push_item below (thread_in w k)))
    pushed_two u top q = put_then w k all room v u (push_item below (thread_in w k)) (push_item top) (pushed_wide below) (push_item_wide top (push_item below (thread_in w k)) (pushed_wide below)) e q

  module _ (v : List ℕ) (value : ℕ) (e : v ≡ put_thread w k (push_value value (thread_in w k))) where
    value_wide : Wide (push_value value (thread_in w k))
    value_wide = push_value_wide value (thread_in w k) (in_wide w k all room)

    pub pushed_let_room : (thread_in w k).items < 24 → (thread_in v k).items < 24
    unfolding push_value
    pushed_let_room h =
        let z : (thread_in v k).items ≡ (thread_in w k).items = ap (λ (y : ThreadWords). y.items) (put_back v (push_value value (thread_in w k)) value_wide e) in
        omega arith

    pub pushed_let : (u : List ℕ) (body : ℕ)
        → u ≡ put_thread v k (push_item body (push_item 2048 (thread_in v k)))
        → u ≡ put_thread w k (changed (Let value body) (thread_in w k))
    pushed_let u body q = put_then w k all room v u (push_value value (thread_in w k)) (λ (y : ThreadWords). push_item body (push_item 2048 y)) value_wide
        (changed_wide (Let value body) (thread_in w k) (in_wide w k all room)) e q

  pub entered : (v u : List ℕ) (q : Place) (body : ℕ)
      → v ≡ put_thread w k
      (push_item body (push_item (1024 + get_or w (1042 + 55 * k) 0) (thread_in w k)))
      → u ≡ put_thread v k (move_to q.number (thread_in v k))
      → u ≡ put_thread w k (changed (Enter q body) (thread_in w k))
  entered v u q body e f =
      let from = 1024 + get_or w (1042 + 55 * k) 0 in
      put_then w k all room v u (push_item body (push_item from (thread_in w k))) (move_to q.number)
      (push_item_wide body _ (pushed_wide from))
      (changed_wide (Enter q body) (thread_in w k) (in_wide w k all room)) e f

-- ---- each arm of `change_thread`: the change that the match has found is the one asked for
module _ (w : List ℕ) (k : ℕ) (c : Change) where
  pub change_same : c ≡ Same → length w ≡ 4834 → k < 64
      → w ≡ put_thread w k (changed c (thread_in w k))
  change_same e all room =
      sym (put_same w k all room)
      ∙ ap (λ (d : Change). put_thread w k (changed d (thread_in w k))) (sym e)

  pub change_made : (v : List ℕ) (d : Change) → c ≡ d → v ≡ put_thread w k (changed d (thread_in w k))
      → v ≡ put_thread w k (changed c (thread_in w k))
  change_made v d e f = f ∙ ap (λ (b : Change). put_thread w k (changed b (thread_in w k))) (sym e)

pub ruleset change_laws = (change_same, change_made)

-- what the room for a change is, for the arm's call
module _ (c : Change) (i n : ℕ) where
  room : (d : Change) → c ≡ d → RoomFor c i n → RoomFor d i n
  room d e h = subst (λ (b : Change). RoomFor b i n) e h

  pub room_item : (a : ℕ) → c ≡ Item a → RoomFor c i n → i < 25
  room_item a e h = room (Item a) e h

  pub room_items : (a b : ℕ) → c ≡ Items a b → RoomFor c i n → i < 24
  room_items a b e h = room (Items a b) e h

  pub room_let : (a b : ℕ) → c ≡ Let a b → RoomFor c i n → i < 24
  room_let a b e h = (room (Let a b) e h).0

  pub room_value : (a b : ℕ) → c ≡ Let a b → RoomFor c i n → n < 25
  room_value a b e h = (room (Let a b) e h).1

  pub room_drop : c ≡ Drop → RoomFor c i n → 0 < n
  room_drop e h = room Drop e h

  pub room_enter : (a : Place) (b : ℕ) → c ≡ Enter a b → RoomFor c i n → i < 24
  room_enter a b e h = room (Enter a b) e h

pub ruleset change_room = (room_item, room_items, room_let, room_value, room_drop, room_enter)

-- ---- words that agree from the first thread's to the last one's have the same threads
pub same_thread : (w v : List ℕ) (k : ℕ) → k < 64 → length w ≡ 4834 → length v ≡ 4834
    → ((i : ℕ) → 1042 ≤ i → i < 4578 → get_or v i 0 ≡ get_or w i 0) → thread_in v k ≡ thread_in w k
same_thread w v k l a b f = fields_path (thread_in v k) (thread_in w k)
    (f (1042 + 55 * k) (omega arith) (omega arith))
    (f (1042 + 55 * k + 1) (omega arith) (omega arith))
    (f (1042 + 55 * k + 2) (omega arith) (omega arith))
    (f (1042 + 55 * k + 3) (omega arith) (omega arith))
    (run (1042 + 55 * k + 4) (omega arith) (omega arith))
    (f (1042 + 55 * k + 29) (omega arith) (omega arith))
    (run (1042 + 55 * k + 30) (omega arith) (omega arith))
  where
    run : (at : ℕ) → 1042 ≤ at → at + 25 ≤ 4578 → part v at 25 ≡ part w at 25
    run at d g = let p : length (part v at 25) ≡ 25 = part_length v at 25 (omega arith) in
        ext_get_or 0 (part v at 25) (part w at 25) (p ∙ sym (part_length w at 25 (omega arith)))
        (λ j m. let q : j < 25 = rw p at m in part_at v at 25 j q ∙ f (at + j) (omega arith) (omega arith) ∙ sym (part_at w at 25 j q))
