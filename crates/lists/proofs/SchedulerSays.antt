-- What the code does to a scheduler's words it does to the scheduler: laws that a caller composes,
-- each from `Says` to `Says`. Assumes nothing.
use Prim.Native.Nat.{ℕ, zero, suc, ◌+◌, ◌*◌, ◌-◌, ◌<◌, ◌≤◌}
use mathlib.Core.Path.{◌≡◌, refl, sym, ap, ◌∙◌, subst}
use mathlib.Core.List.{List, [], ◌∷◌, ◌++◌, map, map-append}
use mathlib.Core.Bool.{Bool, true, false}
use native.Mathlib.Omega.{arith}
use lib.ListN.{get_or, length, set, length-set, length-append, length-map, get_or-append}
use lib.ListN.{get_or-eq_default}
use lib.Seq.{get_or_at, get_or-set_same, get_or-set_other}
use lib.Dec.{ltb, eqb}
use borrow.Author.Tests.{ltb-true, ltb-false, lt-ltb, le-ltb, eq-eqb, ne_eqb, eqb-true, eqb-false}
use Rattle.basics.proofs.Ifs.{if_yes, if_no}
use Rattle.machine.specs.State.{State, Scheduler, Entry, no_scheduler, with_scheduler, scheduler_at}
use Rattle.machine.specs.State.{enlist}
use Rattle.machine.specs.Turns.{after_first}
use Rattle.machine.specs.Words.{entry_word, list_word, scheduler_word}
use Rattle.machine.specs.Inner.Blocks.{part, pasted, scheduler_words}
use Rattle.machine.proofs.WordLaws.{Says, pasted_length, pasted_in, pasted_out, part_at}
use Rattle.machine.proofs.WordLaws.{part_length}
use Rattle.machine.proofs.Blocks.{put_scheduler, scheduler_length, scheduler_at_lem}
use Rattle.machine.proofs.Round.{scheduler_active, scheduler_next}
use Rattle.lists.specs.Inner.Lists.{shifted, without_first, with_last}
use Rattle.machine.proofs.BlockParts.{scheduler_parts}
use Rattle.machine.proofs.PastedLaws.{same_pasted}
use Rattle.lists.proofs.ListLaws.{shifted-length, shifted_at, shifted_last}

-- words that say both lists of a scheduler say the scheduler
pub by_lists : (x : Scheduler) (v : ℕ → ℕ) → ((j : ℕ) → j < 65 → v j ≡ list_word x.active j)
    → ((j : ℕ) → j < 65 → v (65 + j) ≡ list_word (map entry_word x.next) j) → (j : ℕ) → j < 130
    → v j ≡ scheduler_word x j
by_lists x v a b = scheduler_parts (λ j. v j ≡ scheduler_word x j) (λ j l. a j l ∙ sym (scheduler_active x j l)) (λ j l. b j l ∙ sym (scheduler_next x j l))

module _ (w : List ℕ) (s : State) (h : Says w s) (q : ℕ) (a : q - 2 < 8) (b : q - 2 < length s.schedulers) where
  -- the scheduler, where its words begin, and where its next list does
  abbrev here : Scheduler
  here = get_or s.schedulers (q - 2) no_scheduler

  abbrev block_at : ℕ
  block_at = 2 + 130 * (q - 2)

  abbrev next_at : ℕ
  next_at = 67 + 130 * (q - 2)

  -- words that differ from w in that block, and say y there
  pub scheduler_put : (v : List ℕ) (y : Scheduler) → length v ≡ 4834
      → ((j : ℕ) → j < 130 → get_or v (block_at + j) 0 ≡ scheduler_word y j)
      → ((i : ℕ) → (block_at ≤ i → i < block_at + 130 → ⊥) → get_or v i 0 ≡ get_or w i 0)
      → Says v (with_scheduler q y s)
  scheduler_put v y l f g =
      subst (λ (u : List ℕ). Says u (with_scheduler q y s)) (sym same) (put_scheduler w s h q y a b)
    where
      same : v ≡ pasted w block_at (scheduler_words y) 130
      same = same_pasted w v block_at (scheduler_words y) 130 (rw h.all (omega arith)) (rw scheduler_length (omega arith)) (l ∙ sym h.all) (λ j r. f j r ∙ sym (scheduler_at_lem y j r)) g

  -- ---- what is read
  pub active_word : (j : ℕ) → j < 65 → get_or w (block_at + j) 0 ≡ list_word here.active j
  active_word j g = h.scheduler (q - 2) j a (omega arith) ∙ scheduler_active here j g

  pub next_word : (j : ℕ) → j < 65
      → get_or w (block_at + (65 + j)) 0 ≡ list_word (map entry_word here.next) j
  next_word j g = h.scheduler (q - 2) (65 + j) a (omega arith) ∙ scheduler_next here j g

  -- `first_active`: 0 where there is none
  pub first_says : get_or w (3 + 130 * (q - 2)) 0 ≡ get_or (scheduler_at s q).active 0 0
  first_says =
      let z : 3 + 130 * (q - 2) ≡ block_at + 1 = omega arith in
      ap (λ (i : ℕ). get_or w i 0) z ∙ active_word 1 (omega arith)

  -- `has_room`: the length of the next list
  pub room_says : get_or w (67 + 130 * (q - 2)) 0 ≡ length (scheduler_at s q).next
  room_says =
      let z : next_at ≡ block_at + (65 + 0) = omega arith in
      ap (λ (i : ℕ). get_or w i 0) z ∙ next_word 0 (omega arith) ∙ length-map here.next entry_word

  -- `drop_first`
  pub leave_says : length (scheduler_at s q).active ≤ 64
      → Says (without_first w (q - 2)) (with_scheduler q (record { active = after_first (scheduler_at s q).active; next = (scheduler_at s q).next }) s)
  unfolding without_first
  leave_says room = by here.active refl
    where
      first : get_or w block_at 0 ≡ length here.active
      first =
          let z : block_at ≡ block_at + 0 = omega arith in
          ap (λ (i : ℕ). get_or w i 0) z ∙ active_word 0 (omega arith)

      Goal : List ℕ → Type 0
      Goal l = Says (without_first w (q - 2)) (with_scheduler q (record { active = after_first l; next = (scheduler_at s q).next }) s)

      by : (l : List ℕ) → here.active ≡ l → Goal here.active
      by [] e = subst Goal (sym e) (subst (λ (v : List ℕ). Says v (with_scheduler q (record { active = []; next = (scheduler_at s q).next }) s))
          (sym (if_yes _ _ (eq-eqb (get_or w block_at 0) 0 (first ∙ ap length e))))
          (scheduler_put w (record { active = []; next = (scheduler_at s q).next }) h.all
          (by_lists (record { active = []; next = (scheduler_at s q).next }) (λ j. get_or w (block_at + j) 0) (λ j g. active_word j g ∙ ap (λ (l : List ℕ). list_word l j) e) (λ j g. next_word j g)) (λ i _. refl)))
      by (t ∷ ts) e = subst Goal (sym e) (subst (λ (v : List ℕ). Says v (with_scheduler q (record { active = ts; next = (scheduler_at s q).next }) s))
          (sym (if_no _ _ (ne_eqb m 0 (λ z. absurd (let y = count in omega arith)))
          ∙ if_no _ _ (le-ltb 64 m (let y = count in let x = short in omega arith))))
          (scheduler_put v (record { active = ts; next = (scheduler_at s q).next }) long
          (by_lists (record { active = ts; next = (scheduler_at s q).next }) (λ j. get_or v (block_at + j) 0) active_words
          (λ j g. out (block_at + (65 + j)) (λ z. omega arith) (λ p r. let y = count in let x = short in omega arith) ∙ next_word j g))
          (λ i f. out i (λ z. f (omega arith) (omega arith)) (λ p r. f (omega arith) (let y = count in let x = short in omega arith)))))
        where
          m : ℕ
          m = get_or w block_at 0

          count : get_or w block_at 0 ≡ suc (length ts)
          count = first ∙ ap length e

          short : length ts ≤ 63
          short =
              let z : length (t ∷ ts) ≤ 64 = subst (λ (l : List ℕ). length l ≤ 64) e room in
              omega arith

          some : 1 ≤ get_or w block_at 0
          some = let y = count in omega arith

          hd : block_at + 1 + get_or w block_at 0 ≤ length w
          hd = rw h.all (let y = count in let x = short in omega arith)

          block : length (part w (block_at + 1) (get_or w block_at 0)) ≡ get_or w block_at 0
          block = part_length w (block_at + 1) m hd

          B : List ℕ
          B = shifted (part w (block_at + 1) (get_or w block_at 0))

          hs : get_or w block_at 0 ≤ length (shifted (part w (block_at + 1) (get_or w block_at 0)))
          hs = rw (shifted-length (part w (block_at + 1) m) m some block) (omega arith)

          u : List ℕ
          u = pasted w (block_at + 1) (shifted (part w (block_at + 1) (get_or w block_at 0))) (get_or w block_at 0)

          v : List ℕ
          v = set u block_at (get_or w block_at 0 - 1)

          ul : length u ≡ 4834
          ul = pasted_length w (block_at + 1) B m hd hs ∙ h.all

          long : length v ≡ 4834
          long = length-set u block_at (get_or w block_at 0 - 1) ∙ ul

          out : (i : ℕ) → (i ≡ block_at → ⊥)
              → (block_at + 1 ≤ i → i < block_at + 1 + get_or w block_at 0 → ⊥) → get_or v i 0 ≡ get_or w i 0
          out i n f =
              get_or-set_other u block_at i (get_or w block_at 0 - 1) 0 n
              ∙ pasted_out w (block_at + 1) B m hd hs i f

          inside : (i : ℕ) → i < get_or w block_at 0
              → get_or v (block_at + suc i) 0
              ≡ get_or (shifted (part w (block_at + 1) (get_or w block_at 0))) i 0
          inside i g =
              let z : block_at + suc i ≡ block_at + 1 + i = omega arith in
              get_or-set_other u block_at (block_at + suc i) (get_or w block_at 0 - 1) 0 (λ z. omega arith)
              ∙ ap (λ (k : ℕ). get_or u k 0) z ∙ pasted_in w (block_at + 1) B m hd hs i g

          -- a member that moved, the last, which is 0 now, and what lies after it
          word : (i : ℕ) → i < 64 → (c : Bool) → ltb i (length ts) ≡ c → (d : Bool)
              → eqb i (length ts) ≡ d → get_or v (block_at + suc i) 0 ≡ get_or ts i 0
          word i g true c d _ =
              let y = count in
              let l : i < length ts = ltb-true i (length ts) c in
              let z : block_at + 1 + (1 + i) ≡ block_at + suc (suc i) = omega arith in
              inside i (omega arith)
              ∙ shifted_at (part w (block_at + 1) m) m some block i (omega arith)
              ∙ part_at w (block_at + 1) m (1 + i) (omega arith) ∙ ap (λ (k : ℕ). get_or w k 0) z
              ∙ active_word (suc (suc i)) (let x = short in omega arith)
              ∙ ap (λ (l : List ℕ). get_or l (suc i) 0) e
          word i g false c true d =
              let y = count in
              let l : i ≡ length ts = eqb-true i (length ts) d in
              let z : i ≡ m - 1 = omega arith in
              inside i (omega arith) ∙ ap (λ (k : ℕ). get_or B k 0) z
              ∙ shifted_last (part w (block_at + 1) m) m some block
              ∙ sym (get_or-eq_default ts 0 {n = i} (omega arith))
          word i g false c false d =
              let y = count in
              let l : length ts ≤ i = ltb-false i (length ts) c in
              let n : (i ≡ length ts → ⊥) = eqb-false i (length ts) d in
              out (block_at + suc i) (λ z. omega arith) (λ p r. n (omega arith))
              ∙ active_word (suc i) (omega arith)
              ∙ ap (λ (l : List ℕ). get_or l i 0) e
              ∙ get_or-eq_default (t ∷ ts) 0 {n = i} (past n l)
              ∙ sym (get_or-eq_default ts 0 {n = i} l)
            where
              past : (i ≡ length ts → ⊥) → length ts ≤ i → suc (length ts) ≤ i
              past n l = omega arith

          one_less : (n : ℕ) → suc n - 1 ≡ n
          one_less n = omega arith

          active_words : (j : ℕ) → j < 65 → get_or v (block_at + j) 0 ≡ list_word ts j
          active_words zero g =
              let z : block_at + 0 ≡ block_at = omega arith in
              ap (λ (k : ℕ). get_or v k 0) z ∙ get_or-set_same u block_at (get_or w block_at 0 - 1) 0
              (rw ul (omega arith)) ∙ ap (λ (n : ℕ). n - 1) count ∙ one_less (length ts)
          active_words (suc i) g =
              word i (omega arith) (ltb i (length ts)) refl (eqb i (length ts)) refl

  -- `append`
  pub last_says : (e : Entry) → length (scheduler_at s q).next < 64
      → Says (with_last w (q - 2) (entry_word e)) (enlist q e s)
  unfolding with_last enlist
  last_says e room = subst (λ (v : List ℕ). Says v (with_scheduler q y s)) (sym (if_yes _ _ (lt-ltb (get_or w (next_at) 0) 64 (rw room_says room))))
      (scheduler_put v y long
      (by_lists y (λ j. get_or v (block_at + j) 0) (λ j g. out (block_at + j) (λ z. omega arith) (λ z. omega arith) ∙ active_word j g) next_words)
      (λ i f. out i (λ z. f (omega arith) (let m = count in omega arith)) (λ z. f (omega arith) (omega arith))))
    where
      es : List Entry
      es = here.next

      y : Scheduler
      y = record { active = (scheduler_at s q).active; next = (scheduler_at s q).next ++ (e ∷ []) }

      n : ℕ
      n = get_or w (next_at) 0

      count : get_or w (next_at) 0 < 64
      count = rw room_says room

      u : List ℕ
      u = set w (next_at + 1 + get_or w (next_at) 0) (entry_word e)

      v : List ℕ
      v = set u (next_at) (get_or w (next_at) 0 + 1)

      ul : length u ≡ 4834
      ul = length-set w (next_at + 1 + get_or w (next_at) 0) (entry_word e) ∙ h.all

      long : length v ≡ 4834
      long = length-set u (next_at) (get_or w (next_at) 0 + 1) ∙ ul

      out : (i : ℕ) → (i ≡ next_at + 1 + get_or w (next_at) 0 → ⊥) → (i ≡ next_at → ⊥)
          → get_or v i 0 ≡ get_or w i 0
      out i f g =
          get_or-set_other u (next_at) i (get_or w (next_at) 0 + 1) 0 g
          ∙ get_or-set_other w (next_at + 1 + get_or w (next_at) 0) i (entry_word e) 0 f

      names : map entry_word ((scheduler_at s q).next ++ (e ∷ []))
          ≡ map entry_word (scheduler_at s q).next ++ (entry_word e ∷ [])
      names = map-append entry_word es (e ∷ [])

      size : length (map entry_word (scheduler_at s q).next) ≡ get_or w (next_at) 0
      size = length-map es entry_word ∙ sym room_says

      next_words : (j : ℕ) → j < 65
          → get_or v (block_at + (65 + j)) 0
          ≡ list_word (map entry_word ((scheduler_at s q).next ++ (e ∷ []))) j
      next_words zero g =
          let z : block_at + (65 + 0) ≡ next_at = omega arith in
          ap (λ (k : ℕ). get_or v k 0) z
          ∙ get_or-set_same u (next_at) (get_or w (next_at) 0 + 1) 0 (rw ul (omega arith))
          ∙ ap (λ (m : ℕ). m + 1) (sym size)
          ∙ sym (length-append (map entry_word es) (entry_word e ∷ [])) ∙ ap length (sym names)
      next_words (suc j) g =
          at_entry (ltb j (get_or w (next_at) 0)) refl (eqb j (get_or w (next_at) 0)) refl
          ∙ ap (λ (l : List ℕ). get_or l j 0) (sym names)
        where
          at_entry : (c : Bool) → ltb j (get_or w (next_at) 0) ≡ c → (d : Bool)
              → eqb j (get_or w (next_at) 0) ≡ d
              → get_or v (block_at + (65 + suc j)) 0
              ≡ get_or (map entry_word (scheduler_at s q).next ++ (entry_word e ∷ [])) j 0
          at_entry true c d _ =
              let m : j < get_or w (next_at) 0 = ltb-true _ _ c in
              out (block_at + (65 + suc j)) (λ z. omega arith) (λ z. omega arith)
              ∙ next_word (suc j) g
              ∙ sym (get_or-append (map entry_word es) (entry_word e ∷ []) 0 j (rw size m))
          at_entry false c true d =
              let m : j ≡ get_or w (next_at) 0 = eqb-true _ _ d in
              let z : block_at + (65 + suc j) ≡ next_at + 1 + get_or w (next_at) 0 = omega arith in
              get_or-set_other u (next_at) (block_at + (65 + suc j)) (get_or w (next_at) 0 + 1) 0
              (λ y. omega arith)
              ∙ ap (λ (k : ℕ). get_or u k 0) z
              ∙ get_or-set_same w (next_at + 1 + get_or w (next_at) 0) (entry_word e) 0
              (rw h.all (let y = count in omega arith))
              ∙ sym (get_or_at (map entry_word es) (entry_word e) [] 0 j (size ∙ sym m))
          at_entry false c false d =
              let m : get_or w (next_at) 0 ≤ j = ltb-false _ _ c in
              let k : (j ≡ get_or w (next_at) 0 → ⊥) = eqb-false _ _ d in
              out (block_at + (65 + suc j)) (λ z. k (omega arith)) (λ z. omega arith)
              ∙ next_word (suc j) g
              ∙ get_or-eq_default (map entry_word es) 0 {n = j} (rw size m)
              ∙ sym (get_or-eq_default (map entry_word es ++ (entry_word e ∷ [])) 0 {n = j} (beyond k m (length-append (map entry_word es) (entry_word e ∷ []))))
            where
              beyond : (j ≡ get_or w (next_at) 0 → ⊥) → get_or w (next_at) 0 ≤ j
                  → length (map entry_word (scheduler_at s q).next ++ (entry_word e ∷ []))
                  ≡ length (map entry_word (scheduler_at s q).next) + 1
                  → length (map entry_word (scheduler_at s q).next ++ (entry_word e ∷ [])) ≤ j
              beyond k m z = let r = size in omega arith
