-- The entries of a next list partitioned in place, turn by turn of the loop, and the end of an
-- instant that sets both counts. Assumes nothing.
use Prim.Native.Nat.{ℕ, zero, suc, ◌+◌, ◌*◌, ◌-◌, ◌/◌, ◌%◌, ◌<◌, ◌≤◌}
use Prim.Native.Nat.{◌^◌}
use mathlib.Core.Path.{◌≡◌, refl, sym, ap, ap₂, ◌∙◌, subst}
use mathlib.Core.List.{List, [], ◌∷◌, ◌++◌, append-nil}
use mathlib.Core.Bool.{Bool, true, false, not}
use native.Mathlib.Omega.{arith}
use native.Mathlib.Numerals.{add-one}
use native.Mathlib.Decide.{ℕ_discrete}
use borrow.Author.Tests.{ltb-true, ltb-false}
use borrow.Author.Tests.{lt-ltb, le-ltb, le-leb}
use lib.Dec.{ltb}
use lib.Dec.{eqb}
use lib.Dec.{leb}
use lib.ListN.{get_or, length, set, take, length-set, length-append, get_or-append}
use lib.ListN.{get_or-eq_default}
use lib.Seq.{take-suc, take_all, length-take-le, get_or_at, get_or-set_same, get_or-set_other}
use Rattle.basics.specs.If.{keep_if}
use Rattle.machine.specs.Words.{words_at}
use Rattle.machine.specs.Inner.Blocks.{pasted, padded}
use Rattle.machine.proofs.WordLaws.{tab_length, tab_from, pasted_length, pasted_in, pasted_out}
use Rattle.machine.proofs.Padded.{padded-length, padded_at}
use Rattle.machine.proofs.PastedLaws.{same_pasted}
use Rattle.lists.specs.Inner.Families.{is_ready_word, is_ready_by, LivingFamilies}
use Rattle.lists.specs.Inner.Lists.{wanted_words, other_words, partitioned_in, with_moved}
use Rattle.lists.specs.Inner.Lists.{ready_words, with_instant_ended, active_with}
use Rattle.lists.specs.Inner.Lists.{is_awaiting_word}
use Rattle.lists.proofs.WaitLaws.{ready_by}
use Rattle.basics.proofs.Ifs.{if_yes, if_no}

-- ---- the tests
pub awaits_none : (e x : ℕ) → x < 16384 → false ≡ is_awaiting_word e x
unfolding is_awaiting_word
awaits_none e x h = sym (if_yes _ _ (lt-ltb x 16384 h))

pub awaits_event : (e x : ℕ) → 16384 ≤ x → eqb ((x - 16384) / 128) e ≡ is_awaiting_word e x
unfolding is_awaiting_word
awaits_event e x h = sym (if_no _ _ (le-ltb x 16384 h))

-- ---- one entry more
keep_true : {A : Type 0} {b : Bool} (x : A) (xs : List A) → b ≡ true → keep_if b x xs ≡ x ∷ xs
keep_true {A} x xs e = ap (λ (t : Bool). keep_if {A = A} t x xs) e

keep_false : {A : Type 0} {b : Bool} (x : A) (xs : List A) → b ≡ false → keep_if b x xs ≡ xs
keep_false {A} x xs e = ap (λ (t : Bool). keep_if {A = A} t x xs) e

keep_append : {A : Type 0} (b : Bool) (x : A) (xs ys : List A)
    → keep_if b x (xs ++ ys) ≡ keep_if b x xs ++ ys
keep_append true x xs ys = refl
keep_append false x xs ys = refl

-- a list with one more differs at its end alone
not_last : (l : List ℕ) (e i : ℕ) → (i ≡ length l → ⊥) → get_or (l ++ (e ∷ [])) i 0 ≡ get_or l i 0
not_last l e i f = by (ltb i (length l)) refl
  where
    past : {n m : ℕ} → (i ≡ n → ⊥) → n ≤ i → m ≡ n + 1 → m ≤ i
    past f h z = omega arith

    by : (b : Bool) → ltb i (length l) ≡ b → get_or (l ++ (e ∷ [])) i 0 ≡ get_or l i 0
    by true q = get_or-append l (e ∷ []) 0 i (ltb-true i (length l) q)
    by false q =
        let h : length l ≤ i = ltb-false i (length l) q in
        get_or-eq_default (l ++ (e ∷ [])) 0 {n = i} (past f h (length-append l (e ∷ [])))
        ∙ sym (get_or-eq_default l 0 {n = i} h)

module _ (test : ℕ → Bool) (w : List ℕ) where
  wanted_append : (xs : List ℕ) (e : ℕ)
      → wanted_words test (xs ++ (e ∷ [])) ≡ wanted_words test xs ++ keep_if (test e) (e % 128) []
  unfolding wanted_words
  wanted_append [] e = refl
  wanted_append (x ∷ xs) e =
      ap (keep_if (test x) (x % 128)) (wanted_append xs e)
      ∙ keep_append (test x) (x % 128) (wanted_words test xs)
      (keep_if (test e) (e % 128) [])

  other_append : (xs : List ℕ) (e : ℕ)
      → other_words test (xs ++ (e ∷ [])) ≡ other_words test xs ++ keep_if (not (test e)) e []
  unfolding other_words
  other_append [] e = refl
  other_append (x ∷ xs) e =
      ap (keep_if (not (test x)) x) (other_append xs e)
      ∙ keep_append (not (test x)) x (other_words test xs)
      (keep_if (not (test e)) e [])

  -- each entry is wanted or not
  pub all_partitioned : (es : List ℕ)
      → length (wanted_words test es) + length (other_words test es) ≡ length es
  unfolding wanted_words other_words
  all_partitioned [] = refl
  all_partitioned (e ∷ es) = by (test e) (all_partitioned es)
    where
      by : (b : Bool) → length (wanted_words test es) + length (other_words test es) ≡ length es
          → length (keep_if b (e % 128) (wanted_words test es))
          + length (keep_if (not b) e (other_words test es)) ≡ suc (length es)
      by true h = omega arith
      by false h = omega arith

  -- the first of them are no more than all
  wanted_first : (j : ℕ) (es : List ℕ)
      → length (wanted_words test (take j es)) ≤ length (wanted_words test es)
  unfolding wanted_words
  wanted_first zero es = omega arith
  wanted_first (suc j) [] = omega arith
  wanted_first (suc j) (e ∷ es) = by (test e) (wanted_first j es)
    where
      by : (b : Bool) → length (wanted_words test (take j es)) ≤ length (wanted_words test es)
          → length (keep_if b (e % 128) (wanted_words test (take j es)))
          ≤ length (keep_if b (e % 128) (wanted_words test es))
      by true h = omega arith
      by false h = h

  -- no more are wanted than there are
  pub wanted_few : (i r : ℕ) → r ≡ length (wanted_words test (words_at w i)) → r ≤ get_or w i 0
  wanted_few i r e =
      let a = all_partitioned (words_at w i) in
      let b = tab_length (get_or w i 0) (λ j. get_or w j 0) (suc i) in
      omega arith

  -- ---- the loop: the first j entries are partitioned, r of them ready; where they lay are those
  -- that wait, then 0
  pub record Partitioning (at k : ℕ) (v : List ℕ) (r j : ℕ) : Type 0 where
    pub long : length v ≡ length w
    pub readies : r ≡ length (wanted_words test (take j (words_at w (at + 65))))
    pub active : (i : ℕ) → i < r
        → get_or v (at + 1 + k + i) 0 ≡ get_or (wanted_words test (take j (words_at w (at + 65)))) i 0
    pub next : (i : ℕ) → i < j
        → get_or v (at + 65 + 1 + i) 0 ≡ get_or (other_words test (take j (words_at w (at + 65)))) i 0
    pub rest : (i : ℕ) → (at + 1 + k ≤ i → i < at + 1 + k + r → ⊥)
        → (at + 65 + 1 ≤ i → i < at + 65 + 1 + j → ⊥) → get_or v i 0 ≡ get_or w i 0

  pub partition_start : (at k : ℕ) → Partitioning at k w 0 0
  unfolding wanted_words other_words
  partition_start at k =
      record {
        long = refl;
        readies = refl;
        active = λ i g. absurd (omega arith);
        next = λ i g. absurd (omega arith);
        rest = λ i f g. refl;
      }

  module _ (at k : ℕ) (v : List ℕ) (r j : ℕ) (s : Partitioning at k v r j)
      (some : j ≤ get_or w (at + 65) 0) (few : get_or w (at + 65) 0 ≤ 64) where
    size : length (take j (words_at w (at + 65))) ≡ j
    size = length-take-le j (words_at w (at + 65))
        (rw (tab_length (get_or w (at + 65) 0) (λ i. get_or w i 0) (suc (at + 65))) some)

    -- those that wait
    waits : r + length (other_words test (take j (words_at w (at + 65)))) ≡ j
    waits =
        let a = all_partitioned (take j (words_at w (at + 65))) in
        ap (λ (n : ℕ). n + length (other_words test (take j (words_at w (at + 65))))) s.readies
        ∙ a ∙ size

    pub partition_few : r ≤ j
    partition_few = let a = waits in omega arith

    module _ (all : get_or w (at + 65) 0 ≤ j) (len : length w ≡ 4834) (high : at + 130 ≤ 1042)
        (fits : k + length (wanted_words test (words_at w (at + 65))) ≤ 64) where
      abbrev n : ℕ
      n = get_or w (at + 65) 0

      abbrev rs : List ℕ
      rs = wanted_words test (words_at w (at + 65))

      abbrev ws : List ℕ
      ws = other_words test (words_at w (at + 65))

      abbrev d : List ℕ
      d = pasted w (at + 1 + k) rs (length rs)

      whole : take j (words_at w (at + 65)) ≡ words_at w (at + 65)
      whole = take_all j (words_at w (at + 65))
          (rw (tab_length (get_or w (at + 65) 0) (λ i. get_or w i 0) (suc (at + 65))) all)

      pub partition_count : r ≡ length (wanted_words test (words_at w (at + 65)))
      partition_count = s.readies ∙ ap (λ (l : List ℕ). length (wanted_words test l)) whole

      room : at + 1 + k + length rs ≤ length w
      room = omega arith

      dl : length d ≡ length w
      dl = pasted_length w (at + 1 + k) rs (length rs) room (omega arith)

      outside : (i : ℕ) → (at + 65 + 1 ≤ i → i < at + 65 + 1 + n → ⊥)
          → (a : Bool) → ltb i (at + 1 + k) ≡ a → (b : Bool) → ltb i (at + 1 + k + length rs) ≡ b
          → get_or v i 0 ≡ get_or d i 0
      outside i f true p b q =
          let l : i < at + 1 + k = ltb-true i (at + 1 + k) p in
          s.rest i (λ x y. omega arith) (λ x y. f x (omega arith))
          ∙ sym (pasted_out w (at + 1 + k) rs (length rs) room (omega arith) i (λ x y. omega arith))
      outside i f false p false q =
          let c = partition_count in
          let l : at + 1 + k + length rs ≤ i = ltb-false i (at + 1 + k + length rs) q in
          s.rest i (λ x y. omega arith) (λ x y. f x (omega arith))
          ∙ sym (pasted_out w (at + 1 + k) rs (length rs) room (omega arith) i (λ x y. omega arith))
      outside i f false p true q =
          let c = partition_count in
          let l : at + 1 + k ≤ i = ltb-false i (at + 1 + k) p in
          let m : i < at + 1 + k + length rs = ltb-true i (at + 1 + k + length rs) q in
          let z : at + 1 + k + (i - (at + 1 + k)) ≡ i = omega arith in
          ap (λ (m : ℕ). get_or v m 0) (sym z) ∙ s.active (i - (at + 1 + k)) (omega arith)
          ∙ ap (λ (l : List ℕ). get_or (wanted_words test l) (i - (at + 1 + k)) 0) whole
          ∙ sym
          (pasted_in w (at + 1 + k) rs (length rs) room (omega arith) (i - (at + 1 + k)) (omega arith))
          ∙ ap (λ (m : ℕ). get_or d m 0) z

      pub partition_end : v ≡ partitioned_in test w at k
      unfolding partitioned_in
      partition_end =
          same_pasted d v (at + 65 + 1) (padded n ws) n
          (let x = dl in omega arith) (let x = padded-length n ws in omega arith) (s.long ∙ sym dl)
          (λ i g. s.next i (omega arith) ∙ ap (λ (l : List ℕ). get_or (other_words test l) i 0) whole
          ∙ sym (padded_at n ws i g))
          (λ i f. outside i f (ltb i (at + 1 + k)) refl (ltb i (at + 1 + k + length rs)) refl)

  -- one entry more
  module _ (at k : ℕ) (v : List ℕ) (r j e : ℕ) (s : Partitioning at k v r j)
      (more : j < get_or w (at + 65) 0) (few : get_or w (at + 65) 0 ≤ 64)
      (high : at + 130 ≤ 1042) (len : length w ≡ 4834)
      (fits : k + length (wanted_words test (words_at w (at + 65))) ≤ 64)
      (read : e ≡ get_or v (at + 65 + 1 + j) 0) where
    abbrev ready_j : List ℕ
    ready_j = wanted_words test (take j (words_at w (at + 65)))

    abbrev wait_j : List ℕ
    wait_j = other_words test (take j (words_at w (at + 65)))

    -- the words with 0 where the entry lay
    abbrev u : List ℕ
    u = set v (at + 65 + 1 + j) 0

    vl : length v ≡ 4834
    vl = s.long ∙ len

    ul : length (set v (at + 65 + 1 + j) 0) ≡ 4834
    ul = length-set v (at + 65 + 1 + j) 0 ∙ vl

    fewer : r ≤ j
    fewer = partition_few at k v r j s (omega arith) few

    -- those moved have room
    below_next : k + r ≤ 64
    below_next =
        let x = s.readies in let y = wanted_first j (words_at w (at + 65)) in omega arith

    waiting : r + length (other_words test (take j (words_at w (at + 65)))) ≡ j
    waiting = waits at k v r j s (omega arith) few

    one_entry : take (j + 1) (words_at w (at + 65)) ≡ take j (words_at w (at + 65)) ++ (e ∷ [])
    one_entry =
        let y = fewer in
        let z : suc (at + 65) + j ≡ at + 65 + 1 + j = omega arith in
        ap (λ (n : ℕ). take n (words_at w (at + 65))) (add-one j)
        ∙ take-suc (words_at w (at + 65)) j 0
        (rw (tab_length (get_or w (at + 65) 0) (λ i. get_or w i 0) (suc (at + 65))) more)
        ∙ ap (λ (x : ℕ). take j (words_at w (at + 65)) ++ (x ∷ []))
        (tab_from (get_or w (at + 65) 0) (λ i. get_or w i 0) (suc (at + 65)) j 0 more
        ∙ ap (λ (i : ℕ). get_or w i 0) z
        ∙ sym (read ∙ s.rest (at + 65 + 1 + j) (λ p q. let b = below_next in omega arith) (λ p q. omega arith)))

    -- words of the next list's space, of which that of the entry is 0 now
    left : (i : ℕ) → i < j + 1 → get_or (set v (at + 65 + 1 + j) 0) (at + 65 + 1 + i) 0
        ≡ get_or (other_words test (take j (words_at w (at + 65)))) i 0
    left i g = by (ℕ_discrete i j)
      where
        by : Dec (i ≡ j) → get_or (set v (at + 65 + 1 + j) 0) (at + 65 + 1 + i) 0
            ≡ get_or (other_words test (take j (words_at w (at + 65)))) i 0
        by (yes z) =
            let x = waiting in
            let y = vl in
            ap (λ (m : ℕ). get_or u (at + 65 + 1 + m) 0) z
            ∙ get_or-set_same v (at + 65 + 1 + j) 0 0 (omega arith)
            ∙ sym (get_or-eq_default wait_j 0 {n = i} (omega arith))
        by (no z) =
            get_or-set_other v (at + 65 + 1 + j) (at + 65 + 1 + i) 0 0 (λ y. z (omega arith))
            ∙ s.next i (beside z)
          where
            beside : (i ≡ j → ⊥) → i < j
            beside z = omega arith

    pub partition_ready : (t : Bool) → t ≡ test e → t ≡ true
        → Partitioning at k (set (set v (at + 65 + 1 + j) 0) (at + 1 + k + r) (e % 128)) (r + 1) (j + 1)
    partition_ready t f h =
        record {
          long = length-set u (at + 1 + k + r) (e % 128) ∙ length-set v (at + 65 + 1 + j) 0 ∙ s.long;
          readies =
              ap (λ (n : ℕ). n + 1) s.readies ∙ sym (length-append ready_j (e % 128 ∷ []))
              ∙ ap length (sym more_ready);
          active = λ i g. active_at i g (ℕ_discrete i r) ∙ ap (λ (l : List ℕ). get_or l i 0) (sym more_ready);
          next = λ i g. get_or-set_other u (at + 1 + k + r) (at + 65 + 1 + i) (e % 128) 0 (λ z. apart i z)
              ∙ left i g ∙ ap (λ (l : List ℕ). get_or l i 0) (sym stay);
          rest = λ i a b. get_or-set_other u (at + 1 + k + r) i (e % 128) 0 (λ z. a (omega arith) (omega arith))
              ∙ get_or-set_other v (at + 65 + 1 + j) i 0 0 (λ z. b (omega arith) (omega arith))
              ∙ s.rest i (λ p q. a p (omega arith)) (λ p q. b p (omega arith));
        }
      where
        is : test e ≡ true
        is = sym f ∙ h

        more_ready : wanted_words test (take (j + 1) (words_at w (at + 65)))
            ≡ wanted_words test (take j (words_at w (at + 65))) ++ (e % 128 ∷ [])
        more_ready =
            ap (wanted_words test) one_entry ∙ wanted_append (take j (words_at w (at + 65))) e
            ∙ ap (λ (x : List ℕ). ready_j ++ x) (keep_true (e % 128) [] is)

        stay : other_words test (take (j + 1) (words_at w (at + 65)))
            ≡ other_words test (take j (words_at w (at + 65)))
        stay =
            ap (other_words test) one_entry ∙ other_append (take j (words_at w (at + 65))) e
            ∙ ap (λ (x : List ℕ). wait_j ++ x) (keep_false e [] (ap not is)) ∙ append-nil wait_j

        -- it has room too
        one_fits : k + r + 1 ≤ 64
        one_fits =
            let x = s.readies in
            let y = wanted_first (j + 1) (words_at w (at + 65)) in
            let z = ap length more_ready ∙ length-append ready_j (e % 128 ∷ []) in
            omega arith

        apart : (i : ℕ) → at + 65 + 1 + i ≡ at + 1 + k + r → ⊥
        apart i z = let y = one_fits in omega arith

        active_at : (i : ℕ) → i < r + 1 → Dec (i ≡ r)
            → get_or (set (set v (at + 65 + 1 + j) 0) (at + 1 + k + r) (e % 128)) (at + 1 + k + i) 0
            ≡ get_or (wanted_words test (take j (words_at w (at + 65))) ++ (e % 128 ∷ [])) i 0
        active_at i g (yes z) =
            let y = one_fits in
            let x = ul in
            ap (λ (m : ℕ). get_or (set u (at + 1 + k + r) (e % 128)) (at + 1 + k + m) 0) z
            ∙ get_or-set_same u (at + 1 + k + r) (e % 128) 0 (omega arith)
            ∙ sym (get_or_at ready_j (e % 128) [] 0 i (sym s.readies ∙ sym z))
        active_at i g (no z) =
            let y = below_next in
            let x = s.readies in
            let l : i < r = below z in
            get_or-set_other u (at + 1 + k + r) (at + 1 + k + i) (e % 128) 0 (λ m. z (omega arith))
            ∙ get_or-set_other v (at + 65 + 1 + j) (at + 1 + k + i) 0 0 (λ m. omega arith)
            ∙ s.active i l ∙ sym (get_or-append ready_j (e % 128 ∷ []) 0 i (omega arith))
          where
            below : (i ≡ r → ⊥) → i < r
            below z = omega arith

    pub partition_waiting : (t : Bool) → t ≡ test e → t ≡ false
        → Partitioning at k (set (set v (at + 65 + 1 + j) 0) (at + 65 + 1 + (j - r)) e) r (j + 1)
    partition_waiting t f h =
        record {
          long =
              length-set u (at + 65 + 1 + (j - r)) e ∙ length-set v (at + 65 + 1 + j) 0 ∙ s.long;
          readies = s.readies ∙ ap length (sym stay);
          active = λ i g. get_or-set_other u (at + 65 + 1 + (j - r)) (at + 1 + k + i) e 0 (λ z. apart i (j - r) g z)
              ∙ get_or-set_other v (at + 65 + 1 + j) (at + 1 + k + i) 0 0 (λ z. apart i j g z)
              ∙ s.active i g ∙ ap (λ (l : List ℕ). get_or l i 0) (sym stay);
          next = λ i g. next_at i g (ℕ_discrete i (j - r)) ∙ ap (λ (l : List ℕ). get_or l i 0) (sym more_wait);
          rest = λ i a b. get_or-set_other u (at + 65 + 1 + (j - r)) i e 0 (λ z. b (omega arith) (omega arith))
              ∙ get_or-set_other v (at + 65 + 1 + j) i 0 0 (λ z. b (omega arith) (omega arith))
              ∙ s.rest i a (λ p q. b p (omega arith));
        }
      where
        is : test e ≡ false
        is = sym f ∙ h

        more_wait : other_words test (take (j + 1) (words_at w (at + 65)))
            ≡ other_words test (take j (words_at w (at + 65))) ++ (e ∷ [])
        more_wait =
            ap (other_words test) one_entry ∙ other_append (take j (words_at w (at + 65))) e
            ∙ ap (λ (x : List ℕ). wait_j ++ x) (keep_true e [] (ap not is))

        stay : wanted_words test (take (j + 1) (words_at w (at + 65)))
            ≡ wanted_words test (take j (words_at w (at + 65)))
        stay =
            ap (wanted_words test) one_entry ∙ wanted_append (take j (words_at w (at + 65))) e
            ∙ ap (λ (x : List ℕ). ready_j ++ x) (keep_false (e % 128) [] is) ∙ append-nil ready_j

        apart : (i m : ℕ) → i < r → at + 1 + k + i ≡ at + 65 + 1 + m → ⊥
        apart i m g z = let y = below_next in omega arith

        next_at : (i : ℕ) → i < j + 1 → Dec (i ≡ j - r)
            → get_or (set (set v (at + 65 + 1 + j) 0) (at + 65 + 1 + (j - r)) e) (at + 65 + 1 + i) 0
            ≡ get_or (other_words test (take j (words_at w (at + 65))) ++ (e ∷ [])) i 0
        next_at i g (yes z) =
            let y = fewer in
            let x = ul in
            ap (λ (m : ℕ). get_or (set u (at + 65 + 1 + (j - r)) e) (at + 65 + 1 + m) 0) z
            ∙ get_or-set_same u (at + 65 + 1 + (j - r)) e 0 (omega arith)
            ∙ sym (get_or_at wait_j e [] 0 i (let m = waiting in omega arith))
        next_at i g (no z) =
            get_or-set_other u (at + 65 + 1 + (j - r)) (at + 65 + 1 + i) e 0 (λ m. z (omega arith))
            ∙ left i g ∙ sym (not_last wait_j e i (λ m. z (let y = waiting in omega arith)))

-- ---- both counts set
module _ (w : List ℕ) (k at : ℕ) (z : at ≡ 2 + 130 * k) where
  pub next_short : get_or w (67 + 130 * k) 0 ≤ 64 → get_or w (at + 65) 0 ≤ 64
  next_short h = let e : at + 65 ≡ 67 + 130 * k = omega arith in rw e h

  pub active_short : get_or w (2 + 130 * k) 0 ≤ 64 → get_or w at 0 ≤ 64
  active_short h = rw z h

module _ (test : ℕ → Bool) (w : List ℕ) (k at : ℕ) (z : at ≡ 2 + 130 * k) where
  next_at : at + 65 ≡ 67 + 130 * k
  next_at = omega arith

  pub room_here : active_with test w k ≤ 64
      → get_or w at 0 + length (wanted_words test (words_at w (at + 65))) ≤ 64
  room_here h = subst (λ (n : ℕ). n ≤ 64)
      (ap₂ (λ (a b : ℕ). get_or w a 0 + length (wanted_words test (words_at w b))) (sym z) (sym next_at))
      h

  pub room_is : (r : ℕ) → r ≡ get_or w at 0 + length (wanted_words test (words_at w (at + 65)))
      → leb r 64 ≡ leb (active_with test w k) 64
  room_is r e = ap (λ (n : ℕ). leb n 64)
      (e ∙ ap₂ (λ (a b : ℕ). get_or w a 0 + length (wanted_words test (words_at w b))) z next_at)

  -- where all entries have room, those that pass do
  pub room_for_all : get_or w at 0 + get_or w (at + 65) 0 ≤ 64 → true ≡ leb (active_with test w k) 64
  room_for_all h =
      let n = length (wanted_words test (words_at w (at + 65))) in
      let a = wanted_few test w (at + 65) n refl in
      sym (le-leb (get_or w at 0 + n) 64 (omega arith)) ∙ room_is (get_or w at 0 + n) refl

  pub moved_small : (r : ℕ) → active_with test w k ≤ 64
      → r ≡ length (wanted_words test (words_at w (at + 65))) → get_or w at 0 + r < 2 ^ 64
  moved_small r h e = let a = room_here h in omega arith

  pub moved_count : (r : ℕ) → r ≡ length (wanted_words test (words_at w (at + 65)))
      → r ≡ length (wanted_words test (words_at w (67 + 130 * k)))
  moved_count r e = e ∙ ap (λ (i : ℕ). length (wanted_words test (words_at w i))) next_at

  pub moved_words : (v : List ℕ) (r : ℕ) → r ≡ length (wanted_words test (words_at w (at + 65)))
      → v ≡ partitioned_in test w at (get_or w at 0)
      → set (set v at (get_or w at 0 + r)) (at + 65) (get_or w (at + 65) 0 - r) ≡ with_moved test w k
  unfolding with_moved
  moved_words v r e f =
      let m = get_or w at 0 in
      ap (λ (l : List ℕ). set (set l at (m + r)) (at + 65) (get_or w (at + 65) 0 - r)) f
      ∙ ap₂ (λ (a b : ℕ). set (set (partitioned_in test w at m) at (m + a)) (at + 65) b) e others
      ∙ ap₂ (λ (a b : ℕ). set (set (partitioned_in test w a (get_or w a 0)) a
      (get_or w a 0 + length (wanted_words test (words_at w b)))) b
      (length (other_words test (words_at w b)))) z next_at
    where
      others : get_or w (at + 65) 0 - r ≡ length (other_words test (words_at w (at + 65)))
      others =
          let a = all_partitioned test w (words_at w (at + 65)) in
          let b = tab_length (get_or w (at + 65) 0) (λ j. get_or w j 0) (suc (at + 65)) in
          omega arith

-- those of a next list have room where no thread is active
pub idle_room : (test : ℕ → Bool) (w : List ℕ) (k : ℕ) → get_or w (2 + 130 * k) 0 ≡ 0
    → get_or w (67 + 130 * k) 0 ≤ 64 → active_with test w k ≤ 64
idle_room test w k z h =
    let i = 67 + 130 * k in
    let a = wanted_few test w i (length (wanted_words test (words_at w i))) refl in
    omega arith

-- ---- the ready ones, by the set of threads in whose families one lives
module _ (w : List ℕ) (living k : ℕ) (l : LivingFamilies w living) where
  same_test : is_ready_by living ≡ is_ready_word w
  same_test = λ i e. ready_by w living l e i

  pub instant_count : (r : ℕ) → r ≡ length (wanted_words (is_ready_by living) (words_at w (67 + 130 * k)))
      → r ≡ length (ready_words w (words_at w (67 + 130 * k)))
  instant_count r e = e ∙ ap (λ (f : ℕ → Bool). length (wanted_words f (words_at w (67 + 130 * k)))) same_test

  pub instant_words : (v : List ℕ) → v ≡ with_moved (is_ready_by living) w k → v ≡ with_instant_ended w k
  instant_words v e = e ∙ ap (λ (f : ℕ → Bool). with_moved f w k) same_test

-- ---- how many would be active: n of the entries at that place are asked
module _ (test : ℕ → Bool) (w : List ℕ) (at : ℕ) where
  pub record Counting (start threads j : ℕ) : Type 0 where
    pub counted : threads ≡ start + length (wanted_words test (take j (words_at w at)))

  pub counting_start : (m : ℕ) → Counting m m 0
  unfolding wanted_words
  counting_start m = record { counted = omega arith }

  module _ (m threads j e : ℕ) (s : Counting m threads j) (more : j < get_or w at 0)
      (read : e ≡ get_or w (at + 1 + j) 0) where
    entry_more : take (j + 1) (words_at w at) ≡ take j (words_at w at) ++ (e ∷ [])
    entry_more =
        let z : suc at + j ≡ at + 1 + j = omega arith in
        ap (λ (n : ℕ). take n (words_at w at)) (add-one j)
        ∙ take-suc (words_at w at) j 0
        (rw (tab_length (get_or w at 0) (λ i. get_or w i 0) (suc at)) more)
        ∙ ap (λ (x : ℕ). take j (words_at w at) ++ (x ∷ []))
        (tab_from (get_or w at 0) (λ i. get_or w i 0) (suc at) j 0 more
        ∙ ap (λ (i : ℕ). get_or w i 0) z ∙ sym read)

    counted_as : (b : Bool) → b ≡ test e
        → length (wanted_words test (take (j + 1) (words_at w at)))
        ≡ length (wanted_words test (take j (words_at w at))) + length (keep_if b (e % 128) [])
    counted_as b q =
        ap (λ (l : List ℕ). length (wanted_words test l)) entry_more
        ∙ ap length (wanted_append test w (take j (words_at w at)) e)
        ∙ length-append (wanted_words test (take j (words_at w at))) _
        ∙ ap (λ (c : Bool). length (wanted_words test (take j (words_at w at))) + length (keep_if c (e % 128) [])) (sym q)

    pub counting_one : (b : Bool) → b ≡ test e → b ≡ true → Counting m (threads + 1) (j + 1)
    counting_one b q t =
        let x = s.counted in
        let y = counted_as b q ∙ ap (λ (c : Bool). length (wanted_words test (take j (words_at w at))) + length (keep_if c (e % 128) [])) t in
        record { counted = omega arith }

    pub counting_none : (b : Bool) → b ≡ test e → b ≡ false → Counting m threads (j + 1)
    counting_none b q t =
        let x = s.counted in
        let y = counted_as b q ∙ ap (λ (c : Bool). length (wanted_words test (take j (words_at w at))) + length (keep_if c (e % 128) [])) t in
        record { counted = omega arith }

  pub counting_end : (m threads j : ℕ) → Counting m threads j → get_or w at 0 ≤ j
      → threads ≡ m + length (wanted_words test (words_at w at))
  counting_end m threads j s l =
      s.counted ∙ ap (λ (es : List ℕ). m + length (wanted_words test es))
      (take_all j (words_at w at) (rw (tab_length (get_or w at 0) (λ i. get_or w i 0) (suc at)) l))

-- `awaits`
pub ruleset awaits_laws = (awaits_none, awaits_event)

-- `has_room_to_wake`
pub ruleset wake_room_laws = (room_for_all, room_is)
