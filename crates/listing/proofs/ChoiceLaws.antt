-- Laws of the code that judges choices.txt and reads a choice of it. Assumes nothing.
use mathlib.Core.Path.{◌≡◌, refl, sym, ap, ap₂, ◌∙◌}
use mathlib.Core.Bool.{Bool, true, false, ◌&&◌, true≢false}
use mathlib.Core.List.{List, [], ◌∷◌}
use Prim.Native.Nat.{ℕ, zero, suc, ◌+◌, ◌-◌, ◌*◌, ◌/◌, ◌%◌, ◌^◌, ◌<◌, ◌≤◌}
use native.Mathlib.Numerals.{add-one}
use native.Mathlib.Omega.{arith}
use lib.Dec.{ltb, leb, eqb}
use lib.ListN.{length, get_or, take, drop, length-drop, length-take, drop_of_length-le}
use lib.Seq.{drop-drop, get_or-take}
use borrow.Author.Tests.{lt-ltb, le-ltb, eq-eqb, ne_eqb, leb-true, le-leb, lt-leb}
use Rattle.basics.specs.If.{when◌then◌else◌}
use Rattle.basics.proofs.Ifs.{if_all, yes, no, and_true, and_swap}
use Rattle.text.specs.Digits.{digit}
use Rattle.text.proofs.ReadLaws.{part_all}
use Rattle.machine.specs.Inner.Ranges.{all_below}
use Rattle.machine.proofs.Ranges.{below_each}
use Rattle.listing.specs.Listing.{Choices, choices, malformed, also_choice, is_choice}
use Rattle.listing.specs.Listing.{choices_from}
use Rattle.listing.specs.Inner.Choices.{count_read, judged, choice_at, right_byte, is_right}
use Rattle.listing.specs.Inner.Choices.{starts_block, starts_choice, choices_ahead}
use Rattle.std.specs.Prelude.{Result, Ok, Err}
use Rattle.language.specs.Verdicts.{refusal}
use Rattle.language.specs.declared.refusal.Refusal.{Refusal}
use Rattle.language.specs.declared.refusal.Rule.TheVariants.{LongText, MalformedText}

-- ---- one byte
module _ (p b : ℕ) where
  pub digit_due : (d : ℕ) → d ≡ digit b → (p % 3 ≡ 2 → ⊥) → ltb d 16 ≡ right_byte p b
  unfolding right_byte
  digit_due d e h = no _ (ne_eqb _ _ h) (ap (λ (n : ℕ). ltb n 16) e)

  pub feed_due : p % 3 ≡ 2 → eqb b 10 ≡ right_byte p b
  unfolding right_byte
  feed_due h = yes _ (eq-eqb _ _ h) refl

  -- a line later
  byte_later : right_byte (suc (suc (suc p))) b ≡ right_byte p b
  unfolding right_byte
  byte_later =
      let e : suc (suc (suc p)) % 3 ≡ p % 3 = omega arith in
      ap (λ (n : ℕ). when eqb n 2 then eqb b 10 else ltb (digit b) 16) e

pub ruleset byte_laws = (digit_due, feed_due)

-- ---- the loop over the bytes of a block, after k of them
module _ (bytes : List ℕ) where
  pub block_start : true ≡ all_below 0 (is_right bytes)
  unfolding all_below
  block_start = refl

  pub block_more : (right t : Bool) (k : ℕ) → k < length (take 48 bytes)
      → t ≡ right_byte k (get_or (take 48 bytes) k 0)
      → right ≡ all_below k (is_right bytes) → (right && t) ≡ all_below (k + 1) (is_right bytes)
  unfolding all_below
  block_more right t k l e h =
      let n = length-take 48 bytes in
      let b = get_or-take 48 bytes k 0 (omega arith) in
      rw add-one (and_swap right t ∙ ap₂ (λ (x y : Bool). x && y) (e ∙ ap (right_byte k) b) h)

  pub block_short : length bytes < 48 → false ≡ starts_block bytes
  unfolding starts_block
  block_short h = sym (rw (lt-leb 48 (length bytes) h) refl)

  pub block_told : (right : Bool) (k : ℕ) → 48 ≤ length bytes → k ≤ length (take 48 bytes)
      → length (take 48 bytes) ≤ k → right ≡ all_below k (is_right bytes)
      → right ≡ starts_block bytes
  unfolding starts_block
  block_told right k l a b h =
      let n = length-take 48 bytes in
      let e : k ≡ 48 = omega arith in
      h ∙ ap (λ (j : ℕ). all_below j (is_right bytes)) e
      ∙ sym (ap (λ (t : Bool). t && all_below 48 (is_right bytes)) (le-leb 48 (length bytes) l))

  -- ---- how many choices are ahead, return by return
  module _ (s : Bool) (block : s ≡ starts_block bytes) where
    pub ahead_block : s ≡ true → 16 ≡ choices_ahead bytes
    unfolding choices_ahead
    ahead_block e = yes _ (sym block ∙ e) refl

    module _ (t : Bool) (one : t ≡ starts_choice bytes) where
      pub ahead_one : s ≡ false → t ≡ true → 1 ≡ choices_ahead bytes
      unfolding choices_ahead
      ahead_one e f = no _ (sym block ∙ e) (yes _ (sym one ∙ f) refl)

      pub ahead_none : s ≡ false → t ≡ false → 0 ≡ choices_ahead bytes
      unfolding choices_ahead
      ahead_none e f = no _ (sym block ∙ e) (no _ (sym one ∙ f) refl)

pub ruleset ahead_laws = (ahead_block, ahead_one, ahead_none)

-- ---- one line
module _ (a b c k : ℕ) (rest : List ℕ) where
  line_right : is_choice a b c ≡ true
      → choices_from k (a ∷ b ∷ c ∷ rest)
      ≡ also_choice (16 * digit a + digit b) (choices_from (suc k) rest)
  unfolding choices_from
  line_right h = ap (λ (t : Bool). elim t [ true ↦ also_choice (16 * digit a + digit b) (choices_from (suc k) rest) | false ↦ malformed k ]) h

  line_wrong : is_choice a b c ≡ false → choices_from k (a ∷ b ∷ c ∷ rest) ≡ malformed k
  unfolding choices_from
  line_wrong h = ap (λ (t : Bool). elim t [ true ↦ also_choice (16 * digit a + digit b) (choices_from (suc k) rest) | false ↦ malformed k ]) h

  -- right bytes are a choice
  line_bytes : is_right (a ∷ b ∷ c ∷ rest) 0 ≡ true → is_right (a ∷ b ∷ c ∷ rest) 1 ≡ true
      → is_right (a ∷ b ∷ c ∷ rest) 2 ≡ true → is_choice a b c ≡ true
  unfolding right_byte is_choice when◌then◌else◌
  line_bytes p q r = rw (p, q, r) refl

no_line : (k : ℕ) → choices_from k [] ≡ choices []
unfolding choices_from
no_line k = refl

-- ---- the loop over lines: k of them are choices, as far as `at`

-- what the bytes read as, from what is read after k choices
abbrev count_after : ℕ → Choices → Result ℕ Refusal
count_after k (choices cs) = Ok (k + length cs)
count_after k (malformed j) = Err (refusal MalformedText j)

count_start : (r : Choices) → count_after 0 r ≡ count_read r
count_start (choices cs) = ap Ok (omega arith)
count_start (malformed j) = refl

count_more : (k c : ℕ) (r : Choices) → count_after (suc k) r ≡ count_after k (also_choice c r)
count_more k c (choices cs) = ap Ok (omega arith)
count_more k c (malformed j) = refl

-- the bytes begin with m choices, each of which is passed
record Ahead (bytes : List ℕ) (m : ℕ) : Type 0 where
  there : 3 * m ≤ length bytes
  pass : (k : ℕ)
      → count_after k (choices_from k bytes)
      ≡ count_after (k + m) (choices_from (k + m) (drop (3 * m) bytes))

none_passed : (bytes : List ℕ) → Ahead bytes 0
none_passed bytes =
    record { there = omega arith; pass = λ k. ap (λ (n : ℕ). count_after n (choices_from n bytes)) (omega arith) }

-- one choice, and then m
one_more : (a b c m : ℕ) (rest : List ℕ) → is_choice a b c ≡ true → Ahead rest m
    → Ahead (a ∷ b ∷ c ∷ rest) (suc m)
one_more a b c m rest line h =
    let l = h.there in
    let d : 3 * suc m ≡ suc (suc (suc (3 * m))) = omega arith in
    record {
      there = omega arith;
      pass = λ k.
          let n : suc k + m ≡ k + suc m = omega arith in
          ap (count_after k) (line_right a b c k rest line)
          ∙ sym (count_more k (16 * digit a + digit b) (choices_from (suc k) rest))
          ∙ h.pass (suc k)
          ∙ ap₂ (λ (i : ℕ) (r : List ℕ). count_after i (choices_from i r)) n (sym (ap (λ (i : ℕ). drop i (a ∷ b ∷ c ∷ rest)) d));
    }

right_ahead : (m : ℕ) (bytes : List ℕ) → 3 * m ≤ length bytes
    → ((i : ℕ) → i < 3 * m → is_right bytes i ≡ true) → Ahead bytes m
right_ahead zero bytes l f = none_passed bytes
right_ahead (suc m) [] l f = absurd (omega arith)
right_ahead (suc m) (a ∷ []) l f = absurd (omega arith)
right_ahead (suc m) (a ∷ b ∷ []) l f = absurd (omega arith)
right_ahead (suc m) (a ∷ b ∷ c ∷ rest) l f =
    one_more a b c m rest
    (line_bytes a b c 0 rest (f 0 (omega arith)) (f 1 (omega arith)) (f 2 (omega arith)))
    (right_ahead m rest (omega arith) (λ i h. sym (byte_later i (get_or rest i 0)) ∙ f (suc (suc (suc i))) (omega arith)))

block_ahead : (bytes : List ℕ) → starts_block bytes ≡ true → Ahead bytes 16
unfolding starts_block
block_ahead bytes e =
    let p = and_true (leb 48 (length bytes)) _ e in
    right_ahead 16 bytes (leb-true 48 (length bytes) p.0) (below_each 48 (is_right bytes) p.1)

choice_ahead : (bytes : List ℕ) → starts_choice bytes ≡ true → Ahead bytes 1
unfolding starts_choice
choice_ahead [] e = absurd (true≢false (sym e))
choice_ahead (a ∷ []) e = absurd (true≢false (sym e))
choice_ahead (a ∷ b ∷ []) e = absurd (true≢false (sym e))
choice_ahead (a ∷ b ∷ c ∷ rest) e =
    one_more a b c 0 rest (and_true (leb 3 (length (a ∷ b ∷ c ∷ rest))) _ e).1 (none_passed rest)

is_ahead : (bytes : List ℕ) → Ahead bytes (choices_ahead bytes)
unfolding choices_ahead
is_ahead bytes =
    if_all (Ahead bytes) _ _ _ (block_ahead bytes)
    (λ _. if_all (Ahead bytes) _ _ _ (choice_ahead bytes) (λ _. none_passed bytes))

-- where none is ahead, the first line is malformed
none_starts : (bytes : List ℕ) → 0 ≡ choices_ahead bytes → starts_choice bytes ≡ false
unfolding choices_ahead when◌then◌else◌
none_starts bytes e = by (starts_block bytes) (starts_choice bytes) refl e
  where
    by : (s t : Bool) → starts_choice bytes ≡ t
        → ◌≡◌ {A = ℕ} 0 (when s then 16 else when t then 1 else 0)
        → starts_choice bytes ≡ false
    by true t p q = absurd (omega arith)
    by false true p q = absurd (omega arith)
    by false false p q = p

none_ahead : (k : ℕ) (bytes : List ℕ) → 0 < length bytes → starts_choice bytes ≡ false
    → choices_from k bytes ≡ malformed k
unfolding choices_from starts_choice
none_ahead k [] h e = absurd (omega arith)
none_ahead k (a ∷ []) h e = refl
none_ahead k (a ∷ b ∷ []) h e = refl
none_ahead k (a ∷ b ∷ c ∷ rest) h e =
    line_wrong a b c k rest
    (sym (ap (λ (t : Bool). t && is_choice a b c) (le-leb 3 (length (a ∷ b ∷ c ∷ rest)) (omega arith)))
    ∙ e)

pub record Judging (bytes : List ℕ) (k : ℕ) : Type 0 where
  pub short : length bytes ≤ 49152
  pub fits : 3 * k ≤ length bytes
  pub rest : count_after k (choices_from k (drop (3 * k) bytes)) ≡ judged bytes

pub judged_over : (bytes : List ℕ) → 49152 < length bytes → Err (refusal LongText 0) ≡ judged bytes
unfolding judged
judged_over bytes h = yes _ (lt-ltb 49152 (length bytes) h) refl

pub judging_start : (bytes : List ℕ) → length bytes ≤ 49152 → Judging bytes 0
unfolding judged
judging_start bytes h =
    record {
      short = h;
      fits = omega arith;
      rest = no _ (le-ltb 49152 (length bytes) h) (count_start (choices_from 0 bytes));
    }

module _ (bytes : List ℕ) (k : ℕ) (j : Judging bytes k) where
  pub judged_all : length bytes ≤ 3 * k → Ok k ≡ judged bytes
  judged_all h =
      ap Ok (omega arith)
      ∙ ap (count_after k) (sym (no_line k) ∙ ap (choices_from k) (sym (drop_of_length-le bytes h)))
      ∙ j.rest

  -- m is what was seen ahead in the part from there on
  module _ (m : ℕ) (seen : m ≡ choices_ahead (take (length bytes - 3 * k) (drop (3 * k) bytes))) where
    ahead : m ≡ choices_ahead (drop (3 * k) bytes)
    ahead = seen ∙ ap choices_ahead (part_all bytes (3 * k))

    found : Ahead (drop (3 * k) bytes) m
    found = rw ahead (is_ahead (drop (3 * k) bytes))

    ahead_fits : 3 * (k + m) ≤ length bytes
    ahead_fits =
        let t = found.there in
        let l = length-drop (3 * k) bytes in
        let f = j.fits in
        omega arith

    pub judging_more : Judging bytes (k + m)
    judging_more = record {
      short = j.short;
      fits = ahead_fits;
      rest =
          ap (λ (r : List ℕ). count_after (k + m) (choices_from (k + m) r))
          (ap (λ (i : ℕ). drop i bytes) (omega arith) ∙ sym (drop-drop (3 * m) (3 * k) bytes))
          ∙ sym (found.pass k)
          ∙ j.rest;
    }

    pub count_fits : k + m < 2 ^ 64
    count_fits = let f = ahead_fits in let s = j.short in omega arith

    pub less_left : (m ≡ 0 → ⊥) → 3 * k < length bytes
        → length bytes - 3 * (k + m) < length bytes - 3 * k
    less_left z h = omega arith

    pub judged_none : m ≡ 0 → 3 * k < length bytes → Err (refusal MalformedText k) ≡ judged bytes
    judged_none z h =
        ap (count_after k)
        (sym (none_ahead k (drop (3 * k) bytes) (rw length-drop (omega arith)) none))
        ∙ j.rest
      where
        none : starts_choice (drop (3 * k) bytes) ≡ false
        none = none_starts (drop (3 * k) bytes) (sym z ∙ ahead)

-- ---- one choice
pub no_choice : (bytes : List ℕ) (k : ℕ) → length bytes / 3 ≤ k → 0 ≡ choice_at bytes k
unfolding choice_at
no_choice bytes k h = no _ (le-ltb k (length bytes / 3) h) refl

pub some_choice : (bytes : List ℕ) (k a b c d : ℕ) → a ≡ digit (get_or bytes (3 * k) 0)
    → b ≡ digit (get_or bytes (3 * k + 1) 0) → c ≡ a → d ≡ b → k < length bytes / 3
    → (16 * c + d) % 256 ≡ choice_at bytes k
unfolding choice_at
some_choice bytes k a b c d p q r s h =
    yes 0 (lt-ltb k (length bytes / 3) h) (rw (r, s, p, q))

pub ruleset choice_laws = (no_choice, some_choice)
