-- Laws of the range tests of words, one for each return of the code; for lists and blocks of words
-- see BlockLaws. Assumes nothing.
use Prim.Native.Nat.{ℕ, ◌+◌, ◌-◌, ◌/◌, ◌%◌, ◌<◌, ◌≤◌}
use mathlib.Core.Path.{◌≡◌, refl, sym, ap, ◌∙◌}
use mathlib.Core.List.{List, [], ◌∷◌}
use mathlib.Core.Bool.{Bool, true, false, ◌&&◌}
use native.Mathlib.Omega.{arith}
use lib.Bits.{bit_and, bit_or, or_add_and, and_le_l, and_le_r}
use lib.ListN.{get_or, length, get_or-eq_default}
use lib.Dec.{ltb, leb, eqb}
use borrow.Author.Tests.{lt-ltb, le-ltb, eq-eqb, eqb-true}
use Rattle.basics.proofs.Ifs.{yes, no, if_all, and_true, and_both}
use Rattle.language.specs.Places.{has_place}
use Rattle.language.specs.declared.frame.Frame.{Frame}
use Rattle.text.specs.Frames.{frame_of_word, frames_of}
use Rattle.text.proofs.FrameWords.{frames_length, frame_at_lem}
use Rattle.program.specs.Trees.{frame_at, no_frame}
use Rattle.machine.specs.Inner.Ranges.{thread_in_range, value_in_range, item_in_range, entry_in_range}
use Rattle.machine.specs.Inner.Ranges.{all_below}
use Rattle.machine.specs.Shapes.{is_statement}
use Rattle.ranges.specs.Inner.Passes.{is_zero, word_passes, event_in_range}
use Rattle.machine.proofs.AllBelow.{same_test}
use Rattle.machine.proofs.Alls.{list_all-words}
use Rattle.std.specs.Prelude.{fold, take, drop}
use Rattle.std.specs.List.{list_all}

-- ---- values
pub value_number : (w : ℕ) → w < 0x0001_0000_0000 → true ≡ value_in_range w
unfolding value_in_range
value_number w h = yes _ (lt-ltb _ _ h) refl

pub value_truth : (w : ℕ) → 0x0001_0000_0000 ≤ w → w < 0x0002_0000_0000
    → leb w 0x0001_0000_0001 ≡ value_in_range w
unfolding value_in_range
value_truth w a h = no _ (le-ltb _ _ a) (yes _ (lt-ltb _ _ h) refl)

pub value_cell : (w : ℕ) → 0x0001_0000_0000 ≤ w → 0x0002_0000_0000 ≤ w
    → leb w 0x0002_0000_00FF ≡ value_in_range w
unfolding value_in_range
value_cell w a h = no _ (le-ltb _ _ a) (no _ (le-ltb _ _ h) refl)

pub ruleset value_laws = (value_number, value_truth, value_cell)

-- ---- items
pub item_statement : (fs : List Frame) (n w : ℕ) (r : Bool) → w < 1024
    → r ≡ is_statement (frame_at fs w).kind → r ≡ item_in_range fs n w
unfolding item_in_range
item_statement fs n w r h e = yes _ (lt-ltb _ _ h) e

pub item_back : (fs : List Frame) (n w : ℕ) (r : Bool) → 1024 ≤ w → w < 2048
    → r ≡ has_place n (w - 1024) → r ≡ item_in_range fs n w
unfolding item_in_range
item_back fs n w r a h e = no _ (le-ltb _ _ a) (yes _ (lt-ltb _ _ h) e)

pub item_drop : (fs : List Frame) (n w : ℕ) → 1024 ≤ w → 2048 ≤ w → eqb w 2048 ≡ item_in_range fs n w
unfolding item_in_range
item_drop fs n w a h = no _ (le-ltb _ _ a) (no _ (le-ltb _ _ h) refl)

pub ruleset item_laws = (item_statement, item_back, item_drop)

-- ---- the header's count of events
pub no_header : (words : List ℕ) → length words ≡ 0 → 0 ≡ (frame_at (frames_of words) 0).c
no_header words h =
    ap (λ (f : Frame). f.c)
    (sym (get_or-eq_default (frames_of words) no_frame {n = 0}
    (rw (frames_length words, h) (omega arith))))

pub header_count : (words : List ℕ) (f : Frame) → (length words ≡ 0 → ⊥)
    → f ≡ frame_of_word (get_or words 0 0) → f.c ≡ (frame_at (frames_of words) 0).c
header_count words f h e =
    ap (λ (g : Frame). g.c) (e ∙ sym (frame_at_lem words 0 no_frame (omega (arith, h))))

pub ruleset header_laws = (no_header, header_count)

-- ---- entries, owners, cells
pub entry_plain : (m w : ℕ) (r : Bool) → w < 128 → r ≡ thread_in_range w → r ≡ entry_in_range m w
unfolding entry_in_range
entry_plain m w r h e = yes _ (lt-ltb _ _ h) e

pub entry_wrong : (m w : ℕ) (t : Bool) → 128 ≤ w → t ≡ thread_in_range (w % 128) → t ≡ false
    → false ≡ entry_in_range m w
unfolding entry_in_range
entry_wrong m w t h e f = no _ (le-ltb _ _ h) (if_all (λ (b : Bool). false ≡ b) (ltb w 16384) _ _
    (λ q. rw (sym e ∙ f)) (λ q. rw (sym e ∙ f)))

pub entry_waiting : (m w : ℕ) (t r : Bool) → 128 ≤ w → t ≡ thread_in_range (w % 128) → t ≡ true
    → w < 16384 → r ≡ thread_in_range (w / 128) → r ≡ entry_in_range m w
unfolding entry_in_range
entry_waiting m w t r h e f l g =
    no _ (le-ltb _ _ h) (yes _ (lt-ltb _ _ l) (rw (sym e ∙ f) g))

pub entry_awaiting : (m w : ℕ) (t : Bool) → 128 ≤ w → t ≡ thread_in_range (w % 128) → t ≡ true
    → 16384 ≤ w → ltb ((w - 16384) / 128) m ≡ entry_in_range m w
unfolding entry_in_range
entry_awaiting m w t h e f l =
    no _ (le-ltb _ _ h) (no _ (le-ltb _ _ l) (rw (sym e ∙ f)))

pub ruleset entry_laws = (entry_plain, entry_wrong, entry_waiting, entry_awaiting)

-- ---- events
pub event_there : (m e v : ℕ) → e < m → leb v 1 ≡ event_in_range m e v
unfolding event_in_range
event_there m e v h = yes _ (lt-ltb e m h) refl

pub event_none : (m e v : ℕ) → m ≤ e → eqb v 0 ≡ event_in_range m e v
unfolding event_in_range
event_none m e v h = no _ (le-ltb e m h) refl

pub ruleset event_laws = (event_there, event_none)

-- ---- a loop over words
-- a | b is 0 exactly where both are
or_none : (a b : ℕ) → eqb (bit_or a b) 0 ≡ eqb b 0 && eqb a 0
or_none a b = same_test _ _
    (λ e. let z = eqb-true (bit_or a b) 0 e in
    and_both (eqb b 0) (eqb a 0)
    (eq-eqb b 0 (right (bit_or a b) (bit_and a b) (or_add_and a b) (and_le_l a b) z))
    (eq-eqb a 0 (left (bit_or a b) (bit_and a b) (or_add_and a b) (and_le_r a b) z)))
    (λ e. eq-eqb (bit_or a b) 0 (both (bit_or a b) (bit_and a b) (or_add_and a b)
    (eqb-true a 0 (and_true (eqb b 0) (eqb a 0) e).1)
    (eqb-true b 0 (and_true (eqb b 0) (eqb a 0) e).0)))
  where
    left : (o n : ℕ) → o + n ≡ a + b → n ≤ b → o ≡ 0 → a ≡ 0
    left o n s l z = omega arith

    right : (o n : ℕ) → o + n ≡ a + b → n ≤ a → o ≡ 0 → b ≡ 0
    right o n s l z = omega arith

    both : (o n : ℕ) → o + n ≡ a + b → a ≡ 0 → b ≡ 0 → o ≡ 0
    both o n s x y = omega arith

-- ---- what `all` and `fold` answer
pub list_all-part : (test : ℕ → Bool) (w : List ℕ) (at count n : ℕ) → n ≡ count
    → at + count ≤ length w
    → list_all test (take n (drop at w)) ≡ all_below count (word_passes test w at)
unfolding word_passes
list_all-part test w at count n e h = list_all-words test w at count n e h

-- the bits put together: none is set exactly where all words are 0
pub fold-or : (b : ℕ) (xs : List ℕ) → eqb (fold bit_or b xs) 0 ≡ eqb b 0 && list_all is_zero xs
unfolding is_zero
fold-or b [] = grind arith
fold-or b (x ∷ xs) = grind (arith, or_none b x, fold-or (bit_or b x) xs)
