-- Laws of the loop of `read_into`, which reads a text's lines one after the other: where the scan
-- for the first wrong byte is, what the lent words hold, and what each return of the function
-- gives. Assumes nothing.
use Rattle.std.specs.Prelude.{Option, Some, None}
use Rattle.std.specs.Int.{div_ceil}
use Rattle.std.proofs.Common.{◌≡◌, ℕ, zero, suc, ◌+◌, ◌-◌, ◌*◌, ◌/◌, ◌%◌, ◌<◌, ◌≤◌, Bool, true, false, List, [], ◌∷◌, ◌++◌, length, take, drop, set, replicate, sym, refl, ap, ◌∙◌, append_assoc, add-one, arith, length-append, length-drop, drop_of_length-le, take_all, drop-drop, le-ltb, lt-ltb}
use mathlib.Core.Option.{none, some}
use lib.ListN.{length-map, length-replicate}
use lib.Seq.{set_at}
use Rattle.language.specs.declared.refusal.Rule.TheVariants.{EmptyText, LongText, MalformedText}
use Rattle.text.specs.Frames.{line_word, frame_of_word, words_of, text_frames}
use Rattle.text.specs.Inner.Reading.{first_wrong, read_lines, reading, lines_read, word_array}
use Rattle.text.specs.Inner.Reading.{text_read, TextWords, read_as, text_words}
use Rattle.text.specs.Reading.{Reading, frames, refused}
use Rattle.text.specs.Inner.Lines.{line_read}
use Rattle.text.specs.Inner.Reads.{Frames, Refused}
use Rattle.text.proofs.LineScan.{scan_whole, line_wrong, line_word_lem}

-- ---- the reading, by the text's length and by the scan
reading_lines : (bs : List ℕ) → 0 < length bs → length bs ≤ 17408
    → reading bs ≡ read_lines bs (first_wrong 0 bs)
unfolding reading
reading_lines [] a h = absurd (omega arith)
reading_lines (b ∷ bs) a h = ap (λ (t : Bool). elim t [ true ↦ refused LongText 0 | false ↦ read_lines (b ∷ bs) (first_wrong 0 (b ∷ bs)) ]) (le-ltb 17408 (length (b ∷ bs)) h)

read_empty : (bs : List ℕ) → length bs ≡ 0 → reading bs ≡ refused EmptyText 0
unfolding reading
read_empty [] h = refl
read_empty (b ∷ bs) h = absurd (omega arith)

read_over : (bs : List ℕ) → 17408 < length bs → reading bs ≡ refused LongText 0
unfolding reading
read_over [] h = absurd (omega arith)
read_over (b ∷ bs) h = ap (λ (t : Bool). elim t [ true ↦ refused LongText 0 | false ↦ read_lines (b ∷ bs) (first_wrong 0 (b ∷ bs)) ]) (lt-ltb 17408 (length (b ∷ bs)) h)

-- ---- lengths
pub length_words : (n : ℕ) (bs : List ℕ) → length (words_of n bs) ≡ n
unfolding words_of
length_words zero bs = refl
length_words (suc n) bs = ap suc (length_words n (drop 17 bs))

pub length_frames : (bs : List ℕ) → length (text_frames bs) ≡ length bs / 17
unfolding text_frames
length_frames bs =
    length-map (words_of (length bs / 17) bs) frame_of_word ∙ length_words (length bs / 17) bs

-- ---- a part of a slice that goes to its end, as the code has it
pub part_all : (bs : List ℕ) (at : ℕ) → take (length bs - at) (drop at bs) ≡ drop at bs
part_all bs at = take_all (length bs - at) (drop at bs) (rw length-drop (omega arith))

-- l is the line that is read in the part from `at` on
abbrev pub LineAt : List ℕ → ℕ → Option ℕ → Type 0
LineAt bs at l = l ≡ line_read (take (length bs - at) (drop at bs))

pub line_at : (bs : List ℕ) (at : ℕ) (l : Option ℕ) → LineAt bs at l → l ≡ line_read (drop at bs)
line_at bs at l e = e ∙ ap line_read (part_all bs at)

-- ---- the loop over lines: i of them are read, as far as `at`, and from there the scan goes on as
-- from the start
pub record Scanning (bs : List ℕ) (i at : ℕ) : Type 0 where
  pub lines : at ≡ i * 17
  pub fits : at ≤ length bs
  pub rest : first_wrong at (drop at bs) ≡ first_wrong 0 bs

pub scanning_start : (bs : List ℕ) → Scanning bs 0 0
scanning_start bs = record { lines = refl; fits = omega arith; rest = refl }

module _ (bs : List ℕ) (i at : ℕ) (s : Scanning bs i at) where
  whole_lines : at % 17 ≡ 0
  whole_lines = let e = s.lines in omega arith

  -- the line that begins at `at`, by the scan
  module _ (h : at < length bs) where
    some_left : 0 < length (drop at bs)
    some_left = rw length-drop (omega arith)

    pub here_wrong : None ≡ line_read (drop at bs)
        → (j : ℕ) × (j ≤ 16) × (first_wrong 0 bs ≡ some (at + j))
    here_wrong e =
        let r = line_wrong (drop at bs) at whole_lines some_left e in
        (r.0, r.1, sym s.rest ∙ r.2)

    pub here_word : (w : ℕ) → Some w ≡ line_read (drop at bs) → w ≡ line_word (drop at bs)
    here_word w e = (line_word_lem (drop at bs) at whole_lines some_left w e).2

    pub scanning_more : (w : ℕ) → Some w ≡ line_read (drop at bs) → Scanning bs (suc i) (at + 17)
    scanning_more w e =
        let r = line_word_lem (drop at bs) at whole_lines some_left w e in
        let q = s.lines in
        record {
          lines = omega arith;
          fits = omega (arith, simp length-drop at r.0);
          rest = ap (first_wrong (at + 17)) (sym (drop-drop 17 at bs)) ∙ sym r.1 ∙ s.rest;
        }

    read_wrong : None ≡ line_read (drop at bs) → length bs ≤ 17408 → reading bs ≡ refused MalformedText i
    read_wrong e m =
        let r = here_wrong e in
        let q = s.lines in
        let k : (at + r.0) / 17 ≡ i = omega (arith, r.1) in
        reading_lines bs (omega arith) m ∙ ap (read_lines bs) r.2 ∙ ap (refused MalformedText) k

  read_whole : length bs ≤ at → (length bs ≡ 0 → ⊥) → length bs ≤ 17408
      → reading bs ≡ frames (text_frames bs)
  read_whole h n m =
      let k : first_wrong 0 bs ≡ none = sym s.rest ∙ ap (first_wrong at) (drop_of_length-le bs h) ∙ scan_whole at whole_lines in
      reading_lines bs (omega (arith, n)) m ∙ ap (read_lines bs) k

-- ---- the lines that were read, in their array

-- line i after the first is line i + 1
pub line_after : (i : ℕ) (bs : List ℕ) → drop (i * 17) (drop 17 bs) ≡ drop (suc i * 17) bs
line_after i bs =
    let e : 17 + i * 17 ≡ suc i * 17 = omega arith in
    drop-drop (i * 17) 17 bs ∙ ap (λ (k : ℕ). drop k bs) e

words_more : (i : ℕ) (bs : List ℕ)
    → words_of (suc i) bs ≡ words_of i bs ++ (line_word (drop (i * 17) bs) ∷ [])
unfolding words_of
words_more zero bs = refl
words_more (suc i) bs = ap (λ (ws : List ℕ). line_word bs ∷ ws) (words_more i (drop 17 bs) ∙ ap (λ (cs : List ℕ). words_of i (drop 17 bs) ++ (line_word cs ∷ [])) (line_after i bs))

pub zeros_length : (words : List ℕ) → words ≡ replicate 1024 0 → length words ≡ 1024
zeros_length words e = ap length e ∙ length-replicate {A = ℕ} 1024 0

array_start : (bs : List ℕ) → replicate 1024 0 ≡ word_array 0 bs
unfolding word_array words_of
array_start bs = refl

pub array_length : (i : ℕ) (bs : List ℕ) → i ≤ 1024 → length (word_array i bs) ≡ 1024
unfolding word_array
array_length i bs h = simp (length-append, length_words, length-replicate) (omega arith)

array_more : (i : ℕ) (bs : List ℕ) → i < 1024
    → set (word_array i bs) i (line_word (drop (i * 17) bs)) ≡ word_array (suc i) bs
unfolding word_array
array_more i bs h =
    let e : 1024 - i ≡ suc (1024 - suc i) = omega arith in
    ap (λ (n : ℕ). set (words_of i bs ++ replicate n 0) i (line_word (drop (i * 17) bs))) e
    ∙ set_at (words_of i bs) 0 (replicate (1024 - suc i) 0) (line_word (drop (i * 17) bs)) i
    (length_words i bs)
    ∙ sym
    (append_assoc (words_of i bs) (line_word (drop (i * 17) bs) ∷ []) (replicate (1024 - suc i) 0))
    ∙ ap (λ (ws : List ℕ). ws ++ replicate (1024 - suc i) 0) (sym (words_more i bs))

-- ---- the reader's loop: where the scan is before line i, and what the lent words hold
pub record Reader (bs words : List ℕ) (i : ℕ) : Type 0 where
  pub scan : Scanning bs i (i * 17)
  pub kept : words ≡ word_array i bs

pub reader_start : (bs words : List ℕ) → words ≡ replicate 1024 0 → Reader bs words 0
reader_start bs words e = record { scan = scanning_start bs; kept = e ∙ array_start bs }

-- what the reading is gives the answer
by_reading : (bs words : List ℕ) (r : Reading) → reading bs ≡ r → words ≡ word_array (lines_read r) bs
    → read_as (text_read r) words ≡ text_words bs
unfolding text_words
by_reading bs words r e k =
    ap (read_as (text_read r)) k
    ∙ ap (λ (s : Reading). read_as (text_read s) (word_array (lines_read s) bs)) (sym e)

pub words_empty : (bs words : List ℕ) → words ≡ replicate 1024 0 → length bs ≡ 0
    → read_as (Refused EmptyText 0) words ≡ text_words bs
words_empty bs words k h = by_reading bs words (refused EmptyText 0) (read_empty bs h) (k ∙ array_start bs)

pub words_over : (bs words : List ℕ) → words ≡ replicate 1024 0 → 17408 < length bs
    → read_as (Refused LongText 0) words ≡ text_words bs
words_over bs words k h = by_reading bs words (refused LongText 0) (read_over bs h) (k ∙ array_start bs)

-- in the loop, over m lines of which the last may be short: a line more; and the answers
module _ (bs words : List ℕ) (i m : ℕ) (e : m ≡ div_ceil (length bs) 17) (d : Reader bs words i)
    (most : length bs ≤ 17408) where
  module _ (h : i < m) (l : Option ℕ) (r : LineAt bs (i * 17) l) where
    inside : i * 17 < length bs
    inside = omega arith

    pub reader_more : (w : ℕ) → l ≡ Some w → Reader bs (set words i w) (i + 1)
    reader_more w f =
        let q : Some w ≡ line_read (drop (i * 17) bs) = sym f ∙ line_at bs (i * 17) l r in
        let n : suc i * 17 ≡ i * 17 + 17 = omega arith in
        rw add-one (record {
          scan = rw n (scanning_more bs i (i * 17) d.scan inside w q);
          kept =
              ap (λ (ws : List ℕ). set ws i w) d.kept
              ∙ ap (set (word_array i bs) i) (here_word bs i (i * 17) d.scan inside w q)
              ∙ array_more i bs (let k = inside in omega arith);
        })

    pub words_wrong : l ≡ None → read_as (Refused MalformedText i) words ≡ text_words bs
    words_wrong f =
        let z = read_wrong bs i (i * 17) d.scan inside (sym f ∙ line_at bs (i * 17) l r) most in
        by_reading bs words (refused MalformedText i) z d.kept

  pub words_whole : m ≤ i → (length bs ≡ 0 → ⊥) → read_as (Frames m) words ≡ text_words bs
  words_whole h n =
      let z = d.scan.fits in
      let k : length (text_frames bs) ≡ m = length_frames bs ∙ omega arith in
      let j : i ≡ m = omega arith in
      ap (λ (k : ℕ). read_as (Frames k) words) (sym k) ∙ by_reading bs words (frames (text_frames bs)) (read_whole bs i (i * 17) d.scan (omega arith) n most) (d.kept ∙ ap (λ (k : ℕ). word_array k bs) (j ∙ sym k))

pub ruleset words_laws = (words_empty, words_over, words_wrong, words_whole)

pub read_field : (bs : List ℕ) (t : TextWords) → t ≡ text_words bs → t.read ≡ text_read (reading bs)
unfolding text_words
read_field bs t e = ap (λ (x : TextWords). x.read) e
