-- What the layout check answers on a text, from what its passes find. Assumes nothing.
use Rattle.std.specs.Prelude.{Err, Option, None}
use mathlib.Core.Path.{◌≡◌, refl, sym, ap, ap₂, ◌∙◌}
use mathlib.Core.List.{List}
use Prim.Native.Nat.{ℕ, ◌-◌, ◌≤◌, ◌<◌}
use native.Mathlib.Omega.{arith}
use lib.ListN.{length, take, replicate}
use lib.Seq.{take_at}
use Rattle.language.specs.declared.frame.Frame.{Frame}
use Rattle.text.specs.Frames.{words_of, frames_of, text_frames}
use Rattle.text.specs.Reading.{Reading, frames, refused, Reads}
use Rattle.text.specs.Inner.Reading.{reading, text_read, lines_read, word_array, TextWords, read_as}
use Rattle.text.specs.Inner.Reading.{text_words}
use Rattle.language.proofs.VerdictLaws.{rule_in, frame_in}
use Rattle.text.specs.Inner.Reads.{TextRead}
use Rattle.text.specs.Inner.Reads.{Frames}
use Rattle.language.specs.declared.refusal.Refusal.{Refusal}
use Rattle.text.proofs.Readings.{reads, some_frame}
use Rattle.text.proofs.ReadLaws.{length_frames, array_length, read_field, length_words}
use Rattle.language.specs.Verdicts.{Verdict, Accepted}
use Rattle.language.specs.declared.refusal.Rule.TheVariants.{WrongHeader, WrongField}
use Rattle.language.specs.declared.refusal.Rule.TheVariants.{WrongOrder, TooDeep}
use Rattle.fields.specs.Inner.Scans.{header_fault, field_fault, refused_at}
use Rattle.fields.proofs.Finds.{found_none}
use Rattle.layout.specs.Verdicts.{LayoutVerdict}
use Rattle.layout.specs.Verdicts.{LaidOut}
use Rattle.layout.specs.Inner.Laid.{Laid, Lines}
use Rattle.layout.specs.Inner.Scans.{order_fault, depth_fault, layout_of}
use Rattle.layout.specs.Inner.Layouts.{layout_read, layout_verdict, laid_for, verdict_of}
use Rattle.layout.specs.Inner.Layouts.{LaidWords, laid_as, laid_words}

-- ---- 4 to 7: the code stops at the first pass that finds a frame
module _ (fs : List Frame) (x : Option ℕ) (hx : x ≡ header_fault fs) (a : Verdict)
    (ha : a ≡ refused_at WrongHeader x) where
  pub laid_4 : (r : Refusal) → a ≡ Err r → Err r ≡ layout_of fs
  unfolding layout_of
  laid_4 r e = rw (sym (ha ∙ ap (refused_at WrongHeader) hx) ∙ e)

  module _ (na : a ≡ Accepted) (y : Option ℕ) (hy : y ≡ field_fault fs) (b : Verdict)
      (hb : b ≡ refused_at WrongField y) where
    header_none : header_fault fs ≡ None
    header_none = sym hx ∙ found_none WrongHeader x na ha

    pub laid_5 : (r : Refusal) → b ≡ Err r → Err r ≡ layout_of fs
    unfolding layout_of
    laid_5 r e = rw (header_none, sym (hb ∙ ap (refused_at WrongField) hy) ∙ e)

    module _ (nb : b ≡ Accepted) (z : Option ℕ) (hz : z ≡ order_fault fs) (c : Verdict)
        (hc : c ≡ refused_at WrongOrder z) where
      field_none : field_fault fs ≡ None
      field_none = sym hy ∙ found_none WrongField y nb hb

      pub laid_6 : (r : Refusal) → c ≡ Err r → Err r ≡ layout_of fs
      unfolding layout_of
      laid_6 r e = rw (header_none, field_none, sym (hc ∙ ap (refused_at WrongOrder) hz) ∙ e)

      pub laid_7 : c ≡ Accepted → (o : Option ℕ) → o ≡ depth_fault fs → (d : Verdict)
          → d ≡ refused_at TooDeep o → d ≡ layout_of fs
      unfolding layout_of
      laid_7 nc o ho d hd =
          let n : order_fault fs ≡ None = sym hz ∙ found_none WrongOrder z nc hc in
          rw (header_none, field_none, n) (hd ∙ ap (refused_at TooDeep) ho)

-- ---- a text that reads as n frames
pub record Whole (bs : List ℕ) (n : ℕ) : Type 0 where
  pub is : reading bs ≡ frames (text_frames bs)
  pub count : length (text_frames bs) ≡ n
  pub fits : n ≤ 1024
  pub some : 0 < n

frames_of_lem : {bs : List ℕ} {r : Reading} (fs : List Frame) → Reads bs r → r ≡ frames fs
    → (fs ≡ text_frames bs) × (length bs ≤ 17408)
frames_of_lem fs Reads.empty q = absurd (let z : ◌≡◌ {A = ℕ} 0 1 = cc in omega arith)
frames_of_lem fs (Reads.over l) q = absurd (let z : ◌≡◌ {A = ℕ} 0 1 = cc in omega arith)
frames_of_lem fs (Reads.wrong k l w m) q = absurd (let z : ◌≡◌ {A = ℕ} 0 1 = cc in omega arith)
frames_of_lem fs (Reads.whole k l w) q = (cc, l)

pub whole : (bs : List ℕ) (n : ℕ) → text_read (reading bs) ≡ Frames n → Whole bs n
whole bs n e = go (reading bs) refl (reads bs) e
  where
    go : (r : Reading) → reading bs ≡ r → Reads bs r → text_read r ≡ Frames n → Whole bs n
    go (refused m j) q h e = absurd (let z : ◌≡◌ {A = ℕ} 0 1 = cc in omega arith)
    go (frames fs) q h e =
        let w = frames_of_lem fs h refl in
        let a : fs ≡ text_frames bs = w.0 in
        let l : length fs ≡ n = cc in
        let c : length (text_frames bs) ≡ n = ap length (sym a) ∙ l in
        let s = some_frame h refl in
        record { is = q ∙ ap frames a; count = c; fits = (let z = length_frames bs in let y = w.1 in omega arith); some = omega arith }

array_take : (n : ℕ) (bs : List ℕ) → take n (word_array n bs) ≡ words_of n bs
unfolding word_array
array_take n bs = take_at (words_of n bs) (replicate (1024 - n) 0) n (length_words n bs)

-- ---- 1 to 7, with the lines read: t is what the reader answered, ws what the lent words hold
abbrev answer : Reading → List ℕ → LaidWords
answer r ws = laid_as (laid_for (layout_read r) (lines_read r)) ws

module _ (bs : List ℕ) (t : TextRead) (ws : List ℕ) (h : read_as t ws ≡ text_words bs) where
  words_are : ws ≡ word_array (lines_read (reading bs)) bs
  unfolding text_words
  words_are = ap (λ (x : TextWords). x.words) h

  by_reading : (r : Reading) → reading bs ≡ r → answer r ws ≡ laid_words bs
  unfolding laid_words layout_verdict
  by_reading r e =
      ap (λ (s : Reading). answer s ws) (sym e)
      ∙ ap (λ (x : TextWords). answer (reading bs) x.words) h

  pub laid_refused : (a : Refusal) → t ≡ Err a → laid_as (Err a) ws ≡ laid_words bs
  laid_refused a e =
      by_reading (refused a.rule a.frame) (go (reading bs) (sym (read_field bs (read_as t ws) h) ∙ e))
    where
      go : (r : Reading) → text_read r ≡ Err a → r ≡ refused a.rule a.frame
      go (frames fs) q = absurd (let z : ◌≡◌ {A = ℕ} 0 1 = cc in omega arith)
      go (refused m k) q = ap₂ refused (ap rule_in q) (ap frame_in q)

  module _ (n : ℕ) (e : t ≡ Frames n) where
    w : Whole bs n
    w = whole bs n (sym (read_field bs (read_as t ws) h) ∙ e)

    array : ws ≡ word_array n bs
    array =
        words_are ∙ ap (λ (r : Reading). word_array (lines_read r) bs) w.is
        ∙ ap (λ (k : ℕ). word_array k bs) w.count

    pub lines_fit : n ≤ length ws
    lines_fit =
        let a : length ws ≡ 1024 = ap length array ∙ array_length n bs w.fits in
        let b = w.fits in
        omega arith

    pub lines_taken : take n ws ≡ words_of n bs
    lines_taken = ap (take n) array ∙ array_take n bs

    pub lines_count : length (take n ws) ≡ n
    lines_count = ap length lines_taken ∙ length_words n bs

    pub lines_some : 0 < length (take n ws)
    lines_some = let a = lines_count in let b = w.some in omega arith

    pub lines_few : length (take n ws) ≤ 1024
    lines_few = let a = lines_count in let b = w.fits in omega arith

    pub frames_are : frames_of (take n ws) ≡ text_frames bs
    unfolding text_frames
    frames_are =
        ap frames_of (lines_taken ∙ ap (λ (k : ℕ). words_of k bs) (sym w.count ∙ length_frames bs))

    module _ (v : LayoutVerdict) (q : v ≡ layout_of (frames_of (take n ws))) where
      laid_whole : laid_as (laid_for v n) ws ≡ laid_words bs
      laid_whole =
          ap (λ (x : LayoutVerdict). laid_as (laid_for x n) ws) (q ∙ ap layout_of frames_are)
          ∙ ap (λ (k : ℕ). laid_as (laid_for (layout_of (text_frames bs)) k) ws) (sym w.count)
          ∙ by_reading (frames (text_frames bs)) w.is

      pub laid_rejected : (a : Refusal) → v ≡ Err a → laid_as (Err a) ws ≡ laid_words bs
      laid_rejected a z = ap (λ (x : LayoutVerdict). laid_as (laid_for x n) ws) (sym z) ∙ laid_whole

      pub laid_lines : v ≡ LaidOut → laid_as (Lines n) ws ≡ laid_words bs
      laid_lines z = ap (λ (x : LayoutVerdict). laid_as (laid_for x n) ws) (sym z) ∙ laid_whole

-- ---- from the answer: l is what `lay_into` answered, ws what the lent words hold
module _ (bs : List ℕ) (l : Laid) (ws : List ℕ) (e : laid_as l ws ≡ laid_words bs) where
  laid_is : l ≡ laid_for (layout_verdict bs) (lines_read (reading bs))
  unfolding laid_words
  laid_is = ap (λ (x : LaidWords). x.laid) e

  pub words_kept : ws ≡ (text_words bs).words
  unfolding laid_words
  words_kept = ap (λ (x : LaidWords). x.words) e

  pub verdict_is : verdict_of l ≡ layout_verdict bs
  verdict_is = ap verdict_of laid_is ∙ back (layout_verdict bs)
    where
      back : (v : LayoutVerdict) → verdict_of (laid_for v (lines_read (reading bs))) ≡ v
      back LaidOut = refl
      back (Err r) = refl

  pub lines_are : (n : ℕ) → l ≡ Lines n → lines_read (reading bs) ≡ n
  lines_are n z = go (layout_verdict bs) (sym laid_is ∙ z)
    where
      go : (v : LayoutVerdict) → laid_for v (lines_read (reading bs)) ≡ Lines n
          → lines_read (reading bs) ≡ n
      go LaidOut q = cc
      go (Err r) q = absurd (let z : ◌≡◌ {A = ℕ} 0 1 = cc in omega arith)
