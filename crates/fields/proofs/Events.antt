-- Lines that declare events, counted. Assumes nothing.
use mathlib.Core.Path.{◌≡◌, refl, sym, ap, ◌∙◌}
use mathlib.Core.Bool.{Bool, true, false}
use mathlib.Core.List.{List}
use Prim.Native.Nat.{ℕ, ◌+◌, ◌<◌, ◌≤◌}
use native.Mathlib.Omega.{arith}
use lib.ListN.{length, get_or, drop}
use Rattle.basics.specs.If.{when◌then◌else◌}
use Rattle.basics.proofs.Ifs.{if_yes, if_no}
use Rattle.language.specs.Kinds.{is_event}
use Rattle.text.specs.Frames.{frame_of_word, frames_of}
use Rattle.text.proofs.FrameWords.{next_frame, frames_end}
use Rattle.fields.specs.Fields.{count_of}

-- ---- n events were found before line i, and those still to come make it all
pub record CountingEvents (ws : List ℕ) (i n : ℕ) : Type 0 where
  pub all : n + count_of is_event (drop i (frames_of ws)) ≡ count_of is_event (frames_of ws)

pub count_start : (ws : List ℕ) → CountingEvents ws 0 0
count_start ws = record { all = omega arith }

module _ (ws : List ℕ) (i n : ℕ) (b : Bool) (c : CountingEvents ws i n) (l : i < length ws)
    (e : b ≡ is_event (frame_of_word (get_or ws i 0)).kind) where
  abbrev left : ℕ
  left = count_of is_event (drop (i + 1) (frames_of ws))

  first : count_of is_event (drop i (frames_of ws)) ≡ (when b then 1 else 0) + left
  unfolding count_of
  first =
      ap (count_of is_event) (next_frame ws i (frame_of_word (get_or ws i 0)) l refl)
      ∙ ap (λ (x : Bool). (when x then 1 else 0) + left) (sym e)

  pub count_event : b ≡ true → CountingEvents ws (i + 1) (n + 1)
  count_event t =
      record {
        all =
            let a = c.all in
            let d = first ∙ ap (λ (x : ℕ). x + left) (if_yes 1 0 t) in
            omega arith;
      }

  pub count_other : b ≡ false → CountingEvents ws (i + 1) n
  count_other t =
      record {
        all =
            let a = c.all in
            let d = first ∙ ap (λ (x : ℕ). x + left) (if_no 1 0 t) in
            omega arith;
      }

pub count_end : (ws : List ℕ) (i n : ℕ) → CountingEvents ws i n → length ws ≤ i
    → n ≡ count_of is_event (frames_of ws)
unfolding count_of
count_end ws i n c l =
    let a = c.all in
    let b = ap (count_of is_event) (frames_end ws i l) in
    omega arith
