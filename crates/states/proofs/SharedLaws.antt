-- The shared cells' first contents as the code writes them, frame by frame; the cells after the
-- 256th are counted and have no word. Assumes nothing.
use Prim.Native.Nat.{ℕ, zero, suc, ◌+◌, ◌-◌, ◌<◌, ◌≤◌}
use mathlib.Core.Path.{◌≡◌, refl, sym, ap, ◌∙◌}
use mathlib.Core.List.{List, [], ◌∷◌, map}
use mathlib.Core.Bool.{Bool, true, false}
use native.Mathlib.Omega.{arith}
use lib.ListN.{get_or, length, set, drop, length-drop}
use lib.Seq.{drop-drop, get_or-drop}
use lib.Dec.{leb}
use borrow.Author.Tests.{le-leb, lt-leb, leb-true}
use Rattle.basics.specs.If.{when◌then◌else◌}
use Rattle.basics.proofs.Ifs.{if_yes, if_no}
use Rattle.language.specs.Limits.{most_cells}
use Rattle.language.specs.declared.frame.Frame.{Frame}
use Rattle.text.specs.Frames.{frame_of_word, frames_of}
use Rattle.program.specs.Programs.{SharedCell, shared_of, cell_of}
use Rattle.program.proofs.SharedLaws.{next_from, Next, found_next, next_cell, next_end}
use Rattle.machine.specs.Fresh.{first_cell}
use Rattle.machine.specs.State.{Stored, no_cell}
use Rattle.machine.specs.Offsets.{state_length, cells_at}
use Rattle.machine.specs.Words.{cell_word}
use Rattle.machine.specs.Inner.Blocks.{pasted, cell_words}
use Rattle.machine.proofs.WordLaws.{pasted_zero, pasted_more}
use Rattle.machine.proofs.Blocks.{cells_length, cells_at_lem}
use Rattle.states.specs.Inner.Starts.{with_shared}

-- ---- the loop
-- the shared cells of a text's lines, as declared and as they are at first
abbrev pub shared_in : List ℕ → List SharedCell
shared_in words = shared_of (frames_of words)

abbrev pub cells_in : List ℕ → List Stored
cells_in words = map first_cell (shared_in words)

-- how many of c cells have their word: 256 are the space
unfoldable pub up_to : ℕ → ℕ
up_to c = when leb c most_cells then c else most_cells

-- from the words w: c shared cells were found before frame `from`, frame i declares the next, and v
-- is written
pub record Sharing (words w v : List ℕ) (i c : ℕ) : Type 0 where
  pub from : ℕ
  pub next : Next words from i
  pub rest : drop c (shared_in words) ≡ shared_of (drop from (frames_of words))
  pub below : c ≤ length (shared_in words)
  pub few : c ≤ from
  pub written : v ≡ pasted w cells_at (cell_words (cells_in words)) (up_to c)

pub sharing_start : (words w : List ℕ) (i : ℕ) → i ≡ next_from words 0 → Sharing words w w i 0
unfolding up_to
sharing_start words w i e =
    record {
      from = 0;
      next = found_next words 0 i e;
      rest = refl;
      below = omega arith;
      few = omega arith;
      written =
          pasted_zero w cells_at _
          ∙ ap (pasted w cells_at (cell_words (cells_in words))) (sym (if_yes _ _ (le-leb 0 most_cells (omega arith))));
    }

module _ (words w v : List ℕ) (i c : ℕ) (s : Sharing words w v i c) where
  -- no more cells than frames passed
  pub sharing_few : c ≤ i
  sharing_few = let a = s.few in let b = s.next.onward in omega arith

  -- the search goes on after i
  pub sharing_falls : (r : ℕ) → r ≡ next_from words (i + 1) → i < length words
      → length words - r < length words - i
  sharing_falls r e l = let a = (found_next words (i + 1) r e).onward in omega arith

  module _ (l : i < length words) where
    abbrev f : Frame
    f = frame_of_word (get_or words i 0)

    -- frame i declares the next cell
    one_cell : drop c (shared_in words) ≡ cell_of f ∷ shared_of (drop (i + 1) (frames_of words))
    one_cell = s.rest ∙ next_cell words s.from i s.next l

    one_cell_rest : drop (c + 1) (shared_in words) ≡ shared_of (drop (i + 1) (frames_of words))
    one_cell_rest = sym (drop-drop 1 c (shared_in words)) ∙ ap (drop 1) one_cell

    one_cell_below : c + 1 ≤ length (shared_in words)
    one_cell_below = counted (length-drop c (shared_in words)) (ap length one_cell)
      where
        counted : {a b n : ℕ} → a ≡ b - c → a ≡ suc n → c + 1 ≤ b
        counted x y = omega arith

    one_cell_at : get_or (shared_in words) c (cell_of f) ≡ cell_of f
    one_cell_at =
        let z : c ≡ c + 0 = omega arith in
        ap (λ (n : ℕ). get_or (shared_in words) n (cell_of f)) z
        ∙ sym (get_or-drop c (shared_in words) 0 (cell_of f))
        ∙ ap (λ (cs : List SharedCell). get_or cs 0 (cell_of f)) one_cell

    one_cell_few : c + 1 ≤ i + 1
    one_cell_few = let a = sharing_few in omega arith

    pub sharing_over : (r : ℕ) → most_cells ≤ c → r ≡ next_from words (i + 1)
        → Sharing words w v r (c + 1)
    unfolding up_to
    sharing_over r g e =
        record {
          from = i + 1;
          next = found_next words (i + 1) r e;
          rest = one_cell_rest;
          below = one_cell_below;
          few = one_cell_few;
          written =
              s.written
              ∙ ap (pasted w cells_at (cell_words (cells_in words)))
              (same (leb c most_cells) refl ∙ sym (if_no _ _ (lt-leb (c + 1) most_cells (omega arith))));
        }
      where
        same : (b : Bool) → leb c most_cells ≡ b
            → (when leb c most_cells then c else most_cells) ≡ most_cells
        same true z = let m = leb-true c most_cells z in if_yes _ _ z ∙ (omega arith)
        same false z = if_no _ _ z

    pub sharing_one : (g : Frame) (x r : ℕ) → g ≡ frame_of_word (get_or words i 0)
        → length w ≡ state_length
        → c < most_cells → x ≡ cell_word (first_cell (cell_of g)) → r ≡ next_from words (i + 1)
        → Sharing words w (set v (cells_at + c) x) r (c + 1)
    unfolding up_to
    sharing_one g x r q k m z e =
        record {
          from = i + 1;
          next = found_next words (i + 1) r e;
          rest = one_cell_rest;
          below = one_cell_below;
          few = one_cell_few;
          written =
              pasted_more w (cell_words (cells_in words)) v cells_at c x
              (s.written
              ∙ ap (pasted w cells_at (cell_words (cells_in words))) (if_yes _ _ (le-leb c most_cells (omega arith))))
              word (rw k (omega arith)) (rw (cells_length (cells_in words)) m)
              ∙ ap (pasted w cells_at (cell_words (cells_in words)))
              (sym (if_yes _ _ (le-leb (c + 1) most_cells (omega arith))));
        }
      where
        inside : (xs : List SharedCell) (n : ℕ) (d : SharedCell) → n < length xs
            → get_or (map first_cell xs) n no_cell ≡ first_cell (get_or xs n d)
        inside [] n d m = absurd (omega arith)
        inside (y ∷ ys) zero d m = refl
        inside (y ∷ ys) (suc n) d m = inside ys n d (omega arith)

        word : x ≡ get_or (cell_words (cells_in words)) c 0
        word =
            z ∙ ap (λ (h : Frame). cell_word (first_cell (cell_of h))) q
            ∙ ap (λ (y : SharedCell). cell_word (first_cell y)) (sym one_cell_at)
            ∙ ap cell_word
            (sym (inside (shared_in words) c (cell_of f) (let b = one_cell_below in omega arith)))
            ∙ sym (cells_at_lem (cells_in words) c m)

module _ (words w v : List ℕ) (i c : ℕ) (s : Sharing words w v i c) (l : length words ≤ i) where
  pub sharing_count : c ≡ length (shared_in words)
  sharing_count =
      all (length-drop c (shared_in words))
      (ap length (s.rest ∙ next_end words s.from i s.next l)) s.below
    where
      all : {a n : ℕ} → a ≡ n - c → a ≡ 0 → c ≤ n → c ≡ n
      all x y z = omega arith

  pub sharing_words : v ≡ with_shared w (shared_in words)
  unfolding with_shared up_to
  sharing_words =
      s.written
      ∙ ap (λ (n : ℕ). pasted w cells_at (cell_words (cells_in words)) (when leb n most_cells then n else most_cells))
      sharing_count
