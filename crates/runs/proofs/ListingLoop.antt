-- The loop of a listing: a line for each choice, one after the other in the buffer. Assumes
-- nothing.
use Prim.Native.Nat.{ℕ, ◌+◌, ◌*◌, ◌^◌, ◌<◌, ◌≤◌}
use mathlib.Core.Path.{◌≡◌, refl, sym, ap, ap₂, ◌∙◌}
use mathlib.Core.List.{List, [], ◌∷◌, ◌++◌, append_assoc, append-nil}
use native.Mathlib.Omega.{arith}
use lib.ListN.{length, get_or, take, drop, length-append}
use lib.Seq.{paste, paste-zero, take-paste, drop-paste, drop-drop, take-length, length-take-le}
use Rattle.basics.specs.Chains.{each_from, last_from}
use Rattle.text.specs.Frames.{frames_of}
use Rattle.program.specs.Programs.{Program, program_of}
use Rattle.machine.specs.State.{State}
use Rattle.machine.specs.Fresh.{fresh}
use Rattle.machine.specs.Turns.{StepResult, access_count}
use Rattle.machine.specs.Steps.{step}
use Rattle.machine.specs.Runs.{steps_from, state_from, steps, state_after}
use Rattle.machine.specs.Words.{pack}
use Rattle.machine.specs.Calls.{CallResult, step_call}
use Rattle.machine.proofs.Blocks.{says_pack}
use Rattle.machine.proofs.CallRuns.{as_called}
use Rattle.machine.proofs.KeptShape.{reached_shaped}
use Rattle.stepper.specs.declared.file.File.{File}
use Rattle.stepper.specs.declared.party.StepAnswer.{StepAnswer}
use Rattle.stepper.specs.Inner.Files.{FileWords, StepWords, file_of, stepped_on, step_number}
use Rattle.stepper.proofs.GoodWords.{fits_words}
use Rattle.listing.specs.Listing.{Choices, choices, malformed, choices_from, choice_line_of}
use Rattle.listing.specs.Listing.{choice_line, choice_lines}
use Rattle.listing.specs.Inner.Choices.{choice_at}
use Rattle.listing.proofs.ChoicesAt.{choices_at}
use Rattle.runs.specs.Listings.{written}
use Rattle.runs.specs.Inner.Parts.{choice_list, choices_of, step_lines}
use Rattle.runs.proofs.RunLoop.{next_choice, state_next, reached_words, reached_call}

-- ---- bytes after bytes
module _ (out : List ℕ) (at : ℕ) where
  pub written_none : out ≡ written out at []
  unfolding written
  written_none = paste-zero out at []

  pub written_put : (line new : List ℕ) → new ≡ paste out at line (length line)
      → new ≡ written out at line
  unfolding written
  written_put line new e = e

  pub written_more : (xs ys : List ℕ) → at ≤ length out
      → written (written out at xs) (at + length xs) ys ≡ written out at (xs ++ ys)
  unfolding written
  written_more xs ys h =
      ap₂ (λ (a b : List ℕ). a ++ take (length ys) ys ++ b)
      (take-paste out at xs (length xs) h (omega arith)) rest
      ∙ ap₂ (λ (a b : List ℕ). take at out ++ a ++ b ++ drop (at + length xs + length ys) out)
      (take-length xs) (take-length ys)
      ∙ ap (λ (a : List ℕ). a ++ drop (at + length xs + length ys) out)
      (append_assoc (take at out) xs ys)
      ∙ ap₂ (λ (a : List ℕ) (i : ℕ). take at out ++ a ++ drop i out)
      (sym (take-length (xs ++ ys))) size
    where
      rest : drop (at + length xs + length ys) (paste out at xs (length xs))
          ≡ drop (at + length xs + length ys) out
      rest =
          sym (drop-drop (length ys) (at + length xs) (paste out at xs (length xs)))
          ∙ ap (drop (length ys)) (drop-paste out at xs (length xs) h (omega arith))
          ∙ drop-drop (length ys) (at + length xs) out

      size : at + length xs + length ys ≡ at + length (xs ++ ys)
      size = let l = length-append xs ys in omega arith

-- ---- the lines
module _ (p : Program) where
  lines_size : (s : State) (cs : List ℕ)
      → length (choice_lines cs (steps_from p s cs)) ≡ 19 * length cs
  unfolding choice_lines choice_line each_from
  lines_size s [] = refl
  lines_size s (c ∷ cs) = let l = lines_size (step p s c).state cs in omega arith

  lines_snoc : (s : State) (xs : List ℕ) (c : ℕ)
      → choice_lines (xs ++ (c ∷ [])) (steps_from p s (xs ++ (c ∷ [])))
      ≡ choice_lines xs (steps_from p s xs) ++ choice_line c (step p (state_from p s xs) c)
  unfolding choice_lines each_from last_from
  lines_snoc s [] c = append-nil (choice_line c (step p s c))
  lines_snoc s (x ∷ xs) c =
      ap (λ (l : List ℕ). choice_line x (step p s x) ++ l) (lines_snoc (step p s x).state xs c)
      ∙ sym (append_assoc (choice_line x (step p s x)) (choice_lines xs (steps_from p (step p s x).state xs)) (choice_line c (step p (state_from p (step p s x).state xs) c)))

  pub step_lines_none : step_lines p [] ≡ []
  unfolding step_lines choice_lines each_from
  step_lines_none = refl

  pub step_lines_size : (cs : List ℕ) → length (step_lines p cs) ≡ 19 * length cs
  unfolding step_lines
  step_lines_size cs = lines_size (fresh p) cs

  step_lines_next : (cs : List ℕ) (k : ℕ) → k < length cs
      → step_lines p (take (k + 1) cs)
      ≡ step_lines p (take k cs) ++ choice_line (get_or cs k 0)
      (step p (state_after p (take k cs)) (get_or cs k 0))
  unfolding step_lines
  step_lines_next cs k h =
      ap (λ (xs : List ℕ). choice_lines xs (steps p xs)) (next_choice cs k h)
      ∙ lines_snoc (fresh p) (take k cs) (get_or cs k 0)

-- ---- choices.txt
pub choice_at_is : (bytes : List ℕ) (k : ℕ) → k < length (choices_of bytes)
    → get_or (choices_of bytes) k 0 ≡ choice_at bytes k
unfolding choices_of
choice_at_is bytes k h = by (choices_from 0 bytes) refl h
  where
    by : (r : Choices) → choices_from 0 bytes ≡ r → k < length (choice_list r)
        → get_or (choice_list r) k 0 ≡ choice_at bytes k
    by (choices cs) q l = choices_at bytes cs q k l
    by (malformed j) q l = absurd (omega arith)

-- ---- the loop: k of n choices are stepped, and their lines are written
pub record Lining (frames bytes : List ℕ) (n : ℕ) (old w before out : List ℕ) (k : ℕ) : Type 0 where
  pub few : k ≤ n
  pub long : length w ≡ length old
  pub wide : length out ≡ length before
  pub words : w ≡ pack (state_after (program_of (frames_of frames)) (take k (choices_of bytes)))
  pub lines : out
      ≡ written before 8 (step_lines (program_of (frames_of frames)) (take k (choices_of bytes)))

pub lining_start : (frames bytes : List ℕ) (n : ℕ) (w out : List ℕ)
    → w ≡ pack (fresh (program_of (frames_of frames))) → Lining frames bytes n w w out out 0
unfolding last_from
lining_start frames bytes n w out q =
    record {
      few = omega arith;
      long = refl;
      wide = refl;
      words = q;
      lines =
          written_none out 8
          ∙ ap (written out 8) (sym (step_lines_none (program_of (frames_of frames))));
    }

module _ (frames : List ℕ) (file : File) (bytes : List ℕ) (n : ℕ) (old w before out : List ℕ) (k : ℕ) (g : FileWords frames) (e : file ≡ file_of (program_of (frames_of frames))) (r : Lining frames bytes n old w before out k) where
  abbrev P : Program
  P = program_of (frames_of frames)

  abbrev cs : List ℕ
  cs = choices_of bytes

  pub lining_asks : StepWords frames file.shared w
  lining_asks = reached_words frames file (take k cs) w g e r.words

  module _ (c : ℕ) (a : c ≡ choice_at bytes k) (m : n ≤ length (choices_of bytes)) (h : k < n) (s : StepAnswer) (v : List ℕ) (z : stepped_on s v ≡ step_call (frames_of frames) w c) where
    abbrev next : StepResult
    next = step P (state_after P (take k cs)) (get_or cs k 0)

    choice_is : c ≡ get_or (choices_of bytes) k 0
    choice_is = a ∙ sym (choice_at_is bytes k (omega arith))

    called : stepped_on s v ≡ as_called next
    called =
        reached_call frames file (take k cs) w g e r.words s v c z
        ∙ ap (λ (i : ℕ). as_called (step P (state_after P (take k cs)) i)) choice_is

    beyond : v ≡ pack (state_after (program_of (frames_of frames)) (take (k + 1) (choices_of bytes)))
    beyond = ap (λ (x : CallResult). x.words) called ∙ ap pack (sym (state_next P cs k (omega arith)))

    cells_in : get_or v 1 0 ≡ length next.state.cells
    cells_in = ap (λ (x : CallResult). get_or x.words 1 0) called ∙ (says_pack next.state).cells

    pub lining_long : length v ≡ 4834
    lining_long = ap (λ (x : CallResult). length x.words) called ∙ (says_pack next.state).all

    pub lining_cells : get_or v 1 0 < 2 ^ 16
    lining_cells =
        let b = (reached_shaped (frames_of frames) P P.schedulers (fits_words frames g) (take (k + 1) cs)).cells_room in
        let q : get_or v 1 0 ≡ length (state_after P (take (k + 1) cs)).cells = ap (λ (x : List ℕ). get_or x 1 0) beyond ∙ (says_pack (state_after P (take (k + 1) cs))).cells in
        omega arith

    module _ (b q : ℕ) (d : c ≡ b) (u : q ≡ step_number s.refusal) (line new : List ℕ) (y : line ≡ choice_line_of b q s.thread (get_or v 1 0) s.accesses) (o : new ≡ paste out (8 + 19 * k) line (length line)) where
      line_is : line ≡ choice_line (get_or cs k 0) next
      unfolding choice_line
      line_is =
          y ∙ ap₂ (λ (i j : ℕ). choice_line_of i j s.thread (get_or v 1 0) s.accesses) (sym d ∙ choice_is) u
          ∙ ap (λ (x : CallResult). choice_line_of (get_or cs k 0) x.answer x.thread (get_or v 1 0) x.accesses) called
          ∙ ap (λ (i : ℕ). choice_line_of (get_or cs k 0) next.answer next.thread i (access_count next)) cells_in

      pub lining_more : length v ≡ length w → length new ≡ length out → 8 + 19 * n ≤ length before
          → Lining frames bytes n old v before new (k + 1)
      lining_more l d room =
          let t : length (take k cs) ≡ k = length-take-le k cs (omega arith) in
          let u = step_lines_size P (take k cs) in
          let i : 8 + 19 * k ≡ 8 + length (step_lines P (take k cs)) = omega arith in
          record {
            few = omega arith;
            long = l ∙ r.long;
            wide = d ∙ r.wide;
            words = beyond;
            lines =
                written_put out (8 + 19 * k) line new o
                ∙ ap₂ (λ (x : List ℕ) (j : ℕ). written x j line) r.lines i
                ∙ ap (written (written before 8 (step_lines P (take k cs))) (8 + length (step_lines P (take k cs)))) line_is
                ∙ written_more before 8 (step_lines P (take k cs)) (choice_line (get_or cs k 0) next)
                (omega arith)
                ∙ ap (written before 8) (sym (step_lines_next P cs k (omega arith)));
          }

module _ (frames bytes : List ℕ) (n : ℕ) (old w before out : List ℕ) (k : ℕ) (r : Lining frames bytes n old w before out k) (h : n ≤ k) where
  all_done : k ≡ n
  all_done = let f = r.few in omega arith

  pub lining_words : w ≡ pack (state_after (program_of (frames_of frames)) (take n (choices_of bytes)))
  lining_words =
      r.words
      ∙ ap (λ (i : ℕ). pack (state_after (program_of (frames_of frames)) (take i (choices_of bytes)))) all_done

  pub lining_lines : out
      ≡ written before 8 (step_lines (program_of (frames_of frames)) (take n (choices_of bytes)))
  lining_lines =
      r.lines
      ∙ ap (λ (i : ℕ). written before 8 (step_lines (program_of (frames_of frames)) (take i (choices_of bytes)))) all_done
