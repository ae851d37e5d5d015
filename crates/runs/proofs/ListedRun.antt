-- The lines of a run in the buffer: the choices' after the check's line, then the last. Assumes
-- nothing.
use Prim.Native.Nat.{ℕ, ◌+◌, ◌*◌, min}
use mathlib.Core.Path.{◌≡◌, ap, ap₂, ◌∙◌}
use mathlib.Core.List.{List, ◌++◌}
use native.Mathlib.Omega.{arith}
use native.Mathlib.Nat.{min-le_left}
use lib.ListN.{length, take, length-append}
use lib.Seq.{paste, length-take-le}
use Rattle.program.specs.Programs.{Program}
use Rattle.machine.specs.Runs.{state_after}
use Rattle.machine.specs.Words.{pack}
use Rattle.stepper.specs.Answers.{Answer, done}
use Rattle.stepper.specs.declared.file.File.{File}
use Rattle.stepper.specs.Inner.Files.{file_of}
use Rattle.listing.specs.Listing.{used_of, last_line, run_lines}
use Rattle.runs.specs.Listings.{final_state}
use Rattle.runs.specs.Listings.{listing_result, written}
use Rattle.runs.specs.Inner.Parts.{step_lines, listed_after}
use Rattle.runs.proofs.ListingLoop.{written_put, written_more, step_lines_size}

-- a listing, by its length, the choices used and both buffers
pub listed_path : {x : Answer} {s t k j : ℕ} {w v o u : List ℕ} → s ≡ t → k ≡ j → w ≡ v → o ≡ u
    → listing_result x s k w o ≡ listing_result x t j v u
listed_path {x} a b c d = λ i. listing_result x (a i) (b i) (c i) (d i)

-- ---- how many choices are used
used_is : (p : Program) (file : File) → file ≡ file_of p → (n k : ℕ) → k ≡ min n file.allowance
    → k ≡ min n p.allowance
used_is p file e n k q = q ∙ ap (λ (f : File). min n f.allowance) e

-- ---- all choices, and the last line
module _ (p : Program) (cs : List ℕ) (file : File) (n k : ℕ) (e : file ≡ file_of p) (m : n ≡ length cs) (q : k ≡ min n file.allowance) where
  used : k ≡ used_of p cs
  used = used_is p file e n k q ∙ ap (λ (i : ℕ). min i p.allowance) m

  lines_are : step_lines p (take k cs) ++ last_line k ≡ run_lines p cs
  unfolding step_lines run_lines
  lines_are = ap (λ (i : ℕ). step_lines p (take i cs) ++ last_line i) used

  size_is : 13 + 19 * k ≡ 8 + length (run_lines p cs)
  size_is =
      let b = min-le_left n file.allowance in
      let t : length (take k cs) ≡ k = length-take-le k cs (omega arith) in
      let u = step_lines_size p (take k cs) in
      let a : length (step_lines p (take k cs) ++ last_line k) ≡ length (step_lines p (take k cs)) + 5 = length-append (step_lines p (take k cs)) (last_line k) in
      let l = ap length lines_are in
      omega arith

  pub listed_run : (v out o line new : List ℕ) → v ≡ pack (state_after p (take k cs))
      → o ≡ written out 8 (step_lines p (take k cs)) → line ≡ last_line k
      → new ≡ paste o (8 + 19 * k) line (length line) → length out ≡ 311309
      → listing_result (done 0 0) (13 + 19 * k) k v new
      ≡ listed_after (final_state p cs) (run_lines p cs) out
  unfolding final_state
  listed_run v out o line new a b d f room =
      listed_path size_is used (a ∙ ap (λ (i : ℕ). pack (state_after p (take i cs))) used)
      (written_put o (8 + 19 * k) line new f
      ∙ ap₂ (λ (x : List ℕ) (i : ℕ). written x i line) b at_end
      ∙ ap
      (written (written out 8 (step_lines p (take k cs))) (8 + length (step_lines p (take k cs)))) d
      ∙ written_more out 8 (step_lines p (take k cs)) (last_line k) (omega arith)
      ∙ ap (written out 8) lines_are)
    where
      at_end : 8 + 19 * k ≡ 8 + length (step_lines p (take k cs))
      at_end =
          let b = min-le_left n file.allowance in
          let t : length (take k cs) ≡ k = length-take-le k cs (omega arith) in
          let u = step_lines_size p (take k cs) in
          omega arith
