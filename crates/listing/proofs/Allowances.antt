-- How many choices a run uses: document 02, change 1. 'A 0 shall mean 16,384. .. Explicit allowances
-- mean what they did.' Assumes nothing.
use mathlib.Core.Path.{◌≡◌, ap, ◌∙◌}
use mathlib.Core.List.{List}
use Prim.Native.Nat.{ℕ, suc, ◌≤◌, min}
use native.Mathlib.Nat.{min-eq_left, min-eq_right}
use native.Mathlib.Omega.{arith}
use lib.ListN.{length}
use borrow.Author.Tests.{eq-eqb, ne_eqb}
use Rattle.basics.proofs.Ifs.{if_yes, if_no}
use Rattle.language.specs.declared.frame.Frame.{Frame}
use Rattle.language.specs.Limits.{default_allowance, most_choice_bytes}
use Rattle.program.specs.Trees.{frame_at}
use Rattle.program.specs.Programs.{allowance_of, program_of}
use Rattle.listing.specs.Listing.{choices, choices_from, used_of}
use Rattle.listing.proofs.ChoicesAt.{choices_count}

-- of a file whose frames are fs, by the A of its header
module _ (fs : List Frame) where
  zero_means : (frame_at fs 0).a ≡ 0 → (program_of fs).allowance ≡ default_allowance
  unfolding program_of allowance_of
  zero_means e = if_yes _ _ (eq-eqb (frame_at fs 0).a 0 e)

  explicit_means : ((frame_at fs 0).a ≡ 0 → ⊥) → (program_of fs).allowance ≡ (frame_at fs 0).a
  unfolding program_of allowance_of
  explicit_means e = if_no _ _ (ne_eqb (frame_at fs 0).a 0 e)

  pub explicit_uses : ((frame_at fs 0).a ≡ 0 → ⊥) → (cs : List ℕ)
      → used_of (program_of fs) cs ≡ min (length cs) (frame_at fs 0).a
  explicit_uses e cs = ap (min (length cs)) (explicit_means e)

  pub zero_uses : (frame_at fs 0).a ≡ 0 → (cs : List ℕ)
      → used_of (program_of fs) cs ≡ min (length cs) default_allowance
  zero_uses e cs = ap (min (length cs)) (zero_means e)

  -- of one choice more, that one is not used
  pub one_too_many : (frame_at fs 0).a ≡ 0 → (cs : List ℕ) → length cs ≡ suc default_allowance
      → used_of (program_of fs) cs ≡ default_allowance
  one_too_many e cs h = zero_uses e cs ∙ min-eq_right (omega arith)

  -- choices.txt holds no more than that, so `run` cuts none of it
  pub never_cut : (frame_at fs 0).a ≡ 0 → (bytes cs : List ℕ) → length bytes ≤ most_choice_bytes
      → choices_from 0 bytes ≡ choices cs → used_of (program_of fs) cs ≡ length cs
  never_cut e bytes cs h q =
      let n = choices_count bytes cs q in
      zero_uses e cs ∙ min-eq_left (omega arith)
