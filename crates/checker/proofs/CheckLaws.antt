-- From the shared cells' types and what the modules give to `rules_of`; from the layout's answer
-- and what `rules_of` gives to the verdict of `check`. Assumes nothing.
use mathlib.Core.Path.{◌≡◌, refl, sym, ap, subst, ◌∙◌}
use mathlib.Core.List.{List, []}
use Prim.Native.Nat.{ℕ, ◌≤◌}
use native.Mathlib.Omega.{arith}
use lib.ListN.{length, take, length-map, length-take}
use Rattle.language.specs.Verdicts.{Verdict}
use Rattle.language.specs.Verdicts.{Rejected}
use Rattle.text.specs.Frames.{frame_of_word, frames_of}
use Rattle.program.specs.Programs.{program_of, modules_from}
use Rattle.program.specs.Inner.Shared.{SharedFirst, shared_types}
use Rattle.program.specs.declared.shared.SharedTypes.{SharedTypes}
use Rattle.program.proofs.SharedTypeLaws.{types_room, types_taken}
use Rattle.layout.specs.Faults.{NoFault}
use Rattle.layout.specs.Inner.Layouts.{laid_as, laid_words}
use Rattle.std.specs.Prelude.{Err}
use Rattle.language.specs.declared.refusal.Refusal.{Refusal}
use Rattle.layout.specs.Inner.Laid.{Laid, Lines}
use Rattle.layout.proofs.Judged.{Passed, laid_passed}
use Rattle.layout.proofs.AfterLayout.{text_refused, text_passed}
use Rattle.layout.proofs.SharedCells.{shared_first}
use Rattle.rules.specs.Inner.Checking.{modules_in, rules_of}
use Rattle.rules.proofs.Lists.{prefix_length}
use Rattle.checker.specs.Verdict.{verdict, Checked}
use Rattle.checker.specs.Inner.Frames.{FileIn}
use Rattle.checker.specs.Inner.Settings.{setting_in}
use Rattle.checker.proofs.Whole.{verdict_computes}

-- ---- the rules of a laid_out file
pub file_shared : (ws : List ℕ) → FileIn ws → SharedFirst (frames_of ws)
file_shared ws g = shared_first (frames_of ws) g.laid_out

module _ (ws : List ℕ) (t : SharedTypes) (e : t ≡ shared_types (frames_of ws)) where
  pub rules_room : t.count ≤ length t.types
  rules_room = types_room (frames_of ws) t e

  pub rules_length : (n : ℕ) → n ≡ t.count → n ≡ length (take n t.types)
  rules_length n h = let c = rules_room in prefix_length t.types n refl (omega arith)

  -- what the modules' rules say, for these types
  abbrev said : List ℕ → Verdict
  said cells = modules_in (setting_in ws cells) [] (modules_from (frames_of ws) 0 (frames_of ws))

  pub rules_are : (r : Verdict) → r ≡ said (take t.count t.types)
      → r ≡ rules_of (program_of (frames_of ws))
  unfolding rules_of program_of
  rules_are r h = h ∙ ap said (types_taken (frames_of ws) t e)

-- ---- the verdict of a text
promise : (bs : List ℕ) (r : Verdict) → r ≡ verdict bs → Checked bs r
promise bs r e = subst (Checked bs) (sym e) (verdict_computes bs)

-- l is what `lay_into` answered, ws what the lent words hold
module _ (bs : List ℕ) (l : Laid) (ws : List ℕ) (e : laid_as l ws ≡ laid_words bs) where
  pub check_rejected : (a : Refusal) → l ≡ Err a → Err a ≡ verdict bs
  unfolding verdict
  check_rejected a z =
      text_refused (λ n j. Rejected n j) (λ fs. rules_of (program_of fs)) bs l ws e a z

  module _ (n : ℕ) (a : l ≡ Lines n) where
    right : Passed bs n ws
    right = laid_passed bs l ws e n a

    same_length : length (take n ws) ≡ n
    same_length =
        sym (length-map (take n ws) frame_of_word) ∙ ap length right.lines ∙ right.count

    pub check_file : FileIn (take n ws)
    check_file =
        let s = same_length in
        let x = right.some in
        let y = right.few in
        record {
          laid_out = subst NoFault (sym right.lines) right.no_fault;
          some = omega arith;
          few = omega arith;
        }

    pub check_room : n ≤ length ws
    check_room = let s = sym (length-take n ws) ∙ same_length in omega arith

    pub check_length : n ≡ length (take n ws)
    check_length = sym same_length

    pub check_rules : (r : Verdict) → r ≡ rules_of (program_of (frames_of (take n ws)))
        → r ≡ verdict bs
    unfolding verdict
    check_rules r z =
        z ∙ text_passed (λ n j. Rejected n j) (λ fs. rules_of (program_of fs)) bs l ws e n a

pub promised_rejected : (bs : List ℕ) (l : Laid) (ws : List ℕ) → laid_as l ws ≡ laid_words bs
    → (a : Refusal) → l ≡ Err a → Checked bs (Err a)
promised_rejected bs l ws e a z = promise bs (Err a) (check_rejected bs l ws e a z)

pub promised_rules : (bs : List ℕ) (l : Laid) (ws : List ℕ) → laid_as l ws ≡ laid_words bs
    → (n : ℕ) → l ≡ Lines n → (r : Verdict)
    → r ≡ rules_of (program_of (frames_of (take n ws))) → Checked bs r
promised_rules bs l ws e n a r z = promise bs r (check_rules bs l ws e n a r z)
