-- The table of samples holds: one computation over all rows, then each row of the verdict by the
-- rules and of the answers by the stepping rules. Assumes nothing.
use mathlib.Core.Path.{◌≡◌, refl, ap, subst}
use mathlib.Core.List.{List, [], ◌∷◌, map}
use Prim.Native.Nat.{ℕ}
use Rattle.basics.specs.If.{when◌then◌else◌}
use Rattle.basics.specs.Members.{All, any, every}
use Rattle.basics.specs.Inner.Searches.{same_numbers, lowest, earlier}
use Rattle.basics.specs.Chains.{each_from}
use Rattle.language.specs.Types.{type_word, owner_digit, cell_depth, cell_type, owner_of, content_of}
use Rattle.language.specs.Types.{public, content_word}
use Rattle.language.specs.Kinds.{kind_of, children}
use Rattle.language.specs.Groups.{label}
use Rattle.language.specs.Effects.{with_member, set_within, set_from, group_of, within}
use Rattle.language.specs.Places.{standing_at}
use Rattle.language.specs.Verdicts.{Verdict}
use Rattle.text.specs.Digits.{digit}
use Rattle.text.specs.Frames.{hexadecimal, line_word, frame_of_word, words_of, text_frames}
use Rattle.text.specs.Reading.{right_at}
use Rattle.text.specs.Inner.Reading.{first_wrong, reading}
use Rattle.program.specs.Trees.{expression_to, expression_at, statement_to, statement_at}
use Rattle.program.specs.Programs.{shared_of, events_of, links_of, modules_from, allowance_of}
use Rattle.program.specs.Programs.{program_of}
use Rattle.fields.specs.Fields.{header_fine, first_content_fine, count_of, frame_fine}
use Rattle.fields.specs.Inner.Scans.{header_fault, field_fault}
use Rattle.layout.specs.Order.{has_child}
use Rattle.layout.specs.Inner.Scans.{row_first, first_disorder, highest_rank, is_misplaced, is_leftover}
use Rattle.layout.specs.Inner.Scans.{first_leftover, no_main, order_fault, lowest_child, deep_to, first_deep}
use Rattle.layout.specs.Inner.Scans.{depth_fault, layout_of}
use Rattle.rules.specs.Inner.Checking.{named_rule, new_rule_of, content_rule_of, numbers_rule_of}
use Rattle.rules.specs.Inner.Checking.{choose_rule_of, type_in, argue, types_in, start_rule_of}
use Rattle.rules.specs.Inner.Checking.{cooperate_rule, seq_rule, do_rule_of, join_rule}
use Rattle.rules.specs.Inner.Checking.{store_rule_of, if_else_rule_of, while_rule_of, effect_in}
use Rattle.rules.specs.Inner.Checking.{modules_in, rules_of}
use Rattle.checker.specs.Verdict.{HasVerdict, verdict}
use Rattle.checker.proofs.Whole.{verdict_computes}
use Rattle.machine.specs.Values.{first_content}
use Rattle.machine.specs.State.{enlist}
use Rattle.machine.specs.Fresh.{fresh}
use Rattle.machine.specs.Waits.{threads_where, entries_except}
use Rattle.machine.specs.Inner.Families.{is_ready}
use Rattle.machine.specs.Turns.{is_scheduler_of, leave, fits, stay}
use Rattle.machine.specs.Statements.{ends, step_nothing}
use Rattle.machine.specs.Groups.{schedulers_where}
use Rattle.machine.specs.Steps.{step_thread_within, without_events_of, end_on, end_on_each, end_instant}
use Rattle.machine.specs.Steps.{is_unlinked, step_within}
use Rattle.machine.specs.Runs.{answers}
use Rattle.samples.specs.Inner.Bytes.{bytes}
use Rattle.samples.specs.Inner.Samples.{Sample, samples}

-- what is computed of a sample, and what it says
record Row : Type 0 where
  verdict_of : Verdict
  answers_of : List ℕ

abbrev computed : Sample → Row
computed x = record { verdict_of = verdict (bytes x.file); answers_of = answers (program_of (text_frames (bytes x.file))) x.choices }

abbrev said : Sample → Row
said x = record { verdict_of = x.verdict; answers_of = x.answers }

-- the whole table, computed at once
pub table : map computed samples ≡ map said samples
unfolding bytes when◌then◌else◌ any every same_numbers lowest earlier standing_at cell_depth cell_type owner_of content_of public owner_digit type_word content_word label with_member set_within set_from group_of within kind_of children digit hexadecimal line_word frame_of_word words_of text_frames right_at first_wrong reading expression_to expression_at statement_to statement_at shared_of events_of links_of modules_from allowance_of program_of header_fine first_content_fine count_of frame_fine has_child header_fault field_fault row_first first_disorder highest_rank is_misplaced is_leftover first_leftover no_main order_fault lowest_child deep_to first_deep depth_fault layout_of named_rule new_rule_of content_rule_of numbers_rule_of choose_rule_of type_in argue types_in start_rule_of cooperate_rule seq_rule do_rule_of join_rule store_rule_of if_else_rule_of while_rule_of effect_in modules_in rules_of verdict first_content enlist fresh is_ready threads_where entries_except is_scheduler_of leave fits stay ends step_nothing step_thread_within schedulers_where without_events_of end_on end_on_each end_instant is_unlinked step_within each_from
table = refl

-- ---- each row: the verdict is the one that the rules give, and the answers are those of the steps
pub record Holds (x : Sample) : Type 0 where
  pub verdict_is : HasVerdict (bytes x.file) x.verdict
  pub answers_are : answers (program_of (text_frames (bytes x.file))) x.choices ≡ x.answers

heads : {A : Type 0} {x y : A} {xs ys : List A} → x ∷ xs ≡ y ∷ ys → x ≡ y
heads h = cc

tails : {A : Type 0} {x y : A} {xs ys : List A} → x ∷ xs ≡ y ∷ ys → xs ≡ ys
tails h = cc

rows : (xs : List Sample) → map computed xs ≡ map said xs → All Holds xs
rows [] h = All.none
rows (x ∷ xs) h =
    let e = heads h in
    All.more (record { verdict_is = subst (HasVerdict (bytes x.file)) (ap (λ (r : Row). r.verdict_of) e) (verdict_computes (bytes x.file)).says; answers_are = ap (λ (r : Row). r.answers_of) e }) (rows xs (tails h))

pub samples_hold : All Holds samples
samples_hold = rows samples table
