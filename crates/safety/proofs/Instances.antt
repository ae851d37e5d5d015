-- The premise can be met: document 01's case R with `1202` in frame 7 is accepted, so it is safe
-- under every list of choices. So is a file with an event, which a run accesses, and one with a
-- link, in which a run accesses an event from a scheduler in step with its owner. Assumes nothing.
use mathlib.Core.Path.{◌≡◌, refl, subst}
use mathlib.Core.List.{List, [], ◌∷◌, map, flat_map}
use Prim.Native.Nat.{ℕ}
use Prim.Native.Char.{code}
use Prim.Native.String.{String}
use Rattle.basics.specs.If.{when◌then◌else◌}
use Rattle.basics.specs.Members.{any, every}
use Rattle.basics.specs.Inner.Searches.{same_numbers, lowest, earlier}
use Rattle.basics.specs.Chains.{each_from}
use Rattle.language.specs.Types.{type_word, owner_digit, cell_depth, cell_type, owner_of, content_of}
use Rattle.language.specs.Types.{public, content_word}
use Rattle.language.specs.Kinds.{kind_of, children}
use Rattle.language.specs.Groups.{label}
use Rattle.language.specs.Effects.{with_member, set_within, set_from, group_of, within}
use Rattle.language.specs.Places.{standing_at}
use Rattle.language.specs.Verdicts.{Accepted}
use Rattle.text.specs.Digits.{digit}
use Rattle.text.specs.Frames.{hexadecimal, line_word, frame_of_word, words_of, text_frames}
use Rattle.text.specs.Reading.{right_at}
use Rattle.text.specs.Inner.Reading.{first_wrong, reading}
use Rattle.program.specs.Trees.{expression_to, expression_at, statement_to, statement_at}
use Rattle.program.specs.Programs.{shared_of, events_of, links_of, modules_from, allowance_of}
use Rattle.program.specs.Programs.{program_of}
use Rattle.fields.specs.Fields.{header_fine, first_content_fine, count_of, frame_fine}
use Rattle.fields.specs.Inner.Scans.{header_fault, field_fault}
use Rattle.layout.specs.Order.{has_child}
use Rattle.layout.specs.Inner.Scans.{row_first, first_disorder, highest_rank, is_misplaced, is_leftover}
use Rattle.layout.specs.Inner.Scans.{first_leftover, no_main, order_fault, lowest_child, deep_to, first_deep}
use Rattle.layout.specs.Inner.Scans.{depth_fault, layout_of}
use Rattle.rules.specs.Inner.Checking.{named_rule, new_rule_of, content_rule_of, numbers_rule_of}
use Rattle.rules.specs.Inner.Checking.{choose_rule_of, type_in, argue, types_in, start_rule_of}
use Rattle.rules.specs.Inner.Checking.{cooperate_rule, seq_rule, do_rule_of, join_rule}
use Rattle.rules.specs.Inner.Checking.{store_rule_of, if_else_rule_of, while_rule_of, effect_in}
use Rattle.rules.specs.Inner.Checking.{signal_rule, modules_in, rules_of}
use Rattle.checker.specs.Verdict.{HasVerdict, verdict}
use Rattle.checker.proofs.Whole.{verdict_computes}
use Rattle.machine.specs.Groups.{schedulers_where}
use Rattle.machine.specs.State.{enlist}
use Rattle.machine.specs.Fresh.{fresh}
use Rattle.machine.specs.Waits.{threads_where, entries_except}
use Rattle.machine.specs.Inner.Families.{is_ready}
use Rattle.machine.specs.Turns.{is_scheduler_of, leave, fits, room, move, go_to}
use Rattle.machine.specs.Statements.{step_do, is_own_event, signalling, wake, wake_on_each}
use Rattle.machine.specs.Statements.{room_to_wake_on, room_to_wake, step_generate, step_await}
use Rattle.machine.specs.Steps.{step_thread_within, without_events_of, end_on, end_on_each, end_instant}
use Rattle.machine.specs.Steps.{is_unlinked, step_within}
use Rattle.machine.specs.Runs.{signals_of}
use Rattle.safety.specs.Safety.{Safe}
use Rattle.safety.proofs.Accepted.{accepted_safe}

-- a quoted text as the bytes of a file
unfoldable pub bytes : String → List ℕ
bytes String.[] = []
bytes (String.◌∷◌ c s) = code c ∷ bytes s

unfoldable pub text : List ℕ
unfolding bytes
text = bytes "0001000000020000\n0102000100000000\n2300000000000000\n2000000100000000\n1700000200030000\n0200000400000000\n1300000000000000\n1202000600000000\n0200000700000000\n"

-- main goes to scheduler 3, and awaits there an event of 3
unfoldable pub event_text : List ℕ
unfolding bytes
event_text = bytes "0001000000020001\n0303000000000000\n1B00000000000000\n1203000200000000\n0200000300000000\n"

-- 3 is in step with 2: main, at home, generates an event of 3
unfoldable pub link_text : List ℕ
unfolding bytes
link_text = bytes "0001000000020001\n0303000000000000\n0403000200000000\n1A00000000000000\n0200000300000000\n"

-- by computing the definition of the check on these texts
computed : map verdict (text ∷ event_text ∷ link_text ∷ []) ≡ Accepted ∷ Accepted ∷ Accepted ∷ []
unfolding text event_text link_text bytes verdict reading first_wrong right_at digit text_frames words_of line_word hexadecimal frame_of_word kind_of children when◌then◌else◌ any every same_numbers lowest earlier type_word owner_digit cell_depth cell_type owner_of content_of public content_word with_member set_within label set_from group_of within standing_at expression_to expression_at statement_to statement_at shared_of events_of links_of modules_from allowance_of program_of header_fine first_content_fine count_of frame_fine has_child header_fault field_fault row_first first_disorder highest_rank is_misplaced is_leftover first_leftover no_main order_fault lowest_child deep_to first_deep depth_fault layout_of named_rule new_rule_of content_rule_of numbers_rule_of choose_rule_of type_in argue types_in start_rule_of cooperate_rule seq_rule do_rule_of join_rule store_rule_of if_else_rule_of while_rule_of signal_rule effect_in modules_in rules_of
computed = refl

accepted : (bs : List ℕ) → verdict bs ≡ Accepted → HasVerdict bs Accepted
accepted bs e = subst (HasVerdict bs) e (verdict_computes bs).says

-- of two lists that are equal, the members
first : {A : Type 0} {x y : A} {xs ys : List A} → x ∷ xs ≡ y ∷ ys → x ≡ y
first h = cc

rest : {A : Type 0} {x y : A} {xs ys : List A} → x ∷ xs ≡ y ∷ ys → xs ≡ ys
rest h = cc

pub case_r_safe : (cs : List ℕ) → Safe (program_of (text_frames text)) cs
case_r_safe cs = accepted_safe text (accepted text (first computed)) cs

pub event_safe : (cs : List ℕ) → Safe (program_of (text_frames event_text)) cs
event_safe cs = accepted_safe event_text (accepted event_text (first (rest computed))) cs

-- so `signalled` of demand 3 says something: thread 1 moves to 3, whose instant ends, and awaits
pub event_awaited : signals_of (program_of (text_frames event_text)) (2 ∷ 3 ∷ 3 ∷ [])
    ≡ record { event = 0; owner = 3; thread = 1; place = 3 } ∷ []
unfolding event_text bytes text_frames words_of line_word digit hexadecimal frame_of_word kind_of children when◌then◌else◌ expression_to expression_at statement_to statement_at shared_of events_of links_of modules_from allowance_of program_of fresh is_ready threads_where entries_except enlist is_scheduler_of leave fits room move go_to label schedulers_where any step_do is_own_event signalling step_await step_thread_within without_events_of end_on end_on_each end_instant is_unlinked step_within each_from flat_map
event_awaited = refl

pub link_safe : (cs : List ℕ) → Safe (program_of (text_frames link_text)) cs
link_safe cs = accepted_safe link_text (accepted link_text (first (rest (rest computed)))) cs

-- so `InStep` of `signalled` is more than equality: thread 1, on 2, generates an event of 3
pub partner_signalled : signals_of (program_of (text_frames link_text)) (2 ∷ [])
    ≡ record { event = 0; owner = 3; thread = 1; place = 2 } ∷ []
unfolding link_text bytes text_frames words_of line_word digit hexadecimal frame_of_word kind_of children when◌then◌else◌ expression_to expression_at statement_to statement_at shared_of events_of links_of modules_from allowance_of program_of fresh threads_where entries_except is_scheduler_of label schedulers_where every is_own_event signalling wake wake_on_each room_to_wake_on room_to_wake step_generate step_thread_within step_within each_from flat_map
partner_signalled = refl
