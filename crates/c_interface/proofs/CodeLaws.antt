-- What the functions of the interface compute. Assumes nothing.
use Rattle.std.specs.Prelude.{Ok, Err}
use Rattle.language.specs.declared.refusal.Refusal.{Refusal}
use mathlib.Core.Path.{◌≡◌, refl, sym, ap, ◌∙◌}
use Prim.Native.Nat.{ℕ, ◌+◌, ◌*◌}
use native.Mathlib.Omega.{arith}
use lib.Dec.{eqb}
use borrow.Author.Tests.{eqb-true, eqb-false, ne_eqb}
use mathlib.Core.List.{List}
use mathlib.Core.Bool.{Bool, true, false}
use Rattle.basics.proofs.Ifs.{if_all, if_no}
use Rattle.language.specs.declared.frame.Frame.{Frame}
use Rattle.language.specs.Verdicts.{Verdict}
use Rattle.language.specs.Verdicts.{Accepted}
use Rattle.checker.specs.Verdict.{verdict, Checked}
use Rattle.machine.specs.Turns.{access_count}
use Rattle.machine.specs.Inner.Ranges.{in_range}
use Rattle.machine.specs.Calls.{CallResult, step_call}
use Rattle.machine.proofs.Calls.{program_schedulers, called_in, called_out}
use Rattle.language.specs.Refusals.{rule_number}
use Rattle.language.specs.declared.refusal.Rule.{Rule}
use Rattle.stepper.specs.declared.answer.CallRefusal.{CallRefusal}
use Rattle.stepper.specs.declared.answer.CallRefusal.TheVariants.{Text, Call}
use Rattle.stepper.specs.declared.answer.Done.{Done}
use Rattle.stepper.specs.Answers.{Answer, NumberedAnswer, said}
use Rattle.stepper.specs.Answers.{answer_to, TextResult, text_result, as_text_result}
use Rattle.stepper.specs.Answers.{answer_word, BatchResult, batch_result}
use Rattle.runs.specs.Listings.{ListingResult, with_buffers}
use Rattle.drawing.specs.Writings.{Writing, as_writing}
use Rattle.drawing.specs.Answers.{Answered}
use Rattle.runs.specs.declared.printing.ListingAnswer.{ListingAnswer}
use Rattle.c_interface.specs.Codes.{code_of, CheckedCode, answer_code, coded, coded_of, coded_out}
use Rattle.c_interface.specs.Codes.{coded_batch_of, listing_code, coded_listing_of, coded_writing_of}
use Rattle.c_interface.specs.Codes.{AnsweredCode, step_answer_code, coded_step_of}

pub code_accepted : (v : Verdict) → v ≡ Accepted → 0 ≡ code_of v
code_accepted v h = ap code_of (sym h)

pub code_rejected : (v : Verdict) (a : Refusal) (n m j : ℕ) → v ≡ Err a → n ≡ rule_number a.rule
    → m ≡ n → j ≡ a.frame → m * 65536 + j ≡ code_of v
code_rejected v a n m j h e p q = rw (q, p, e) (ap code_of (sym h))

pub ruleset code_laws = (code_accepted, code_rejected)

pub code_checked : (bs : List ℕ) (v : Verdict) (r : ℕ) → v ≡ verdict bs → r ≡ code_of v
    → r ≡ code_of (verdict bs)
code_checked bs v r e h = h ∙ ap code_of e

pub code_promised : (bs : List ℕ) (v : Verdict) (r : ℕ)
    → Checked bs v → r ≡ code_of v → CheckedCode bs r
code_promised bs v r p h = record { verdict = v; checked = p; code = h }

-- ---- the writer's
pub writing_coded : (w : List ℕ) (x : Writing) (v : Verdict) (r : ℕ) → as_writing v w ≡ x
    → r ≡ code_of v → coded r w ≡ coded_writing_of x
writing_coded w x v r e h = ap (λ (n : ℕ). coded n w) h ∙ ap coded_writing_of e

pub writing_promised : (bs out w : List ℕ) (v : Verdict) (r : ℕ) → Answered bs out (as_writing v w)
    → r ≡ code_of v → AnsweredCode bs out (coded r w)
writing_promised bs out w v r p h =
    record { writing = as_writing v w; answered = p; code = ap (λ (n : ℕ). coded n w) h }

-- ---- a call's answer
pub answer_done : (v : Answer) (d : Done) (t : ℕ) → v ≡ Ok d → t ≡ d.thread
    → t ≡ answer_code (said v)
answer_done v d t h p = p ∙ ap (λ (a : Answer). answer_code (said a)) (sym h)

pub answer_err : (v : Answer) (x : CallRefusal) (n : ℕ) → v ≡ Err x → n ≡ answer_code (said (Err x))
    → n ≡ answer_code (said v)
answer_err v x n h p = p ∙ ap (λ (a : Answer). answer_code (said a)) (sym h)

pub ruleset answer_laws = (answer_done, answer_err)

pub text_refused : (x : CallRefusal) (a : Refusal) (n : ℕ) → x ≡ Text a → n ≡ code_of (Err a)
    → n ≡ answer_code (said (Err x))
text_refused x a n h p = p ∙ ap (λ (y : CallRefusal). answer_code (said (Err y))) (sym h)

pub call_refused : (x : CallRefusal) (r : Rule) (t n m j : ℕ) → x ≡ Call r t → n ≡ rule_number r
    → m ≡ n → j ≡ t → m * 65536 + j ≡ answer_code (said (Err x))
call_refused x r t n m j h e p q =
    rw (q, p, e) (ap (λ (y : CallRefusal). answer_code (said (Err y))) (sym h))

pub ruleset refusal_laws = (text_refused, call_refused)

pub answer_coded : (w : List ℕ) (x : TextResult) (v : Answer) (r : ℕ) → text_result v w ≡ x
    → r ≡ answer_code (said v) → coded r w ≡ coded_of x
answer_coded w x v r e h = ap (λ (n : ℕ). coded n w) h ∙ ap coded_of e

-- ---- a step's
pub step_coded : (w : List ℕ) (x : TextResult) (v : Answer) (r : ℕ) → text_result v w ≡ x
    → r ≡ step_answer_code (said v) → coded r w ≡ coded_step_of x
step_coded w x v r e h = ap (λ (n : ℕ). coded n w) h ∙ ap coded_step_of e

-- a refused step has no accesses
refused_none : (fs : List Frame) (w : List ℕ) (c : ℕ) → ((step_call fs w c).answer ≡ 0 → ⊥)
    → (step_call fs w c).accesses ≡ 0
unfolding access_count
refused_none fs w c h = by (in_range fs (program_schedulers fs) w) refl
  where
    by : (b : Bool) → in_range fs (program_schedulers fs) w ≡ b → (step_call fs w c).accesses ≡ 0
    by true e =
        ap (λ (x : CallResult). x.accesses) (called_in fs w c e)
        ∙ if_no _ _
        (ne_eqb _ 0 (λ z. h (ap (λ (x : CallResult). x.answer) (called_in fs w c e) ∙ z)))
    by false e = ap (λ (x : CallResult). x.accesses) (called_out fs w c e)

-- ---- many choices
pub batch_coded : (w out : List ℕ) (x : BatchResult) (v : Answer) (r : ℕ) → batch_result v w out ≡ x
    → r ≡ answer_code (said v) → coded_out r w out ≡ coded_batch_of x
batch_coded w out x v r e h = ap (λ (n : ℕ). coded_out n w out) h ∙ ap coded_batch_of e

-- the answer to each is the number that a call with this choice alone gives
pub answer_word_code : (fs : List Frame) (w : List ℕ) (c : ℕ)
    → answer_word (step_call fs w c) ≡ (coded_step_of (as_text_result (step_call fs w c))).code
unfolding answer_to
answer_word_code fs w c =
    let r = step_call fs w c in
    if_all (λ (a : NumberedAnswer). answer_word r ≡ step_answer_code a) (eqb r.answer 0)
    (NumberedAnswer.done_by r.thread r.accesses) (NumberedAnswer.refused_with r.answer r.thread)
    (λ e. let z = eqb-true r.answer 0 e in omega arith)
    (λ e. let z = refused_none fs w c (eqb-false r.answer 0 e) in omega arith)

-- ---- a listing's answer and length
pub listing_coded : (w out : List ℕ) (x : ListingResult) (l : ListingAnswer) (v : Answer) (n : ℕ)
    → with_buffers l w out ≡ x → v ≡ l.answer → n ≡ listing_code (said v) l.length
    → coded_out n w out ≡ coded_listing_of x
listing_coded w out x l v n e q h =
    ap (λ (k : ℕ). coded_out k w out) (h ∙ ap (λ (a : Answer). listing_code (said a) l.length) q)
    ∙ ap coded_listing_of e
