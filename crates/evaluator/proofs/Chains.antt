-- One evaluation after another, where a number or a truth is wanted: a value goes on, a refusal
-- stands. Assumes nothing.
use mathlib.Core.Path.{◌≡◌, refl, sym, ap, ◌∙◌}
use mathlib.Core.List.{List}
use mathlib.Core.Bool.{true, false, true≢false, false≢true}
use Prim.Native.Nat.{ℕ}
use Rattle.basics.proofs.Ifs.{if_yes, if_no}
use Rattle.program.specs.declared.node.Operator.{Operator}
use Rattle.machine.specs.declared.value.Value.{Value}
use Rattle.machine.specs.declared.value.Value.TheVariants.{Number, Truth, Cell}
use Rattle.machine.specs.declared.value.Outcome.{Outcome}
use Rattle.machine.specs.declared.value.Outcome.TheVariants.{Is, Foreign, Spent, Stuck}
use Rattle.operations.specs.declared.operand.Operand.{Operand}
use Rattle.operations.specs.Inner.Lent.{lent_count, lent_cells}
use Rattle.operations.specs.Inner.Results.{Result, result, result_in, then_by, and_then_in, only_by}
use Rattle.operations.specs.Inner.Results.{keeping}
use Rattle.operations.specs.Inner.ByWords.{operation, number_or, operand_of, outcome_of}
use Rattle.operations.specs.Inner.ByWords.{operand_stops, outcome_stops, both_by, chosen, chosen_by}
use Rattle.evaluator.specs.Inner.ByWords.{numbers_of, WantedResult, wanted_in, wanted_number}
use Rattle.evaluator.specs.Inner.ByWords.{a_number_in}

-- ---- what changes no cell: `only_by`, and `keeping` beside any cells
pub only_keeping : (o : Outcome) (k : Value → Outcome) (n : ℕ) (ws : List ℕ)
    → result (only_by o k) n ws ≡ then_by o n ws (keeping k)
only_keeping (Is v) k n ws = refl
only_keeping Foreign k n ws = refl
only_keeping Spent k n ws = refl
only_keeping Stuck k n ws = refl

-- ---- chains of two
-- a chain on the left is regrouped
pub regroup : (l : Result) (f g : Value → ℕ → List ℕ → Result)
    → and_then_in (and_then_in l f) g ≡ and_then_in l (λ v n ws. and_then_in (f v n ws) g)
regroup l f g = go l.outcome
  where
    go : (o : Outcome)
        → and_then_in (then_by o l.used l.words f) g
        ≡ then_by o l.used l.words (λ v n ws. and_then_in (f v n ws) g)
    go (Is v) = refl
    go Foreign = refl
    go Spent = refl
    go Stuck = refl

-- ---- numbers that are wanted
-- what a number was wanted of has stopped exactly where its evaluation has, and its refusal is then
-- the same
stopped_then : (o : Outcome) (n : ℕ) (ws : List ℕ) (k : Value → ℕ → List ℕ → Result)
    → operand_stops (operand_of o) ≡ true → result (outcome_of (operand_of o)) n ws ≡ then_by o n ws k
stopped_then (Is (Number m)) n ws k h = absurd (false≢true h)
stopped_then (Is (Truth b)) n ws k h = absurd (false≢true h)
stopped_then (Is (Cell c)) n ws k h = absurd (false≢true h)
stopped_then Foreign n ws k h = refl
stopped_then Spent n ws k h = refl
stopped_then Stuck n ws k h = refl

-- w: the state's words after it
pub number_stopped : (p : Operand) (l : Result) (w : List ℕ) (k : Value → ℕ → List ℕ → Result)
    → wanted_in p w ≡ wanted_number l → operand_stops p ≡ true → result_in (outcome_of p) w
    ≡ and_then_in l k
number_stopped p l w k e h =
    ap (λ (r : WantedResult). result (outcome_of r.operand) r.used r.words) e
    ∙ stopped_then l.outcome l.used l.words k
    (sym (ap (λ (r : WantedResult). operand_stops r.operand) e) ∙ h)

-- a refusal is the same, wanted as a number or not
stops_same : (p : Operand) → operand_stops p ≡ true → p ≡ operand_of (outcome_of p)
stops_same (Operand.Number m) h = absurd (false≢true h)
stops_same Operand.Other h = absurd (false≢true h)
stops_same Operand.Foreign h = refl
stops_same Operand.Spent h = refl
stops_same Operand.Stuck h = refl

pub stopped_number : (p : Operand) (w : List ℕ) → operand_stops p ≡ true
    → wanted_in p w ≡ wanted_in (operand_of (outcome_of p)) w
stopped_number p w h = ap (λ (q : Operand). wanted_in q w) (stops_same p h)

pub stops_answer : (p : Operand) → operand_stops p ≡ true → outcome_stops (outcome_of p) ≡ true
stops_answer (Operand.Number m) h = absurd (false≢true h)
stops_answer Operand.Other h = absurd (false≢true h)
stops_answer Operand.Foreign h = refl
stops_answer Operand.Spent h = refl
stops_answer Operand.Stuck h = refl

-- a truth that was wanted
stopped_outcome : (o : Outcome) (n : ℕ) (ws : List ℕ) (k : Value → ℕ → List ℕ → Result)
    → outcome_stops o ≡ true → result o n ws ≡ then_by o n ws k
stopped_outcome (Is v) n ws k h = absurd (false≢true h)
stopped_outcome Foreign n ws k h = refl
stopped_outcome Spent n ws k h = refl
stopped_outcome Stuck n ws k h = refl

pub stopped : (x : Result) (k : Value → ℕ → List ℕ → Result) → outcome_stops x.outcome ≡ true
    → x ≡ and_then_in x k
stopped x k h = stopped_outcome x.outcome x.used x.words k h

-- 26 and 27: both operands have run, and only then their kinds are looked at
both_ran : (op : Operator) (v : Value) (o : Outcome) (n : ℕ) (ws : List ℕ)
    → result (both_by op (number_or v) (operand_of o)) n ws
    ≡ then_by o n ws (keeping (numbers_of (operation op) v))
both_ran op (Number m) (Is (Number n)) k ws = refl
both_ran op (Number m) (Is (Truth t)) k ws = refl
both_ran op (Number m) (Is (Cell c)) k ws = refl
both_ran op (Truth b) (Is (Number n)) k ws = refl
both_ran op (Truth b) (Is (Truth t)) k ws = refl
both_ran op (Truth b) (Is (Cell c)) k ws = refl
both_ran op (Cell b) (Is (Number n)) k ws = refl
both_ran op (Cell b) (Is (Truth t)) k ws = refl
both_ran op (Cell b) (Is (Cell c)) k ws = refl
both_ran op v Foreign k ws = refl
both_ran op v Spent k ws = refl
both_ran op v Stuck k ws = refl

-- e evaluates the second operand on what the first left
second_ran : (op : Operator) (e : ℕ → List ℕ → Result) (o : Outcome) (n : ℕ) (ws : List ℕ)
    → operand_stops (operand_of o) ≡ false
    → result (both_by op (operand_of o) (operand_of (e n ws).outcome)) (e n ws).used (e n ws).words
    ≡ then_by o n ws (λ v m us. and_then_in (e m us) (keeping (numbers_of (operation op) v)))
second_ran op e (Is v) n ws h = both_ran op v (e n ws).outcome (e n ws).used (e n ws).words
second_ran op e Foreign n ws h = absurd (true≢false h)
second_ran op e Spent n ws h = absurd (true≢false h)
second_ran op e Stuck n ws h = absurd (true≢false h)

-- t: the state's words after the first operand, u: after the second
pub numbers_ran : (op : Operator) (e : ℕ → List ℕ → Result) (l : Result) (p q : Operand)
    (t u : List ℕ) → wanted_in p t ≡ wanted_number l → operand_stops p ≡ false
    → wanted_in q u ≡ wanted_number (e (lent_count t) (lent_cells t))
    → result_in (both_by op p q) u
    ≡ and_then_in l (λ v m us. and_then_in (e m us) (keeping (numbers_of (operation op) v)))
numbers_ran op e l p q t u f h k =
    ap (λ (r : WantedResult). result (both_by op p r.operand) r.used r.words) k
    ∙ ap (λ (r : WantedResult).
    let x = e r.used r.words in
    result (both_by op r.operand (operand_of x.outcome)) x.used x.words) f
    ∙ second_ran op e l.outcome l.used l.words
    (sym (ap (λ (r : WantedResult). operand_stops r.operand) f) ∙ h)

-- 28's chosen value: a number, or 20
number_kept : (o : Outcome) (n : ℕ) (ws : List ℕ)
    → result (outcome_of (operand_of o)) n ws ≡ then_by o n ws (keeping a_number_in)
number_kept (Is (Number m)) n ws = refl
number_kept (Is (Truth b)) n ws = refl
number_kept (Is (Cell c)) n ws = refl
number_kept Foreign n ws = refl
number_kept Spent n ws = refl
number_kept Stuck n ws = refl

chosen_maps : (v : Value) (b c : ℕ) (g : ℕ → Result) → g (chosen v b c) ≡ chosen v (g b) (g c)
chosen_maps (Truth true) b c g = ap g (if_yes b c refl) ∙ sym (if_yes (g b) (g c) refl)
chosen_maps (Truth false) b c g = ap g (if_no b c refl) ∙ sym (if_no (g b) (g c) refl)
chosen_maps (Number m) b c g = refl
chosen_maps (Cell d) b c g = refl

-- 28: the code chooses a frame, the definition one of two evaluations; e evaluates a frame
then_chosen : (e : ℕ → ℕ → List ℕ → Result) (b c : ℕ) (o : Outcome) (n : ℕ) (ws : List ℕ)
    → outcome_stops o ≡ false
    → and_then_in (e (chosen_by o b c) n ws) (keeping a_number_in)
    ≡ then_by o n ws (λ v m us. and_then_in (chosen v (e b m us) (e c m us)) (keeping a_number_in))
then_chosen e b c (Is v) n ws h =
    ap (λ (r : Result). and_then_in r (keeping a_number_in)) (chosen_maps v b c (λ d. e d n ws))
then_chosen e b c Foreign n ws h = absurd (true≢false h)
then_chosen e b c Spent n ws h = absurd (true≢false h)
then_chosen e b c Stuck n ws h = absurd (true≢false h)

pub choice_ran : (e : ℕ → ℕ → List ℕ → Result) (b c j : ℕ) (o : Outcome) (q : Operand)
    (t u : List ℕ) → outcome_stops o ≡ false → j ≡ chosen_by o b c
    → wanted_in q u ≡ wanted_number (e j (lent_count t) (lent_cells t))
    → result_in (outcome_of q) u
    ≡ and_then_in (result_in o t)
    (λ v m us. and_then_in (chosen v (e b m us) (e c m us)) (keeping a_number_in))
choice_ran e b c j o q t u h w k =
    ap (λ (r : WantedResult). result (outcome_of r.operand) r.used r.words) k
    ∙ (let r = e j (lent_count t) (lent_cells t) in number_kept r.outcome r.used r.words)
    ∙ ap (λ (d : ℕ). and_then_in (e d (lent_count t) (lent_cells t)) (keeping a_number_in)) w
    ∙ then_chosen e b c o (lent_count t) (lent_cells t) h
