-- The first broken rule, as functions that compute: what a node is found to be, from what its
-- children were found to be. proofs/Modules shows that they agree with the rules. Assumes nothing:
-- definitions.
use Rattle.std.specs.Prelude.{Option, Some, None, Result, Ok, Err, Bool, true, false, not, ◌&&◌}
use Rattle.std.specs.Prelude.{◌||◌, List, [], ◌∷◌, ◌++◌, ℕ}
use Rattle.std.specs.Prelude.{if◌then◌else◌, nat_lt, nat_le, ◌==◌, length, get_or, slice_get}
use Rattle.basics.specs.Members.{every}
use Rattle.basics.specs.Inner.Searches.{same_numbers}
use Rattle.language.specs.Places.{home, private, Standing, linked, unlinked, standing_at}
use Rattle.language.specs.Types.{number_type, truth_type, is_cell, cell_type, owner_of}
use Rattle.language.specs.Types.{content_of, room_around, public}
use Rattle.language.specs.Effects.{no_effect, ◌∪◌, with_owner, with_event, within}
use Rattle.language.specs.declared.effect.Effect.{Effect}
use Rattle.language.specs.declared.refusal.Refusal.{Refusal}
use Rattle.language.specs.declared.refusal.Rule.{Rule}
use Rattle.language.specs.declared.refusal.Rule.TheVariants.{Unbound, IllTyped, Escaping}
use Rattle.language.specs.declared.refusal.Rule.TheVariants.{WrongEffect, WhileUnlinked}
use Rattle.language.specs.declared.refusal.Rule.TheVariants.{InstantLoop}
use Rattle.language.specs.Verdicts.{Verdict}
use Rattle.language.specs.Verdicts.{Accepted, Rejected, refusal}
use Rattle.program.specs.Trees.{Expr, number, truth, variable, shared, new, content}
use Rattle.program.specs.Trees.{sum, less, choose, Stmt, nothing, cooperate, seq, do_at}
use Rattle.program.specs.Trees.{start, start_wait, let_in, store, if_else, while, generate, await}
use Rattle.program.specs.Programs.{Part, Program}
use Rattle.rules.specs.Rules.{Setting, setting_of, Signature, signature_at, signature}
use Rattle.rules.specs.Inner.Findings.{Typing, StatementEffect, typed, ending, fault}
use Rattle.rules.specs.Inner.Findings.{fault_of}
use Rattle.rules.specs.declared.finding.Typed.{Typed}
use Rattle.rules.specs.declared.finding.Ending.{Ending}

-- A rule hands on a child's fault as it is, of whatever type E. In the rules named `_of`, `made`
-- says which fault it is that a frame breaks a rule; the check takes each with the refusals.

-- ---- expressions. In each rule i is the frame; at one frame the smallest number comes first

-- 22 and 23, a variable or a shared cell: the s-th of ts
unfoldable pub named_rule : List ℕ → ℕ → ℕ → Typing
named_rule ts s i =
    if nat_lt s (length ts) then typed (get_or ts s 0) no_effect else fault Unbound i

-- 24
unfoldable pub new_rule_of : {E : Type 0} → (Rule → ℕ → E) → ℕ → ℕ → Result Typed E → Result Typed E
new_rule_of made s i (Ok x) =
    if not (room_around x.type_word) then fault_of made IllTyped i else
    (if s == private then typed (cell_type s x.type_word) x.effect else
    (if not (public x.type_word) then fault_of made Escaping i else
    typed (cell_type s x.type_word) (with_owner s x.effect)))
new_rule_of made s i (Err r) = Err r

abbrev pub new_rule : ℕ → ℕ → Typing → Typing
new_rule = new_rule_of refusal

-- 25
unfoldable pub content_rule_of : {E : Type 0} → (Rule → ℕ → E) → ℕ → Result Typed E → Result Typed E
content_rule_of made i (Ok x) =
    if is_cell x.type_word
    then typed (content_of x.type_word) (with_owner (owner_of x.type_word) x.effect) else
    fault_of made IllTyped i
content_rule_of made i (Err r) = Err r

abbrev pub content_rule : ℕ → Typing → Typing
content_rule = content_rule_of refusal

-- 26 and 27: of two numbers, w is the type of what they make
unfoldable pub numbers_rule_of : {E : Type 0} → (Rule → ℕ → E) → ℕ → ℕ → Result Typed E
    → Result Typed E → Result Typed E
numbers_rule_of made w i (Ok x) (Ok y) =
    if x.type_word == number_type && y.type_word == number_type
    then typed w (x.effect ∪ y.effect) else
    fault_of made IllTyped i
numbers_rule_of made w i (Ok x) (Err r) = Err r
numbers_rule_of made w i (Err r) y = Err r

abbrev pub numbers_rule : ℕ → ℕ → Typing → Typing → Typing
numbers_rule = numbers_rule_of refusal

-- 28
unfoldable pub choose_rule_of : {E : Type 0} → (Rule → ℕ → E) → ℕ → Result Typed E → Result Typed E
    → Result Typed E → Result Typed E
choose_rule_of made i (Ok x) (Ok y) (Ok z) =
    if x.type_word == truth_type && y.type_word == number_type && z.type_word == number_type
    then typed number_type (x.effect ∪ y.effect ∪ z.effect) else
    fault_of made IllTyped i
choose_rule_of made i (Ok x) (Ok y) (Err r) = Err r
choose_rule_of made i (Ok x) (Err r) z = Err r
choose_rule_of made i (Err r) y z = Err r

abbrev pub choose_rule : ℕ → Typing → Typing → Typing → Typing
choose_rule = choose_rule_of refusal

-- the type of an expression, or the first fault in it
unfoldable pub type_in : List ℕ → List ℕ → Expr → Typing
type_in cells Γ (number i v) = typed number_type no_effect
type_in cells Γ (truth i v) = typed truth_type no_effect
type_in cells Γ (variable i s) = named_rule Γ s i
type_in cells Γ (shared i s) = named_rule cells s i
type_in cells Γ (new i s x) = new_rule s i (type_in cells Γ x)
type_in cells Γ (content i x) = content_rule i (type_in cells Γ x)
type_in cells Γ (sum i x y) = numbers_rule number_type i (type_in cells Γ x) (type_in cells Γ y)
type_in cells Γ (less i x y) = numbers_rule truth_type i (type_in cells Γ x) (type_in cells Γ y)
type_in cells Γ (choose i x y z) =
    choose_rule i (type_in cells Γ x) (type_in cells Γ y) (type_in cells Γ z)

-- ---- statements

-- what a list of arguments is: their types and their effect
pub record Listed : Type 0 where
  pub types : List ℕ
  pub effect : Effect

-- that, or the first fault in them
abbrev pub Argued : Type 0
Argued = Result Listed Refusal

abbrev pub listed : {E : Type 0} → List ℕ → Effect → Result Listed E
listed ts e = Ok (record { types = ts; effect = e })

-- an argument before others
unfoldable pub argue : {E : Type 0} → Result Typed E → Result Listed E → Result Listed E
argue (Ok x) (Ok ys) = listed (x.type_word ∷ ys.types) (x.effect ∪ ys.effect)
argue (Ok x) (Err r) = Err r
argue (Err r) ys = Err r

-- the types of arguments, or the first fault in them
unfoldable pub types_in : List ℕ → List ℕ → List Expr → Argued
types_in cells Γ [] = listed [] no_effect
types_in cells Γ (x ∷ xs) = argue (type_in cells Γ x) (types_in cells Γ xs)

-- at a scheduler; unlinked is 01's loose
abbrev pub is_linked : Standing → Bool
is_linked linked = true
is_linked unlinked = false

-- 13 and 14; `once` says whether it ends at once
unfoldable pub start_rule_of : {E : Type 0} → (Rule → ℕ → E) → Bool → List Signature → Standing → ℕ
    → ℕ → Result Listed E → Result Ending E
start_rule_of made once below at s i (Ok xs) =
    if nat_le (length below) s then fault_of made Unbound i else
    (if not (same_numbers xs.types (signature_at below s).types) then fault_of made IllTyped i else
    (if not (every public xs.types) then fault_of made Escaping i else
    (if not (is_linked at) then fault_of made WhileUnlinked i else
    ending (xs.effect ∪ (signature_at below s).effect) once)))
start_rule_of made once below at s i (Err r) = Err r

abbrev pub start_rule : Bool → List Signature → Standing → ℕ → ℕ → Argued → StatementEffect
start_rule = start_rule_of refusal

-- 15
unfoldable pub cooperate_rule : Standing → ℕ → StatementEffect
cooperate_rule linked i = ending no_effect false
cooperate_rule unlinked i = fault WhileUnlinked i

-- 11
unfoldable pub seq_rule : {E : Type 0} → Result Ending E → Result Ending E → Result Ending E
seq_rule (Ok p) (Ok q) = ending (p.effect ∪ q.effect) (p.at_once && q.at_once)
seq_rule (Ok p) (Err r) = Err r
seq_rule (Err r) q = Err r

-- whether a place allows an effect: `within` of the file's links, and of the labels that the code
-- keeps
abbrev pub EffectTest : Type 0
EffectTest = ℕ → Effect → Bool

-- 12
unfoldable pub do_rule_of : {E : Type 0} → (Rule → ℕ → E) → EffectTest → Standing → ℕ → ℕ
    → Result Ending E → Result Ending E
do_rule_of made allows at s i (Ok p) =
    if not (allows s p.effect) then fault_of made WrongEffect i else
    (if not (is_linked at) && s == private then fault_of made WhileUnlinked i else
    ending no_effect p.at_once)
do_rule_of made allows at s i (Err r) = Err r

abbrev pub do_rule : EffectTest → Standing → ℕ → ℕ → StatementEffect → StatementEffect
do_rule = do_rule_of refusal

-- 16: the effect of what the variable is, joined to the body's
unfoldable pub join_rule : {E : Type 0} → Effect → Result Ending E → Result Ending E
join_rule e (Ok p) = ending (e ∪ p.effect) p.at_once
join_rule e (Err r) = Err r

-- 16: the body is asked with the new variable
abbrev pub let_rule : (List ℕ → StatementEffect) → List ℕ → Typing → StatementEffect
let_rule body Γ (Ok x) = join_rule x.effect (body (Γ ++ (x.type_word ∷ [])))
let_rule body Γ (Err r) = Err r

-- 17
unfoldable pub store_rule_of : {E : Type 0} → (Rule → ℕ → E) → ℕ → Result Typed E → Result Typed E
    → Result Ending E
store_rule_of made i (Ok x) (Ok y) =
    if is_cell x.type_word && y.type_word == content_of x.type_word
    then ending (with_owner (owner_of x.type_word) (x.effect ∪ y.effect)) true else
    fault_of made IllTyped i
store_rule_of made i (Ok x) (Err r) = Err r
store_rule_of made i (Err r) y = Err r

abbrev pub store_rule : ℕ → Typing → Typing → StatementEffect
store_rule = store_rule_of refusal

-- 18
unfoldable pub if_else_rule_of : {E : Type 0} → (Rule → ℕ → E) → ℕ → Result Typed E
    → Result Ending E → Result Ending E → Result Ending E
if_else_rule_of made i (Ok x) (Ok p) (Ok q) =
    if x.type_word == truth_type
    then ending (x.effect ∪ p.effect ∪ q.effect) (p.at_once || q.at_once) else
    fault_of made IllTyped i
if_else_rule_of made i (Ok x) (Ok p) (Err r) = Err r
if_else_rule_of made i (Ok x) (Err r) q = Err r
if_else_rule_of made i (Err r) p q = Err r

abbrev pub if_else_rule : ℕ → Typing → StatementEffect → StatementEffect → StatementEffect
if_else_rule = if_else_rule_of refusal

-- 19
unfoldable pub while_rule_of : {E : Type 0} → (Rule → ℕ → E) → ℕ → Result Typed E → Result Ending E
    → Result Ending E
while_rule_of made i (Ok x) (Ok p) =
    if not (x.type_word == truth_type) then fault_of made IllTyped i else
    (if p.at_once then fault_of made InstantLoop i else
    ending (x.effect ∪ p.effect) true)
while_rule_of made i (Ok x) (Err r) = Err r
while_rule_of made i (Err r) p = Err r

abbrev pub while_rule : ℕ → Typing → StatementEffect → StatementEffect
while_rule = while_rule_of refusal

-- 1A and 1B: of an event of that owner, if the file has it
unfoldable pub signal_rule : Option ℕ → ℕ → StatementEffect
signal_rule (Some owner) i = ending (with_event owner no_effect) true
signal_rule None i = fault Unbound i

-- the event s, where the events have these owners
abbrev pub signal_of : List ℕ → ℕ → ℕ → StatementEffect
signal_of owners s i = signal_rule (slice_get owners s) i

-- what a statement is found to be, or the first fault in it
unfoldable pub effect_in : Setting → List Signature → List ℕ → Standing → Stmt → StatementEffect
effect_in env below Γ at (nothing i) = ending no_effect true
effect_in env below Γ at (cooperate i) = cooperate_rule at i
effect_in env below Γ at (seq i p q) =
    seq_rule (effect_in env below Γ at p) (effect_in env below Γ at q)
effect_in env below Γ at (do_at i s p) =
    do_rule (within env.links) at s i (effect_in env below Γ (standing_at s) p)
effect_in env below Γ at (start i s xs) =
    start_rule true below at s i (types_in env.cells Γ xs)
effect_in env below Γ at (start_wait i s xs) =
    start_rule false below at s i (types_in env.cells Γ xs)
effect_in env below Γ at (let_in i x p) =
    let_rule (λ Δ. effect_in env below Δ at p) Γ (type_in env.cells Γ x)
effect_in env below Γ at (store i x y) =
    store_rule i (type_in env.cells Γ x) (type_in env.cells Γ y)
effect_in env below Γ at (if_else i x p q) =
    if_else_rule i (type_in env.cells Γ x) (effect_in env below Γ at p) (effect_in env below Γ at q)
effect_in env below Γ at (while i x p) =
    while_rule i (type_in env.cells Γ x) (effect_in env below Γ at p)
effect_in env below Γ at (generate i s) = signal_of env.events s i
effect_in env below Γ at (await i s) = signal_of env.events s i

-- ---- modules

-- main is the last: its effect is within {2}
abbrev pub main_rule : EffectTest → ℕ → Effect → Verdict
main_rule allows i e = if allows home e then Accepted else Rejected WrongEffect i

-- module m was found to be so; `rest` gives the verdict on the later modules ms, from the
-- signatures before them
abbrev pub after_module : EffectTest → (List Signature → Verdict) → List Signature → Part
    → List Part → StatementEffect → Verdict
after_module allows rest below m [] (Ok p) = main_rule allows m.frame p.effect
after_module allows rest below m (n ∷ ms) (Ok p) = rest (below ++ (signature m p.effect ∷ []))
after_module allows rest below m ms (Err r) = Err r

-- the modules ms after modules with the signatures `below`
unfoldable pub modules_in : Setting → List Signature → List Part → Verdict
modules_in env below [] = Accepted
modules_in env below (m ∷ ms) =
    after_module (within env.links) (λ sigs. modules_in env sigs ms) below m ms
    (effect_in env below m.types linked m.body)

-- the first broken rule of a program
unfoldable pub rules_of : Program → Verdict
rules_of file = modules_in (setting_of file) [] file.modules
