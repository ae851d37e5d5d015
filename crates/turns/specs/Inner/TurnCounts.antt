-- How many accesses a turn makes: those of its evaluations. No reader has to believe it: crate
-- stepper shows that they are as many as the rules list. Assumes nothing: definitions.
use Rattle.std.specs.Prelude.{List, [], ◌∷◌, ℕ, ◌+◌, ltb, eqb, length}
use Rattle.basics.specs.If.{when◌then◌else◌}
use Rattle.language.specs.declared.frame.Frame.{Frame}
use Rattle.program.specs.Trees.{Expr, Stmt, nothing, seq, do_at, start, start_wait, cooperate}
use Rattle.program.specs.Trees.{let_in}
use Rattle.program.specs.Trees.{store, if_else, while, statement_at}
use Rattle.program.specs.Trees.{generate, await}
use Rattle.machine.specs.Offsets.{back_from}
use Rattle.machine.specs.Evaluation.{eval, storing}
use Rattle.machine.specs.declared.value.Outcome.{Outcome}
use Rattle.machine.specs.declared.value.Outcome.TheVariants.{Is, Foreign, Spent, Stuck}
use Rattle.operations.specs.declared.Who.{Who}
use Rattle.evaluator.specs.Inner.Results.{here_of, cells_from, evaluated_by}

-- of one expression, with those variables, on the first n words of cells; and of 17
abbrev pub eval_count : Who → Expr → List ℕ → ℕ → List ℕ → ℕ
eval_count who x vs n ws = length (eval (here_of who vs) x (cells_from n ws)).accesses

abbrev pub store_count : Who → Expr → Expr → List ℕ → ℕ → List ℕ → ℕ
store_count who x y vs n ws = length (storing (here_of who vs) x y (cells_from n ws)).accesses

-- the second argument is evaluated only where the first gives a value
abbrev pub second_count : Outcome → ℕ → ℕ
second_count (Is v) k = k
second_count Foreign k = 0
second_count Spent k = 0
second_count Stuck k = 0

abbrev pub start_count : Who → List Expr → List ℕ → ℕ → List ℕ → ℕ
start_count who [] vs n ws = 0
start_count who (x ∷ []) vs n ws = eval_count who x vs n ws
start_count who (x ∷ y ∷ ys) vs n ws =
    let r = evaluated_by who x vs n ws in
    eval_count who x vs n ws + second_count r.outcome (eval_count who y vs r.used r.words)

abbrev pub statement_count : Who → Stmt → List ℕ → ℕ → List ℕ → ℕ
statement_count who (nothing i) vs n ws = 0
statement_count who (seq i a b) vs n ws = 0
statement_count who (do_at i q a) vs n ws = 0
statement_count who (start i m xs) vs n ws = start_count who xs vs n ws
statement_count who (start_wait i m xs) vs n ws = start_count who xs vs n ws
statement_count who (cooperate i) vs n ws = 0
statement_count who (let_in i x a) vs n ws = eval_count who x vs n ws
statement_count who (store i x y) vs n ws = store_count who x y vs n ws
statement_count who (if_else i x a b) vs n ws = eval_count who x vs n ws
statement_count who (while i x a) vs n ws = eval_count who x vs n ws
statement_count who (generate i e) vs n ws = 0
statement_count who (await i e) vs n ws = 0

-- of the top item's word
unfoldable pub item_count : List Frame → Who → ℕ → List ℕ → ℕ → List ℕ → ℕ
item_count fs who item vs n ws =
    when ltb item back_from then statement_count who (statement_at fs item) vs n ws else 0

-- of the turn of a thread with so many items
unfoldable pub turn_count : List Frame → Who → ℕ → ℕ → List ℕ → ℕ → List ℕ → ℕ
turn_count fs who items item vs n ws =
    when eqb items 0 then 0 else item_count fs who item vs n ws
