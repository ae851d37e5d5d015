-- The act of a turn, from what it sees of its thread: what the contracts of the code cite. No
-- reader has to believe it: made in a thread that looks so, the act is the turn of Acts
-- (proofs/TurnLaws). Assumes nothing: definitions.
use Rattle.std.specs.Prelude.{Result, Ok, Err, List, [], ◌∷◌, Bool, true, false, ◌&&◌, ℕ, ◌+◌, ◌-◌}
use Rattle.std.specs.Prelude.{ltb, leb, eqb}
use Rattle.basics.specs.If.{when◌then◌else◌}
use Rattle.language.specs.Places.{private}
use Rattle.language.specs.declared.Place.{Place}
use Rattle.language.specs.declared.frame.Frame.{Frame}
use Rattle.language.specs.Limits.{most_variables, most_items}
use Rattle.language.specs.declared.refusal.Rule.{Rule}
use Rattle.program.specs.Trees.{Expr, Stmt, nothing, seq, do_at, start, start_wait, cooperate}
use Rattle.program.specs.Trees.{let_in}
use Rattle.program.specs.Trees.{store, if_else, while, root_s, statement_at}
use Rattle.program.specs.Trees.{generate, await}
use Rattle.machine.specs.Offsets.{back_from, drop_word}
use Rattle.machine.specs.Words.{value_word}
use Rattle.machine.specs.declared.value.Value.{Value}
use Rattle.machine.specs.declared.value.Value.TheVariants.{Number, Truth, Cell}
use Rattle.machine.specs.declared.value.Outcome.{Outcome}
use Rattle.machine.specs.declared.value.Outcome.TheVariants.{Is, Foreign, Spent, Stuck}
use Rattle.operations.specs.declared.Who.{Who}
use Rattle.operations.specs.Inner.Lent.{lent_count, lent_cells}
use Rattle.operations.specs.Inner.Results.{Result as Evaluated}
use Rattle.evaluator.specs.Inner.Results.{evaluated_on, stored_on}
use Rattle.acts.specs.declared.act.Arguments.{Arguments}
use Rattle.acts.specs.declared.act.Transition.TheVariants.{Stays, Leaves, Joins, Starts}
use Rattle.acts.specs.declared.act.Transition.TheVariants.{Generates, Awaits}
use Rattle.acts.specs.declared.act.Change.{Change}
use Rattle.acts.specs.declared.act.Change.TheVariants.{Same, Item, Items, Let, Drop, Move, Enter}
use Rattle.acts.specs.declared.act.Change.TheVariants.{End}
use Rattle.acts.specs.Inner.Transitions.{TurnAnswer, turn_and_then, arguments_of, action}
use Rattle.turns.specs.declared.counts.Counts.{Counts}
use Rattle.turns.specs.declared.start.Request.{Request}
use Rattle.turns.specs.Inner.Acts.{request}

abbrev pub place_at : ℕ → Place
place_at q = record { number = q }

-- ---- the thread stays: one item more, two, a variable with its body, a variable less. Full is 20

unfoldable pub one_more : Counts → ℕ → TurnAnswer
one_more counts item =
    when leb most_items counts.items then Err Rule.Stuck else
    action Stays (Item item)

unfoldable pub two_more : Counts → ℕ → ℕ → TurnAnswer
two_more counts top below =
    when leb (most_items - 1) counts.items then Err Rule.Stuck else
    action Stays (Items top below)

unfoldable pub let_more : Counts → ℕ → ℕ → TurnAnswer
let_more counts x body =
    when leb most_variables counts.variables then Err Rule.Stuck else
    when leb (most_items - 1) counts.items then Err Rule.Stuck else
    action Stays (Let x body)

unfoldable pub drop_one : Counts → TurnAnswer
drop_one counts =
    when eqb counts.variables 0 then Err Rule.Stuck else
    action Stays Drop

-- ---- the thread goes to place q: a move to one's own place is none

-- from that place, with the one change or the other
unfoldable pub go_to_act : Place → Place → Change → Change → TurnAnswer
go_to_act from q same moved =
    when eqb q.number from.number then action Stays same else
    when eqb q.number private then action Leaves moved else
    action (Joins q) moved

abbrev pub go_back : Place → Place → TurnAnswer
go_back from q = go_to_act from q Same (Move q)

-- unlinked already
abbrev pub unlinked_again : Place → Place → Bool
unlinked_again from q = eqb from.number private && eqb q.number private

-- the body above 'back to here'
unfoldable pub do_there : Place → Counts → Place → ℕ → TurnAnswer
do_there from counts q body =
    when unlinked_again from q then Err Rule.Stuck else
    when leb (most_items - 1) counts.items then Err Rule.Stuck else
    go_to_act from q (Items body (back_from + from.number)) (Enter q body)

-- to the end of the next list
unfoldable pub cooperation : Place → TurnAnswer
cooperation place =
    when eqb place.number private then Err Rule.Stuck else
    action (Joins place) Same

-- ---- after an evaluation: its refusal stands, or its value decides

abbrev pub value_of : Outcome → Result Value Rule
value_of (Is x) = Ok x
value_of Foreign = Err Rule.Foreign
value_of Spent = Err Rule.CellsSpent
value_of Stuck = Err Rule.Stuck

unfoldable pub after_value : Outcome → (Value → TurnAnswer) → TurnAnswer
after_value o k = turn_and_then (value_of o) k

-- a condition that is no truth is 20
abbrev pub truth_or_stuck : Value → Result Bool Rule
truth_or_stuck (Truth t) = Ok t
truth_or_stuck (Number m) = Err Rule.Stuck
truth_or_stuck (Cell c) = Err Rule.Stuck

abbrev pub by_truth_act : Result Bool Rule → TurnAnswer → TurnAnswer → TurnAnswer
by_truth_act (Ok true) a b = a
by_truth_act (Ok false) a b = b
by_truth_act (Err r) a b = Err r

-- 16, 17, 18 and 19
abbrev pub let_after : Counts → ℕ → Value → TurnAnswer
let_after counts body x = let_more counts (value_word x) body

abbrev pub store_after : Value → TurnAnswer
store_after x = action Stays Same

abbrev pub choose_after : Counts → ℕ → ℕ → Value → TurnAnswer
choose_after counts a b x = by_truth_act (truth_or_stuck x) (one_more counts a) (one_more counts b)

abbrev pub loop_after : Counts → ℕ → ℕ → Value → TurnAnswer
loop_after counts body again x =
    by_truth_act (truth_or_stuck x) (two_more counts body again) (action Stays Same)

-- a start with its arguments
abbrev pub start_with : Request → Arguments → TurnAnswer
start_with q args = action (Starts q.waits q.target args) Same

abbrev pub start_one : Request → Value → TurnAnswer
start_one q x = start_with q (arguments_of 1 (value_word x) 0)

abbrev pub start_two : Request → ℕ → Value → TurnAnswer
start_two q first y = start_with q (arguments_of 2 first (value_word y))

-- ---- with how many cells are in use after it, and the words of the cells

pub record ActResult : Type 0 where
  pub acted : TurnAnswer
  pub used : ℕ
  pub cells : List ℕ

abbrev pub act_result : TurnAnswer → ℕ → List ℕ → ActResult
act_result a n ws = record { acted = a; used = n; cells = ws }

-- an act beside the words of a state
abbrev pub act_in : TurnAnswer → List ℕ → ActResult
act_in a w = act_result a (lent_count w) (lent_cells w)

-- the act after an evaluation, on the cells that it leaves
abbrev pub act_after : Evaluated → (Value → TurnAnswer) → ActResult
act_after r k = act_result (after_value r.outcome k) r.used r.words

-- after the first of two arguments
abbrev pub first_then : Result Value Rule → ℕ → List ℕ → (Value → ActResult) → ActResult
first_then (Ok x) n ws k = k x
first_then (Err r) n ws k = act_result (Err r) n ws

abbrev pub both_arguments : Who → Request → List ℕ → Expr → Evaluated → ActResult
both_arguments who q vs y r =
    first_then (value_of r.outcome) r.used r.words
    (λ x. act_after (evaluated_on who y vs r.used r.words) (start_two q (value_word x)))

abbrev pub start_act : Who → Request → List Expr → List ℕ → ℕ → List ℕ → ActResult
start_act who q [] vs n ws = act_result (start_with q (arguments_of 0 0 0)) n ws
start_act who q (x ∷ []) vs n ws = act_after (evaluated_on who x vs n ws) (start_one q)
start_act who q (x ∷ y ∷ ys) vs n ws = both_arguments who q vs y (evaluated_on who x vs n ws)

-- ---- the whole turn, from the top item on

abbrev pub statement_act : Who → Counts → Stmt → List ℕ → ℕ → List ℕ → ActResult
statement_act who counts (nothing i) vs n ws = act_result (action Stays Same) n ws
statement_act who counts (seq i a b) vs n ws = act_result (two_more counts (root_s a) (root_s b)) n ws
statement_act who counts (do_at i q a) vs n ws =
    act_result (do_there who.place counts (place_at q) (root_s a)) n ws
statement_act who counts (start i m xs) vs n ws = start_act who (request false m) xs vs n ws
statement_act who counts (start_wait i m xs) vs n ws = start_act who (request true m) xs vs n ws
statement_act who counts (cooperate i) vs n ws = act_result (cooperation who.place) n ws
statement_act who counts (let_in i x a) vs n ws =
    act_after (evaluated_on who x vs n ws) (let_after counts (root_s a))
statement_act who counts (store i x y) vs n ws = act_after (stored_on who x y vs n ws) store_after
statement_act who counts (if_else i x a b) vs n ws =
    act_after (evaluated_on who x vs n ws) (choose_after counts (root_s a) (root_s b))
statement_act who counts (while i x a) vs n ws =
    act_after (evaluated_on who x vs n ws) (loop_after counts (root_s a) i)
statement_act who counts (generate i e) vs n ws = act_result (action (Generates e) Same) n ws
statement_act who counts (await i e) vs n ws = act_result (action (Awaits e) Same) n ws

-- the item that the word is; the counts are without it
unfoldable pub item_act : List Frame → Who → Counts → ℕ → List ℕ → ℕ → List ℕ → ActResult
item_act fs who counts item vs n ws =
    when ltb item back_from then statement_act who counts (statement_at fs item) vs n ws else
    when ltb item drop_word then act_result (go_back who.place (place_at (item - back_from))) n ws else
    act_result (drop_one counts) n ws

-- without the top item
abbrev pub below : Counts → Counts
below counts = record { items = counts.items - 1; variables = counts.variables }

-- a thread without an item ends
unfoldable pub turn_act : List Frame → Who → Counts → ℕ → List ℕ → ℕ → List ℕ → ActResult
turn_act fs who counts item vs n ws =
    when eqb counts.items 0 then act_result (action Leaves End) n ws else
    item_act fs who (below counts) item vs n ws
