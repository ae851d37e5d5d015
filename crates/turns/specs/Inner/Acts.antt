-- What a turn comes to, on the words of the thread and of the cells. No reader has to believe it:
-- crate stepper shows that a turn committed is the step of the rules. Assumes nothing: definitions.
use Rattle.std.specs.Prelude.{◌≡◌, List, [], ◌∷◌, Bool, true, false, ◌&&◌, ℕ, ◌+◌, ◌-◌, ◌<◌, ◌≤◌}
use Rattle.std.specs.Prelude.{ltb, leb, eqb, length, get_or, take}
use Rattle.basics.specs.If.{when◌then◌else◌}
use Rattle.language.specs.Places.{private, last_scheduler, is_place}
use Rattle.language.specs.declared.frame.Frame.{Frame}
use Rattle.language.specs.Limits.{most_variables, most_items}
use Rattle.language.specs.declared.refusal.Rule.{Rule}
use Rattle.text.specs.Frames.{frames_of}
use Rattle.program.specs.Trees.{Expr, Stmt, nothing, seq, do_at, start, start_wait, cooperate}
use Rattle.program.specs.Trees.{let_in}
use Rattle.program.specs.Trees.{store, if_else, while, root_s, statement_at}
use Rattle.program.specs.Trees.{generate, await}
use Rattle.program.specs.Inner.Ordered.{Ordered, Placed}
use Rattle.machine.specs.Offsets.{back_from, drop_word}
use Rattle.machine.specs.Words.{value_word}
use Rattle.machine.specs.declared.value.Value.{Value}
use Rattle.machine.specs.declared.value.Value.TheVariants.{Number, Truth, Cell}
use Rattle.machine.specs.declared.value.Outcome.{Outcome}
use Rattle.machine.specs.declared.value.Outcome.TheVariants.{Is, Foreign, Spent, Stuck}
use Rattle.operations.specs.declared.Who.{Who}
use Rattle.operations.specs.Inner.Lent.{lent_variables}
use Rattle.operations.specs.Inner.Results.{Result}
use Rattle.evaluator.specs.Inner.Results.{evaluated_by, stored_by, LentWords}
use Rattle.states.specs.declared.thread.ThreadWords.{ThreadWords}
use Rattle.states.specs.Inner.Stacks.{push_item, pop_item, push_value, pop_value, move_to, ended}
use Rattle.acts.specs.declared.act.Arguments.{Arguments}
use Rattle.acts.specs.declared.act.Transition.TheVariants.{Stays, Leaves, Joins, Starts}
use Rattle.acts.specs.declared.act.Transition.TheVariants.{Generates, Awaits}
use Rattle.acts.specs.Inner.Transitions.{arguments_of, TurnResult, acted_in, refused_in}
use Rattle.acts.specs.Inner.Transitions.{TurnAnswer, change_of, popped, turned, RoomFor}
use Rattle.turns.specs.declared.counts.Counts.{Counts}
use Rattle.turns.specs.declared.start.Request.{Request}

-- ---- the thread stays: with one item more, with two, with a variable and its body, with a
-- variable less

unfoldable pub one_in : ThreadWords → ℕ → ℕ → TurnResult
one_in th n a =
    when leb most_items th.items then refused_in Rule.Stuck th n else
    acted_in Stays (push_item a th) n

unfoldable pub two_in : ThreadWords → ℕ → ℕ → ℕ → TurnResult
two_in th n top below =
    when leb (most_items - 1) th.items then refused_in Rule.Stuck th n else
    acted_in Stays (push_item top (push_item below th)) n

unfoldable pub lets_in : ThreadWords → ℕ → ℕ → ℕ → TurnResult
lets_in th n v body =
    when leb most_variables th.values then refused_in Rule.Stuck th n else
    when leb (most_items - 1) th.items then refused_in Rule.Stuck th n else
    acted_in Stays (push_item body (push_item drop_word (push_value v th))) n

unfoldable pub drops_in : ThreadWords → ℕ → TurnResult
drops_in th n =
    when eqb th.values 0 then refused_in Rule.Stuck th n else acted_in Stays (pop_value th) n

-- ---- the thread goes to place q, from that one

unfoldable pub goes_in : ℕ → ThreadWords → ℕ → ℕ → TurnResult
goes_in from th n q =
    when eqb q from then acted_in Stays th n else
    when eqb q private then acted_in Leaves (move_to q th) n else
    acted_in (Joins (record { number = q })) (move_to q th) n

unfoldable pub does_in : ThreadWords → ℕ → ℕ → ℕ → TurnResult
does_in th n q body =
    when eqb th.place private && eqb q private then refused_in Rule.Stuck th n else
    when leb (most_items - 1) th.items then refused_in Rule.Stuck th n else
    goes_in th.place (push_item body (push_item (back_from + th.place) th)) n q

unfoldable pub cooperates_in : ThreadWords → ℕ → TurnResult
cooperates_in th n =
    when eqb th.place private then refused_in Rule.Stuck th n else
    acted_in (Joins (record { number = th.place })) th n

-- ---- after an evaluation

abbrev pub then_acts : Outcome → ThreadWords → ℕ → (Value → TurnResult) → TurnResult
then_acts (Is v) th n k = k v
then_acts Foreign th n k = refused_in Rule.Foreign th n
then_acts Spent th n k = refused_in Rule.CellsSpent th n
then_acts Stuck th n k = refused_in Rule.Stuck th n

abbrev pub by_truth_in : Value → ThreadWords → ℕ → TurnResult → TurnResult → TurnResult
by_truth_in (Truth true) th n a b = a
by_truth_in (Truth false) th n a b = b
by_truth_in (Number m) th n a b = refused_in Rule.Stuck th n
by_truth_in (Cell c) th n a b = refused_in Rule.Stuck th n

-- with the words of the cells
pub record TurnOutcome : Type 0 where
  pub acted : TurnResult
  pub cells : List ℕ

abbrev pub turn_outcome : TurnResult → List ℕ → TurnOutcome
turn_outcome a ws = record { acted = a; cells = ws }

-- the thread's variables
abbrev pub variables_in : ThreadWords → List ℕ
variables_in th = take th.values th.variables

abbrev pub evaluated_in : Who → ThreadWords → Expr → ℕ → List ℕ → Result
evaluated_in who th x n ws = evaluated_by who x (variables_in th) n ws

abbrev pub stored_in : Who → ThreadWords → Expr → Expr → ℕ → List ℕ → Result
stored_in who th x y n ws = stored_by who x y (variables_in th) n ws

abbrev pub lets_on : ThreadWords → ℕ → Result → TurnOutcome
lets_on th body r =
    turn_outcome
    (then_acts r.outcome th r.used (λ v. lets_in th r.used (value_word v) body))
    r.words

abbrev pub stores_on : ThreadWords → Result → TurnOutcome
stores_on th r =
    turn_outcome (then_acts r.outcome th r.used (λ v. acted_in Stays th r.used)) r.words

abbrev pub chooses_on : ThreadWords → ℕ → ℕ → Result → TurnOutcome
chooses_on th a b r =
    turn_outcome
    (then_acts r.outcome th r.used
    (λ v. by_truth_in v th r.used (one_in th r.used a) (one_in th r.used b)))
    r.words

abbrev pub loops_on : ThreadWords → ℕ → ℕ → Result → TurnOutcome
loops_on th body loop r =
    turn_outcome
    (then_acts r.outcome th r.used
    (λ v. by_truth_in v th r.used (two_in th r.used body loop) (acted_in Stays th r.used)))
    r.words

-- ---- a start with its arguments

abbrev pub starts_with : Request → ThreadWords → ℕ → Arguments → TurnResult
starts_with q th n args = acted_in (Starts q.waits q.target args) th n

abbrev pub one_argument : Request → ThreadWords → Result → TurnOutcome
one_argument q th r =
    turn_outcome
    (then_acts r.outcome th r.used
    (λ v. starts_with q th r.used (arguments_of 1 (value_word v) 0)))
    r.words

abbrev pub last_argument : Request → ThreadWords → ℕ → Result → TurnOutcome
last_argument q th first r =
    turn_outcome
    (then_acts r.outcome th r.used
    (λ v. starts_with q th r.used (arguments_of 2 first (value_word v))))
    r.words

-- after the first of two arguments
abbrev pub then_on : Outcome → ThreadWords → ℕ → List ℕ → (Value → TurnOutcome) → TurnOutcome
then_on (Is v) th n ws k = k v
then_on Foreign th n ws k = turn_outcome (refused_in Rule.Foreign th n) ws
then_on Spent th n ws k = turn_outcome (refused_in Rule.CellsSpent th n) ws
then_on Stuck th n ws k = turn_outcome (refused_in Rule.Stuck th n) ws

abbrev pub two_arguments : Who → Request → ThreadWords → Expr → Result → TurnOutcome
two_arguments who q th y r =
    then_on r.outcome th r.used r.words
    (λ v. last_argument q th (value_word v) (evaluated_in who th y r.used r.words))

abbrev pub start_turn : Who → Request → ThreadWords → ℕ → List ℕ → List Expr → TurnOutcome
start_turn who q th n ws [] = turn_outcome (starts_with q th n (arguments_of 0 0 0)) ws
start_turn who q th n ws (x ∷ []) = one_argument q th (evaluated_in who th x n ws)
start_turn who q th n ws (x ∷ y ∷ ys) = two_arguments who q th y (evaluated_in who th x n ws)

-- ---- the whole turn, from the top item on

abbrev pub request : Bool → ℕ → Request
request w m = record { waits = w; target = m }

abbrev pub statement_in : Who → ThreadWords → ℕ → List ℕ → Stmt → TurnOutcome
statement_in who th n ws (nothing i) = turn_outcome (acted_in Stays th n) ws
statement_in who th n ws (seq i a b) = turn_outcome (two_in th n (root_s a) (root_s b)) ws
statement_in who th n ws (do_at i q a) = turn_outcome (does_in th n q (root_s a)) ws
statement_in who th n ws (start i m xs) = start_turn who (request false m) th n ws xs
statement_in who th n ws (start_wait i m xs) = start_turn who (request true m) th n ws xs
statement_in who th n ws (cooperate i) = turn_outcome (cooperates_in th n) ws
statement_in who th n ws (let_in i x a) = lets_on th (root_s a) (evaluated_in who th x n ws)
statement_in who th n ws (store i x y) = stores_on th (stored_in who th x y n ws)
statement_in who th n ws (if_else i x a b) =
    chooses_on th (root_s a) (root_s b) (evaluated_in who th x n ws)
statement_in who th n ws (while i x a) = loops_on th (root_s a) i (evaluated_in who th x n ws)
statement_in who th n ws (generate i e) = turn_outcome (acted_in (Generates e) th n) ws
statement_in who th n ws (await i e) = turn_outcome (acted_in (Awaits e) th n) ws

-- the item that the word is, on top of a continuation that no longer has it
unfoldable pub item_in : List Frame → Who → ThreadWords → ℕ → List ℕ → ℕ → TurnOutcome
item_in fs who th n ws item =
    when ltb item back_from then statement_in who th n ws (statement_at fs item) else
    when ltb item drop_word then turn_outcome (goes_in th.place th n (item - back_from)) ws else
    turn_outcome (drops_in th n) ws

abbrev pub top_in : ThreadWords → ℕ
top_in th = get_or th.continuation (th.items - 1) 0

unfoldable pub turn_in : List Frame → Who → ThreadWords → ℕ → List ℕ → TurnOutcome
turn_in fs who th n ws =
    when eqb th.items 0 then turn_outcome (acted_in Leaves (ended th) n) ws else
    item_in fs who (pop_item th) n ws (top_in th)

-- ---- what an act is to a turn: it is that of every thread that looks so

-- a thread of which a turn sees where it stands, how many items it has and how many variables
pub record Seen (who : Who) (counts : Counts) (th : ThreadWords) : Type 0 where
  pub place : th.place ≡ who.place.number
  pub items : th.items ≡ counts.items
  pub variables : th.values ≡ counts.variables

-- the act a, its change made in such a thread of those variables, without the word on top of its
-- continuation, is with m cells in use and their words us that turn; and there is room for the
-- change
pub record WholeTurn (a : TurnAnswer) (m : ℕ) (us : List ℕ) (who : Who) (counts : Counts) (item : ℕ)
    (vs : List ℕ) (f : ThreadWords → TurnOutcome) : Type 0 where
  pub thread : (th : ThreadWords) → Seen who counts th → variables_in th ≡ vs → top_in th ≡ item
      → turn_outcome (turned a m (popped th)) us ≡ f th
  pub room : RoomFor (change_of a) (counts.items - 1) counts.variables

-- ---- what a caller has to show: words of a state that is not refused with 14, and frames that
-- pass refusals 5 and 6

pub record TurnWords (frames : List ℕ) (who : Who) (counts : Counts) (w : List ℕ) : Type 0 where
  pub ordered : Ordered (frames_of frames)
  pub placed : Placed (frames_of frames)
  pub place : who.place.number ≤ last_scheduler
  pub items : counts.items ≤ most_items
  pub count : length (lent_variables who w) ≡ counts.variables
  pub state : LentWords who w

-- and a word of an item: the statement's frame is there, and so is the place of a way back
pub record ItemWord (frames : List ℕ) (item : ℕ) : Type 0 where
  pub statement : item < back_from → item < length frames
  pub back : back_from ≤ item → item < drop_word → is_place (item - back_from) ≡ true
