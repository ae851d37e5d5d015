-- What a turn comes to, made of its parts, and the thread that it leaves. No reader has to believe
-- it: crate stepper shows that a turn committed is the step of the rules. Assumes nothing:
-- definitions.
use Rattle.std.specs.Prelude.{ℕ, ◌+◌, ◌-◌, ◌<◌, eqb, Result, Ok, Err}
use Rattle.basics.specs.If.{when◌then◌else◌}
use Rattle.language.specs.Limits.{most_variables, most_items}
use Rattle.language.specs.declared.refusal.Rule.{Rule}
use Rattle.machine.specs.Offsets.{back_from, drop_word}
use Rattle.states.specs.declared.thread.ThreadWords.{ThreadWords}
use Rattle.states.specs.Inner.Stacks.{push_item, pop_item, push_value, pop_value, move_to, ended}
use Rattle.acts.specs.declared.act.Arguments.{Arguments}
use Rattle.acts.specs.declared.act.Transition.{Transition}
use Rattle.acts.specs.declared.act.Change.{Change}
use Rattle.acts.specs.declared.act.Change.TheVariants.{Same, Item, Items, Let, Drop, Move}
use Rattle.acts.specs.declared.act.Change.TheVariants.{Enter, End}
use Rattle.acts.specs.declared.act.Action.{Action}

abbrev pub arguments_of : ℕ → ℕ → ℕ → Arguments
arguments_of n first second = record { count = n; first = first; second = second }

-- an action, or the rule that refuses the turn
abbrev pub TurnAnswer : Type 0
TurnAnswer = Result Action Rule

-- what goes on where nothing has refused: `?`
abbrev pub turn_and_then : {A B : Type 0} → Result A Rule → (A → Result B Rule) → Result B Rule
turn_and_then (Ok x) k = k x
turn_and_then (Err r) k = Err r

abbrev pub action : Transition → Change → TurnAnswer
action f c = Ok (record { transition = f; change = c })

-- ---- the same with the thread after the turn in place of the change, and how many cells are in
-- use after it

pub record TurnResult : Type 0 where
  pub transition : Result Transition Rule
  pub thread : ThreadWords
  pub used : ℕ

abbrev pub acted_in : Transition → ThreadWords → ℕ → TurnResult
acted_in f th n = record { transition = Ok f; thread = th; used = n }

abbrev pub refused_in : Rule → ThreadWords → ℕ → TurnResult
refused_in r th n = record { transition = Err r; thread = th; used = n }

-- a thread without its top item; one without any stays
unfoldable pub popped : ThreadWords → ThreadWords
popped th = when eqb th.items 0 then th else pop_item th

-- the change made in such a thread
abbrev pub changed : Change → ThreadWords → ThreadWords
changed Same th = th
changed (Item a) th = push_item a th
changed (Items top below) th = push_item top (push_item below th)
changed (Let value body) th = push_item body (push_item drop_word (push_value value th))
changed Drop th = pop_value th
changed (Move q) th = move_to q.number th
changed (Enter q body) th = move_to q.number (push_item body (push_item (back_from + th.place) th))
changed End th = ended th

-- a refused turn changes nothing
abbrev pub change_of : TurnAnswer → Change
change_of (Ok a) = a.change
change_of (Err r) = Same

abbrev pub transition_of : TurnAnswer → Result Transition Rule
transition_of (Ok a) = Ok a.transition
transition_of (Err r) = Err r

abbrev pub turned : TurnAnswer → ℕ → ThreadWords → TurnResult
turned a n th =
    record { transition = transition_of a; thread = changed (change_of a) th; used = n }

-- so many items and variables leave room for the change, or there is a variable to drop
abbrev pub RoomFor : Change → ℕ → ℕ → Type 0
RoomFor Same items values = Unit {0}
RoomFor (Item a) items values = items < most_items
RoomFor (Items top below) items values = items < most_items - 1
RoomFor (Let value body) items values = (items < most_items - 1) × (values < most_variables)
RoomFor Drop items values = 0 < values
RoomFor (Move q) items values = Unit {0}
RoomFor (Enter q body) items values = items < most_items - 1
RoomFor End items values = Unit {0}
