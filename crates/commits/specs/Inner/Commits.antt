-- A turn committed, on words. No reader has to believe it: crate stepper shows that it is the step
-- of the rules. Assumes nothing: definitions.
use Rattle.std.specs.Prelude.{◌≡◌, Option, Some, None, Result, Ok, Err, ok_or, List, [], ◌∷◌, Bool}
use Rattle.std.specs.Prelude.{true, false, ◌&&◌, ◌||◌, not, ℕ, ◌+◌, ◌-◌, ◌*◌, ◌<◌, ◌≤◌, leb, eqb}
use Rattle.std.specs.Prelude.{length, get_or, set, replicate}
use Rattle.basics.specs.If.{when◌then◌else◌}
use Rattle.language.specs.Places.{private, home, is_place, is_scheduler}
use Rattle.language.specs.declared.Place.{Place}
use Rattle.language.specs.declared.group.Schedulers.{Schedulers}
use Rattle.language.specs.Limits.{most_variables, most_threads, most_cells, most_items, most_events}
use Rattle.language.specs.Limits.{most_schedulers}
use Rattle.language.specs.Refusals.{rule_number}
use Rattle.language.specs.declared.refusal.Rule.{Rule}
use Rattle.program.specs.Programs.{Program}
use Rattle.machine.specs.Inner.Blocks.{pasted, padded}
use Rattle.states.specs.declared.thread.ThreadWords.{ThreadWords}
use Rattle.states.specs.Inner.Threads.{thread_in, put_thread, with_one_more}
use Rattle.lists.specs.Inner.Lists.{without_first, with_last, ListsFit}
use Rattle.groups.specs.Inner.Members.{members_in, room_on_each, woken_on, Each, HasRoomOn}
use Rattle.language.specs.Inner.Labels.{same_label, in_group}
use Rattle.acts.specs.declared.act.Arguments.{Arguments}
use Rattle.acts.specs.declared.act.Transition.{Transition}
use Rattle.acts.specs.declared.act.Transition.TheVariants.{Stays, Leaves, Joins, Starts}
use Rattle.acts.specs.declared.act.Transition.TheVariants.{Generates, Awaits}
use Rattle.acts.specs.declared.act.Change.{Change}
use Rattle.acts.specs.declared.act.Change.TheVariants.{Same, Item, Items, Let, Drop, Move, Enter}
use Rattle.acts.specs.declared.act.Change.TheVariants.{End}
use Rattle.acts.specs.declared.act.Action.{Action}
use Rattle.acts.specs.Inner.Transitions.{TurnAnswer, change_of, turn_and_then, TurnResult, popped}
use Rattle.acts.specs.Inner.Transitions.{turned, RoomFor}
use Rattle.program.specs.declared.module.Module.{Module}
use Rattle.program.specs.Inner.Modules.{found_in}
use Rattle.program.specs.Inner.Events.{event_in}
use Rattle.commits.specs.declared.decision.Passed.{Passed}
use Rattle.commits.specs.declared.decision.Passed.TheVariants.{Keep, Leave, Join, Start, Wake}
use Rattle.commits.specs.declared.decision.Decision.{Decision}
use Rattle.commits.specs.declared.decision.Decision.TheVariants.{Settle, Suspend}
use Rattle.machine.specs.Offsets.{state_length, thread_count_at, cell_count_at, scheduler_length}
use Rattle.machine.specs.Offsets.{next_list_at, events_at, cells_at, waiting_factor}
use Rattle.machine.specs.Offsets.{awaiting_from}

-- how many cells are in use
abbrev pub count_in : List ℕ → ℕ
count_in w = get_or w cell_count_at 0

-- ---- the single changes

-- a refusal takes back the cells made: their words are 0, and as many are in use as before
unfoldable pub cleared_in : List ℕ → ℕ → List ℕ
cleared_in w before =
    set (pasted w (cells_at + before) (replicate (count_in w - before) 0) (count_in w - before))
    cell_count_at before

unfoldable pub settled_in : List ℕ → ℕ → ThreadWords → List ℕ
settled_in w k th = put_thread w k th

unfoldable pub left_in : List ℕ → ℕ → List ℕ
left_in w c = when is_scheduler c then without_first w (c - home) else w

unfoldable pub room_in : List ℕ → ℕ → ℕ → Bool
room_in w q more =
    is_scheduler q
    && leb (get_or w (next_list_at + scheduler_length * (q - home)) 0 + more) most_threads

unfoldable pub joined_in : List ℕ → ℕ → ℕ → List ℕ
joined_in w q e = when is_scheduler q then with_last w (q - home) e else w

-- the rule that stands in the way, or nothing
abbrev pub Obstacle : Type 0
Obstacle = Result (Unit {0}) Rule

-- its number, 0 where nothing does
abbrev pub obstacle_number : Obstacle → ℕ
obstacle_number (Ok _) = 0
obstacle_number (Err r) = rule_number r

-- what it refuses, or what goes on
abbrev pub unless : {A : Type 0} → Obstacle → (Rule → A) → A → A
unless (Ok _) refuse go = go
unless (Err r) refuse go = refuse r

-- what a commit gives: the number of the answer, the acting thread, and the words after it
pub record Committed : Type 0 where
  pub answer : ℕ
  pub thread : ℕ
  pub words : List ℕ

abbrev pub committed : ℕ → ℕ → List ℕ → Committed
committed n t w = record { answer = n; thread = t; words = w }

-- ---- each transition, of thread t at choice c, where `before` cells were in use

abbrev pub refuses_in : List ℕ → ℕ → ℕ → Rule → Committed
refuses_in w before t r = committed (rule_number r) t (cleared_in w before)

abbrev pub stays_in : List ℕ → ℕ → TurnResult → List ℕ
stays_in w t a = settled_in w (t - 1) a.thread

abbrev pub leaves_in : List ℕ → ℕ → ℕ → TurnResult → List ℕ
leaves_in w c t a = left_in (stays_in w t a) c

unfoldable pub joins_in : List ℕ → ℕ → ℕ → ℕ → TurnResult → ℕ → Committed
joins_in w before c t a q =
    when room_in w q 1
    then committed 0 t (joined_in (leaves_in w c t a) q t)
    else refuses_in w before t Rule.Stuck

-- the new thread, at that place, with so many arguments
abbrev pub new_thread_words : ℕ → ℕ → ℕ → ℕ → ℕ → ℕ → ThreadWords
new_thread_words place given first second t body =
    record {
      place = place;
      starter = t;
      alive = 1;
      items = 1;
      continuation = padded most_items (body ∷ []);
      values = given;
      variables = padded most_variables (first ∷ second ∷ []);
    }

abbrev pub new_in : TurnResult → Arguments → ℕ → ℕ → ThreadWords
new_in a args t body =
    new_thread_words a.thread.place args.count args.first args.second t body

-- a start that does not fit is 20, a 65th thread 18
unfoldable pub obstacle_in : List ℕ → Module → ℕ → ℕ → Obstacle
obstacle_in w x place given =
    when eqb place private then Err Rule.Stuck else
    when not (eqb x.parameters given) then Err Rule.Stuck else
    when not (room_in w place 1) then Err Rule.Stuck else
    when leb most_threads (get_or w thread_count_at 0) then Err Rule.ThreadsSpent else
    Ok tt

abbrev pub started_in : List ℕ → ℕ → TurnResult → Arguments → ℕ → List ℕ
started_in w t a args body =
    joined_in (with_one_more (stays_in w t a) (new_in a args t body)) a.thread.place
    (get_or w thread_count_at 0 + 1)

abbrev pub waiting_in : List ℕ → ℕ → ℕ → TurnResult → Arguments → ℕ → List ℕ
waiting_in w c t a args body =
    joined_in (joined_in (with_one_more (leaves_in w c t a) (new_in a args t body)) a.thread.place
    (get_or w thread_count_at 0 + 1)) a.thread.place
    (waiting_factor * (get_or w thread_count_at 0 + 1) + t)

-- of the module so found; one that is not there is 20
abbrev pub starts_found : List ℕ → ℕ → ℕ → ℕ → TurnResult → Bool → Arguments → Option Module
    → Committed
starts_found w before c t a waits args None = refuses_in w before t Rule.Stuck
starts_found w before c t a waits args (Some x) =
    unless (obstacle_in w x a.thread.place args.count) (refuses_in w before t)
    (when not waits then committed 0 t (started_in w t a args x.body) else
    when not (room_in w a.thread.place 2) then refuses_in w before t Rule.Stuck else
    committed 0 t (waiting_in w c t a args x.body))

unfoldable pub starts_in : Program → List ℕ → ℕ → ℕ → ℕ → TurnResult → Bool → ℕ → Arguments
    → Committed
starts_in p w before c t a waits m args = starts_found w before c t a waits args (found_in p m)

-- ---- events

-- the members of q's group
abbrev pub members_by : Schedulers → ℕ → List ℕ
members_by g q = members_in g.labels g.count q

-- a thread at that place stands on a scheduler in step with the event's owner
abbrev pub owns_event : Schedulers → ℕ → ℕ → Bool
owns_event g place owner = is_scheduler place && in_group g.labels place owner

-- those that await event e have room in the active list of each member of the owner's group; only a
-- scheduler has one
unfoldable pub wake_room_in : Schedulers → List ℕ → ℕ → ℕ → Bool
wake_room_in g w owner e = is_scheduler owner && room_on_each (members_by g owner) e w

-- event e is present
abbrev pub present_in : List ℕ → ℕ → Bool
present_in w e = eqb (get_or w (events_at + e) 0) 1

-- an await of event e at that place has room: of a present event none is needed, and a thread on no
-- scheduler has no list
abbrev pub await_room_in : List ℕ → ℕ → ℕ → Bool
await_room_in w place e = present_in w e || eqb place private || room_in w place 1

-- what stands in the way of a generation or an await of an event of that owner, at that place: a
-- list without room is 20, another's event is 19
unfoldable pub signal_obstacle : Schedulers → Bool → ℕ → ℕ → Obstacle
signal_obstacle g room owner place =
    when not room then Err Rule.Stuck else
    when not (owns_event g place owner) then Err Rule.Foreign else
    Ok tt

-- of the event so found; one that is not there is 20
abbrev pub generate_obstacle : Schedulers → List ℕ → Option ℕ → ℕ → ℕ → Obstacle
generate_obstacle g w None place e = Err Rule.Stuck
generate_obstacle g w (Some owner) place e =
    signal_obstacle g (wake_room_in g w owner e) owner place

abbrev pub await_obstacle : Schedulers → List ℕ → Option ℕ → ℕ → ℕ → Obstacle
await_obstacle g w None place e = Err Rule.Stuck
await_obstacle g w (Some owner) place e =
    signal_obstacle g (await_room_in w place e) owner place

-- event e is present, and who awaits it on a member of q's group is active
unfoldable pub generated_in : Schedulers → List ℕ → ℕ → ℕ → List ℕ
generated_in g w q e = set (woken_on (members_by g q) e w) (events_at + e) 1

unfoldable pub generates_in : Program → Schedulers → List ℕ → ℕ → ℕ → TurnResult → ℕ → Committed
generates_in p g w before t a e =
    unless (generate_obstacle g w (event_in p e) a.thread.place e) (refuses_in w before t)
    (committed 0 t (generated_in g (stays_in w t a) a.thread.place e))

-- thread t awaits event e on scheduler q, its own words as they were
unfoldable pub awaiting_in : List ℕ → ℕ → ℕ → ℕ → ℕ → List ℕ
awaiting_in w c t q e = joined_in (left_in w c) q (awaiting_from + waiting_factor * e + t)

unfoldable pub awaits_in : Program → Schedulers → List ℕ → ℕ → ℕ → ℕ → TurnResult → ℕ → Committed
awaits_in p g w before c t a e =
    unless (await_obstacle g w (event_in p e) a.thread.place e) (refuses_in w before t)
    (when present_in w e then committed 0 t (stays_in w t a) else
    committed 0 t (awaiting_in w c t a.thread.place e))

abbrev pub committed_in : Program → Schedulers → List ℕ → ℕ → ℕ → ℕ → TurnResult
    → Result Transition Rule → Committed
committed_in p g w before c t a (Err r) = refuses_in w before t r
committed_in p g w before c t a (Ok Stays) = committed 0 t (stays_in w t a)
committed_in p g w before c t a (Ok Leaves) = committed 0 t (leaves_in w c t a)
committed_in p g w before c t a (Ok (Joins q)) = joins_in w before c t a q.number
committed_in p g w before c t a (Ok (Starts waits m args)) = starts_in p w before c t a waits m args
committed_in p g w before c t a (Ok (Generates e)) = generates_in p g w before t a e
committed_in p g w before c t a (Ok (Awaits e)) = awaits_in p g w before c t a e

-- ---- the act as it is committed

-- where a thread that stands at p stands after the change
abbrev pub place_after : Change → Place → Place
place_after Same p = p
place_after (Item a) p = p
place_after (Items top below) p = p
place_after (Let value body) p = p
place_after Drop p = p
place_after (Move q) p = q
place_after (Enter q body) p = q
place_after End p = p

-- what thread t's turn comes to on those words
abbrev pub turn_result_in : List ℕ → ℕ → TurnAnswer → TurnResult
turn_result_in w t turn = turned turn (count_in w) (popped (thread_in w (t - 1)))

abbrev pub turn_committed_in : Program → Schedulers → List ℕ → ℕ → ℕ → ℕ → TurnAnswer → Committed
turn_committed_in p g w before c t turn =
    let a = turn_result_in w t turn in committed_in p g w before c t a a.transition

-- ---- a turn whose refusal has any number. Where it is a rule with its number, these are
-- `change_of`, `obstacle_number` and `turn_committed_in` (proofs/CommitLaws, `any_turn_is`)

-- what it changes
abbrev pub any_change : {E : Type 0} → Result Action E → Change
any_change (Ok a) = a.change
any_change (Err r) = Same

-- what the answer is, 0 where nothing is refused
abbrev pub number_refused : {E : Type 0} → (E → ℕ) → Result (Unit {0}) E → ℕ
number_refused number (Ok _) = 0
number_refused number (Err r) = number r

abbrev pub any_turn_committed : {E : Type 0} → (E → ℕ) → Program → Schedulers → List ℕ → ℕ → ℕ → ℕ
    → Result Action E → Committed
any_turn_committed number p g w before c t (Ok a) = turn_committed_in p g w before c t (Ok a)
any_turn_committed number p g w before c t (Err r) = committed (number r) t (cleared_in w before)

-- ---- the commit as the code makes it: decided on the words before it, then on the settled words
-- the lists follow. It is `committed_in` (proofs/CommitLaws, `decided_is`).

-- where thread t stands after its turn
abbrev pub place_in : List ℕ → ℕ → Action → Place
place_in w t a = place_after a.change (record { number = (thread_in w (t - 1)).place })

-- a decision, or the rule that refuses the turn
abbrev pub Decided : Type 0
Decided = Result Decision Rule

abbrev pub settles : Action → Passed → Decided
settles a x = Ok (Settle a.change x)

-- a start of the module so found, by a starter that stands at q; one that is not there is 20
unfoldable pub start_tested : List ℕ → Action → Arguments → Bool → Option Module → Place → Decided
start_tested w a args waits found q =
    turn_and_then (ok_or found Rule.Stuck) (λ x.
    turn_and_then (obstacle_in w x q.number args.count) (λ _.
    when waits && not (room_in w q.number 2) then Err Rule.Stuck else
    settles a (Start waits q x.body args)))

abbrev pub start_decided : Program → List ℕ → ℕ → Action → Bool → ℕ → Arguments → Decided
start_decided p w t a waits m args =
    start_tested w a args waits (found_in p m) (place_in w t a)

unfoldable pub generate_tested : Schedulers → List ℕ → Action → Option ℕ → Place → ℕ → Decided
generate_tested g w a event q e =
    turn_and_then (ok_or event Rule.Stuck) (λ owner.
    turn_and_then (signal_obstacle g (wake_room_in g w owner e) owner q.number) (λ _.
    settles a (Wake q e)))

unfoldable pub await_tested : Schedulers → List ℕ → Action → Option ℕ → Place → ℕ → Decided
await_tested g w a event q e =
    turn_and_then (ok_or event Rule.Stuck) (λ owner.
    turn_and_then (signal_obstacle g (await_room_in w q.number e) owner q.number) (λ _.
    when present_in w e then settles a Keep else Ok (Suspend q e)))

abbrev pub action_decided : Program → Schedulers → List ℕ → ℕ → Action → Transition → Decided
action_decided p g w t a Stays = settles a Keep
action_decided p g w t a Leaves = settles a Leave
action_decided p g w t a (Joins q) =
    when room_in w q.number 1 then settles a (Join q) else Err Rule.Stuck
action_decided p g w t a (Starts waits m args) = start_decided p w t a waits m args
action_decided p g w t a (Generates e) =
    generate_tested g w a (event_in p e) (place_in w t a) e
action_decided p g w t a (Awaits e) = await_tested g w a (event_in p e) (place_in w t a) e

abbrev pub decided_in : Program → Schedulers → List ℕ → ℕ → TurnAnswer → Decided
decided_in p g w t (Ok a) = action_decided p g w t a a.transition
decided_in p g w t (Err r) = Err r

-- the new thread of a starter that stands at q
abbrev pub new_at : Arguments → Place → ℕ → ℕ → ThreadWords
new_at args q t body =
    new_thread_words q.number args.count args.first args.second t body

-- a start by t, who stands at q: the new thread is the last, and the last in the next list of q; a
-- starter that waits stands after it
unfoldable pub started_on : List ℕ → ℕ → Place → ℕ → Bool → Arguments → List ℕ
started_on w t q body waits args =
    let new = get_or w thread_count_at 0 + 1 in
    let v = joined_in (with_one_more w (new_at args q t body)) q.number new in
    when waits then joined_in v q.number (waiting_factor * new + t) else v

-- whether the thread leaves its list; a starter does where it waits
abbrev pub leaves_list : Passed → Bool
leaves_list Keep = false
leaves_list Leave = true
leaves_list (Join q) = true
leaves_list (Start waits q body args) = waits
leaves_list (Wake q e) = false

unfoldable pub unlisted_in : List ℕ → ℕ → Passed → List ℕ
unlisted_in w c x = when leaves_list x then left_in w c else w

-- then what joins a next list or an active one
abbrev pub enlisted_in : Schedulers → List ℕ → ℕ → Passed → List ℕ
enlisted_in g w t Keep = w
enlisted_in g w t Leave = w
enlisted_in g w t (Join q) = joined_in w q.number t
enlisted_in g w t (Start waits q body args) = started_on w t q body waits args
enlisted_in g w t (Wake q e) = generated_in g w q.number e

abbrev pub followed_in : Schedulers → List ℕ → ℕ → ℕ → Passed → List ℕ
followed_in g w c t x = enlisted_in g (unlisted_in w c x) t x

-- ---- what a caller has to show

-- thread k is within its space, and once its top item is taken there is room for the change
pub record SettleWords (w : List ℕ) (k : ℕ) (c : Change) : Type 0 where
  pub all : length w ≡ state_length
  pub thread : k < most_threads
  pub place : is_place (thread_in w k).place ≡ true
  pub items : (thread_in w k).items ≤ most_items
  pub values : (thread_in w k).values ≤ most_variables
  pub room : RoomFor c ((thread_in w k).items - 1) (thread_in w k).values

-- a thread with room for the change
abbrev pub RoomIn : Change → ThreadWords → Type 0
RoomIn c th = RoomFor c th.items th.values

-- thread k has its space, stands at a place, and has room for the change
abbrev pub ChangeSpace : List ℕ → ℕ → Change → Type 0
ChangeSpace w k c =
    (k < most_threads) × (is_place (thread_in w k).place ≡ true) × RoomIn c (thread_in w k)

-- q has lists, and there is a number left for one more thread
pub record StartWords (w : List ℕ) (q : Place) : Type 0 where
  pub scheduler : is_scheduler q.number ≡ true
  pub count : get_or w thread_count_at 0 < most_threads

-- q has lists, which are within their spaces, and who awaits event e has room on each member of its
-- group
pub record WakeWords (g : Schedulers) (w : List ℕ) (q : Place) (e : ℕ) : Type 0 where
  pub few : g.count ≤ most_schedulers
  pub scheduler : is_scheduler q.number ≡ true
  pub event : e < most_events
  pub lists : ListsFit w
  pub room : Each (same_label g.labels q.number) (HasRoomOn e w) home (home + g.count)

-- what the lists need to follow
abbrev pub Follows : Schedulers → List ℕ → Passed → Type 0
Follows g w Keep = Unit {0}
Follows g w Leave = Unit {0}
Follows g w (Join q) = is_scheduler q.number ≡ true
Follows g w (Start waits q body args) = StartWords w q
Follows g w (Wake q e) = WakeWords g w q e

-- words on which the turn of thread t may be committed with that change
pub record ChangeWords (p : Program) (g : Schedulers) (w : List ℕ) (t : ℕ) (c : Change)
    : Type 0 where
  pub first : 1 ≤ t
  pub last : t ≤ most_threads
  pub cells : count_in w ≤ most_cells
  pub settle : SettleWords w (t - 1) c
  -- a file that passes refusals 1 to 7 has no more events, and words that pass 14 such lists
  pub events : length p.events ≤ most_events
  pub lists : ListsFit w
  pub few : g.count ≤ most_schedulers

abbrev pub CommitWords : Program → Schedulers → List ℕ → ℕ → TurnAnswer → Type 0
CommitWords p g w t turn = ChangeWords p g w t (change_of turn)
