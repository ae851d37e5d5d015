-- What the code does on each member of a group, in the words. No reader has to believe it: on words
-- that say a state it is what the rules do to the state (proofs/MembersSay). Assumes nothing:
-- definitions.
use Rattle.std.specs.Prelude.{◌≡◌, List, [], ◌∷◌, Bool, true, not, ◌&&◌, ℕ, ◌+◌, ◌-◌, ◌*◌, ◌<◌, ◌≤◌, leb, eqb, length, get_or}
use Rattle.basics.specs.If.{when◌then◌else◌}
use Rattle.basics.specs.Members.{any, every}
use Rattle.language.specs.Places.{home, is_scheduler}
use Rattle.language.specs.Limits.{most_schedulers, most_threads}
use Rattle.language.specs.Inner.Labels.{same_label}
use Rattle.machine.specs.Offsets.{schedulers_at, scheduler_length, next_list_at}
use Rattle.machine.specs.Words.{words_at}
use Rattle.machine.specs.Groups.{schedulers_where}
use Rattle.lists.specs.Inner.Lists.{is_awaiting_word, active_with, with_woken, ready_words}
use Rattle.lists.specs.Inner.Lists.{with_instant_ended}

-- the members of q's group, of a file with n schedulers
abbrev pub members_in : List ℕ → ℕ → ℕ → List ℕ
members_in labels n q = schedulers_where (same_label labels q) home n

-- scheduler q has an active thread
abbrev pub active_on : List ℕ → ℕ → Bool
active_on w q = not (eqb (get_or w (schedulers_at + 1 + scheduler_length * (q - home)) 0) 0)

-- scheduler s is a member of q's group, and has one
abbrev pub is_active_member : List ℕ → ℕ → List ℕ → ℕ → Bool
is_active_member labels q w s = same_label labels q s && active_on w s

-- some of those schedulers has one
abbrev pub any_active_on : List ℕ → List ℕ → Bool
any_active_on qs w = any (active_on w) qs

-- those that await event e on scheduler q have room in its active list; on each of those schedulers
abbrev pub room_on : ℕ → List ℕ → ℕ → Bool
room_on e w q = leb (active_with (is_awaiting_word e) w (q - home)) most_threads

-- s is a member, and they have none there
abbrev pub lacks_room : List ℕ → ℕ → ℕ → List ℕ → ℕ → Bool
lacks_room labels q e w s = same_label labels q s && not (room_on e w s)

abbrev pub room_on_each : List ℕ → ℕ → List ℕ → Bool
room_on_each qs e w = every (room_on e w) qs

-- if s is a member, they are active there
unfoldable pub woken_if : List ℕ → ℕ → ℕ → List ℕ → ℕ → List ℕ
woken_if labels q e w s = when same_label labels q s then with_woken w (s - home) e else w

-- they are active
unfoldable pub woken_on : List ℕ → ℕ → List ℕ → List ℕ
woken_on [] e w = w
woken_on (q ∷ qs) e w = woken_on qs e (with_woken w (q - home) e)

-- if s is a member, its instant has ended; how many entries were ready there
unfoldable pub ended_if : List ℕ → ℕ → List ℕ → ℕ → List ℕ
ended_if labels q w s = when same_label labels q s then with_instant_ended w (s - home) else w

unfoldable pub ready_if : List ℕ → ℕ → List ℕ → ℕ → ℕ
ready_if labels q w s =
    when same_label labels q s
    then length (ready_words w (words_at w (next_list_at + scheduler_length * (s - home))))
    else 0

-- the instant has ended on each of those schedulers; how many entries were ready
unfoldable pub ended_on : List ℕ → List ℕ → List ℕ
ended_on [] w = w
ended_on (q ∷ qs) w = ended_on qs (with_instant_ended w (q - home))

unfoldable pub ready_on : List ℕ → List ℕ → ℕ
ready_on [] w = 0
ready_on (q ∷ qs) w =
    length (ready_words w (words_at w (next_list_at + scheduler_length * (q - home))))
    + ready_on qs (with_instant_ended w (q - home))

-- ---- what a caller has to show

-- the file has n of the eight schedulers, and q is one of the eight
pub record GroupOf (n q : ℕ) : Type 0 where
  pub scheduler : is_scheduler q ≡ true
  pub few : n ≤ most_schedulers

-- two of the eight
pub record PairOf (q s : ℕ) : Type 0 where
  pub own : is_scheduler q ≡ true
  pub other : is_scheduler s ≡ true

-- P holds of each number from k to below m that passes the test
abbrev pub Each : (ℕ → Bool) → (ℕ → Type 0) → ℕ → ℕ → Type 0
Each test P k m = (j : ℕ) → k ≤ j → j < m → test j ≡ true → P j

-- who awaits event e has room on scheduler q; no thread is active there
abbrev pub HasRoomOn : ℕ → List ℕ → ℕ → Type 0
HasRoomOn e w q = active_with (is_awaiting_word e) w (q - home) ≤ most_threads

abbrev pub IdleOn : List ℕ → ℕ → Type 0
IdleOn w q = get_or w (schedulers_at + scheduler_length * (q - home)) 0 ≡ 0

-- the same of scheduler s, if it is a member of q's group
pub record RoomIf (labels : List ℕ) (q e : ℕ) (w : List ℕ) (s : ℕ) : Type 0 where
  pub room : same_label labels q s ≡ true → HasRoomOn e w s

pub record IdleIf (labels : List ℕ) (q : ℕ) (w : List ℕ) (s : ℕ) : Type 0 where
  pub idle : same_label labels q s ≡ true → IdleOn w s
