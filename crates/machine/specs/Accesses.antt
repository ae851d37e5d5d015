-- Accesses to cells and to events.
use Rattle.std.specs.Prelude.{◌≤◌, ◌≡◌, ◌⊎◌}
use Rattle.basics.specs.Prelude.{List, ℕ}
use Rattle.language.specs.{Places.home, Groups.Link, Groups.InStep}
use Rattle.machine.specs.State.{thread_owner}

-- 01's touch, 'read, store or creation' of a cell: its owner at that time, and which thread acted,
-- on which place (1: unlinked)
pub record Access : Type 0 where
  pub cell : ℕ
  pub owner : ℕ
  pub thread : ℕ
  pub place : ℕ

-- the cell was 'owned .. by the acting thread' or 'by the scheduler on which it stands'; any other
-- access is foreign
abbrev pub Own : Access → Type 0
Own x = (x.owner ≡ thread_owner x.thread) ⊎ ((home ≤ x.place) × (x.owner ≡ x.place))

-- a generation or an await of an event: its owner, and which thread acted, on which place
pub record Signal : Type 0 where
  pub event : ℕ
  pub owner : ℕ
  pub thread : ℕ
  pub place : ℕ

-- 02, change 7: 'only from its owner's scheduler or one in step with it'
abbrev pub OwnSignal : List Link → Signal → Type 0
OwnSignal ls x = (home ≤ x.place) × InStep ls x.owner x.place
