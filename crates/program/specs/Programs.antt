-- A file as a program: its header, its shared cells, its events, its links, its modules.
use Rattle.std.specs.Prelude.{◌∷◌, ◌-◌}
use Rattle.basics.specs.Prelude.{List, [], map, ℕ, suc, eqb, length, get_or, take}
use Rattle.basics.specs.Prelude.{when◌then◌else◌, keep_if}
use Rattle.language.specs.{Types.cell_type, Kinds.is_shared, Kinds.is_event, Kinds.is_link}
use Rattle.language.specs.{Kinds.is_module, Groups.Link}
use Rattle.language.specs.{declared.frame.Frame.Frame, Limits.default_allowance}
use Rattle.program.specs.Trees.{Stmt, nothing, frame_at, statement_at}

-- '01 shared cell: S owner (a scheduler), A content type, B first content'
pub record SharedCell : Type 0 where
  pub owner : ℕ
  pub content : ℕ
  pub first : ℕ

-- '02 module: S parameters, 0 to 2, A body, B and C their types', and the frame that it is
pub record Part : Type 0 where
  pub frame : ℕ
  pub types : List ℕ
  pub body : Stmt

-- 'A step allowance .., B schedulers', 'Modules and shared cells count from 0.' 02, change 5:
-- 'Events count from 0. K 03 declares an event with owner S': of each event, its owner. Change 7:
-- the schedulers that K 04 puts in step, two by two
pub record Program : Type 0 where
  pub allowance : ℕ
  pub schedulers : ℕ
  pub shared : List SharedCell
  pub events : List ℕ
  pub links : List Link
  pub modules : List Part

-- the type of a shared cell: a cell of its owner around its content type
abbrev pub type_of_shared : SharedCell → ℕ
type_of_shared x = cell_type x.owner x.content

-- the shared cell that such a frame declares
abbrev pub cell_of : Frame → SharedCell
cell_of f = record { owner = f.s; content = f.a; first = f.b }

-- the shared cells among those frames
unfoldable pub shared_of : List Frame → List SharedCell
shared_of [] = []
shared_of (f ∷ fs) = keep_if (is_shared f.kind) (cell_of f) (shared_of fs)

-- and their types
abbrev pub cells_of : List Frame → List ℕ
cells_of fs = map type_of_shared (shared_of fs)

-- the owners of the events among those frames
unfoldable pub events_of : List Frame → List ℕ
events_of [] = []
events_of (f ∷ fs) = keep_if (is_event f.kind) f.s (events_of fs)

-- 'The S byte of K 04 .. names a scheduler, and its A names a lower one with which it is in step'
abbrev pub link_of : Frame → Link
link_of f = record { upper = f.s; lower = f.a }

-- the links among those frames
unfoldable pub links_of : List Frame → List Link
links_of [] = []
links_of (f ∷ fs) = keep_if (is_link f.kind) (link_of f) (links_of fs)

abbrev pub part_of : List Frame → ℕ → Frame → Part
part_of fs i f =
    record { frame = i; types = take f.s (f.b ∷ f.c ∷ []); body = statement_at fs f.a }

-- the modules among those frames, which count from i in the file fs
unfoldable pub modules_from : List Frame → ℕ → List Frame → List Part
modules_from fs i [] = []
modules_from fs i (f ∷ rest) =
    keep_if (is_module f.kind) (part_of fs i f) (modules_from fs (suc i) rest)

-- 02, change 1: 'A 0 shall mean 16,384.', 'Explicit allowances mean what they did.'
unfoldable pub allowance_of : ℕ → ℕ
allowance_of n = when eqb n 0 then default_allowance else n

unfoldable pub program_of : List Frame → Program
program_of fs =
    record {
      allowance = allowance_of (frame_at fs 0).a;
      schedulers = (frame_at fs 0).b;
      shared = shared_of fs;
      events = events_of fs;
      links = links_of fs;
      modules = modules_from fs 0 fs;
    }

-- the types of a program's shared cells
abbrev pub cells : Program → List ℕ
cells p = map type_of_shared p.shared

-- whose event e is
abbrev pub owner_of_event : Program → ℕ → ℕ
owner_of_event p e = get_or p.events e 0

abbrev pub no_module : Part
no_module = record { frame = 0; types = []; body = nothing 0 }

-- module m, and 'The last frame is main': the last module
abbrev pub module_at : Program → ℕ → Part
module_at p m = get_or p.modules m no_module

abbrev pub main_of : Program → Part
main_of p = module_at p (length p.modules - 1)
