-- Refusals 4 and 5: the header, and the kind and the fields of each frame.
use Rattle.std.specs.Prelude.{◌∷◌, ◌&&◌, ◌||◌, ◌+◌}
use Rattle.basics.specs.Prelude.{List, [], Bool, true, false, not, ℕ, ltb}
use Rattle.basics.specs.Prelude.{leb, eqb, length, get_or, take, when◌then◌else◌}
use Rattle.language.specs.Places.{has_place, has_scheduler}
use Rattle.language.specs.Types.{truth_type, is_cell, type_word, content_word}
use Rattle.language.specs.Kinds.{is_header, is_shared, is_event, is_module, uses}
use Rattle.language.specs.declared.frame.Frame.{Frame}
use Rattle.language.specs.Limits.{most_schedulers, most_shared, most_events, most_modules}
use Rattle.language.specs.Limits.{most_parameters}
use kind.{Kind.Kind, DeclarationKind.TheVariants.Shared, Use.Use}
use kind.DeclarationKind.TheVariants.{Event, Link}
use kind.Kind.TheVariants.{Header, Declared, Module, Statement, Expression, Unknown}
use Rattle.program.specs.{Trees.frame_at, Programs.cells_of}
use Rattle.language.specs.declared.kind as kind

-- how many of the frames are of such a kind
unfoldable pub count_of : (Kind → Bool) → List Frame → ℕ
count_of test [] = 0
count_of test (f ∷ fs) = (when test f.kind then 1 else 0) + count_of test fs

-- 4: 'header (frame 0 not K 00, or its S, B or C not as said)': 'S version 01, A step allowance ..,
-- B schedulers, 1 to 8'. 02, change 5: 'Header field C gives the number of events, 0 to 16; a
-- larger one, or another number of K 03 frames, is 4': bad and misplaced ones are counted too
unfoldable pub header_fine : List Frame → Bool
header_fine fs =
    let f = frame_at fs 0 in
    is_header f.kind && eqb f.s 1 && leb 1 f.b && leb f.b most_schedulers
    && leb f.c most_events && eqb (count_of is_event fs) f.c

-- how many schedulers the file has: the header's B
abbrev pub schedulers_of : List Frame → ℕ
schedulers_of fs = (frame_at fs 0).b

-- and how many events: its C
abbrev pub event_count_of : List Frame → ℕ
event_count_of fs = (frame_at fs 0).c

-- 'Its first content is a number, a truth (0, 1), or, for a cell type, the number of an earlier
-- shared cell of that type.' Of the content type t, v is one; `earlier` are the types of the
-- earlier shared cells
unfoldable pub first_content_fine : List ℕ → ℕ → ℕ → Bool
first_content_fine earlier t v =
    when is_cell t then ltb v (length earlier) && eqb (get_or earlier v 0) t else
    not (eqb t truth_type) || leb v 1

-- 5, 'field (an unused one that isn't 0, parameters over 2, a truth over 1, a B without A, a first
-- content not as said above), type word, owner, .. or a place that the file lacks': v is right in a
-- field of the frame f, which has the number i
abbrev pub field_fine : List Frame → ℕ → Frame → Use → ℕ → Bool
field_fine fs i f Use.Unused v = eqb v 0
field_fine fs i f Use.Free v = true
field_fine fs i f Use.Truth v = leb v 1
field_fine fs i f Use.Place v = has_place (schedulers_of fs) v
field_fine fs i f Use.Scheduler v = has_scheduler (schedulers_of fs) v
-- 02, change 7: 'its A names a lower one'
field_fine fs i f Use.Lower v = has_scheduler (schedulers_of fs) v && ltb v f.s
field_fine fs i f Use.Statement v = true
field_fine fs i f Use.Expression v = true
field_fine fs i f Use.Argument v = true
field_fine fs i f Use.Further v = eqb v 0 || not (eqb f.a 0)
field_fine fs i f Use.ContentType v = content_word (schedulers_of fs) v
field_fine fs i f Use.FirstContent v = first_content_fine (cells_of (take i fs)) f.a v
field_fine fs i f Use.Parameters v = leb v most_parameters
field_fine fs i f Use.FirstType v = when leb 1 f.s then type_word (schedulers_of fs) v else eqb v 0
field_fine fs i f Use.SecondType v = when leb 2 f.s then type_word (schedulers_of fs) v else eqb v 0

-- 5, 'kind (a later 00 too)', 'a 17th shared cell or module': fewer than 16 of its kind stand
-- before it, misplaced ones too, since 5 comes before 6
abbrev pub kind_fine : List Frame → ℕ → Kind → Bool
kind_fine fs i Header = eqb i 0
kind_fine fs i (Declared Shared) = ltb (count_of is_shared (take i fs)) most_shared
-- the header's C has their number
kind_fine fs i (Declared Event) = true
-- 02, change 7, sets no bound
kind_fine fs i (Declared Link) = true
kind_fine fs i Module = ltb (count_of is_module (take i fs)) most_modules
kind_fine fs i (Statement k) = true
kind_fine fs i (Expression k) = true
kind_fine fs i Unknown = false

-- 5 does not name frame f, which has the number i
unfoldable pub frame_fine : List Frame → ℕ → Frame → Bool
frame_fine fs i f =
    kind_fine fs i f.kind
    && field_fine fs i f (uses f.kind).s f.s
    && field_fine fs i f (uses f.kind).a f.a
    && field_fine fs i f (uses f.kind).b f.b
    && field_fine fs i f (uses f.kind).c f.c
