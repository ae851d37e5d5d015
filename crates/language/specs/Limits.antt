-- How much a text, a file, a state and a run hold at most: each figure of 01 and 02 is named here
-- once.
use Rattle.basics.specs.Prelude.{ℕ}

-- a line is '16 digits .., then a line feed'; 'at most 1,024 lines', hence 'over 17,408 bytes'
abbrev pub line_length : ℕ
line_length = 17

abbrev pub most_lines : ℕ
most_lines = 1024

abbrev pub most_bytes : ℕ
most_bytes = 17408

-- a file: 'shared cells (at most 16)', 'modules (at most 16)', 'parameters over 2', 'at most 24
-- deep, so at most 25 variables are in scope'
abbrev pub most_schedulers : ℕ
most_schedulers = 8

abbrev pub most_shared : ℕ
most_shared = 16

abbrev pub most_modules : ℕ
most_modules = 16

-- 02, change 5: 'the number of events, 0 to 16'
abbrev pub most_events : ℕ
most_events = 16

abbrev pub most_parameters : ℕ
most_parameters = 2

abbrev pub most_depth : ℕ
most_depth = 24

abbrev pub most_variables : ℕ
most_variables = 25

-- a state: 'a 65th thread', 'a 257th cell'; a continuation has as much space as the variables, and
-- a list holds every thread
abbrev pub most_threads : ℕ
most_threads = 64

abbrev pub most_cells : ℕ
most_cells = 256

abbrev pub most_items : ℕ
most_items = 25

-- a run: the choices of the 49,152 bytes; the listing's lines of 19 bytes, its first and its last;
-- 02, change 1, of the header's allowance: 'A 0 shall mean 16,384.'
abbrev pub most_choices : ℕ
most_choices = 16384

abbrev pub most_choice_bytes : ℕ
most_choice_bytes = 49152

abbrev pub most_listing_bytes : ℕ
most_listing_bytes = 311309

abbrev pub default_allowance : ℕ
default_allowance = 16384
