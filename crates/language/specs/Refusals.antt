-- The numbers of the refusals, in the order of 01's 'Who can cause which refusal'; then those of
-- document 02.
use Rattle.basics.specs.Prelude.{ℕ}
use Rattle.language.specs.declared.refusal.Rule.{Rule}

-- 'Whoever moves files': 'empty text; over 17,408 bytes; not such lines'
abbrev pub empty_text : ℕ
empty_text = 1

abbrev pub long_text : ℕ
long_text = 2

abbrev pub malformed_text : ℕ
malformed_text = 3

-- 'its layout': 'header; kind, field ..; order ..; depth'
abbrev pub wrong_header : ℕ
wrong_header = 4

abbrev pub wrong_field : ℕ
wrong_field = 5

abbrev pub wrong_order : ℕ
wrong_order = 6

abbrev pub too_deep : ℕ
too_deep = 7

-- 'its rules': 'no such variable or shared cell, or a module ..; types ..; a private cell in a
-- public new cell or as argument; effect; while loose ..; a loop body that can end at once'
abbrev pub unbound : ℕ
unbound = 8

abbrev pub ill_typed : ℕ
ill_typed = 9

abbrev pub escaping : ℕ
escaping = 10

abbrev pub wrong_effect : ℕ
wrong_effect = 11

abbrev pub while_unlinked : ℕ
while_unlinked = 12

abbrev pub instant_loop : ℕ
instant_loop = 13

-- 'Whoever calls the stepper': 'a lent buffer of the wrong length, or a state with a word out of
-- range; no such party; nothing'
abbrev pub wrong_state : ℕ
wrong_state = 14

abbrev pub no_party : ℕ
no_party = 15

abbrev pub nothing_ready : ℕ
nothing_ready = 16

-- 'The run': 'spent, a 257th cell; spent, a 65th thread; foreign; stuck'
abbrev pub cells_spent : ℕ
cells_spent = 17

abbrev pub threads_spent : ℕ
threads_spent = 18

abbrev pub foreign : ℕ
foreign = 19

abbrev pub stuck : ℕ
stuck = 20

-- 02, change 2: 'a child number without a frame, a frame used twice, or a circle of children'
abbrev pub wrong_tree : ℕ
wrong_tree = 21

-- ---- the number of each rule that the code names

abbrev pub rule_number : Rule → ℕ
rule_number Rule.EmptyText = empty_text
rule_number Rule.LongText = long_text
rule_number Rule.MalformedText = malformed_text
rule_number Rule.WrongHeader = wrong_header
rule_number Rule.WrongField = wrong_field
rule_number Rule.WrongOrder = wrong_order
rule_number Rule.TooDeep = too_deep
rule_number Rule.Unbound = unbound
rule_number Rule.IllTyped = ill_typed
rule_number Rule.Escaping = escaping
rule_number Rule.WrongEffect = wrong_effect
rule_number Rule.WhileUnlinked = while_unlinked
rule_number Rule.InstantLoop = instant_loop
rule_number Rule.WrongState = wrong_state
rule_number Rule.NoParty = no_party
rule_number Rule.NothingReady = nothing_ready
rule_number Rule.CellsSpent = cells_spent
rule_number Rule.ThreadsSpent = threads_spent
rule_number Rule.Foreign = foreign
rule_number Rule.Stuck = stuck
rule_number Rule.WrongTree = wrong_tree
