-- 02, change 2: a file as the trees of its lines, without the children's numbers, and the lines of
-- such trees. 'Read back, the lines give the same tree.'
use Rattle.std.specs.Prelude.{◌∷◌, ◌++◌, ◌+◌, ◌*◌, ◌/◌, ◌%◌, ◌^◌}
use Rattle.basics.specs.Prelude.{List, [], map, ℕ, zero, suc}
use Rattle.basics.specs.Prelude.{eqb, get_or, when◌then◌else◌}
use Rattle.language.specs.{Kinds.uses, Kinds.Child, Kinds.child_in, Kinds.declaration_rank}
use Rattle.language.specs.{Kinds.declarations, Limits.most_depth}
use kind.{Kind.Kind}
use kind.Kind.TheVariants.{Header, Declared, Module, Statement, Expression, Unknown}
use Rattle.language.specs.declared.frame.Frame.{Frame}
use Rattle.text.specs.Frames.{frame_of_word, frames_of}
use Rattle.language.specs.declared.kind as kind

-- ---- a line as one number, from its first four digits, K and S, and its fields A, B and C; and
-- its first four digits again
abbrev pub line_from : ℕ → ℕ → ℕ → ℕ → ℕ
line_from h a b c = h * 16 ^ 12 + a * 16 ^ 8 + b * 16 ^ 4 + c

abbrev pub head_of : ℕ → ℕ
head_of w = w / 16 ^ 12 % 16 ^ 4

-- ---- trees of lines
mutual
  -- a line: its first four digits, then what its fields A, B and C hold
  pub data Drawn : Type 0 where
    node : ℕ → Field → Field → Field → Drawn

  -- a field holds a number that means itself, or a child
  pub data Field : Type 0 where
    kept : ℕ → Field
    child : Drawn → Field

-- how many lines a tree has, and how many a field brings
unfoldable mutual
  pub size : Drawn → ℕ
  size (node h a b c) = suc (size_in a + size_in b + size_in c)

  pub size_in : Field → ℕ
  size_in (kept v) = 0
  size_in (child t) = size t

-- ---- 'with all frames after the header in any order': lines to trees

-- a field that holds v, of which v names these children: at most one
abbrev pub field_with : (ℕ → Drawn) → ℕ → List Child → Field
field_with draw v [] = kept v
field_with draw v (c ∷ cs) = child (draw c.at)

-- the line with these first four digits, which is the frame f and whose children `draw` gives
abbrev pub node_with : (ℕ → Drawn) → ℕ → Frame → Drawn
node_with draw h f =
    let u = uses f.kind in
    node h (field_with draw f.a (child_in u.a f.a))
    (field_with draw f.b (child_in u.b f.b))
    (field_with draw f.c (child_in u.c f.c))

-- the tree at line i, to a depth of d
unfoldable pub drawn : ℕ → List ℕ → ℕ → Drawn
drawn zero ws i = node 0 (kept 0) (kept 0) (kept 0)
drawn (suc d) ws i =
    node_with (λ j. drawn d ws j) (head_of (get_or ws i 0)) (frame_of_word (get_or ws i 0))

-- ---- 'lays them out as that paper wants, renumbers the children': trees to lines, in 01's
-- 'child-before-parent order', from number n on

-- the number of a tree's root, where the tree begins at n: it is its last line
unfoldable pub root_from : ℕ → Drawn → ℕ
root_from n (node h a b c) = n + (size_in a + size_in b + size_in c)

-- what a field holds whose child's tree begins at n
unfoldable pub value_from : ℕ → Field → ℕ
value_from n (kept v) = v
value_from n (child t) = root_from n t

-- the root's line: A's tree begins at n, B's after A's, C's after B's
abbrev pub root_line : ℕ → ℕ → Field → Field → Field → ℕ
root_line n h a b c =
    line_from h (value_from n a) (value_from (n + size_in a) b) (value_from (n + size_in a + size_in b) c)

unfoldable mutual
  pub lined : ℕ → Drawn → List ℕ
  lined n (node h a b c) =
      lined_in n a
      ++ (lined_in (n + size_in a) b
      ++ (lined_in (n + size_in a + size_in b) c ++ (root_line n h a b c ∷ [])))

  pub lined_in : ℕ → Field → List ℕ
  lined_in n (kept v) = []
  lined_in n (child t) = lined n t

-- trees one after the other
unfoldable pub lined_all : ℕ → List Drawn → List ℕ
lined_all n [] = []
lined_all n (t ∷ ts) = lined n t ++ lined_all (n + size t) ts

-- ---- a whole file. 'Modules keep their relative order, as do shared cells and any declarations
-- that later changes add': what is no child comes by its rank, and within a rank as it stood

-- the header, the declarations, one kind after the other, then the modules
abbrev pub module_rank : ℕ
module_rank = suc declarations

-- how many ranks there are
abbrev pub ranks : ℕ
ranks = suc module_rank

abbrev pub rank : Kind → ℕ
rank Header = 0
rank (Declared d) = declaration_rank d
rank Module = module_rank
-- the rest are children: they have no rank of their own
rank (Statement k) = ranks
rank (Expression k) = ranks
rank Unknown = ranks

-- the numbers of the frames of rank r; the list stands from i on
unfoldable pub numbered : ℕ → ℕ → List Frame → List ℕ
numbered r i [] = []
numbered r i (f ∷ fs) = (when eqb (rank f.kind) r then i ∷ [] else []) ++ numbered r (suc i) fs

-- those of the ranks below r
unfoldable pub roots_to : ℕ → List Frame → List ℕ
roots_to zero fs = []
roots_to (suc r) fs = roots_to r fs ++ numbered r 0 fs

-- 'the whole tree is at most 24 deep', and its module stands above it
abbrev pub levels : ℕ
levels = suc most_depth

-- the file as trees: its header, its declarations, its modules
unfoldable pub drawing : List ℕ → List Drawn
drawing ws = map (λ i. drawn levels ws i) (roots_to ranks (frames_of ws))

-- and the lines of trees
unfoldable pub laid_out : List Drawn → List ℕ
laid_out ts = lined_all 0 ts
