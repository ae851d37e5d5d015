-- How the code reads the children of a frame. No reader has to believe it: proofs/FrameLaws and
-- proofs/ChildFolds tie it to the list of them. Assumes nothing: definitions.
use Rattle.std.specs.Prelude.{Bool, true, false, List, [], ◌∷◌, ◌++◌, ℕ}
use Rattle.language.specs.Kinds.{uses, Child, child, child_in}
use Rattle.language.specs.declared.kind.Class.{Class}
use Rattle.language.specs.declared.kind.Uses.{Uses}
use Rattle.language.specs.declared.frame.Frame.{Frame}
use Rattle.program.specs.declared.frames.Children.{Children}
use Rattle.program.specs.declared.frames.Children.TheVariants.{Nothing, One, Two, Three}

-- a list of at most three children, and back
abbrev pub children_in : List Child → Children
children_in [] = Nothing
children_in (c ∷ []) = One c.class c.at
children_in (c ∷ d ∷ []) = Two c.class c.at d.class d.at
children_in (c ∷ d ∷ e ∷ cs) = Three c.class c.at d.class d.at e.class e.at

abbrev pub list_of : Children → List Child
list_of Nothing = []
list_of (One k a) = child k a ∷ []
list_of (Two k a l b) = child k a ∷ child l b ∷ []
list_of (Three k a l b m c) = child k a ∷ child l b ∷ child m c ∷ []

-- the children of a frame whose fields have these uses
abbrev pub children_by : Uses → Frame → Children
children_by us f =
    children_in (child_in us.a f.a ++ child_in us.b f.b ++ child_in us.c f.c)

abbrev pub children_of : Frame → Children
children_of f = children_by (uses f.kind) f

-- stands for a child that there is not: a number after every frame's
abbrev pub no_child : ℕ
no_child = 65535

-- the numbers of at most three children
abbrev pub child_numbers_of : List Child → List ℕ
child_numbers_of [] = no_child ∷ no_child ∷ no_child ∷ []
child_numbers_of (c ∷ []) = c.at ∷ no_child ∷ no_child ∷ []
child_numbers_of (c ∷ d ∷ []) = c.at ∷ d.at ∷ no_child ∷ []
child_numbers_of (c ∷ d ∷ e ∷ cs) = c.at ∷ d.at ∷ e.at ∷ []

-- what g makes of u at the number of one child after the other
unfoldable pub over_children : {A : Type 0} → (A → ℕ → A) → A → List Child → A
over_children g u [] = u
over_children g u (c ∷ cs) = over_children g (g u c.at) cs

-- the class that a child is of is the class that it is to be of
abbrev pub same_class : Class → Class → Bool
same_class Class.Statement Class.Statement = true
same_class Class.Statement Class.Expression = false
same_class Class.Statement Class.Neither = false
same_class Class.Expression Class.Statement = false
same_class Class.Expression Class.Expression = true
same_class Class.Expression Class.Neither = false
same_class Class.Neither Class.Statement = false
same_class Class.Neither Class.Expression = false
same_class Class.Neither Class.Neither = true
