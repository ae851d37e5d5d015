-- What a field of a use holds: a number that means itself, or a child's. Here alone the uses are
-- told apart. Assumes nothing.
use mathlib.Core.Path.{◌≡◌, refl, sym, ap, subst, ◌∙◌}
use mathlib.Core.List.{List, [], ◌∷◌, ◌++◌}
use Prim.Native.Nat.{ℕ, zero, suc, ◌≤◌, ◌<◌}
use native.Mathlib.Omega.{arith}
use mathlib.Core.Bool.{true, true≢false}
use Rattle.basics.specs.Members.{In, All}
use Rattle.language.specs.Kinds.{class_of, uses, Child, child, child_in, children}
use Rattle.language.specs.declared.kind.Class.{Class}
use Rattle.language.specs.declared.frame.Frame.{Frame}
use Rattle.language.specs.declared.kind.Kind.{Kind}
use Rattle.language.specs.declared.kind.Kind.TheVariants.{Header, Declared, Module, Statement}
use Rattle.language.specs.declared.kind.Kind.TheVariants.{Expression, Unknown}
use Rattle.layout.specs.Order.{has_class}
use Rattle.drawing.specs.Drawings.{rank, ranks}
use Rattle.language.specs.declared.kind.Use.{Use}

-- a use whose numbers but 0 are those of children, which are to be of a class
pub record Names (u : Use) : Type 0 where
  pub class : Class
  pub names : (v : ℕ) → 0 < v → child_in u v ≡ child class v ∷ []

pub data Held (u : Use) (v : ℕ) : Type 0 where
  keeps : child_in u v ≡ [] → Held u v
  names : (n : Names u) → child_in u v ≡ child n.class v ∷ [] → Held u v

-- ---- each use
statement_names : Names Use.Statement
statement_names = record { class = Class.Statement; names = λ v l. refl }

expression_names : Names Use.Expression
expression_names = record { class = Class.Expression; names = λ v l. refl }

argument_names : Names Use.Argument
argument_names = record { class = Class.Expression; names = by }
  where
    by : (v : ℕ) → 0 < v → child_in Use.Argument v ≡ child Class.Expression v ∷ []
    by zero l = absurd (omega arith)
    by (suc n) l = refl

further_names : Names Use.Further
further_names = record { class = Class.Expression; names = by }
  where
    by : (v : ℕ) → 0 < v → child_in Use.Further v ≡ child Class.Expression v ∷ []
    by zero l = absurd (omega arith)
    by (suc n) l = refl

pub held : (u : Use) (v : ℕ) → Held u v
unfolding statement_names expression_names argument_names further_names
held Use.Statement v = Held.names statement_names refl
held Use.Expression v = Held.names expression_names refl
held Use.Argument zero = Held.keeps refl
held Use.Argument (suc v) = Held.names argument_names refl
held Use.Further zero = Held.keeps refl
held Use.Further (suc v) = Held.names further_names refl
held Use.Unused v = Held.keeps refl
held Use.Free v = Held.keeps refl
held Use.Truth v = Held.keeps refl
held Use.Place v = Held.keeps refl
held Use.Scheduler v = Held.keeps refl
held Use.Lower v = Held.keeps refl
held Use.ContentType v = Held.keeps refl
held Use.FirstContent v = Held.keeps refl
held Use.Parameters v = Held.keeps refl
held Use.FirstType v = Held.keeps refl
held Use.SecondType v = Held.keeps refl

-- a field names at most one child, and that has the field's number
pub data Few : List Child → ℕ → Type 0 where
  no_module : {v : ℕ} → Few [] v
  one : {c : Child} {v : ℕ} → c.at ≡ v → Few (c ∷ []) v

pub few : (u : Use) (v : ℕ) → Few (child_in u v) v
few u v = go (held u v)
  where
    go : Held u v → Few (child_in u v) v
    go (Held.keeps e) = rw e Few.no_module
    go (Held.names n e) = rw e (Few.one refl)

-- a child is to be of a class
pub classed : (u : Use) (v : ℕ) → All (λ (c : Child). has_class c.class ≡ true) (child_in u v)
classed Use.Statement v = All.more refl All.none
classed Use.Expression v = All.more refl All.none
classed Use.Argument zero = All.none
classed Use.Argument (suc v) = All.more refl All.none
classed Use.Further zero = All.none
classed Use.Further (suc v) = All.more refl All.none
classed Use.Unused v = All.none
classed Use.Free v = All.none
classed Use.Truth v = All.none
classed Use.Place v = All.none
classed Use.Scheduler v = All.none
classed Use.Lower v = All.none
classed Use.ContentType v = All.none
classed Use.FirstContent v = All.none
classed Use.Parameters v = All.none
classed Use.FirstType v = All.none
classed Use.SecondType v = All.none

all_append : {P : Child → Type 0} {xs ys : List Child} → All P xs → All P ys → All P (xs ++ ys)
all_append All.none b = b
all_append (All.more p a) b = All.more p (all_append a b)

pub all_classed : (f : Frame) → All (λ (c : Child). has_class c.class ≡ true) (children f)
unfolding children
all_classed f =
    all_append (all_append (classed (uses f.kind).a f.a) (classed (uses f.kind).b f.b)) (classed (uses f.kind).c f.c)

pub all_in : {P : Child → Type 0} {cs : List Child} {c : Child} → All P cs → In c cs → P c
all_in (All.more p a) In.first = p
all_in (All.more p a) (In.later m) = all_in a m
all_in {P = P} {c = c} Rattle.basics.specs.Members.none x3 = elim x3 [ ]

-- ---- the class that a use names is one, and what is of it has no rank
pub names_class : {u : Use} (n : Names u) → has_class n.class ≡ true
names_class {u} n = go (classed u 1)
  where
    go : All (λ (c : Child). has_class c.class ≡ true) (child_in u 1) → has_class n.class ≡ true
    go a =
        all_in (subst (All (λ (c : Child). has_class c.class ≡ true)) (n.names 1 (omega arith)) a) In.first

pub class_rank : (k : Kind) (c : Class) → class_of k ≡ c → has_class c ≡ true → ranks ≤ rank k
class_rank Header c e h = absurd (true≢false (sym (ap has_class e ∙ h)))
class_rank (Declared d) c e h = absurd (true≢false (sym (ap has_class e ∙ h)))
class_rank Module c e h = absurd (true≢false (sym (ap has_class e ∙ h)))
class_rank (Statement k) c e h = omega arith
class_rank (Expression k) c e h = omega arith
class_rank Unknown c e h = absurd (true≢false (sym (ap has_class e ∙ h)))
