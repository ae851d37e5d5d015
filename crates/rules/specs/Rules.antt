-- The rules of types, effects and cooperation, as inference rules. 'The check's promise is the
-- rules themselves, written without the checker': nothing is computed here.
use Rattle.std.specs.Prelude.{◌∷◌, ◌++◌, ◌&&◌, ◌||◌, ◌<◌}
use Rattle.basics.specs.Prelude.{List, [], Bool, true, false, ℕ, length}
use Rattle.std.specs.Prelude.{◌≡◌}
use Rattle.basics.specs.Prelude.{get_or, All}
use Rattle.language.specs.Places.{home, private, Standing, linked, unlinked}
use Rattle.language.specs.Types.{number_type, truth_type, is_cell, cell_type, owner_of, content_of}
use Rattle.language.specs.Types.{room_around, public}
use Rattle.language.specs.Groups.{Link}
use Rattle.language.specs.Effects.{no_effect, ◌∪◌, with_owner, with_event, within}
use Rattle.language.specs.declared.effect.Effect.{Effect}
use Rattle.program.specs.Trees.{Expr, Stmt}
use Rattle.program.specs.Programs.{Part, Program, cells as cell_types}

-- what the rules know of a file beside its modules: the types of its shared cells, the owners of
-- its events, which schedulers are in step
pub record Setting : Type 0 where
  pub cells : List ℕ
  pub events : List ℕ
  pub links : List Link

abbrev pub setting_of : Program → Setting
setting_of file = record { cells = cell_types file; events = file.events; links = file.links }

-- what is known of a module: its parameters' types and its effect
pub record Signature : Type 0 where
  pub types : List ℕ
  pub effect : Effect

-- what stands for a module that is not there
abbrev pub no_signature : Signature
no_signature = record { types = []; effect = no_effect }

-- the module of that number among the modules `below`
abbrev pub signature_at : List Signature → ℕ → Signature
signature_at below s = get_or below s no_signature

-- of a module whose body has the effect e
abbrev pub signature : Part → Effect → Signature
signature m e = record { types = m.types; effect = e }

-- `HasType cells Γ x t e`: with shared cells of the types `cells` and variables of the types Γ, x
-- has the type t and the effect e. 'A frame joins its children's effects.'
pub data HasType (cells Γ : List ℕ) : Expr → ℕ → Effect → Type 0 where
  -- 20 number A
  number : {i v : ℕ} → HasType cells Γ (Expr.number i v) number_type no_effect
  -- 21 truth S
  truth : {i v : ℕ} → HasType cells Γ (Expr.truth i v) truth_type no_effect
  -- 22 variable S: 'Variables count from the first parameter, then the lets outside in.'
  variable : {i s : ℕ} → s < length Γ → HasType cells Γ (Expr.variable i s) (get_or Γ s 0) no_effect
  -- 23 shared cell S
  shared : {i s : ℕ} → s < length cells
      → HasType cells Γ (Expr.shared i s) (get_or cells s 0) no_effect
  -- 24 new cell: '24 adds a cell around its content; at most three', '24 adds S if S is a
  -- scheduler'; a public one has public content
  new_private : {i t : ℕ} {x : Expr} {e : Effect}
      → HasType cells Γ x t e → room_around t ≡ true
      → HasType cells Γ (Expr.new i private x) (cell_type private t) e
  new_public : {i s t : ℕ} {x : Expr} {e : Effect}
      → (s ≡ private → ⊥) → HasType cells Γ x t e → room_around t ≡ true → public t ≡ true
      → HasType cells Γ (Expr.new i s x) (cell_type s t) (with_owner s e)
  -- 25 content of cell A: '25 and 17 add the cell's owner if it is a scheduler'
  content : {i t : ℕ} {x : Expr} {e : Effect}
      → HasType cells Γ x t e → is_cell t ≡ true
      → HasType cells Γ (Expr.content i x) (content_of t) (with_owner (owner_of t) e)
  -- 26 sum of numbers A, B
  sum : {i : ℕ} {x y : Expr} {e f : Effect}
      → HasType cells Γ x number_type e → HasType cells Γ y number_type f
      → HasType cells Γ (Expr.sum i x y) number_type (e ∪ f)
  -- 27 number A is less than number B, a truth
  less : {i : ℕ} {x y : Expr} {e f : Effect}
      → HasType cells Γ x number_type e → HasType cells Γ y number_type f
      → HasType cells Γ (Expr.less i x y) truth_type (e ∪ f)
  -- 28 if truth A, number B, else number C
  choose : {i : ℕ} {x y z : Expr} {e f g : Effect}
      → HasType cells Γ x truth_type e → HasType cells Γ y number_type f
      → HasType cells Γ z number_type g
      → HasType cells Γ (Expr.choose i x y z) number_type (e ∪ f ∪ g)

-- `HaveTypes cells Γ xs ts e`: the expressions xs have the types ts, in order, and together the
-- effect e
pub data HaveTypes (cells Γ : List ℕ) : List Expr → List ℕ → Effect → Type 0 where
  none : HaveTypes cells Γ [] [] no_effect
  more : {x : Expr} {t : ℕ} {e : Effect} {xs : List Expr} {ts : List ℕ} {f : Effect}
      → HasType cells Γ x t e → HaveTypes cells Γ xs ts f
      → HaveTypes cells Γ (x ∷ xs) (t ∷ ts) (e ∪ f)

-- each of the types is public
abbrev pub AllPublic : List ℕ → Type 0
AllPublic ts = All (λ (t : ℕ). public t ≡ true) ts

-- `HasEffect env below Γ at p e b`: in a file of that setting, in a module after the modules
-- `below`, where the variables have the types Γ and the thread stands `at`, the statement p has the
-- effect e, and b says whether it ends at once (report 001: terminates instantly): 'A statement
-- ends at once: 10, 13, 17, 19 yes; 14, 15 no; 11 if both do; 18 if either does; 12 and 16 as their
-- bodies.'
pub data HasEffect (env : Setting) (below : List Signature)
    : List ℕ → Standing → Stmt → Effect → Bool → Type 0 where
  -- 10 nothing
  nothing : {Γ : List ℕ} {at : Standing} {i : ℕ}
      → HasEffect env below Γ at (Stmt.nothing i) no_effect true
  -- 11 A, then B
  seq : {Γ : List ℕ} {at : Standing} {i : ℕ} {p q : Stmt} {e f : Effect} {a b : Bool}
      → HasEffect env below Γ at p e a → HasEffect env below Γ at q f b
      → HasEffect env below Γ at (Stmt.seq i p q) (e ∪ f) (a && b)
  -- 12 do A at place S: '12 needs the effect of A within {S}, or empty when S is 1, and itself has
  -- none'; with S 1 never while unlinked. 02, change 7: 'at K 12 and at `main` an event's owner
  -- must be the place or in step with it'
  do_unlinked : {Γ : List ℕ} {i : ℕ} {p : Stmt} {e : Effect} {a : Bool}
      → HasEffect env below Γ unlinked p e a → within env.links private e ≡ true
      → HasEffect env below Γ linked (Stmt.do_at i private p) no_effect a
  do_linked : {Γ : List ℕ} {at : Standing} {i s : ℕ} {p : Stmt} {e : Effect} {a : Bool}
      → (s ≡ private → ⊥) → HasEffect env below Γ linked p e a → within env.links s e ≡ true
      → HasEffect env below Γ at (Stmt.do_at i s p) no_effect a
  -- 13 start module S: 'Arguments agree with parameters in count and type, and are public', '13 and
  -- 14 add the started module's effect'; never while unlinked
  start : {Γ : List ℕ} {i s : ℕ} {xs : List Expr} {e : Effect}
      → s < length below → HaveTypes env.cells Γ xs (signature_at below s).types e
      → AllPublic (signature_at below s).types
      → HasEffect env below Γ linked (Stmt.start i s xs) (e ∪ (signature_at below s).effect) true
  -- 14 the same, then wait
  start_wait : {Γ : List ℕ} {i s : ℕ} {xs : List Expr} {e : Effect}
      → s < length below → HaveTypes env.cells Γ xs (signature_at below s).types e
      → AllPublic (signature_at below s).types
      → HasEffect env below Γ linked (Stmt.start_wait i s xs) (e ∪ (signature_at below s).effect)
      false
  -- 15 cooperate; never while unlinked
  cooperate : {Γ : List ℕ} {i : ℕ} → HasEffect env below Γ linked (Stmt.cooperate i) no_effect false
  -- 16 let the next variable be A, in B
  let_in : {Γ : List ℕ} {at : Standing} {i t : ℕ} {x : Expr} {p : Stmt} {e f : Effect} {b : Bool}
      → HasType env.cells Γ x t e → HasEffect env below (Γ ++ (t ∷ [])) at p f b
      → HasEffect env below Γ at (Stmt.let_in i x p) (e ∪ f) b
  -- 17 store B in cell A: '17 needs equal content types'
  store : {Γ : List ℕ} {at : Standing} {i t : ℕ} {x y : Expr} {e f : Effect}
      → HasType env.cells Γ x t e → is_cell t ≡ true → HasType env.cells Γ y (content_of t) f
      → HasEffect env below Γ at (Stmt.store i x y) (with_owner (owner_of t) (e ∪ f)) true
  -- 18 if A then B else C
  if_else : {Γ : List ℕ} {at : Standing} {i : ℕ} {x : Expr} {p q : Stmt} {e f g : Effect}
      {a b : Bool}
      → HasType env.cells Γ x truth_type e
      → HasEffect env below Γ at p f a → HasEffect env below Γ at q g b
      → HasEffect env below Γ at (Stmt.if_else i x p q) (e ∪ f ∪ g) (a || b)
  -- 19 while A do B: 'The body of 19 must not' end at once
  while : {Γ : List ℕ} {at : Standing} {i : ℕ} {x : Expr} {p : Stmt} {e f : Effect}
      → HasType env.cells Γ x truth_type e → HasEffect env below Γ at p f false
      → HasEffect env below Γ at (Stmt.while i x p) (e ∪ f) true
  -- 1A generate event S, 1B await it. 02, change 5: 'both have the owner as effect', 'Both
  -- statements can end at once.'
  generate : {Γ : List ℕ} {at : Standing} {i s : ℕ}
      → s < length env.events
      → HasEffect env below Γ at (Stmt.generate i s) (with_event (get_or env.events s 0) no_effect)
      true
  await : {Γ : List ℕ} {at : Standing} {i s : ℕ}
      → s < length env.events
      → HasEffect env below Γ at (Stmt.await i s) (with_event (get_or env.events s 0) no_effect)
      true

-- `Modules env below ms`: in a file of that setting, after modules with the signatures `below`,
-- the modules ms keep the rules; the last of them is main, and 'main has an effect within {2}'
pub data Modules (env : Setting) : List Signature → List Part → Type 0 where
  main : {below : List Signature} {m : Part} {e : Effect} {b : Bool}
      → HasEffect env below m.types linked m.body e b → within env.links home e ≡ true
      → Modules env below (m ∷ [])
  more : {below : List Signature} {m n : Part} {ms : List Part} {e : Effect} {b : Bool}
      → HasEffect env below m.types linked m.body e b
      → Modules env (below ++ (signature m e ∷ [])) (n ∷ ms)
      → Modules env below (m ∷ n ∷ ms)

-- the program keeps every rule
abbrev pub Keeps : Program → Type 0
Keeps file = Modules (setting_of file) [] file.modules
