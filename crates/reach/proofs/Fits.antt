-- A file that passes refusals 1 to 7, accepted or not, fits the state's spaces; so a state reached
-- from its fresh one is never 14, and its calls are its steps. Assumes nothing.
use mathlib.Core.Path.{◌≡◌, refl, sym, ap, subst, ◌∙◌}
use mathlib.Core.Bool.{true, ◌&&◌, true≢false}
use mathlib.Core.List.{List, map}
use Prim.Native.Nat.{ℕ, ◌^◌, ◌≤◌, ◌<◌}
use native.Mathlib.Omega.{arith}
use lib.Dec.{ltb, eqb}
use borrow.Author.Tests.{ltb-true}
use lib.ListN.{length, get_or, length-map}
use Rattle.basics.specs.Members.{In, All}
use Rattle.basics.proofs.Ifs.{if_all, if_yes, and_true}
use Rattle.language.specs.Types.{number_type, is_cell}
use Rattle.language.specs.Kinds.{class_of, Child}
use Rattle.language.specs.declared.kind.Class.{Class}
use Rattle.language.specs.declared.kind.StatementKind.TheVariants.{Nothing, Then, DoAt, Start}
use Rattle.language.specs.declared.kind.StatementKind.TheVariants.{StartWait, Cooperate, Let}
use Rattle.language.specs.declared.kind.StatementKind.TheVariants.{Store, If, While, Generate}
use Rattle.language.specs.declared.kind.StatementKind.TheVariants.{Await}
use Rattle.language.specs.declared.kind.Kind.{Kind}
use Rattle.language.specs.declared.kind.Kind.TheVariants.{Header, Declared, Module, Statement}
use Rattle.language.specs.declared.kind.Kind.TheVariants.{Expression, Unknown}
use Rattle.language.specs.declared.frame.Frame.{Frame}
use Rattle.program.specs.Trees.{Expr, frame_at, expression_at, arguments, statement_of}
use Rattle.program.specs.Trees.{statement_at}
use Rattle.program.specs.Programs.{Part, SharedCell, type_of_shared, no_module, modules_from}
use Rattle.program.specs.Programs.{program_of}
use Rattle.program.proofs.Decoding.{statement_at_lem}
use Rattle.program.proofs.Roots.{statement_root}
use Rattle.fields.specs.Fields.{schedulers_of, first_content_fine}
use Rattle.layout.specs.Order.{Row, has_class}
use Rattle.layout.specs.Faults.{NoFault}
use Rattle.layout.proofs.Trees.{row_le}
use Rattle.layout.proofs.Events.{events_count, events_few}
use Rattle.machine.specs.State.{run}
use Rattle.machine.specs.Fresh.{first_cell}
use Rattle.machine.specs.Values.{first_content}
use Rattle.machine.specs.Shapes.{is_statement, owner_in_range, ValueFits, CellFits, ItemFits}
use Rattle.machine.specs.Shapes.{run_fits}
use Rattle.machine.proofs.Lists.{all_get_d, all_imply}
use Rattle.machine.proofs.KeptCells.{ExprFits, a_numeral, a_truth, a_variable, a_shared, a_new}
use Rattle.machine.proofs.KeptCells.{a_content, a_sum, a_less, a_choice}
use Rattle.machine.proofs.KeptShape.{Parts, of_nothing, of_cooperate, of_seq, of_do, of_start}
use Rattle.machine.proofs.KeptShape.{of_wait, of_let, of_store, of_if, of_while, of_generate}
use Rattle.machine.proofs.KeptShape.{of_await, FileFits, reached_in_range}
use Rattle.machine.proofs.CallRuns.{calls_are}
use Rattle.reach.specs.Reached.{Passes, ReachedInRange, CallsAreSteps}
use Rattle.reach.proofs.Passed.{schedulers_range, fields, row_at, order, inside}
use Rattle.reach.proofs.Laid.{LaidE, laid_expr, laid_arguments}
use Rattle.reach.proofs.Cells.{CellFine, CellsFine, cells_few, shared_fine}
use Rattle.reach.proofs.Modules.{IsPart, parts, some_module, part_types}
use Rattle.reach.proofs.Sizes.{Sized, sized}

-- numbers that a value can hold
abbrev Small : ℕ → Type 0
Small v = v < 2 ^ 32

-- ---- expressions

expr_fits : {n : ℕ} {x : Expr} → LaidE Small n x → ExprFits n x
expr_fits (LaidE.number q) = a_numeral q
expr_fits LaidE.truth = a_truth
expr_fits LaidE.variable = a_variable
expr_fits LaidE.shared = a_shared
expr_fits (LaidE.new p x) = a_new p (expr_fits x)
expr_fits (LaidE.content x) = a_content (expr_fits x)
expr_fits (LaidE.sum x y) = a_sum (expr_fits x) (expr_fits y)
expr_fits (LaidE.less x y) = a_less (expr_fits x) (expr_fits y)
expr_fits (LaidE.choose x y z) = a_choice (expr_fits x) (expr_fits y) (expr_fits z)

-- ---- shared cells

first_fits : {n : ℕ} {before : List SharedCell} {x : SharedCell} → CellFine Small n before x
    → ValueFits (first_cell x).content
unfolding first_content first_content_fine
first_fits {before = before} {x = x} f =
    if_all ValueFits (is_cell x.content) _ _ (λ e. ValueFits.cell (below e))
    (λ _. if_all ValueFits (eqb x.content number_type) _ _ (λ _. ValueFits.number f.size) (λ _. ValueFits.truth))
  where
    below : is_cell x.content ≡ true → x.first < 256
    below e =
        let w = sym (if_yes (ltb x.first (length (map type_of_shared before)) && eqb (get_or (map type_of_shared before) x.first 0) x.content) _ e) ∙ f.first in
        let l = ltb-true x.first (length (map type_of_shared before)) (and_true _ _ w).0 in
        let m = length-map before type_of_shared in
        let k = f.few in
        omega arith

cells_fit : {n : ℕ} {before xs : List SharedCell} → CellsFine Small n before xs
    → All (λ (x : SharedCell). CellFits n (first_cell x)) xs
unfolding owner_in_range
cells_fit CellsFine.none = All.none
cells_fit {n} (CellsFine.more {x = x} f r) = All.more {x = x} (record { owner = rw f.owner; value = first_fits f }) (cells_fit r)

-- ---- statements

is_statement_lem : (k : Kind) → class_of k ≡ Class.Statement → is_statement k ≡ true
is_statement_lem (Statement k) e = refl
is_statement_lem (Expression k) e = absurd (let z : ◌≡◌ {A = ℕ} 0 1 = cc in omega arith)
is_statement_lem Header e = absurd (let z : ◌≡◌ {A = ℕ} 0 1 = cc in omega arith)
is_statement_lem (Declared d) e = absurd (let z : ◌≡◌ {A = ℕ} 0 1 = cc in omega arith)
is_statement_lem Module e = absurd (let z : ◌≡◌ {A = ℕ} 0 1 = cc in omega arith)
is_statement_lem Unknown e = absurd (let z : ◌≡◌ {A = ℕ} 0 1 = cc in omega arith)

module _ {fs : List Frame} (size : Sized fs) (fine : NoFault fs) where
  abbrev n : ℕ
  n = schedulers_of fs

  item_fits : (i : ℕ) → i < length fs → class_of (frame_at fs i).kind ≡ Class.Statement
      → ItemFits fs n (run (statement_at fs i))
  item_fits i l c =
      let r = statement_root fs i in
      let k = size.few in
      run_fits {x = statement_at fs i} (omega arith) (subst (λ (j : ℕ). is_statement (frame_at fs j).kind ≡ true) (sym r) (is_statement_lem (frame_at fs i).kind c)) (ap (statement_at fs) r)

  e_fits : (j : ℕ) → ExprFits n (expression_at fs j)
  e_fits j = expr_fits (laid_expr Small fine (omega arith) size.a j)

  es_fit : (a b : ℕ) → All (ExprFits n) (arguments (λ j. expression_at fs j) a b)
  es_fit a b =
      all_imply (λ _ x. expr_fits x) (laid_arguments Small fine (omega arith) size.a a b)

  module _ (j : ℕ) (l : j < length fs) where
    -- a child that is a statement, and then each kind of statement by its children
    child_fits : {lo : ℕ} {c : Child} {cs : List Child} → Row fs lo j cs → In c cs
        → c.class ≡ Class.Statement → ItemFits fs n (run (statement_at fs c.at))
    child_fits (Row.more t e r) In.first q = let k = row_le r in item_fits _ (omega arith) (e ∙ q)
    child_fits (Row.more t e r) (In.later m) q = child_fits r m q
    child_fits {c = c} Rattle.layout.specs.Order.none x9 q = elim x9 [ ]

    of_kind : (k : Kind) → is_statement k ≡ true → (frame_at fs j).kind ≡ k
        → Parts fs n
        (statement_of (λ i. expression_at fs i) (λ i. statement_at fs i) j (frame_at fs j) k)
    of_kind (Expression k) s q = absurd (true≢false (sym s))
    of_kind Header s q = absurd (true≢false (sym s))
    of_kind (Declared d) s q = absurd (true≢false (sym s))
    of_kind Module s q = absurd (true≢false (sym s))
    of_kind Unknown s q = absurd (true≢false (sym s))
    of_kind (Statement Nothing) s q = of_nothing
    of_kind (Statement Cooperate) s q = of_cooperate
    of_kind (Statement Then) s q =
        let r = row_at fine j l _ q in
        of_seq (child_fits r In.first refl) (child_fits r (In.later In.first) refl)
    of_kind (Statement DoAt) s q =
        of_do (fields fine j l _ q).s (child_fits (row_at fine j l _ q) In.first refl)
    of_kind (Statement Start) s q = of_start (es_fit (frame_at fs j).a (frame_at fs j).b)
    of_kind (Statement StartWait) s q = of_wait (es_fit (frame_at fs j).a (frame_at fs j).b)
    of_kind (Statement Let) s q =
        of_let (e_fits _) (child_fits (row_at fine j l _ q) (In.later In.first) refl)
    of_kind (Statement Store) s q = of_store (e_fits _) (e_fits _)
    of_kind (Statement If) s q =
        let r = row_at fine j l _ q in
        of_if (e_fits _) (child_fits r (In.later In.first) refl)
        (child_fits r (In.later (In.later In.first)) refl)
    of_kind (Statement While) s q =
        of_while (e_fits _) (child_fits (row_at fine j l _ q) (In.later In.first) refl)
    of_kind (Statement Generate) s q = of_generate
    of_kind (Statement Await) s q = of_await

  has_class_lem : (k : Kind) → is_statement k ≡ true → has_class (class_of k) ≡ true
  has_class_lem (Statement k) s = refl
  has_class_lem (Expression k) s = refl
  has_class_lem Header s = s
  has_class_lem (Declared d) s = s
  has_class_lem Module s = s
  has_class_lem Unknown s = s

  statement_fits : (j : ℕ) → is_statement (frame_at fs j).kind ≡ true → Parts fs n (statement_at fs j)
  statement_fits j s =
      subst (Parts fs n) (sym (statement_at_lem fs (order fine) j))
      (of_kind j (inside fine j _ refl (has_class_lem (frame_at fs j).kind s)) (frame_at fs j).kind s refl)

  -- ---- modules
  body_fits : (m : Part) → IsPart fs m → ItemFits fs n (run m.body) × (length m.types ≤ 25)
  body_fits m h =
      let t = part_types fine m h in (
        subst (λ (p : Part). ItemFits fs n (run p.body)) (sym h.same)
            (child_fits h.at h.inside (row_at fine h.at h.inside _ h.kind) In.first refl),
        omega arith,
      )

  pub file_fits : FileFits fs (program_of fs) (program_of fs).schedulers
  unfolding program_of
  file_fits =
      let b = schedulers_range fine in
      let c = shared_fine Small fine size.b in
      record {
        schedulers = refl;
        some_scheduler = b.0;
        most_schedulers = b.1;
        shared_room = (let k = cells_few c (omega arith) in omega arith);
        shared = cells_fit c;
        few_events = (let k = events_count fs fine in let l = events_few fs fine in omega arith);
        events = events_count fs fine;
        some_module = some_module fine;
        bodies = λ m l. (let h = all_get_d (IsPart fs) (modules_from fs 0 fs) no_module m (parts fs) l in body_fits _ h);
        statements = λ j _ s. statement_fits j s;
      }

-- ---- of every text

pub fits : {bs : List ℕ} {fs : List Frame} → Passes bs fs
    → FileFits fs (program_of fs) (program_of fs).schedulers
fits p = file_fits (sized p.text) p.layout

pub reached_never_14 : ReachedInRange
reached_never_14 bs fs p cs =
    reached_in_range fs (program_of fs) (program_of fs).schedulers (fits p) cs

pub calls_are_steps : CallsAreSteps
calls_are_steps bs fs p w cs e = calls_are fs (fits p) w cs e
