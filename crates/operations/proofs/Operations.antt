-- The operations of operation.rt: a law for each return of each function. Assumes nothing.
use Rattle.std.proofs.Common.{◌≡◌, ℕ, ◌+◌, ◌<◌, ◌≤◌, Bool, true, false, not, eqb, List, length, get_or, set, sym, refl, ap, ◌∙◌, arith, le-ltb, lt-ltb, le-leb}
use borrow.Author.Tests.{lt-leb}
use Rattle.basics.proofs.Ifs.{yes, no}
use Rattle.language.specs.Places.{private}
use Rattle.language.specs.Limits.{most_cells}
use Rattle.program.specs.declared.node.Leaf.{Leaf}
use Rattle.machine.specs.Offsets.{state_length, cell_count_at, cells_at}
use Rattle.machine.specs.declared.value.Value.{Value}
use Rattle.machine.specs.declared.value.Value.TheVariants.{Number, Truth, Cell}
use Rattle.machine.specs.declared.value.Outcome.{Outcome}
use Rattle.machine.specs.declared.value.Outcome.TheVariants.{Is, Foreign, Spent, Stuck}
use Rattle.operations.specs.declared.Who.{Who}
use Rattle.operations.specs.Inner.Lent.{lent_count, lent_cells}
use Rattle.operations.specs.Inner.Results.{Result, result, result_in, and_then_in}
use Rattle.operations.specs.Inner.Heaps.{cells_in, with_access, with_cell}
use Rattle.operations.specs.Inner.ByWords.{value_in, owner_in, content_in, cell_word_of, own_in}
use Rattle.operations.specs.Inner.ByWords.{new_owner_in, variable_in, shared_in, leaf_in, make_in}
use Rattle.operations.specs.Inner.ByWords.{access_in, read_in, accessed_by, accessing_in, reading_in}
use Rattle.operations.specs.Inner.ByWords.{put_word_in, store_in}
use Rattle.operations.proofs.InState.{cell_at, put_in, new_in, counted_in}
use Rattle.operations.proofs.Told.{IsRefusal, IsNoCell, a_cell}
use Rattle.operations.proofs.Chains.{then_refused, then_is}

-- ---- the owner of a new cell; b is whether S is private
pub owner_private : (who : Who) (s n : ℕ) (b : Bool)
    → b ≡ eqb s private → b ≡ true → n ≡ who.thread → 16 + n ≡ new_owner_in who s
unfolding new_owner_in
owner_private who s n b e t h = yes _ (sym e ∙ t) (ap (λ (i : ℕ). 16 + i) h)

pub owner_given : (who : Who) (s m n : ℕ) (b : Bool)
    → b ≡ eqb s private → b ≡ false → m ≡ s → n ≡ m → n ≡ new_owner_in who s
unfolding new_owner_in
owner_given who s m n b e t h g = no _ (sym e ∙ t) (g ∙ h)

pub ruleset owner_laws = (owner_private, owner_given)

-- ---- variables, shared cells
-- i is s as the code widens it
pub variable_is : (vs : List ℕ) (s i : ℕ) (v : Value) → i ≡ s → i < length vs
    → v ≡ value_in (get_or vs i 0) → Is v ≡ variable_in vs s
unfolding variable_in
variable_is vs s i v e l h =
    yes _ (lt-ltb s (length vs) (omega arith)) (ap Is (h ∙ ap (λ (j : ℕ). value_in (get_or vs j 0)) e))

pub variable_none : (vs : List ℕ) (s i : ℕ) → i ≡ s → length vs ≤ i → Stuck ≡ variable_in vs s
unfolding variable_in
variable_none vs s i e l = no _ (le-ltb s (length vs) (omega arith)) refl

pub shared_is : (who : Who) (s i : ℕ) → i ≡ s → i < who.shared → Is (Cell s) ≡ shared_in who s
unfolding shared_in
shared_is who s i e l = yes _ (lt-ltb s who.shared (omega arith)) refl

pub shared_none : (who : Who) (s i : ℕ) → i ≡ s → who.shared ≤ i → Stuck ≡ shared_in who s
unfolding shared_in
shared_none who s i e l = no _ (le-ltb s who.shared (omega arith)) refl

pub ruleset variable_laws = (variable_is, variable_none)

pub ruleset shared_laws = (shared_is, shared_none)

-- ---- 20 to 23
pub leaf_number : (who : Who) (vs : List ℕ) (l : Leaf) (m n : ℕ) → l ≡ Leaf.Number m → n ≡ m
    → Is (Number n) ≡ leaf_in who vs l
unfolding leaf_in
leaf_number who vs l m n e h = ap (λ (i : ℕ). Is (Number i)) h ∙ sym (ap (leaf_in who vs) e)

pub leaf_truth : (who : Who) (vs : List ℕ) (l : Leaf) (s : ℕ) → l ≡ Leaf.Truth s
    → Is (Truth (eqb s 1)) ≡ leaf_in who vs l
unfolding leaf_in
leaf_truth who vs l s e = sym (ap (leaf_in who vs) e)

pub leaf_variable : (who : Who) (vs : List ℕ) (l : Leaf) (s : ℕ) (o : Outcome) → l ≡ Leaf.Variable s
    → o ≡ variable_in vs s → o ≡ leaf_in who vs l
unfolding leaf_in
leaf_variable who vs l s o e h = h ∙ sym (ap (leaf_in who vs) e)

pub leaf_shared : (who : Who) (vs : List ℕ) (l : Leaf) (s : ℕ) (o : Outcome) → l ≡ Leaf.SharedCell s
    → o ≡ shared_in who s → o ≡ leaf_in who vs l
unfolding leaf_in
leaf_shared who vs l s o e h = h ∙ sym (ap (leaf_in who vs) e)

-- ---- a new cell in the state's words w: o is its owner, b whether it is one's own
module _ (who : Who) (s o : ℕ) (v : Value) (w : List ℕ) (b : Bool)
    (eo : o ≡ new_owner_in who s) (eb : b ≡ own_in who o) where
  own_new : {t : Bool} → b ≡ t → own_in who (new_owner_in who s) ≡ t
  own_new e = sym (eb ∙ ap (own_in who) eo) ∙ e

  abbrev h : ℕ
  h = get_or w cell_count_at 0

  -- n cells are in use, m is the bound that the code tests, x the cell's word, k the count after it
  pub make_is : (m n x k : ℕ)
      → b ≡ true → n ≡ cells_in (get_or w cell_count_at 0) → n < m → m ≤ most_cells → x ≡ cell_word_of o v
      → k ≡ with_cell (get_or w cell_count_at 0) → length w ≡ state_length
      → result_in (Is (Cell n)) (set (set w (cells_at + n) x) cell_count_at k)
      ≡ make_in who s v (lent_count w) (lent_cells w)
  unfolding make_in lent_count
  make_is m n x k t en l g e ek z =
      let few : cells_in h < most_cells = omega arith in
      new_in w n x k (Is (Cell n)) z
      ∙ ap (λ (i : ℕ). result (Is (Cell i)) k (set (lent_cells w) i x)) en
      ∙ ap (λ (i : ℕ). result (Is (Cell (cells_in h))) i (set (lent_cells w) (cells_in h) x)) ek
      ∙ yes _ (own_new t)
      (yes _ (lt-ltb (cells_in h) most_cells few)
      (ap (λ (y : ℕ). result (Is (Cell (cells_in h))) (with_cell h) (set (lent_cells w) (cells_in h) y))
      (e ∙ ap (λ (y : ℕ). cell_word_of y v) eo)))

  pub make_spent : (m n k : ℕ) → b ≡ true → n ≡ cells_in (get_or w cell_count_at 0) → m ≤ n
      → most_cells ≤ m → k ≡ with_access (get_or w cell_count_at 0) → length w ≡ state_length
      → result_in Spent (set w cell_count_at k) ≡ make_in who s v (lent_count w) (lent_cells w)
  unfolding make_in lent_count
  make_spent m n k t en l g ek z =
      let many : most_cells ≤ cells_in h = omega arith in
      counted_in w Spent k z
      ∙ ap (λ (i : ℕ). result Spent i (lent_cells w)) ek
      ∙ yes _ (own_new t) (no _ (le-ltb (cells_in h) most_cells many) refl)

  pub make_foreign : (k : ℕ) → b ≡ false → k ≡ with_access (get_or w cell_count_at 0)
      → length w ≡ state_length
      → result_in Foreign (set w cell_count_at k) ≡ make_in who s v (lent_count w) (lent_cells w)
  unfolding make_in lent_count
  make_foreign k t ek z =
      counted_in w Foreign k z
      ∙ ap (λ (i : ℕ). result Foreign i (lent_cells w)) ek
      ∙ no _ (own_new t) refl

-- ---- an access to cell c in the state's words w, where n cells are in use
-- j is c as the code widens it
module _ (who : Who) (c n : ℕ) (v : Value) (w : List ℕ)
    (en : n ≡ cells_in (get_or w cell_count_at 0)) (j : ℕ) (ej : j ≡ c) where
  abbrev count : ℕ
  count = get_or w cell_count_at 0

  abbrev word : ℕ
  word = get_or (lent_cells w) c 0

  pub access_missing : n ≤ j → result_in Stuck w ≡ accessing_in who c v (lent_count w) (lent_cells w)
  unfolding access_in lent_count
  access_missing h =
      ap (λ (p : Outcome). accessed_by p count (lent_cells w))
      (yes _ (le-leb (cells_in count) c (omega arith)) refl)

  -- o is the owner in the cell's word, k the count with the access
  module _ (o k : ℕ) (own : Bool) (eo : o ≡ owner_in (get_or w (cells_at + j) 0))
      (ew : own ≡ own_in who o) (ek : k ≡ with_access (get_or w cell_count_at 0))
      (long : length w ≡ state_length) (used : j < n) where
    owned : {b : Bool} → not own ≡ b → not (own_in who (owner_in word)) ≡ b
    owned e =
        ap not (sym (ew ∙ ap (own_in who) (eo ∙ ap (λ (i : ℕ). owner_in (get_or w (cells_at + i) 0)) ej ∙ ap owner_in (cell_at w c)))) ∙ e

    counted_as : (p : Outcome) → result_in p (set w cell_count_at k)
        ≡ result p (with_access (get_or w cell_count_at 0)) (lent_cells w)
    counted_as p = counted_in w p k long ∙ ap (λ (i : ℕ). result p i (lent_cells w)) ek

    pub access_foreign : not own ≡ true
        → result_in Foreign (set w cell_count_at k) ≡ accessing_in who c v (lent_count w) (lent_cells w)
    unfolding access_in lent_count
    access_foreign t =
        counted_as Foreign
        ∙ ap (λ (p : Outcome). accessed_by p count (lent_cells w))
        (no _ (lt-leb (cells_in count) c (omega arith)) (yes _ (owned t) refl))

    pub access_is : not own ≡ false
        → result_in (Is v) (set w cell_count_at k) ≡ accessing_in who c v (lent_count w) (lent_cells w)
    unfolding access_in lent_count
    access_is t =
        counted_as (Is v)
        ∙ ap (λ (p : Outcome). accessed_by p count (lent_cells w))
        (no _ (lt-leb (cells_in count) c (omega arith)) (no _ (owned t) refl))

-- ---- a cell read and stored in: r is what the access to cell c comes to
module _ (who : Who) (v u : Value) (c : ℕ) (w : List ℕ) (ev : v ≡ Cell c) where
  store_at : and_then_in (accessing_in who c u (lent_count w) (lent_cells w)) (put_word_in c)
      ≡ store_in who v u (lent_count w) (lent_cells w)
  unfolding store_in
  store_at = ap (λ (y : Value). store_in who y u (lent_count w) (lent_cells w)) (sym ev)

  -- a refusal changes no cell
  pub store_refused : (r : Result) → r ≡ accessing_in who c u (lent_count w) (lent_cells w)
      → IsRefusal r.outcome → r ≡ store_in who v u (lent_count w) (lent_cells w)
  store_refused r er h =
      then_refused r (put_word_in c) h ∙ ap (λ (x : Result). and_then_in x (put_word_in c)) er ∙ store_at

  module _ (j : ℕ) (ej : j ≡ c) where
    pub read_is : (r : Result) → u ≡ content_in (get_or w (cells_at + j) 0)
        → r ≡ accessing_in who c u (lent_count w) (lent_cells w)
        → r ≡ reading_in who v (lent_count w) (lent_cells w)
    unfolding read_in
    read_is r eu er =
        er
        ∙ ap (λ (x : Value). accessing_in who c x (lent_count w) (lent_cells w))
        (eu ∙ ap (λ (i : ℕ). content_in (get_or w (cells_at + i) 0)) ej ∙ ap content_in (cell_at w c))
        ∙ ap (λ (x : Value). reading_in who x (lent_count w) (lent_cells w)) (sym ev)

    -- a are the words after the access, y is the cell's word after the store
    pub store_is : (o : Outcome) (x : Value) (y : ℕ) (a : List ℕ)
        → result_in o a ≡ accessing_in who c u (lent_count w) (lent_cells w) → o ≡ Is x
        → y ≡ cell_word_of (owner_in (get_or a (cells_at + j) 0)) x
        → result_in (Is x) (set a (cells_at + j) y) ≡ store_in who v u (lent_count w) (lent_cells w)
    store_is o x y a er ex ey =
        ap (λ (i : ℕ). result_in (Is x) (set a (cells_at + i) y)) ej
        ∙ put_in a (Is x) c y
        ∙ ap (λ (z : ℕ). result (Is x) (lent_count a) (set (lent_cells a) c z))
        (ey ∙ ap (λ (i : ℕ). cell_word_of (owner_in (get_or a (cells_at + i) 0)) x) ej ∙ ap (λ (z : ℕ). cell_word_of (owner_in z) x) (cell_at a c))
        ∙ then_is (result_in o a) x (put_word_in c) _ ex refl
        ∙ ap (λ (r : Result). and_then_in r (put_word_in c)) er
        ∙ store_at

pub read_none : (who : Who) (v : Value) (n : ℕ) (ws : List ℕ) → IsNoCell v
    → result Stuck n ws ≡ reading_in who v n ws
unfolding read_in
read_none who (Number m) n ws h = refl
read_none who (Truth b) n ws h = refl
read_none who (Cell c) n ws h = absurd (a_cell c h)

pub store_none : (who : Who) (v u : Value) (n : ℕ) (ws : List ℕ) → IsNoCell v
    → result Stuck n ws ≡ store_in who v u n ws
unfolding store_in
store_none who (Number m) u n ws h = refl
store_none who (Truth b) u n ws h = refl
store_none who (Cell c) u n ws h = absurd (a_cell c h)
