-- The shared cells of a file that passes refusal 5 have well-formed types, and their first contents
-- have these types. Assumes nothing.
use mathlib.Core.Path.{◌≡◌, refl, sym, ap, subst, ◌∙◌}
use mathlib.Core.Logic.{inr, ⊎_elim}
use mathlib.Core.Bool.{true}
use mathlib.Core.List.{List, [], ◌∷◌, ◌++◌, map, append_assoc, map-append}
use Prim.Native.Nat.{ℕ, zero, suc, ◌+◌, ◌≤◌, ◌<◌}
use native.Mathlib.Omega.{arith}
use lib.Dec.{ltb, eqb}
use borrow.Author.Tests.{ltb-true, eqb-true, eqb-false}
use lib.ListN.{length, get_or, length-append, length-map, get_or-append}
use Rattle.basics.specs.Members.{All}
use Rattle.basics.proofs.Ifs.{if_all, if_yes, and_true}
use Rattle.language.proofs.PlaceLaws.{test_bounds, has_scheduler_lem}
use Rattle.language.specs.Types.{number_type, is_cell}
use Rattle.program.specs.Programs.{SharedCell, type_of_shared}
use Rattle.fields.specs.Fields.{first_content_fine}
use Rattle.machine.specs.State.{cell_at}
use Rattle.machine.specs.Fresh.{first_cell}
use Rattle.machine.specs.Values.{truth_of, first_content}
use Rattle.machine.specs.declared.value.Value.{Value}
use Rattle.machine.specs.declared.value.Value.TheVariants.{Number, Cell}
use Rattle.reach.proofs.Cells.{CellFine, CellsFine}
use Rattle.safety.proofs.Typing.{CellTyping, Store, At, here, there}
use Rattle.safety.proofs.Heap.{Val, is_num, is_tru, is_a_cell, Held, by_place, GoodCells}
use Rattle.safety.proofs.Heap.{SharedOk, store_of, store_at, at_store, typing_at}
use Rattle.safety.proofs.TypeWords.{ty_of, ty_number, ty_truth, ty_cell, Formed, formed_plain}
use Rattle.safety.proofs.TypeWords.{ContentWord, content_word_lem}
use Rattle.safety.proofs.Places.{SharedIs}

-- the store typing has this of a shared cell
abbrev pub typing_of : SharedCell → CellTyping
typing_of x = record { own = x.owner; ty = ty_of x.content }

-- what refusal 5 leaves of a shared cell: a scheduler's, around a public well-formed type
pub record Well (x : SharedCell) : Type 0 where
  pub low : 2 ≤ x.owner
  pub high : x.owner ≤ 9
  pub word : ContentWord x.content

module _ {Q : ℕ → Type 0} {n : ℕ} where
  well : {before : List SharedCell} {x : SharedCell} → CellFine Q n before x → Well x
  well {x = x} f =
      let (l, m) = test_bounds 2 x.owner (has_scheduler_lem n x.owner f.owner).0 in
      record { low = l; high = m; word = content_word_lem n x.content f.content }

  pub all_well : {before xs : List SharedCell} → CellsFine Q n before xs → All Well xs
  all_well CellsFine.none = All.none
  all_well (CellsFine.more f r) = All.more (well f) (all_well r)

-- ---- their types

pub shared_is : (xs : List SharedCell) → All Well xs → (s : ℕ) → s < length (map type_of_shared xs)
    → SharedIs (map typing_of xs) (map type_of_shared xs) s
shared_is [] g s l = absurd (omega arith)
shared_is (x ∷ xs) (All.more h g) zero l =
    let a = h.low in
    let w = h.word in
    record {
      typing = typing_of x;
      at = here;
      same = ty_cell x.owner x.content (omega arith) h.high w.room;
      formed = Formed.around_of {o = x.owner} (omega arith) h.high w.room (λ _. w.public) w.formed;
    }
shared_is (x ∷ xs) (All.more h g) (suc s) l =
    let r = shared_is xs g s (omega arith) in
    record { typing = r.typing; at = there r.at; same = r.same; formed = r.formed }

abbrev IsOwned : CellTyping → Type 0
IsOwned k = (2 ≤ k.own) × (k.own ≤ 9)

owners : (xs : List SharedCell) → All Well xs → All IsOwned (map typing_of xs)
owners [] g = All.none
owners (x ∷ xs) (All.more h g) = All.more (h.low, h.high) (owners xs g)

at_all : {P : CellTyping → Type 0} {l : List CellTyping} {s : ℕ} {k : CellTyping} → All P l → At l s k → P k
at_all (All.more p ps) here = p
at_all (All.more p ps) (there a) = at_all ps a
at_all All.none a = elim a [ ]

owner_of : {s : ℕ} {k : CellTyping} (xs : List SharedCell) → All Well xs → At (map typing_of xs) s k
    → (2 ≤ k.own) × (k.own ≤ 9)
owner_of xs g a = at_all (owners xs g) a

pub shared_owners : (xs : List SharedCell) → All Well xs
    → SharedOk (store_of (map typing_of xs)) (map typing_of xs)
shared_owners xs g s k a = let r = owner_of xs g a in (store_at a, r.0, r.1)

-- ---- their first contents, in anybody's eyes
module _ (all : List SharedCell) (wells : All Well all) where
  abbrev Σ : Store
  Σ = store_of (map typing_of all)

  -- a cell type: an earlier shared cell of that type
  earlier : {Q : ℕ → Type 0} {n : ℕ} (before rest : List SharedCell) (x : SharedCell)
      → all ≡ before ++ rest → CellFine Q n before x → is_cell x.content ≡ true → (t : ℕ)
      → Val Σ t (Cell x.first) (ty_of x.content)
  unfolding first_content_fine
  earlier before rest x e f c t =
      let w = and_true (ltb x.first (length (map type_of_shared before))) (eqb (get_or (map type_of_shared before) x.first 0) x.content) (sym (if_yes _ _ c) ∙ f.first) in
      let l = ltb-true x.first (length (map type_of_shared before)) w.0 in
      let a : map type_of_shared all ≡ map type_of_shared before ++ map type_of_shared rest = ap (map type_of_shared) e ∙ map-append type_of_shared before rest in
      let b = ap length a in
      let d = length-append (map type_of_shared before) (map type_of_shared rest) in
      let r = shared_is all wells x.first (omega arith) in
      let o = owner_of all wells r.at in
      let q : get_or (map type_of_shared all) x.first 0 ≡ x.content =
      ap (λ (ts : List ℕ). get_or ts x.first 0) a ∙ get_or-append (map type_of_shared before) (map type_of_shared rest) 0 x.first l ∙ eqb-true _ _ w.1 in
      subst (Val Σ t (Cell x.first)) (sym r.same ∙ ap ty_of q)
      (is_a_cell (store_at r.at) (inr (o.0, o.1, refl)))

  first_typed : {Q : ℕ → Type 0} {n : ℕ} (before rest : List SharedCell) (x : SharedCell)
      → all ≡ before ++ rest → CellFine Q n before x → Formed x.content → (t : ℕ)
      → Val Σ t (first_content x.content x.first) (ty_of x.content)
  unfolding first_content
  first_typed before rest x e f g t =
      if_all (λ (v : Value). Val Σ t v (ty_of x.content)) (is_cell x.content) _ _
      (λ c. earlier before rest x e f c t)
      (λ c. if_all (λ (v : Value). Val Σ t v (ty_of x.content)) (eqb x.content number_type) _ _
      (λ q. subst (Val Σ t (Number x.first)) (sym (ap ty_of (eqb-true _ _ q) ∙ ty_number)) is_num)
      (λ q. ⊎_elim (λ z. absurd (eqb-false _ _ q z)) (λ z. subst (Val Σ t (truth_of x.first)) (sym (ap ty_of z ∙ ty_truth)) is_tru) (formed_plain g c)))

  -- each shared cell has its owner and holds what it may hold
  held : {Q : ℕ → Type 0} {n : ℕ} (before xs : List SharedCell) → all ≡ before ++ xs
      → CellsFine Q n before xs → All Well xs → (c : ℕ) (k : CellTyping) → At (map typing_of xs) c k
      → ((cell_at (map first_cell xs) c).owner ≡ k.own)
      × Held Σ k (cell_at (map first_cell xs) c).content
  held before (x ∷ xs) e (CellsFine.more f r) (All.more w ws) zero k here = (refl, by_place w.low w.high w.word.public (first_typed before (x ∷ xs) x e f w.word.formed))
  held before (x ∷ xs) e (CellsFine.more f r) (All.more w ws) (suc c) k (there a) =
      held (before ++ (x ∷ [])) xs (e ∙ sym (append_assoc before (x ∷ []) xs)) r ws c k a
  held {Q = Q} {n = n} before [] e _ _ c k x6 = elim x6 [ ]

pub first_good : {Q : ℕ → Type 0} {n : ℕ} (xs : List SharedCell) → CellsFine Q n [] xs
    → GoodCells (store_of (map typing_of xs)) (map first_cell xs)
first_good xs f =
    record {
      each = λ c k e. held xs (all_well f) [] xs refl f (all_well f) c k (at_store (map typing_of xs) c e);
      all = λ c u. let l = ltb-true c (length (map first_cell xs)) u in let n = length-map xs typing_of in let m = length-map xs first_cell in typing_at (map typing_of xs) c (omega arith);
    }
