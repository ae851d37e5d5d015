-- Typed values and cells: a value has its type in the eyes of a thread, and a cell holds what has
-- its content's type in the eyes of whoever may see the cell. Assumes nothing.
use mathlib.Core.Path.{◌≡◌, refl, sym, ap, subst, ◌∙◌}
use mathlib.Core.Logic.{◌⊎◌, inr, ⊎_elim}
use mathlib.Core.List.{List, [], ◌∷◌, ◌++◌}
use mathlib.Core.Option.{Option, some}
use mathlib.Core.Bool.{Bool, true, false, true≢false}
use Prim.Native.Nat.{ℕ, zero, suc, ◌+◌, ◌≤◌, ◌<◌}
use native.Mathlib.Omega.{arith}
use native.Mathlib.Decide.{ℕ_discrete}
use lib.Dec.{eqb}
use lib.ListN.{length, get_or, take, length-append}
use lib.Seq.{get_or-set_other}
use borrow.Author.Tests.{eq-eqb, ne_eqb}
use Rattle.basics.specs.If.{when◌then◌else◌}
use Rattle.basics.specs.Members.{All}
use Rattle.basics.proofs.Ifs.{if_yes, if_no}
use Rattle.machine.specs.State.{Stored, cell_at, no_cell, is_used, free_number, with_new_cell}
use Rattle.machine.specs.declared.value.Value.{Value}
use Rattle.machine.specs.declared.value.Value.TheVariants.{Number, Truth, Cell}
use Rattle.machine.proofs.UsedCells.{put, owner_used, free_unused, new_at, new_other}
use Rattle.machine.proofs.UsedCells.{new_used_other, put_at, put_used}
use Rattle.safety.proofs.Typing.{Ty, num, tru, cell, Pub, CellTyping, Store, At, here, there}

-- who owns a cell whose type says owner o, in the eyes of thread t: the thread itself where o is 1,
-- else the scheduler o
abbrev pub Seen : ℕ → ℕ → ℕ → Type 0
Seen t o own = ((o ≡ 1) × (own ≡ 16 + t)) ⊎ ((2 ≤ o) × (o ≤ 9) × (own ≡ o))

-- a value's type in the eyes of thread t, where Σ types the cells
pub data Val (Σ : Store) (t : ℕ) : Value → Ty → Type 0 where
  is_num : {n : ℕ} → Val Σ t (Number n) num
  is_tru : {b : Bool} → Val Σ t (Truth b) tru
  is_a_cell : {c o : ℕ} {k : CellTyping} → Σ c ≡ some k → Seen t o k.own
      → Val Σ t (Cell c) (cell o k.ty)

-- what a cell may hold: a thread's, what has its type in that thread's eyes; a scheduler's, what
-- has a public type in everybody's
pub data Held (Σ : Store) (k : CellTyping) (v : Value) : Type 0 where
  by_thread : (t : ℕ) → k.own ≡ 16 + t → Val Σ t v k.ty → Held Σ k v
  by_place : 2 ≤ k.own → k.own ≤ 9 → Pub k.ty → ((t : ℕ) → Val Σ t v k.ty) → Held Σ k v

-- the cells are those that Σ types: each has its owner and holds what it may hold, and every cell
-- in use is one of them
pub record GoodCells (Σ : Store) (cs : List Stored) : Type 0 where
  pub each : (c : ℕ) (k : CellTyping) → Σ c ≡ some k
      → ((cell_at cs c).owner ≡ k.own) × Held Σ k (cell_at cs c).content
  pub all : (c : ℕ) → is_used cs c ≡ true → (k : CellTyping) × (Σ c ≡ some k)

-- cells are only added
abbrev pub More : Store → Store → Type 0
More Σ Σ' = (c : ℕ) (k : CellTyping) → Σ c ≡ some k → Σ' c ≡ some k

-- values and their types, in order
pub data Vals (Σ : Store) (t : ℕ) : List Value → List Ty → Type 0 where
  none : Vals Σ t [] []
  more : {v : Value} {vs : List Value} {τ : Ty} {τs : List Ty} → Val Σ t v τ → Vals Σ t vs τs
      → Vals Σ t (v ∷ vs) (τ ∷ τs)

-- the shared cells are the first, and each is a scheduler's
abbrev pub SharedOk : Store → List CellTyping → Type 0
SharedOk Σ sh = (s : ℕ) (k : CellTyping) → At sh s k → (Σ s ≡ some k) × (2 ≤ k.own) × (k.own ≤ 9)

-- ---- these stay as they are when cells are added

pub val_more : {Σ Σ' : Store} {t : ℕ} {v : Value} {τ : Ty} → More Σ Σ' → Val Σ t v τ → Val Σ' t v τ
val_more m is_num = is_num
val_more m is_tru = is_tru
val_more m (is_a_cell a s) = is_a_cell (m _ _ a) s

pub held_more : {Σ Σ' : Store} {k : CellTyping} {v : Value} → More Σ Σ' → Held Σ k v → Held Σ' k v
held_more m (by_thread t e w) = by_thread t e (val_more m w)
held_more m (by_place a b p w) = by_place a b p (λ t. val_more m (w t))

pub vals_more : {Σ Σ' : Store} {t : ℕ} {vs : List Value} {τs : List Ty} → More Σ Σ' → Vals Σ t vs τs
    → Vals Σ' t vs τs
vals_more m none = none
vals_more m (more v vs) = more (val_more m v) (vals_more m vs)

pub shared_more : {Σ Σ' : Store} {sh : List CellTyping} → More Σ Σ' → SharedOk Σ sh → SharedOk Σ' sh
shared_more m h s k a = (m s k (h s k a).0, (h s k a).1, (h s k a).2)

-- ---- in whose eyes

-- a public value is seen alike by every thread
pub val_public : {Σ : Store} {t : ℕ} {v : Value} {τ : Ty} (u : ℕ) → Pub τ → Val Σ t v τ
    → Val Σ u v τ
val_public u p is_num = is_num
val_public u p is_tru = is_tru
val_public u p (is_a_cell a s) = is_a_cell a (⊎_elim (λ h. absurd (omega (arith, h.0))) (λ h. inr h) s)

pub vals_public : {Σ : Store} {t : ℕ} {vs : List Value} {τs : List Ty} (u : ℕ) → All Pub τs
    → Vals Σ t vs τs → Vals Σ u vs τs
vals_public u All.none none = none
vals_public u (All.more p ps) (more v vs) = more (val_public u p v) (vals_public u ps vs)

-- what a cell holds, in the eyes of one who sees the cell
pub held_val : {Σ : Store} {k : CellTyping} {v : Value} (t o : ℕ) → Seen t o k.own → Held Σ k v
    → Val Σ t v k.ty
held_val {Σ} {k} {v} t o s (by_thread u e w) =
    ⊎_elim (λ h. subst (λ (n : ℕ). Val Σ n v k.ty) (omega (arith, h.1, e)) w)
    (λ h. absurd (omega (arith, h.1, h.2, e))) s
held_val t o s (by_place a b p w) = w t

-- what a thread puts into a new cell: public, where the owner is a scheduler
pub val_held : {Σ : Store} {k : CellTyping} {v : Value} (t o : ℕ) → Seen t o k.own
    → (2 ≤ o → Pub k.ty) → Val Σ t v k.ty → Held Σ k v
val_held {k = k} t o s p w =
    ⊎_elim (λ h. by_thread t h.1 w)
    (λ h. by_place (omega (arith, h.0, h.2)) (omega (arith, h.1, h.2)) (p h.0) (λ u. val_public u (p h.0) w)) s

-- ---- store typings

-- the index of a member is below the length
pub at_below : {A : Type 0} {l : List A} {j : ℕ} {a : A} → At l j a → j < length l
at_below here = omega arith
at_below (there h) = let g = at_below h in omega arith

pub some_one : {k l : CellTyping} → some k ≡ some l → k ≡ l
some_one {k} e = ap of e
  where
    of : Option CellTyping → CellTyping
    of Option.none = k
    of (some j) = j

pub none_some : {k : CellTyping} → Option.none ≡ some k → ⊥
none_some {k} e = true≢false (ap is (sym e))
  where
    is : Option CellTyping → Bool
    is Option.none = false
    is (some j) = true

-- the typings of that list, of the first cells
unfoldable pub store_of : List CellTyping → Store
store_of [] c = Option.none
store_of (k ∷ l) zero = some k
store_of (k ∷ l) (suc c) = store_of l c

pub store_at : {l : List CellTyping} {c : ℕ} {k : CellTyping} → At l c k → store_of l c ≡ some k
unfolding store_of
store_at here = refl
store_at (there a) = store_at a

pub at_store : (l : List CellTyping) (c : ℕ) {k : CellTyping} → store_of l c ≡ some k → At l c k
unfolding store_of
at_store [] c e = absurd (none_some e)
at_store (j ∷ l) zero e = subst (At (j ∷ l) 0) (some_one e) here
at_store (j ∷ l) (suc c) e = there (at_store l c e)

pub typing_at : (l : List CellTyping) (c : ℕ) → c < length l
    → (k : CellTyping) × (store_of l c ≡ some k)
unfolding store_of
typing_at [] c h = absurd (omega arith)
typing_at (k ∷ l) zero h = (k, refl)
typing_at (k ∷ l) (suc c) h = typing_at l c (omega arith)

-- Σ, with cell c typed by k
unfoldable pub with_typing : Store → ℕ → CellTyping → Store
with_typing Σ c k d = when eqb d c then some k else Σ d

pub typing_new : (Σ : Store) (c : ℕ) (k : CellTyping) → with_typing Σ c k c ≡ some k
unfolding with_typing
typing_new Σ c k = if_yes _ _ (eq-eqb c c refl)

typing_other : (Σ : Store) (c : ℕ) (k : CellTyping) (d : ℕ) → (d ≡ c → ⊥) → with_typing Σ c k d ≡ Σ d
unfolding with_typing
typing_other Σ c k d n = if_no _ _ (ne_eqb d c n)

-- ---- a thread's variables

pub vals_length : {Σ : Store} {t : ℕ} {vs : List Value} {Γ : List Ty} → Vals Σ t vs Γ
    → length vs ≡ length Γ
vals_length none = refl
vals_length (more v vs) = ap suc (vals_length vs)

pub vals_at : {Σ : Store} {t i : ℕ} {vs : List Value} {Γ : List Ty} {τ : Ty} → Vals Σ t vs Γ
    → At Γ i τ → (i < length vs) × Val Σ t (get_or vs i (Number 0)) τ
vals_at (more v vs) here = (omega arith, v)
vals_at (more v vs) (there a) = let g = vals_at vs a in (omega (arith, g.0), g.1)
vals_at {Σ = Σ} {t = t} {i = i} {τ = τ} none x4 = elim x4 [ ]

pub vals_snoc : {Σ : Store} {t : ℕ} {vs : List Value} {Γ : List Ty} {v : Value} {τ : Ty}
    → Vals Σ t vs Γ → Val Σ t v τ → Vals Σ t (vs ++ (v ∷ [])) (Γ ++ (τ ∷ []))
vals_snoc none w = more w none
vals_snoc (more v vs) w = more v (vals_snoc vs w)

pub vals_take : {Σ : Store} {t : ℕ} {vs : List Value} (τ : Ty) (Γ : List Ty) (n : ℕ)
    → length vs ≡ suc n → Vals Σ t vs (Γ ++ (τ ∷ [])) → Vals Σ t (take n vs) Γ
vals_take τ [] zero e (more v none) = none
vals_take τ [] (suc n) e (more v none) = absurd (omega arith)
vals_take τ (γ ∷ Γ) zero e (more v vs) =
    let a = vals_length vs in let b = length-append Γ (τ ∷ []) in absurd (omega arith)
vals_take τ (γ ∷ Γ) (suc n) e (more v vs) = more v (vals_take τ Γ n (omega arith) vs)

-- ---- good cells

-- whatever a cell holds, its owner is not 0
own_some : {Σ : Store} {k : CellTyping} {v : Value} → Held Σ k v → k.own ≡ 0 → ⊥
own_some (by_thread t e w) z = omega (arith, e, z)
own_some (by_place a b p w) z = omega (arith, a, z)

-- a typed cell is in use
pub typed_used : {Σ : Store} {cs : List Stored} {k : CellTyping} (c : ℕ) → GoodCells Σ cs
    → Σ c ≡ some k → is_used cs c ≡ true
typed_used {cs =
    cs} {k} c g a = let w = g.each c k a in owner_used cs c (λ z. own_some w.1 (sym w.0 ∙ z))

-- ---- with a new one, and with another content in one of them

pub new_more : (Σ : Store) (cs : List Stored) (k : CellTyping) → GoodCells Σ cs
    → More Σ (with_typing Σ (free_number cs) k)
new_more Σ cs k g c l a =
    typing_other Σ (free_number cs) k c
    (λ e. true≢false (sym (typed_used c g a) ∙ ap (is_used cs) e ∙ free_unused cs)) ∙ a

pub new_good : (Σ : Store) (cs : List Stored) (k : CellTyping) (x : Stored) → GoodCells Σ cs
    → x.owner ≡ k.own → Held Σ k x.content
    → GoodCells (with_typing Σ (free_number cs) k) (with_new_cell cs x)
new_good Σ cs k x g e h = record { each = λ c l a. each c l a (ℕ_discrete c (free_number cs)); all = λ c u. all c u (ℕ_discrete c (free_number cs)) }
  where
    m : More Σ (with_typing Σ (free_number cs) k)
    m = new_more Σ cs k g

    each : (c : ℕ) (l : CellTyping) → with_typing Σ (free_number cs) k c ≡ some l
        → Dec (c ≡ free_number cs)
        → ((cell_at (with_new_cell cs x) c).owner ≡ l.own)
        × Held (with_typing Σ (free_number cs) k) l (cell_at (with_new_cell cs x) c).content
    each c l a (yes f) =
        let p : cell_at (with_new_cell cs x) c ≡ x = ap (cell_at (with_new_cell cs x)) f ∙ new_at cs x in
        let q : k ≡ l = some_one (sym (typing_new Σ (free_number cs) k) ∙ ap (with_typing Σ (free_number cs) k) (sym f) ∙ a) in (
          ap (λ (y : Stored). y.owner) p ∙ e ∙ ap (λ (y : CellTyping). y.own) q,
          subst (λ (y : Stored). Held (with_typing Σ (free_number cs) k) l y.content) (sym p)
              (subst (λ (y : CellTyping). Held (with_typing Σ (free_number cs) k) y x.content) q (held_more m h)),
        )
    each c l a (no f) =
        let p = new_other cs x c f in
        let w = g.each c l (sym (typing_other Σ (free_number cs) k c f) ∙ a) in
        (ap (λ (y : Stored). y.owner) p ∙ w.0, subst (λ (y : Stored). Held (with_typing Σ (free_number cs) k) l y.content) (sym p) (held_more m w.1))

    all : (c : ℕ) → is_used (with_new_cell cs x) c ≡ true → Dec (c ≡ free_number cs)
        → (l : CellTyping) × (with_typing Σ (free_number cs) k c ≡ some l)
    all c u (yes f) = (k, ap (with_typing Σ (free_number cs) k) f ∙ typing_new Σ (free_number cs) k)
    all c u (no f) =
        let r = g.all c (sym (new_used_other cs x c f) ∙ u) in
        (r.0, typing_other Σ (free_number cs) k c f ∙ r.1)

pub put_good : (Σ : Store) (cs : List Stored) (c : ℕ) (k : CellTyping) (v : Value) → GoodCells Σ cs
    → Σ c ≡ some k → Held Σ k v
    → GoodCells Σ (put cs c v)
put_good Σ cs c k v g a h = record { each = λ d l b. at d l b (ℕ_discrete d c); all = λ d u. g.all d (sym (put_used cs c v d) ∙ u) }
  where
    at : (d : ℕ) (l : CellTyping) → Σ d ≡ some l → Dec (d ≡ c)
        → ((cell_at (put cs c v) d).owner ≡ l.own) × Held Σ l (cell_at (put cs c v) d).content
    at d l b (no n) = let p = get_or-set_other cs c d _ no_cell n in
        (ap (λ (y : Stored). y.owner) p ∙ (g.each d l b).0, subst (λ (y : Stored). Held Σ l y.content) (sym p) (g.each d l b).1)
    at d l b (yes e) =
        let p : cell_at (put cs c v) d ≡ record { owner = (cell_at cs c).owner; content = v } = ap (cell_at (put cs c v)) e ∙ put_at cs c v (typed_used c g a) in
        let r : k ≡ l = some_one (sym a ∙ ap Σ (sym e) ∙ b) in (
          ap (λ (y : Stored). y.owner) p ∙ (g.each c k a).0 ∙ ap (λ (y : CellTyping). y.own) r,
          subst (λ (y : Stored). Held Σ l y.content) (sym p)
              (subst (λ (y : CellTyping). Held Σ y v) r h),
        )
