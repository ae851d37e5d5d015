-- What refusal 5 asks of a frame and those before it, said of the whole file: so many of a kind,
-- and the first contents of the shared cells in their order. Assumes nothing.
use mathlib.Core.Path.{◌≡◌, refl, sym, ap, subst, ◌∙◌}
use mathlib.Core.Bool.{Bool, true, false}
use mathlib.Core.List.{List, [], ◌∷◌, ◌++◌, map, append_assoc, append-nil}
use Prim.Native.Nat.{ℕ, zero, suc, ◌+◌, ◌≤◌, ◌<◌}
use native.Mathlib.Omega.{arith}
use lib.ListN.{length, take}
use Rattle.basics.specs.If.{when◌then◌else◌}
use Rattle.basics.proofs.Ifs.{if_yes, if_no}
use Rattle.language.specs.Kinds.{is_shared}
use Rattle.language.specs.declared.kind.Kind.{Kind}
use Rattle.language.specs.declared.frame.Frame.{Frame}
use Rattle.program.specs.Trees.{frame_at}
use Rattle.program.specs.Programs.{SharedCell, type_of_shared, cell_of, shared_of, cells_of}
use Rattle.program.proofs.OneMore.{shared_yes, shared_no}
use Rattle.fields.specs.Fields.{first_content_fine, count_of}

-- ---- how many there are
module _ (test : Kind → Bool) where
  -- each has fewer than m before it; n stand before the list
  pub few_all : (m n : ℕ) (fs : List Frame) → n ≤ m
      → ((j : ℕ) → j < length fs → test (frame_at fs j).kind ≡ true → n + count_of test (take j fs) < m)
      → n + count_of test fs ≤ m
  unfolding count_of
  few_all m n [] l h = omega arith
  few_all m n (f ∷ fs) l h = go (test f.kind) refl (λ k. few_all m k fs)
    where
      go : (b : Bool) → test f.kind ≡ b
          → ((k : ℕ) → k ≤ m → ((j : ℕ) → j < length fs → test (frame_at fs j).kind ≡ true → k + count_of test (take j fs) < m) → k + count_of test fs ≤ m)
          → n + ((when test f.kind then 1 else 0) + count_of test fs) ≤ m
      go true e rec =
          let c = if_yes {A = ℕ} 1 0 e in
          let a = h 0 (omega arith) e in
          let r = rec (n + 1) (omega arith) (λ j k q. (let b = h (suc j) (omega arith) q in omega arith)) in
          omega arith
      go false e rec =
          let c = if_no {A = ℕ} 1 0 e in
          let r = rec n l (λ j k q. (let b = h (suc j) (omega arith) q in omega arith)) in
          omega arith

  -- and back: one of them has fewer before it than there are
  pub few_before : (fs : List Frame) (j : ℕ) → j < length fs → test (frame_at fs j).kind ≡ true
      → count_of test (take j fs) < count_of test fs
  unfolding count_of
  few_before [] j l e = absurd (omega arith)
  few_before (f ∷ fs) zero l e =
      let c = if_yes {A = ℕ} 1 0 e in
      omega arith
  few_before (f ∷ fs) (suc j) l e = let r = few_before fs j (omega arith) e in omega arith

-- ---- first contents: of these cells, after those of the types ts
pub data Contents : List ℕ → List SharedCell → Type 0 where
  none : {ts : List ℕ} → Contents ts []
  more : {ts : List ℕ} {x : SharedCell} {xs : List SharedCell}
      → first_content_fine ts x.content x.first ≡ true
      → Contents (ts ++ (type_of_shared x ∷ [])) xs
      → Contents ts (x ∷ xs)

contents_first : {ts : List ℕ} {x : SharedCell} {xs : List SharedCell} → Contents ts (x ∷ xs)
    → first_content_fine ts x.content x.first ≡ true
contents_first (Contents.more h c) = h

contents_rest : {ts : List ℕ} {x : SharedCell} {xs : List SharedCell} → Contents ts (x ∷ xs)
    → Contents (ts ++ (type_of_shared x ∷ [])) xs
contents_rest (Contents.more h c) = c

-- the types after ts, with one cell more
types_yes : (ts : List ℕ) (f : Frame) (fs : List Frame) → is_shared f.kind ≡ true
    → (ts ++ (type_of_shared (cell_of f) ∷ [])) ++ cells_of fs ≡ ts ++ cells_of (f ∷ fs)
types_yes ts f fs e =
    append_assoc ts (type_of_shared (cell_of f) ∷ []) (cells_of fs)
    ∙ ap (λ (us : List ℕ). ts ++ us) (sym (ap (map type_of_shared) (shared_yes f fs e)))

types_no : (ts : List ℕ) (f : Frame) (fs : List Frame) → is_shared f.kind ≡ false
    → ts ++ cells_of fs ≡ ts ++ cells_of (f ∷ fs)
types_no ts f fs e =
    ap (λ (us : List ℕ). ts ++ us) (sym (ap (map type_of_shared) (shared_no f fs e)))

abbrev FineAt : List ℕ → List Frame → ℕ → Type 0
FineAt ts fs j =
    first_content_fine (ts ++ cells_of (take j fs)) (frame_at fs j).a (frame_at fs j).b ≡ true

pub contents_of : (ts : List ℕ) (fs : List Frame)
    → ((j : ℕ) → j < length fs → is_shared (frame_at fs j).kind ≡ true → FineAt ts fs j)
    → Contents ts (shared_of fs)
unfolding shared_of
contents_of ts [] h = Contents.none
contents_of ts (f ∷ fs) h = go (is_shared f.kind) refl (λ us. contents_of us fs)
  where
    go : (b : Bool) → is_shared f.kind ≡ b
        → ((us : List ℕ) → ((j : ℕ) → j < length fs → is_shared (frame_at fs j).kind ≡ true → FineAt us fs j) → Contents us (shared_of fs))
        → Contents ts (shared_of (f ∷ fs))
    go true e rec =
        subst (Contents ts) (sym (shared_yes f fs e)) (Contents.more {x = cell_of f} (ap (λ (us : List ℕ). first_content_fine us f.a f.b) (sym (append-nil ts)) ∙ h 0 (omega arith) e) (rec (ts ++ (type_of_shared (cell_of f) ∷ [])) (λ j l q. ap (λ (us : List ℕ). first_content_fine us (frame_at fs j).a (frame_at fs j).b) (types_yes ts f (take j fs) e) ∙ h (suc j) (omega arith) q)))
    go false e rec =
        subst (Contents ts) (sym (shared_no f fs e)) (rec ts (λ j l q. ap (λ (us : List ℕ). first_content_fine us (frame_at fs j).a (frame_at fs j).b) (types_no ts f (take j fs) e) ∙ h (suc j) (omega arith) q))

pub contents_at : (ts : List ℕ) (fs : List Frame) → Contents ts (shared_of fs) → (j : ℕ)
    → j < length fs → is_shared (frame_at fs j).kind ≡ true → FineAt ts fs j
unfolding shared_of
contents_at ts [] c j l e = absurd (omega arith)
contents_at ts (f ∷ fs) c zero l e =
    ap (λ (us : List ℕ). first_content_fine us f.a f.b) (append-nil ts)
    ∙ contents_first (subst (Contents ts) (shared_yes f fs e) c)
contents_at ts (f ∷ fs) c (suc j) l e =
    go (is_shared f.kind) refl (λ us d. contents_at us fs d j (omega arith) e)
  where
    go : (b : Bool) → is_shared f.kind ≡ b
        → ((us : List ℕ) → Contents us (shared_of fs) → FineAt us fs j) → FineAt ts (f ∷ fs) (suc j)
    go true q rec =
        ap (λ (us : List ℕ). first_content_fine us (frame_at fs j).a (frame_at fs j).b) (sym (types_yes ts f (take j fs) q))
        ∙ rec (ts ++ (type_of_shared (cell_of f) ∷ [])) (contents_rest (subst (Contents ts) (shared_yes f fs q) c))
    go false q rec =
        ap (λ (us : List ℕ). first_content_fine us (frame_at fs j).a (frame_at fs j).b) (sym (types_no ts f (take j fs) q))
        ∙ rec ts (subst (Contents ts) (shared_no f fs q) c)
