-- Words that hold cells: `Holds` from the words that a caller lends and back to them, with one more
-- cell, with another content. Assumes nothing.
use mathlib.Core.Path.{◌≡◌, refl, sym, ap, ◌∙◌, subst}
use mathlib.Core.List.{List, [], ◌∷◌}
use mathlib.Core.Bool.{Bool, true, false}
use Prim.Native.Nat.{ℕ, ◌+◌, ◌%◌, ◌^◌, ◌<◌, ◌≤◌}
use native.Mathlib.Omega.{arith}
use native.Mathlib.Decide.{ℕ_discrete}
use lib.Dec.{ltb}
use lib.ListN.{length, get_or, set, length-set, length-append, get_or-append, get_or-eq_default}
use lib.Seq.{ext_get_or, get_or-set_same, get_or-set_other, get_or_at}
use borrow.Author.Tests.{ltb-true, ltb-false}
use Rattle.machine.specs.State.{Stored, no_cell, used_cells, with_new_cell}
use Rattle.machine.specs.Words.{cell_word, word_cell}
use Rattle.machine.specs.Inner.Ranges.{value_in_range}
use Rattle.machine.specs.Inner.Blocks.{cell_words}
use Rattle.machine.specs.Shapes.{ValueFits}
use Rattle.machine.proofs.WordLaws.{tab_length, tab_at}
use Rattle.machine.proofs.Blocks.{cells_length, cells_at_lem}
use Rattle.machine.proofs.Round.{cell_back}
use Rattle.machine.proofs.Valid.{no_cell_word}
use Rattle.machine.proofs.KeptCells.{each_set, each_snoc}
use Rattle.evaluator.specs.Inner.Results.{CellWords, cells_from}
use Rattle.operations.proofs.WordLaws.{value_fits, cell_there, content_in_lem}

-- the n cells cs are these words; every content fits a word
pub record Holds (n : ℕ) (ws : List ℕ) (cs : List Stored) : Type 0 where
  pub count : n ≡ used_cells cs
  pub words : ws ≡ cell_words cs
  pub room : length cs ≤ 256
  pub each : (k : ℕ) → k < length cs → ValueFits (get_or cs k no_cell).content

-- each word is a cell's, or 0 after them
words_are : (ws : List ℕ) (cs : List Stored) → length ws ≡ 256
    → ((j : ℕ) → j < 256 → get_or ws j 0 ≡ cell_word (get_or cs j no_cell)) → ws ≡ cell_words cs
words_are ws cs l h = ext_get_or 0 ws (cell_words cs) (l ∙ sym (cells_length cs)) (λ j g. let m : j < 256 = rw l at g in h j m ∙ sym (cells_at_lem cs j m))

pub holds_at : (n : ℕ) (ws : List ℕ) (cs : List Stored) (k : ℕ) → Holds n ws cs → k < length cs
    → get_or ws k 0 ≡ cell_word (get_or cs k no_cell)
holds_at n ws cs k h l =
    let m = h.room in ap (λ (x : List ℕ). get_or x k 0) h.words ∙ cells_at_lem cs k (omega arith)

pub holds_length : {n : ℕ} {ws : List ℕ} {cs : List Stored} → Holds n ws cs → length ws ≡ 256
holds_length {cs = cs} h = ap length h.words ∙ cells_length cs

-- ---- the cells that the first n words are
module _ (n : ℕ) (ws : List ℕ) where
  pub from_length : length (cells_from n ws) ≡ n
  unfolding cells_from
  from_length = tab_length n (λ c. word_cell (get_or ws c 0)) 0

  from_at : (k : ℕ) → k < n → get_or (cells_from n ws) k no_cell ≡ word_cell (get_or ws k 0)
  unfolding cells_from
  from_at k l = tab_at n (λ c. word_cell (get_or ws c 0)) k no_cell l

-- the words that a caller lends hold the cells that they are
pub holds_from : (n : ℕ) (ws : List ℕ) → CellWords n ws → Holds n ws (cells_from n ws)
unfolding word_cell
holds_from n ws h = record {
  count = sym l;
  words = words_are ws (cells_from n ws) h.all (λ j g. at j g (ltb j n) refl);
  room = rw l h.room;
  each = λ k g. let m : k < n = rw l at g in
      subst (λ (x : Stored). ValueFits x.content) (sym (from_at n ws k m)) (value_fits (get_or ws k 0 % 2 ^ 34) (h.each k m));
}
  where
    l : length (cells_from n ws) ≡ n
    l = from_length n ws

    at : (j : ℕ) → j < 256 → (b : Bool) → ltb j n ≡ b
        → get_or ws j 0 ≡ cell_word (get_or (cells_from n ws) j no_cell)
    at j g true e = let m : j < n = ltb-true j n e in
        sym (cell_there (get_or ws j 0) (h.each j m)) ∙ ap cell_word (sym (from_at n ws j m))
    at j g false e = let m : n ≤ j = ltb-false j n e in
        h.unused j m g ∙ no_cell_word
        ∙ ap cell_word (sym (get_or-eq_default (cells_from n ws) no_cell {n = j} (rw l m)))

-- and words that hold cells may be lent again: they say those cells
pub holds_words : (n : ℕ) (ws : List ℕ) (cs : List Stored) → Holds n ws cs → CellWords n ws
holds_words n ws cs h = record {
  all = holds_length h;
  room = let m = h.room in let e = h.count in omega arith;
  each = λ k l. let m : k < length cs = subst (λ (x : ℕ). k < x) h.count l in
      ap (λ (x : ℕ). value_in_range (x % 2 ^ 34)) (holds_at n ws cs k h m) ∙ content_in_lem (get_or cs k no_cell) (h.each k m);
  unused = λ k l m. let g : length cs ≤ k = subst (λ (x : ℕ). x ≤ k) h.count l in
      ap (λ (x : List ℕ). get_or x k 0) h.words ∙ cells_at_lem cs k m ∙ ap cell_word (get_or-eq_default cs no_cell {n = k} g) ∙ sym no_cell_word;
}

pub holds_cells : (n : ℕ) (ws : List ℕ) (cs : List Stored) → Holds n ws cs → cells_from n ws ≡ cs
holds_cells n ws cs h = ext_get_or no_cell (cells_from n ws) cs (from_length n ws ∙ h.count)
    (λ k g. let m : k < n = rw (from_length n ws) at g in let q : k < length cs = subst (λ (x : ℕ). k < x) h.count m in
    from_at n ws k m ∙ ap word_cell (holds_at n ws cs k h q) ∙ cell_back (get_or cs k no_cell) (h.each k q))

-- ---- one more cell
pub holds_push : (n : ℕ) (ws : List ℕ) (cs : List Stored) (x : Stored) → Holds n ws cs
    → used_cells cs < 256 → ValueFits x.content
    → Holds (n + 1) (set ws n (cell_word x)) (with_new_cell cs x)
holds_push n ws cs x h l f = record {
  count =
      let e = h.count in let z : length (with_new_cell cs x) ≡ length cs + 1 = longer in omega arith;
  words = words_are (set ws n (cell_word x)) (with_new_cell cs x) (length-set ws n (cell_word x) ∙ holds_length h) (λ j g. at j g (ℕ_discrete j n));
  room = let z : length (with_new_cell cs x) ≡ length cs + 1 = longer in omega arith;
  each = each_snoc (λ (y : Stored). ValueFits y.content) cs x no_cell h.each f;
}
  where
    longer : length (with_new_cell cs x) ≡ length cs + 1
    longer = length-append cs (x ∷ [])

    beyond : (j : ℕ) → (j ≡ n → ⊥) → n ≡ length cs → length cs ≤ j
        → length (with_new_cell cs x) ≡ length cs + 1 → length (with_new_cell cs x) ≤ j
    beyond j e c g z = omega arith

    same : (j : ℕ) → (j ≡ n → ⊥) → (b : Bool) → ltb j (length cs) ≡ b
        → get_or cs j no_cell ≡ get_or (with_new_cell cs x) j no_cell
    same j e true q = sym (get_or-append cs (x ∷ []) no_cell j (ltb-true j (length cs) q))
    same j e false q = let g : length cs ≤ j = ltb-false j (length cs) q in
        get_or-eq_default cs no_cell {n = j} g ∙ sym
        (get_or-eq_default (with_new_cell cs x) no_cell {n = j} (beyond j e h.count g longer))

    inside : n ≡ length cs → length ws ≡ 256 → n < length ws
    inside c s = omega arith

    at : (j : ℕ) → j < 256 → Dec (j ≡ n)
        → get_or (set ws n (cell_word x)) j 0 ≡ cell_word (get_or (with_new_cell cs x) j no_cell)
    at j g (yes e) =
        ap (λ (k : ℕ). get_or (set ws n (cell_word x)) k 0) e
        ∙ get_or-set_same ws n (cell_word x) 0 (inside h.count (holds_length h))
        ∙ ap cell_word (sym (get_or_at cs x [] no_cell j (sym h.count ∙ sym e)))
    at j g (no e) =
        get_or-set_other ws n j (cell_word x) 0 e ∙ ap (λ (y : List ℕ). get_or y j 0) h.words
        ∙ cells_at_lem cs j g
        ∙ ap cell_word (same j e (ltb j (length cs)) refl)

-- ---- another content
pub holds_put : (n : ℕ) (ws : List ℕ) (cs : List Stored) (c : ℕ) (x : Stored) → Holds n ws cs
    → c < length cs → ValueFits x.content
    → Holds n (set ws c (cell_word x)) (set cs c x)
holds_put n ws cs c x h l f = record {
  count = h.count ∙ sym (length-set cs c x);
  words = words_are (set ws c (cell_word x)) (set cs c x) (length-set ws c (cell_word x) ∙ holds_length h) (λ j g. at j g (ℕ_discrete j c));
  room = rw (length-set cs c x) h.room;
  each = each_set (λ (y : Stored). ValueFits y.content) cs c x no_cell h.each (λ _. f);
}
  where
    inside : length cs ≤ 256 → length ws ≡ 256 → c < length ws
    inside r s = omega arith

    at : (j : ℕ) → j < 256 → Dec (j ≡ c)
        → get_or (set ws c (cell_word x)) j 0 ≡ cell_word (get_or (set cs c x) j no_cell)
    at j g (yes e) =
        ap (λ (k : ℕ). get_or (set ws c (cell_word x)) k 0) e
        ∙ get_or-set_same ws c (cell_word x) 0 (inside h.room (holds_length h))
        ∙ ap cell_word
        (sym (ap (λ (k : ℕ). get_or (set cs c x) k no_cell) e ∙ get_or-set_same cs c x no_cell l))
    at j g (no e) =
        get_or-set_other ws c j (cell_word x) 0 e ∙ ap (λ (y : List ℕ). get_or y j 0) h.words
        ∙ cells_at_lem cs j g
        ∙ ap cell_word (sym (get_or-set_other cs c j x no_cell e))
