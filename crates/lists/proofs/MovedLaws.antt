-- Entries that become active change the words of their scheduler alone, and leave its lists within
-- their spaces, and the same threads alive. Assumes nothing.
use Prim.Native.Nat.{ℕ, zero, suc, ◌+◌, ◌*◌, ◌<◌, ◌≤◌}
use mathlib.Core.Path.{◌≡◌, refl, sym, ap, ap₂, ◌∙◌, subst}
use mathlib.Core.List.{List, ◌∷◌}
use mathlib.Core.Bool.{Bool, not, ◌&&◌}
use native.Mathlib.Omega.{arith}
use native.Mathlib.Decide.{ℕ_discrete}
use lib.Dec.{ltb, eqb}
use lib.ListN.{get_or, length, set, length-set}
use lib.Seq.{get_or-set_same, get_or-set_other}
use Rattle.basics.specs.If.{when◌then◌else◌}
use Rattle.machine.specs.Inner.Families.{family_to, family_steps}
use Rattle.machine.specs.Inner.Ranges.{all_below}
use Rattle.machine.specs.Words.{tabulate, words_at}
use Rattle.machine.specs.Inner.Blocks.{pasted, padded}
use Rattle.machine.proofs.WordLaws.{tab_length, pasted_length, pasted_out}
use Rattle.machine.proofs.Padded.{padded-length}
use Rattle.lists.specs.Inner.Families.{starter_in, is_awaited, none_awaited, LivingFamilies}
use Rattle.lists.specs.Inner.Lists.{wanted_words, other_words, partitioned_in, with_moved}
use Rattle.lists.specs.Inner.Lists.{active_with, ListsFit}
use Rattle.lists.proofs.PartitionLaws.{all_partitioned}

module _ (test : ℕ → Bool) (w : List ℕ) (k : ℕ) (l : k < 8) (long : length w ≡ 4834)
    (small : get_or w (67 + 130 * k) 0 ≤ 64) (room : active_with test w k ≤ 64) where
  -- where the scheduler's words begin and where its next list does; how many are active and how many
  -- entries there are; the words of those that pass and of the others
  abbrev block_at : ℕ
  block_at = 2 + 130 * k

  abbrev next_at : ℕ
  next_at = 67 + 130 * k

  abbrev n : ℕ
  n = get_or w block_at 0

  abbrev m : ℕ
  m = get_or w next_at 0

  abbrev rs : List ℕ
  rs = wanted_words test (words_at w next_at)

  abbrev ws : List ℕ
  ws = other_words test (words_at w next_at)

  abbrev d : List ℕ
  d = pasted w (block_at + 1 + n) rs (length rs)

  abbrev u : List ℕ
  u = pasted d (next_at + 1) (padded m ws) m

  abbrev v : List ℕ
  v = set (set u block_at (n + length rs)) next_at (length ws)

  moved_is : v ≡ with_moved test w k
  unfolding with_moved partitioned_in
  moved_is =
      let z : next_at ≡ block_at + 65 = omega arith in
      ap (λ (i : ℕ). set (set (pasted (pasted w (block_at + 1 + n) (wanted_words test (words_at w i)) (length (wanted_words test (words_at w i))))
      (i + 1) (padded (get_or w i 0) (other_words test (words_at w i))) (get_or w i 0)) block_at (n + length rs)) next_at (length ws)) z

  size : length rs + length ws ≡ m
  size = all_partitioned test w (words_at w next_at) ∙ tab_length m (λ i. get_or w i 0) (suc next_at)

  hd : block_at + 1 + n + length rs ≤ length w
  hd = rw long (let x = room in omega arith)

  dl : length d ≡ 4834
  dl = pasted_length w (block_at + 1 + n) rs (length rs) hd (omega arith) ∙ long

  hu : next_at + 1 + m ≤ length d
  hu = rw dl (let y = small in omega arith)

  hs : m ≤ length (padded m ws)
  hs = rw (padded-length m ws) (omega arith)

  ul : length u ≡ 4834
  ul = pasted_length d (next_at + 1) (padded m ws) m hu hs ∙ dl

  vl : length v ≡ 4834
  vl =
      length-set (set u block_at (n + length rs)) next_at (length ws)
      ∙ length-set u block_at (n + length rs) ∙ ul

  pub moved_long : length (with_moved test w k) ≡ 4834
  moved_long = ap length (sym moved_is) ∙ vl

  -- a word of no list of this scheduler is as it was
  pub moved_other : (i : ℕ) → (2 + 130 * k ≤ i → i < 2 + 130 * k + 130 → ⊥)
      → get_or (with_moved test w k) i 0 ≡ get_or w i 0
  moved_other i f =
      ap (λ (x : List ℕ). get_or x i 0) (sym moved_is)
      ∙ get_or-set_other (set u block_at (n + length rs)) next_at i (length ws) 0 (λ p. f (omega arith) (omega arith))
      ∙ get_or-set_other u block_at i (n + length rs) 0 (λ p. f (omega arith) (omega arith))
      ∙ pasted_out d (next_at + 1) (padded m ws) m hu hs i (λ p r. f (omega arith) (let y = small in omega arith))
      ∙ pasted_out w (block_at + 1 + n) rs (length rs) hd (omega arith) i (λ p r. f (omega arith) (let x = room in omega arith))

  pub moved_active : get_or (with_moved test w k) (2 + 130 * k) 0 ≡ active_with test w k
  moved_active =
      ap (λ (x : List ℕ). get_or x block_at 0) (sym moved_is)
      ∙ get_or-set_other (set u block_at (n + length rs)) next_at block_at (length ws) 0 (λ p. omega arith)
      ∙ get_or-set_same u block_at (n + length rs) 0 (rw ul (omega arith))

  pub moved_next : get_or (with_moved test w k) (67 + 130 * k) 0 ≤ 64
  moved_next =
      let e = ap (λ (x : List ℕ). get_or x next_at 0) (sym moved_is)
      ∙ get_or-set_same (set u block_at (n + length rs)) next_at (length ws) 0
      (rw (length-set u block_at (n + length rs) ∙ ul) (omega arith)) in
      let s = size in
      omega arith

  pub moved_fits : ListsFit w → ListsFit (with_moved test w k)
  moved_fits h =
      record {
        threads = rw (moved_other 0 (λ p r. omega arith)) h.threads;
        active = λ j b. by_active j b (ℕ_discrete j k);
        next = λ j b. by_next j b (ℕ_discrete j k);
      }
    where
      by_active : (j : ℕ) → j < 8 → Dec (j ≡ k) → get_or (with_moved test w k) (2 + 130 * j) 0 ≤ 64
      by_active j b (yes e) =
          let a = ap (λ (i : ℕ). get_or (with_moved test w k) (2 + 130 * i) 0) e ∙ moved_active in
          omega arith
      by_active j b (no e) =
          let a = moved_other (2 + 130 * j) (λ p r. e (omega arith)) in
          let c = h.active j b in
          omega arith

      by_next : (j : ℕ) → j < 8 → Dec (j ≡ k) → get_or (with_moved test w k) (67 + 130 * j) 0 ≤ 64
      by_next j b (yes e) =
          let a = ap (λ (i : ℕ). get_or (with_moved test w k) (67 + 130 * i) 0) e in
          let c = moved_next in
          omega arith
      by_next j b (no e) =
          let a = moved_other (67 + 130 * j) (λ p r. e (omega arith)) in
          let c = h.next j b in
          omega arith

  -- the same threads live, of the same families
  pub moved_living : (set : ℕ) → LivingFamilies w set → LivingFamilies (with_moved test w k) set
  unfolding starter_in is_awaited none_awaited
  moved_living set h u t = h u t ∙ ap not (sym none_same)
    where
      starter_same : (i : ℕ) → starter_in (with_moved test w k) i ≡ starter_in w i
      starter_same zero = refl
      starter_same (suc i) =
          ap (λ (x : ℕ). when ltb i 64 then x else 0)
          (moved_other (1042 + 55 * i + 1) (λ p r. omega arith))

      awaited_same : (i : ℕ) → is_awaited (with_moved test w k) u i ≡ is_awaited w u i
      awaited_same i =
          ap₂ (λ (x : ℕ) (f : ℕ → ℕ). not (eqb x 0) && family_to (family_steps 64) f u (suc i))
          (moved_other (1042 + 55 * i + 2) (λ p r. omega arith)) (λ j a. starter_same a j)

      none_same : none_awaited (with_moved test w k) u (get_or (with_moved test w k) 0 0)
          ≡ none_awaited w u (get_or w 0 0)
      none_same =
          ap₂ (λ (x : ℕ) (f : ℕ → Bool). all_below x (λ i. not (f i)))
          (moved_other 0 (λ p r. omega arith)) (λ j i. awaited_same i j)

-- ---- the lists of a scheduler in other words: the same where its words are
table_same : (n : ℕ) (f g : ℕ → ℕ) (i : ℕ) → ((j : ℕ) → j < n → f (i + j) ≡ g (i + j))
    → tabulate n f i ≡ tabulate n g i
unfolding tabulate
table_same zero f g i h = refl
table_same (suc n) f g i h =
    let z : i + 0 ≡ i = omega arith in
    ap₂ (λ (x : ℕ) (xs : List ℕ). x ∷ xs) (subst (λ (k : ℕ). f k ≡ g k) z (h 0 (omega arith)))
    (table_same n f g (suc i)
    (λ j l. let y : i + suc j ≡ suc i + j = omega arith in
    subst (λ (k : ℕ). f k ≡ g k) y (h (suc j) (omega arith))))

module _ (w v : List ℕ) (k : ℕ)
    (same : (i : ℕ) → 2 + 130 * k ≤ i → i < 2 + 130 * k + 130 → get_or v i 0 ≡ get_or w i 0)
    (few : get_or w (67 + 130 * k) 0 ≤ 64) where
  entries_same : words_at v (67 + 130 * k) ≡ words_at w (67 + 130 * k)
  entries_same =
      ap (λ (n : ℕ). tabulate n (λ j. get_or v j 0) (suc (67 + 130 * k)))
      (same (67 + 130 * k) (omega arith) (omega arith))
      ∙ table_same (get_or w (67 + 130 * k) 0) _ _ (suc (67 + 130 * k))
      (λ j g. same (suc (67 + 130 * k) + j) (omega arith) (omega arith))

  pub active_same : (test : ℕ → Bool) → active_with test v k ≡ active_with test w k
  active_same test =
      ap₂ ◌+◌ (same (2 + 130 * k) (omega arith) (omega arith))
      (ap (λ (es : List ℕ). length (wanted_words test es)) entries_same)
