-- The word that counts cells and accesses: what is left of either count after an access. Assumes nothing.
use Rattle.std.proofs.Common.{◌≡◌, ℕ, ◌+◌, ◌%◌, ◌^◌, ◌<◌, ◌≤◌, arith}
use Rattle.operations.specs.Inner.Heaps.{cells_in, accesses_in, heap_word, with_access, with_cell}

-- ---- either count after an access
pub access_cells : (h : ℕ) → cells_in (with_access h) ≡ cells_in h
unfolding cells_in with_access
access_cells h = omega arith

pub access_counts : (h : ℕ) → accesses_in (with_access h) ≡ (accesses_in h + 1) % 2 ^ 48
unfolding accesses_in with_access
access_counts h = omega arith

pub cell_cells : (h : ℕ) → cells_in h < 256 → cells_in (with_cell h) ≡ cells_in h + 1
unfolding cells_in with_cell
cell_cells h l = omega arith

pub cell_counts : (h : ℕ) → cells_in h < 256 → accesses_in (with_cell h) ≡ (accesses_in h + 1) % 2 ^ 48
unfolding cells_in accesses_in with_cell
cell_counts h l = omega arith

-- ---- the word of both counts
pub heap_cells : (c a : ℕ) → c < 65536 → cells_in (heap_word c a) ≡ c
unfolding cells_in heap_word
heap_cells c a l = omega arith

pub heap_accesses : (c a : ℕ) → c < 65536 → accesses_in (heap_word c a) ≡ a % 2 ^ 48
unfolding accesses_in heap_word
heap_accesses c a l = omega arith

pub heap_is : (h c a : ℕ) → cells_in h ≡ c → accesses_in h ≡ a % 2 ^ 48 → h ≡ heap_word c a
unfolding cells_in accesses_in heap_word
heap_is h c a e f = omega arith

-- a count of cells alone is such a word, with no access
pub few_cells : (n : ℕ) → n ≤ 256 → cells_in n ≡ n
unfolding cells_in
few_cells n l = omega arith

pub no_accesses : (n : ℕ) → n ≤ 256 → accesses_in n ≡ 0
unfolding accesses_in
no_accesses n l = omega arith

-- accesses after accesses
pub sum_wraps : (a b c : ℕ) → ((a + b) % 2 ^ 48 + c) % 2 ^ 48 ≡ (a + (b + c)) % 2 ^ 48
sum_wraps a b c = omega arith
