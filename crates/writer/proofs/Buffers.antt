-- Lines in the lent buffer, one after the other. Assumes nothing.
use mathlib.Core.Path.{◌≡◌, refl, sym, ap, ap₂, ◌∙◌}
use mathlib.Core.List.{List, [], ◌∷◌, ◌++◌, append_assoc, append-nil}
use Prim.Native.Nat.{ℕ, ◌+◌, ◌*◌, ◌≤◌}
use native.Mathlib.Omega.{arith}
use lib.ListN.{length, take, drop, length-append, drop_of_length-le}
use lib.Seq.{paste, paste-zero, length-paste, take-paste, drop-paste, drop-drop, take_all}
use Rattle.drawing.specs.Texts.{digits_onto, bytes_of}
use Rattle.drawing.proofs.Rereads.{bytes_cons}
use Rattle.drawing.proofs.Promises.{bytes_length}
use Rattle.writer.specs.Inner.Placing.{with_lines}

bytes_append : (xs ys : List ℕ) → bytes_of (xs ++ ys) ≡ bytes_of xs ++ bytes_of ys
unfolding bytes_of
bytes_append [] ys = refl
bytes_append (x ∷ xs) ys =
    bytes_cons x (xs ++ ys)
    ∙ ap (λ (t : List ℕ). digits_onto 16 x [] ++ (10 ∷ t)) (bytes_append xs ys)
    ∙ sym (append_assoc (digits_onto 16 x []) (10 ∷ bytes_of xs) (bytes_of ys))
    ∙ ap (λ (t : List ℕ). t ++ bytes_of ys) (sym (bytes_cons x xs))

take_bytes : (ws : List ℕ) → take (17 * length ws) (bytes_of ws) ≡ bytes_of ws
take_bytes ws = take_all (17 * length ws) (bytes_of ws) (let l = bytes_length ws in omega arith)

pub lines_none : (out : List ℕ) (n : ℕ) → out ≡ with_lines out n []
unfolding with_lines bytes_of
lines_none out n = paste-zero out (17 * n) []

pub lines_length : (out : List ℕ) (n : ℕ) (ws : List ℕ) → 17 * (n + length ws) ≤ length out
    → length (with_lines out n ws) ≡ length out
unfolding with_lines
lines_length out n ws h =
    let l = bytes_length ws in
    length-paste out (17 * n) (bytes_of ws) (17 * length ws) (omega arith) (omega arith)

pub lines_more : (out : List ℕ) (n : ℕ) (xs ys : List ℕ) → 17 * n ≤ length out
    → with_lines (with_lines out n xs) (n + length xs) ys ≡ with_lines out n (xs ++ ys)
unfolding with_lines
lines_more out n xs ys h =
    let l = bytes_length xs in
    let at : ℕ = 17 * n in
    let x : ℕ = 17 * length xs in
    let y : ℕ = 17 * length ys in
    let new : List ℕ = paste out at (bytes_of xs) x in
    let e : 17 * (n + length xs) ≡ at + x = omega arith in
    let front : take (at + x) new ≡ take at out ++ bytes_of xs =
    take-paste out at (bytes_of xs) x h (omega arith)
    ∙ ap (λ (t : List ℕ). take at out ++ t) (take_bytes xs) in
    let back : drop (at + x + y) new ≡ drop (at + x + y) out =
    sym (drop-drop y (at + x) new) ∙ ap (drop y) (drop-paste out at (bytes_of xs) x h (omega arith))
    ∙ drop-drop y (at + x) out in
    let k : at + x + y ≡ at + 17 * length (xs ++ ys) =
    (let z = length-append xs ys in omega arith) in
    ap (λ (i : ℕ). take i new ++ take y (bytes_of ys) ++ drop (i + y) new) e
    ∙ ap₂ (λ (a b : List ℕ). a ++ take y (bytes_of ys) ++ b) front back
    ∙ ap (λ (a : List ℕ). take at out ++ bytes_of xs ++ a ++ drop (at + x + y) out) (take_bytes ys)
    ∙ ap (λ (a : List ℕ). a ++ drop (at + x + y) out)
    (append_assoc (take at out) (bytes_of xs) (bytes_of ys))
    ∙ ap₂ (λ (a : List ℕ) (i : ℕ). take at out ++ a ++ drop i out)
    (sym (bytes_append xs ys) ∙ sym (take_bytes (xs ++ ys))) k

-- lines written after lines
pub lines_next : (out o1 o2 : List ℕ) (n m : ℕ) (xs ys : List ℕ) → o1 ≡ with_lines out n xs
    → o2 ≡ with_lines o1 m ys → m ≡ n + length xs → 17 * n ≤ length out
    → o2 ≡ with_lines out n (xs ++ ys)
lines_next out o1 o2 n m xs ys p q e h =
    q ∙ ap₂ (λ (o : List ℕ) (k : ℕ). with_lines o k ys) p e ∙ lines_more out n xs ys h

pub lines_all : (out ws : List ℕ) → length out ≡ 17 * length ws → with_lines out 0 ws ≡ bytes_of ws
unfolding with_lines
lines_all out ws h =
    let z : 17 * 0 + 17 * length ws ≡ 17 * length ws = omega arith in
    let d : drop (17 * 0 + 17 * length ws) out ≡ [] =
    drop_of_length-le out {i = 17 * 0 + 17 * length ws} (omega arith) in
    ap₂ (λ (a b : List ℕ). [] ++ a ++ b) (take_bytes ws) d ∙ append-nil (bytes_of ws)
