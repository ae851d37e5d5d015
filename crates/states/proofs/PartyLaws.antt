-- Whether a choice names an unlinked thread: the test as the code makes it, and that the test on
-- words is `is_unlinked` of the state that they say. Assumes nothing.
use Prim.Native.Nat.{ℕ, suc, ◌+◌, ◌-◌, ◌*◌, ◌≤◌}
use mathlib.Core.Path.{◌≡◌, refl, sym, ap, ap₂, ◌∙◌}
use mathlib.Core.List.{List}
use mathlib.Core.Bool.{Bool, true, false, not, ◌&&◌}
use native.Mathlib.Omega.{arith}
use lib.Dec.{leb, ltb, eqb}
use lib.ListN.{get_or, length}
use borrow.Author.Tests.{lt-leb, leb-true}
use Rattle.language.specs.Places.{private}
use Rattle.machine.specs.State.{State, Thread, no_thread, nth}
use Rattle.machine.specs.Steps.{is_unlinked}
use Rattle.machine.proofs.WordLaws.{Says}
use Rattle.machine.proofs.Round.{thread_0, thread_2, ended_bit}
use Rattle.states.specs.Inner.Parties.{is_unlinked_word, is_unlinked_thread}

and_assoc : (a b c : Bool) → (a && b && c) ≡ (a && (b && c))
and_assoc true b c = refl
and_assoc false b c = refl

-- as the code tests it
pub unlinked_split : (w : List ℕ) (c : ℕ) → is_unlinked_word w c
    ≡ (ltb 16 c && leb (c - 16) (get_or w 0 0) && is_unlinked_thread w (c - 16 - 1))
unfolding is_unlinked_word
unlinked_split w c =
    let same : c - 16 - 1 ≡ c - 17 = omega arith in
    and_assoc (ltb 16 c && leb (c - 16) (get_or w 0 0)) _ _ ∙ ap (λ (k : ℕ). ltb 16 c && leb (c - 16) (get_or w 0 0) && is_unlinked_thread w k) (sym same)

-- a choice up to 16 names no thread
pub unlinked_low : (w : List ℕ) (c : ℕ) → c ≤ 16 → false ≡ is_unlinked_word w c
unfolding is_unlinked_word
unlinked_low w c h = rw (lt-leb 17 c (omega arith))

pub unlinked_says : (w : List ℕ) (s : State) → Says w s → length s.threads ≤ 64 → (c : ℕ)
    → is_unlinked_word w c ≡ is_unlinked s c
unfolding is_unlinked_word is_unlinked
unlinked_says w s h few c = low (leb 17 c) refl
  where
    x : Thread
    x = get_or s.threads (c - 17) no_thread

    there : 17 ≤ c → c - 16 ≤ length s.threads
        → (eqb (get_or w (1042 + 55 * (c - 17)) 0) private && not (eqb (get_or w (1042 + 55 * (c - 17) + 2) 0) 0))
        ≡ (eqb (nth s.threads (c - 16)).place private && not (nth s.threads (c - 16)).ended)
    there a b =
        let z : 1042 + 55 * (c - 17) ≡ 1042 + 55 * (c - 17) + 0 = omega arith in
        let y : suc (c - 17) ≡ c - 16 = omega arith in
        ap₂ (λ (p a : ℕ). eqb p private && not (eqb a 0)) (ap (λ (i : ℕ). get_or w i 0) z ∙ h.thread (c - 17) 0 (omega arith) (omega arith) ∙ thread_0 x) (h.thread (c - 17) 2 (omega arith) (omega arith) ∙ thread_2 x)
        ∙ ap (λ (e : Bool). eqb x.place private && not e) (ended_bit x.ended)
        ∙ ap
        (λ (n : ℕ). eqb (nth s.threads n).place private && not (nth s.threads n).ended) y

    high : 17 ≤ c → (b : Bool) → leb (c - 16) (length s.threads) ≡ b
        → (leb (c - 16) (get_or w 0 0) && eqb (get_or w (1042 + 55 * (c - 17)) 0) private && not (eqb (get_or w (1042 + 55 * (c - 17) + 2) 0) 0))
        ≡ (leb (c - 16) (length s.threads) && eqb (nth s.threads (c - 16)).place private && not (nth s.threads (c - 16)).ended)
    high a false e = rw (h.threads, e) refl
    high a true e = rw (h.threads, e) (there a (leb-true (c - 16) (length s.threads) e))

    low : (b : Bool) → leb 17 c ≡ b
        → (leb 17 c && leb (c - 16) (get_or w 0 0) && eqb (get_or w (1042 + 55 * (c - 17)) 0) private && not (eqb (get_or w (1042 + 55 * (c - 17) + 2) 0) 0))
        ≡ (leb 17 c && leb (c - 16) (length s.threads) && eqb (nth s.threads (c - 16)).place private && not (nth s.threads (c - 16)).ended)
    low false e = rw e refl
    low true e = rw e (high (leb-true 17 c e) (leb (c - 16) (length s.threads)) refl)
