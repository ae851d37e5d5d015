-- One line, written digit by digit from its end. Assumes nothing.
use mathlib.Core.Path.{◌≡◌, refl, sym, ap, ap₂, subst, ◌∙◌}
use mathlib.Core.List.{List, [], ◌∷◌, ◌++◌, append_assoc}
use Prim.Native.Nat.{ℕ, suc, ◌+◌, ◌-◌, ◌*◌, ◌/◌, ◌%◌, ◌≤◌, ◌<◌}
use native.Mathlib.Omega.{arith}
use lib.ListN.{length, get_or, take, drop, set, length-append, length-set, take-append-drop}
use lib.Seq.{take-suc, drop-cons, append_snoc, set_at, length-take-le, take_all}
use Rattle.text.specs.Digits.{digit_byte}
use Rattle.drawing.specs.Texts.{digits_onto, bytes_of}
use Rattle.drawing.proofs.Rereads.{bytes_cons}
use Rattle.drawing.proofs.Promises.{bytes_length}
use Rattle.writer.specs.Inner.Placing.{with_lines, LineRoom}

-- ---- its digits: k are still to be written, those of `rest`, before what is there
pub record Written (old : List ℕ) (at w : ℕ) (new : List ℕ) (rest k : ℕ) : Type 0 where
  pub most : k ≤ 16
  pub done : List ℕ
  pub size : k + length done ≡ 16
  pub same : digits_onto k rest done ≡ digits_onto 16 w []
  pub long : length new ≡ length old
  pub is : new ≡ take (at + k) old ++ (done ++ drop (at + 16) old)

pub written_start : (old : List ℕ) (at w : ℕ) → Written old at w old w 16
written_start old at w =
    record {
      most = omega arith;
      done = [];
      size = refl;
      same = refl;
      long = refl;
      is = sym (take-append-drop (at + 16) old);
    }

module _ (old : List ℕ) (at w : ℕ) (new : List ℕ) (rest : ℕ) where
  written_more : (k : ℕ) → Written old at w new rest (suc k) → at + 17 ≤ length old
      → Written old at w (set new (at + k) (digit_byte (rest % 16))) (rest / 16) k
  unfolding digits_onto
  written_more k h room =
      let s = h.size in
      let m = h.most in
      let v : ℕ = digit_byte (rest % 16) in
      let tail : List ℕ = h.done ++ drop (at + 16) old in
      let x : ℕ = get_or old (at + k) 0 in
      let front : List ℕ = take (at + k) old in
      let e : at + suc k ≡ suc (at + k) = omega arith in
      let split : new ≡ front ++ (x ∷ tail) =
      h.is ∙ ap (λ (i : ℕ). take i old ++ tail) e
      ∙ ap (λ (t : List ℕ). t ++ tail) (take-suc old (at + k) 0 (omega arith))
      ∙ append_snoc front x tail in
      record {
        most = omega arith;
        done = v ∷ h.done;
        size = omega arith;
        same = h.same;
        long = length-set new (at + k) v ∙ h.long;
        is = ap (λ (l : List ℕ). set l (at + k) v) split
            ∙ set_at front x tail v (at + k) (length-take-le (at + k) old (omega arith));
      }

-- all digits are written: the line feed after them
written_all : (out : List ℕ) (n w : ℕ) (new : List ℕ) (rest : ℕ)
    → Written out (17 * n) w new rest 0 → 17 * n + 17 ≤ length out
    → set new (17 * n + 16) 10 ≡ with_lines out n (w ∷ [])
unfolding with_lines digits_onto bytes_of
written_all out n w new rest h room =
    let at : ℕ = 17 * n in
    let a : at + 0 ≡ at = omega arith in
    let D : List ℕ = digits_onto 16 w [] in
    let d : h.done ≡ D = h.same in
    let s = h.size in
    let sd : length D ≡ 16 = ap length (sym d) ∙ omega arith in
    let x : ℕ = get_or out (at + 16) 0 in
    let front : List ℕ = take at out ++ D in
    let long : length front ≡ at + 16 =
    (let t = length-take-le at out (omega arith) in
    let y = length-append (take at out) D in
    omega arith) in
    let e : suc (at + 16) ≡ at + 17 = omega arith in
    let back : drop (at + 16) out ≡ x ∷ drop (at + 17) out =
    drop-cons out (at + 16) 0 (omega arith) ∙ ap (λ (k : ℕ). x ∷ drop k out) e in
    let split : new ≡ front ++ (x ∷ drop (at + 17) out) =
    h.is ∙ ap₂ (λ (i : ℕ) (m : List ℕ). take i out ++ (m ++ drop (at + 16) out)) a d
    ∙ ap (λ (t : List ℕ). take at out ++ (D ++ t)) back
    ∙ sym (append_assoc (take at out) D (x ∷ drop (at + 17) out)) in
    let b = bytes_length (w ∷ []) in
    let line : D ++ (10 ∷ []) ≡ take 17 (bytes_of (w ∷ [])) =
    sym (bytes_cons w []) ∙ sym (take_all 17 (bytes_of (w ∷ [])) (omega arith)) in
    ap (λ (l : List ℕ). set l (at + 16) 10) split
    ∙ set_at front x (drop (at + 17) out) 10 (at + 16) long
    ∙ sym (append_snoc front 10 (drop (at + 17) out))
    ∙ ap (λ (t : List ℕ). t ++ drop (at + 17) out)
    (append_assoc (take at out) D (10 ∷ []) ∙ ap (λ (t : List ℕ). take at out ++ t) line)

-- as the code goes
module _ (out : List ℕ) (n w : ℕ) (room : LineRoom out n 1) (new : List ℕ) (rest k : ℕ)
    (h : Written out (17 * n) w new rest k) where
  pub written_next : (v : ℕ) → v ≡ digit_byte (rest % 16) → 0 < k
      → Written out (17 * n) w (set new (17 * n + (k - 1)) v) (rest / 16) (k - 1)
  written_next v e l =
      let r = room.fits in
      let z : k ≡ suc (k - 1) = omega arith in
      let g : Written out (17 * n) w new rest (suc (k - 1)) =
      subst (Written out (17 * n) w new rest) z h in
      rw e (written_more out (17 * n) w new rest (k - 1) g (omega arith))

  -- and the line feed
  pub written_end : k ≤ 0 → set new (17 * n + 16) 10 ≡ with_lines out n (w ∷ [])
  written_end l =
      let r = room.fits in
      let z : k ≡ 0 = omega arith in
      written_all out n w new rest (subst (Written out (17 * n) w new rest) z h) (omega arith)
