-- The computed reading is the one that the definition gives, and the only one; and a text that
-- reads as frames has at least one. Assumes nothing.
use Rattle.std.proofs.Common.{◌≡◌, ℕ, zero, suc, ◌+◌, ◌/◌, ◌%◌, ◌<◌, ◌≤◌, Bool, true, false, eqb, ltb, ◌⊎◌, List, [], ◌∷◌, length, get_or, sym, refl, ap, ◌∙◌, inl, inr, true≢false, zero-add, arith, ltb-false, ltb-true, eqb-true}
use mathlib.Core.Option.{Option, none, some}
use borrow.Author.Tests.{eqb-false}
use Rattle.basics.specs.If.{when◌then◌else◌}
use Rattle.basics.proofs.Ifs.{if_all}
use Rattle.language.specs.declared.frame.Frame.{Frame}
use Rattle.text.specs.Frames.{text_frames}
use Rattle.language.specs.declared.refusal.Rule.TheVariants.{LongText, MalformedText}
use Rattle.text.specs.Reading.{right_at, Reading, frames, refused, WrongAt, Reads}
use Rattle.text.specs.Inner.Reading.{first_wrong, read_lines, reading}
use Rattle.text.proofs.ReadLaws.{length_frames}

-- ---- the scan finds the first wrong or missing byte

-- the byte q of bs is wrong or missing, where bs stands from the position p on
abbrev WrongFrom : ℕ → List ℕ → ℕ → Type 0
WrongFrom p bs q = ((q < length bs) × (right_at (p + q) (get_or bs q 0) ≡ false)) ⊎ ((q ≡ length bs) × ((p + q) % 17 ≡ 0 → ⊥))

-- the scan from p on found nothing wrong, or x, the first position that is
data Scan (p : ℕ) (bs : List ℕ) : Option ℕ → Type 0 where
  fine : ((q : ℕ) → WrongFrom p bs q → ⊥) → Scan p bs none
  stop : {x q : ℕ} → x ≡ p + q → WrongFrom p bs q → ((r : ℕ) → WrongFrom p bs r → q ≤ r)
      → Scan p bs (some x)

at_zero : (p : ℕ) → p + 0 ≡ p
at_zero p = omega arith

at_suc : (p q : ℕ) → suc p + q ≡ p + suc q
at_suc p q = omega arith

-- wrong in the list is wrong in its tail, one position later, and back
wrong_tail : (p q b : ℕ) (bs : List ℕ) → WrongFrom p (b ∷ bs) (suc q) → WrongFrom (suc p) bs q
wrong_tail p q b bs (inl h) = inl (omega arith, rw (at_suc p q) h.1)
wrong_tail p q b bs (inr h) = inr (omega arith, rw (at_suc p q) h.1)

wrong_cons : (p q b : ℕ) (bs : List ℕ) → WrongFrom (suc p) bs q → WrongFrom p (b ∷ bs) (suc q)
wrong_cons p q b bs (inl h) = inl (omega arith, rw (sym (at_suc p q)) h.1)
wrong_cons p q b bs (inr h) = inr (omega arith, rw (sym (at_suc p q)) h.1)

first_right : (p b : ℕ) (bs : List ℕ) → right_at p b ≡ true → WrongFrom p (b ∷ bs) 0 → ⊥
first_right p b bs t (inl h) = true≢false (sym t ∙ (rw (at_zero p) at h).1)
first_right p b bs t (inr h) = omega arith

scan_more : (p b : ℕ) (bs : List ℕ) (o : Option ℕ) → right_at p b ≡ true → Scan (suc p) bs o
    → Scan p (b ∷ bs) o
scan_more p b bs none t (Scan.fine h) = Scan.fine go
  where
    go : (q : ℕ) → WrongFrom p (b ∷ bs) q → ⊥
    go zero w = first_right p b bs t w
    go (suc q) w = h q (wrong_tail p q b bs w)
scan_more p b bs (some x) t (Scan.stop {q =
    q} e w l) = Scan.stop {x = x} {q = suc q} (omega arith) (wrong_cons p q b bs w) go
  where
    go : (r : ℕ) → WrongFrom p (b ∷ bs) r → suc q ≤ r
    go zero v = absurd (first_right p b bs t v)
    go (suc r) v = let a = l r (wrong_tail p r b bs v) in omega arith

scan_end : (p : ℕ) → Scan p [] (when eqb (p % 17) 0 then none else some p)
scan_end p = if_all (Scan p []) (eqb (p % 17) 0) _ _ (λ h. Scan.fine (good (eqb-true _ _ h))) (λ h. Scan.stop {q = 0} (sym (at_zero p)) (inr (refl, rw (at_zero p) (eqb-false _ _ h))) (λ r w. omega arith))
  where
    good : p % 17 ≡ 0 → (q : ℕ) → WrongFrom p [] q → ⊥
    good e q (inl h) = omega arith
    good e q (inr h) = h.1 (let z : q ≡ 0 = h.0 in rw (z, at_zero) e)

scan : (bs : List ℕ) (p : ℕ) → Scan p bs (first_wrong p bs)
unfolding first_wrong
scan [] p = scan_end p
scan (b ∷ bs) p = go (right_at p b) refl (scan bs (suc p))
  where
    go : (t : Bool) → right_at p b ≡ t → Scan (suc p) bs (first_wrong (suc p) bs)
        → Scan p (b ∷ bs) (elim t [ true ↦ first_wrong (suc p) bs | false ↦ some p ])
    go true e s = scan_more p b bs _ e s
    go false e s = Scan.stop {q = 0} (sym (at_zero p)) (inl (omega arith, rw (at_zero p) e)) (λ r w. omega arith)

-- from position 0 on
wrong_at : (bs : List ℕ) (q : ℕ) → WrongFrom 0 bs q → WrongAt bs q
wrong_at bs q (inl h) = inl (h.0, (rw (zero-add q) at h).1)
wrong_at bs q (inr h) = inr (h.0, (rw (zero-add q) at h).1)

wrong_from : (bs : List ℕ) (q : ℕ) → WrongAt bs q → WrongFrom 0 bs q
wrong_from bs q (inl h) = inl (h.0, rw (zero-add q) h.1)
wrong_from bs q (inr h) = inr (h.0, rw (zero-add q) h.1)

-- ---- the reading
reads_lines : (bs : List ℕ) → 0 < length bs → length bs ≤ 17408 → (o : Option ℕ) → Scan 0 bs o
    → Reads bs (read_lines bs o)
reads_lines bs a b none (Scan.fine h) = Reads.whole a b (λ q w. h q (wrong_from bs q w))
reads_lines bs a b (some x) (Scan.stop {q = q} e w l) =
    let f : x ≡ q = omega arith in
    rw f (Reads.wrong a b (wrong_at bs q w) (λ r v. l r (wrong_from bs r v)))

-- the theorem: what is computed is what the text reads as
pub reads : (bs : List ℕ) → Reads bs (reading bs)
unfolding reading
reads [] = Reads.empty
reads (b ∷ bs) = go (ltb 17408 (length (b ∷ bs))) refl
  where
    go : (t : Bool) → ltb 17408 (length (b ∷ bs)) ≡ t
        → Reads (b ∷ bs)
        (elim t [ true ↦ refused LongText 0 | false ↦ read_lines (b ∷ bs) (first_wrong 0 (b ∷ bs)) ])
    go true e = Reads.over (ltb-true _ _ e)
    go false e = reads_lines (b ∷ bs) (omega arith) (ltb-false _ _ e) _ (scan (b ∷ bs) 0)

-- and a text reads as one thing only
pub reads_one : {bs : List ℕ} {r s : Reading} → Reads bs r → Reads bs s → r ≡ s
reads_one Reads.empty Reads.empty = refl
reads_one Reads.empty (Reads.over h) = absurd (omega arith)
reads_one Reads.empty (Reads.wrong a b w l) = absurd (omega arith)
reads_one Reads.empty (Reads.whole a b h) = absurd (omega arith)
reads_one (Reads.over h) Reads.empty = absurd (omega arith)
reads_one (Reads.over h) (Reads.over g) = refl
reads_one (Reads.over h) (Reads.wrong a b w l) = absurd (omega arith)
reads_one (Reads.over h) (Reads.whole a b g) = absurd (omega arith)
reads_one (Reads.wrong a b w l) Reads.empty = absurd (omega arith)
reads_one (Reads.wrong a b w l) (Reads.over h) = absurd (omega arith)
reads_one (Reads.wrong {p = p} a b w l) (Reads.wrong {p = q} c d v k) = let x = l q v in let y = k p w in let z : p ≡ q = omega arith in ap (λ (n : ℕ). refused MalformedText (n / 17)) z
reads_one (Reads.wrong a b w l) (Reads.whole c d h) = absurd (h _ w)
reads_one (Reads.whole a b h) Reads.empty = absurd (omega arith)
reads_one (Reads.whole a b h) (Reads.over g) = absurd (omega arith)
reads_one (Reads.whole a b h) (Reads.wrong c d w l) = absurd (h _ w)
reads_one (Reads.whole a b h) (Reads.whole c d g) = refl

-- a text that reads as frames has at least one
pub some_frame : {bs : List ℕ} {r : Reading} {fs : List Frame} → Reads bs r → r ≡ frames fs
    → 0 < length fs
some_frame Reads.empty e = absurd (let z : ◌≡◌ {A = ℕ} 0 1 = cc in omega arith)
some_frame (Reads.over h) e = absurd (let z : ◌≡◌ {A = ℕ} 0 1 = cc in omega arith)
some_frame (Reads.wrong a b w l) e = absurd (let z : ◌≡◌ {A = ℕ} 0 1 = cc in omega arith)
some_frame {fs = fs} (Reads.whole {bs = bs} a b h) e = go (eqb (length bs % 17) 0) refl
  where
    go : (t : Bool) → eqb (length bs % 17) 0 ≡ t → 0 < length fs
    go true z =
        let p : length bs % 17 ≡ 0 = eqb-true _ _ z in
        let q : text_frames bs ≡ fs = cc in
        let s : length fs ≡ length bs / 17 = ap length (sym q) ∙ length_frames bs in
        omega arith
    go false z = absurd (h (length bs) (inr (refl, eqb-false _ _ z)))
