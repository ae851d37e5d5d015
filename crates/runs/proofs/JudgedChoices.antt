-- choices.txt judged whole before any step, and the listing by what the judge says. Assumes
-- nothing.
use Prim.Native.Nat.{ℕ, ◌≤◌}
use mathlib.Core.Path.{◌≡◌, refl, sym, ap, ap₂, ◌∙◌}
use mathlib.Core.List.{List, []}
use mathlib.Core.Bool.{Bool, true, false}
use native.Mathlib.Omega.{arith}
use lib.Dec.{ltb}
use lib.ListN.{length}
use lib.Seq.{paste}
use borrow.Author.Tests.{ltb-false}
use Rattle.basics.proofs.Ifs.{if_all}
use Rattle.std.specs.Prelude.{Result, Ok, Err}
use Rattle.language.specs.Verdicts.{refusal}
use Rattle.language.specs.declared.refusal.Refusal.{Refusal}
use Rattle.language.specs.declared.refusal.Rule.TheVariants.{LongText, MalformedText}
use Rattle.program.specs.Programs.{Program}
use Rattle.stepper.specs.Answers.{done}
use Rattle.listing.specs.Listing.{refusal_line, check_line, Choices, choices, malformed}
use Rattle.listing.specs.Listing.{choices_from, run_lines}
use Rattle.listing.specs.Listing.{lines_of, choices_listing}
use Rattle.listing.specs.Inner.Choices.{count_read, judged}
use Rattle.listing.proofs.ChoicesAt.{choices_count}
use Rattle.runs.specs.Listings.{FinalState, final_state}
use Rattle.runs.specs.Listings.{not_run, run_of, choices_run, ListingResult, listing_result}
use Rattle.runs.specs.Listings.{with_buffers, written}
use Rattle.runs.specs.Inner.Parts.{choice_list, choices_of, listed_after}
use Rattle.runs.specs.declared.printing.ListingAnswer.{ListingAnswer}
use Rattle.runs.proofs.ListingLoop.{written_put}
use Rattle.runs.proofs.ListedRun.{listed_path}

pub listed_refusal : (f : Refusal) (w out line new : List ℕ) → line ≡ check_line (Err f)
    → new ≡ paste out 8 line (length line)
    → listing_result (done 0 0) 16 0 w new ≡ listed_after (not_run w) (check_line (Err f)) out
listed_refusal f w out line new a b =
    listed_path refl refl refl (written_put out 8 line new b ∙ ap (written out 8) a)

-- ---- choices.txt
module _ (p : Program) (w bytes : List ℕ) where
  listing_long : ltb 49152 (length bytes) ≡ true
      → (choices_run p w bytes ≡ not_run w) × (choices_listing p bytes ≡ refusal_line 2 0)
  unfolding choices_run choices_listing
  listing_long h = (
    ap (λ (b : Bool). elim b [ true ↦ not_run w | false ↦ run_of p w (choices_from 0 bytes) ]) h,
    ap
        (λ (b : Bool). elim b [ true ↦ refusal_line 2 0 | false ↦ lines_of p (choices_from 0 bytes) ]) h,
  )

  listing_of : (r : Choices) → ltb 49152 (length bytes) ≡ false → choices_from 0 bytes ≡ r
      → (choices_run p w bytes ≡ run_of p w r) × (choices_listing p bytes ≡ lines_of p r)
  unfolding choices_run choices_listing
  listing_of r h q = (
    ap (λ (b : Bool). elim b [ true ↦ not_run w | false ↦ run_of p w (choices_from 0 bytes) ]) h
        ∙ ap (run_of p w) q,
    ap (λ (b : Bool). elim b [ true ↦ refusal_line 2 0 | false ↦ lines_of p (choices_from 0 bytes) ]) h ∙ ap (lines_of p) q,
  )

-- the line of what is refused
check_of : Result ℕ Refusal → List ℕ
check_of (Ok n) = []
check_of (Err f) = check_line (Err f)

-- what the judge's answer says
data Judged (bytes : List ℕ) : Result ℕ Refusal → Type 0 where
  over : ltb 49152 (length bytes) ≡ true → Judged bytes (Err (refusal LongText 0))
  wrong : {k : ℕ} → ltb 49152 (length bytes) ≡ false → choices_from 0 bytes ≡ malformed k
      → Judged bytes (Err (refusal MalformedText k))
  right : {cs : List ℕ} → ltb 49152 (length bytes) ≡ false → choices_from 0 bytes ≡ choices cs
      → Judged bytes (Ok (length cs))

judged_says : (bytes : List ℕ) → Judged bytes (judged bytes)
unfolding judged
judged_says bytes = if_all (Judged bytes) (ltb 49152 (length bytes)) (Err (refusal LongText 0)) (count_read (choices_from 0 bytes)) (λ h. Judged.over h) (λ h. go h (choices_from 0 bytes) refl)
  where
    go : ltb 49152 (length bytes) ≡ false → (r : Choices) → choices_from 0 bytes ≡ r
        → Judged bytes (count_read r)
    go h (choices cs) q = Judged.right h q
    go h (malformed k) q = Judged.wrong h q

module _ (bytes : List ℕ) (r : Result ℕ Refusal) (e : r ≡ judged bytes) where
  says : Judged bytes r
  says = rw e (judged_says bytes)

  is_refused : (f : Refusal) → r ≡ Err f → (p : Program) (w : List ℕ)
      → (choices_run p w bytes ≡ not_run w) × (choices_listing p bytes ≡ check_line (Err f))
  unfolding check_of
  is_refused f z p w = go r says z
    where
      go : (x : Result ℕ Refusal) → Judged bytes x → x ≡ Err f
          → (choices_run p w bytes ≡ not_run w) × (choices_listing p bytes ≡ check_line (Err f))
      go _ (Judged.over h) z =
          let s = listing_long p w bytes h in (s.0, s.1 ∙ ap check_of z)
      go _ (Judged.wrong {k = k} h q) z =
          let s = listing_of p w bytes (malformed k) h q in (s.0, s.1 ∙ ap check_of z)
      go _ (Judged.right h q) z = absurd (let y : ◌≡◌ {A = ℕ} 0 1 = cc in omega arith)

  is_choices : (n : ℕ) → r ≡ Ok n
      → (ltb 49152 (length bytes) ≡ false) × (choices_from 0 bytes ≡ choices (choices_of bytes))
      × (n ≡ length (choices_of bytes))
  unfolding choices_of
  is_choices n z = go r says z
    where
      go : (x : Result ℕ Refusal) → Judged bytes x → x ≡ Ok n
          → (ltb 49152 (length bytes) ≡ false) × (choices_from 0 bytes ≡ choices (choice_list (choices_from 0 bytes))) × (n ≡ length (choice_list (choices_from 0 bytes)))
      go _ (Judged.over h) z = absurd (let y : ◌≡◌ {A = ℕ} 0 1 = cc in omega arith)
      go _ (Judged.wrong h q) z = absurd (let y : ◌≡◌ {A = ℕ} 0 1 = cc in omega arith)
      go _ (Judged.right {cs = cs} h q) z =
          let y : length cs ≡ n = cc in
          (h, q ∙ ap (λ (c : Choices). choices (choice_list c)) (sym q), sym y ∙ ap (λ (c : Choices). length (choice_list c)) (sym q))

  pub choices_all : (n : ℕ) → r ≡ Ok n → n ≡ length (choices_of bytes)
  choices_all n z = (is_choices n z).2

  pub choices_few : (n : ℕ) → r ≡ Ok n → n ≤ 16384
  choices_few n z =
      let h = is_choices n z in
      let l = ltb-false 49152 (length bytes) h.0 in
      let c = choices_count bytes (choices_of bytes) h.1 in
      let q = h.2 in
      omega arith

  module _ (p : Program) (w v out new : List ℕ) (x : ListingAnswer) where
    by_listing : (b c : FinalState) (l m : List ℕ) → c ≡ b → m ≡ l
        → listed_after b l out ≡ listed_after c m out
    by_listing b c l m f g = ap₂ (λ (y : FinalState) (z : List ℕ). listed_after y z out) (sym f) (sym g)

    with_words : (l : List ℕ) → with_buffers x [] new ≡ listed_after (not_run []) l out
        → with_buffers x w new ≡ listed_after (not_run w) l out
    with_words l h = ap (λ (y : ListingResult). listing_result y.answer y.size y.used w y.out) h

    pub choices_refused : (f : Refusal) → r ≡ Err f
        → with_buffers x [] new ≡ listed_after (not_run []) (check_line (Err f)) out
        → with_buffers x w new ≡ listed_after (choices_run p w bytes) (choices_listing p bytes) out
    choices_refused f z h =
        let s = is_refused f z p w in
        with_words (check_line (Err f)) h ∙ by_listing _ _ _ _ s.0 s.1

    pub choices_run_lem : (n : ℕ) → r ≡ Ok n
        → with_buffers x v new
        ≡ listed_after (final_state p (choices_of bytes)) (run_lines p (choices_of bytes)) out
        → with_buffers x v new ≡ listed_after (choices_run p w bytes) (choices_listing p bytes) out
    choices_run_lem n z h =
        let a = is_choices n z in
        let s = listing_of p w bytes (choices (choices_of bytes)) a.0 a.1 in
        h ∙ by_listing _ _ _ _ s.0 s.1
