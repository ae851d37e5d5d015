-- How the code tests the header and the values of fields: places, types, first contents. Assumes
-- nothing.
use mathlib.Core.Path.{◌≡◌, refl, sym, ap, ◌∙◌}
use mathlib.Core.Bool.{Bool, true, false, ◌&&◌}
use mathlib.Core.List.{List}
use Rattle.std.specs.Prelude.{Option, Some, None}
use Prim.Native.Nat.{ℕ, ◌%◌, ◌≤◌, ◌<◌}
use native.Mathlib.Omega.{arith}
use lib.Dec.{leb, eqb}
use lib.ListN.{length, get_or, take, length-take}
use lib.Seq.{get_or-take}
use borrow.Author.Tests.{lt-ltb, le-ltb, le-leb, lt-leb, leb-true, eq-eqb, ne_eqb}
use borrow.Author.Tests.{eqb-true}
use Rattle.basics.specs.If.{when◌then◌else◌}
use Rattle.basics.proofs.Ifs.{yes, no, if_all, and_true, and_off}
use Rattle.language.specs.Kinds.{is_header, is_event}
use Rattle.language.specs.Types.{is_cell, type_word}
use Rattle.language.specs.declared.frame.Frame.{Frame}
use Rattle.text.specs.Frames.{frames_of}
use Rattle.program.specs.Trees.{frame_at}
use Rattle.fields.specs.Fields.{count_of, header_fine, schedulers_of, event_count_of}
use Rattle.fields.specs.Fields.{first_content_fine}
use Rattle.fields.specs.Inner.Scans.{header_alone, header_fault}

-- ---- the header
-- the number of events is asked last
fine_split : (fs : List Frame) (b : Bool) → b ≡ header_alone (frame_at fs 0)
    → (b && eqb (count_of is_event fs) (frame_at fs 0).c) ≡ header_fine fs
unfolding header_fine header_alone
fine_split fs b h = ap (λ (x : Bool). x && eqb (count_of is_event fs) (frame_at fs 0).c) h

module _ (ws : List ℕ) (f : Frame) (b : Bool) (e : f ≡ frame_at (frames_of ws) 0) (h : b ≡ header_alone f) where
  fine_by : (t : Bool) → (b && eqb (count_of is_event (frames_of ws)) f.c) ≡ t
      → header_fine (frames_of ws) ≡ t
  fine_by t q = sym (fine_split (frames_of ws) b (h ∙ ap header_alone e)) ∙ ap (λ (g : Frame). b && eqb (count_of is_event (frames_of ws)) g.c) (sym e) ∙ q

  wrong : header_fine (frames_of ws) ≡ false → Some 0 ≡ header_fault (frames_of ws)
  unfolding header_fault
  wrong t = no None t refl

  pub header_wrong : b ≡ false → Some 0 ≡ header_fault (frames_of ws)
  header_wrong t = wrong (fine_by false (rw t))

  module _ (n m : ℕ) (k : n ≡ count_of is_event (frames_of ws)) (w : m ≡ f.c) where
    pub header_count : (n ≡ m → ⊥) → Some 0 ≡ header_fault (frames_of ws)
    header_count o = wrong (fine_by false (rw (ne_eqb _ _ (λ (q : count_of is_event (frames_of ws) ≡ f.c). o (k ∙ q ∙ sym w))) (and_off b)))

    pub header_there : b ≡ true → n ≡ m → None ≡ header_fault (frames_of ws)
    unfolding header_fault
    header_there t q = yes (Some 0) (fine_by true (rw (t, eq-eqb _ _ (sym k ∙ q ∙ w)))) refl

pub ruleset header_faults = (header_wrong, header_count, header_there)

-- a right header has at most 8 schedulers and 16 events, and all events are counted
pub record FineHeader (fs : List Frame) : Type 0 where
  pub kind : is_header (frame_at fs 0).kind ≡ true
  pub some_schedulers : 1 ≤ schedulers_of fs
  pub few_schedulers : schedulers_of fs ≤ 8
  pub few_events : event_count_of fs ≤ 16
  pub all_events : count_of is_event fs ≡ event_count_of fs

pub fine_header : (fs : List Frame) → header_fine fs ≡ true → FineHeader fs
unfolding header_fine
fine_header fs h =
    let a = and_true _ _ h in
    let b = and_true _ _ a.0 in
    let c = and_true _ _ b.0 in
    let d = and_true _ _ c.0 in
    let g = and_true _ _ d.0 in
    record {
      kind = g.0;
      some_schedulers = leb-true _ _ d.1;
      few_schedulers = leb-true _ _ c.1;
      few_events = leb-true _ _ b.1;
      all_events = eqb-true _ _ a.1;
    }

pub few_schedulers : (fs : List Frame) → header_fault fs ≡ None → schedulers_of fs ≤ 8
unfolding header_fault
few_schedulers fs e = if_all (λ (o : Option ℕ). o ≡ None → schedulers_of fs ≤ 8) (header_fine fs) None (Some 0) (λ t q. (fine_header fs t).few_schedulers) (λ t q. absurd (let z : ◌≡◌ {A = ℕ} 0 1 = cc in omega arith)) e

pub schedulers_are : (ws : List ℕ) (f : Frame) → f ≡ frame_at (frames_of ws) 0
    → schedulers_of (frames_of ws) ≤ 8 → f.b % 256 ≡ schedulers_of (frames_of ws)
schedulers_are ws f e l =
    let q : f.b ≡ schedulers_of (frames_of ws) = ap (λ (g : Frame). g.b) e in omega arith

-- ---- the other fields
module _ (b n s v : ℕ) where
  pub type_unused : s < n → eqb v 0 ≡ (when leb n s then type_word b v else eqb v 0)
  type_unused l = no _ (lt-leb n s l) refl

  pub type_used : (c : ℕ) (r : Bool) → n ≤ s → c ≡ b → r ≡ type_word c v
      → r ≡ (when leb n s then type_word b v else eqb v 0)
  type_used c r l e h = yes _ (le-leb n s l) (h ∙ ap (λ (k : ℕ). type_word k v) e)

pub ruleset type_laws = (type_unused, type_used)

-- of n cells in an array; j is v, as the code has it
module _ (ts : List ℕ) (n k v j : ℕ) (w : j ≡ v) (x : Bool) (h : x ≡ is_cell k) where
  pub content_past : x ≡ true → n ≤ j → false ≡ first_content_fine (take n ts) k v
  unfolding first_content_fine
  content_past c l = yes _ (sym h ∙ c) (rw (le-ltb v (length (take n ts)) (let m = length-take n ts in omega arith)))

  pub content_cell : x ≡ true → j < n → n ≤ 16 → length ts ≡ 16
      → eqb (get_or ts j 0) k ≡ first_content_fine (take n ts) k v
  unfolding first_content_fine
  content_cell c l m o =
      rw w (yes _ (sym h ∙ c) (rw (lt-ltb v (length (take n ts)) (let q = length-take n ts in omega arith), get_or-take n ts v 0 (omega arith))))

module _ (ts : List ℕ) (k v : ℕ) (x : Bool) (h : x ≡ is_cell k) where
  pub content_number : x ≡ false → (k ≡ 2 → ⊥) → true ≡ first_content_fine ts k v
  unfolding first_content_fine
  content_number c n = no _ (sym h ∙ c) (rw (ne_eqb k 2 n))

  pub content_truth : x ≡ false → k ≡ 2 → leb v 1 ≡ first_content_fine ts k v
  unfolding first_content_fine
  content_truth c n = no _ (sym h ∙ c) (rw (eq-eqb k 2 n))

pub ruleset content_laws = (content_past, content_cell, content_number, content_truth)
