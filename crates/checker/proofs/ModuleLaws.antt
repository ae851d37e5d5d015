-- The functions over the modules of a laid_out file: main's effect, the next module, a module's
-- body, the loop over all. Assumes nothing.
use Rattle.std.specs.Prelude.{Ok, Err}
use mathlib.Core.Path.{◌≡◌, refl, sym, ap, ap₂, subst, ◌∙◌}
use mathlib.Core.Bool.{Bool, true, false, true≢false}
use mathlib.Core.List.{List, [], ◌∷◌, ◌++◌, map, map-append}
use Prim.Native.Nat.{ℕ, zero, suc, ◌+◌, ◌-◌, ◌^◌, ◌≤◌, ◌<◌}
use native.Mathlib.Numerals.{add-one}
use native.Mathlib.Omega.{arith}
use lib.ListN.{length, take, drop, set, replicate, length-map, length-set, drop_of_length-le}
use lib.Seq.{drop-cons, take-suc, take-suc-set}
use Rattle.basics.specs.Members.{In}
use Rattle.language.specs.Places.{linked}
use Rattle.language.specs.Kinds.{is_module, child}
use Rattle.language.specs.Effects.{within}
use Rattle.language.specs.Inner.Labels.{within_in}
use Rattle.language.specs.Verdicts.{Verdict}
use Rattle.language.specs.declared.kind.Class.{Class}
use Rattle.language.specs.declared.kind.Kind.{Kind}
use Rattle.language.specs.declared.kind.Kind.TheVariants.{Header, Declared, Module, Statement}
use Rattle.language.specs.declared.kind.Kind.TheVariants.{Expression, Unknown}
use Rattle.language.specs.declared.frame.Frame.{Frame}
use Rattle.language.specs.declared.refusal.Refusal.{Refusal}
use Rattle.text.specs.Frames.{frame_of_word, frames_of}
use Rattle.program.specs.Trees.{no_frame, frame_at, statement_at}
use Rattle.program.specs.Programs.{Part, part_of, modules_from}
use Rattle.program.specs.Inner.Modules.{with_part}
use Rattle.fields.specs.Fields.{count_of}
use Rattle.layout.specs.Inner.Scope.{Room}
use Rattle.layout.specs.Faults.{NoFault}
use Rattle.layout.proofs.Scopes.{in_a, room_body, child_below, main_last}
use Rattle.fields.proofs.Tallies.{counted_one, counted_none}
use Rattle.layout.proofs.Trees.{is_module_lem}
use Rattle.layout.proofs.Parts.{NonEmpty}
use Rattle.rules.proofs.Lists.{prefix_length}
use Rattle.rules.specs.Rules.{Setting, Signature, signature}
use Rattle.rules.specs.Inner.Checking.{EffectTest, effect_in, main_rule, after_module, modules_in}
use Rattle.rules.specs.Inner.Signatures.{signature_of, signature_with}
use Rattle.checker.specs.Inner.Frames.{FileIn}
use Rattle.checker.specs.Inner.Settings.{setting_in, LabelsOf}
use Rattle.rules.specs.declared.finding.Ending.{Ending}
use Rattle.rules.specs.Inner.Findings.{StatementEffect}
use Rattle.checker.proofs.FineFrames.{few_modules, few_parameters}
use Rattle.checker.proofs.LabelLaws.{same_test}

-- ---- the modules from a frame on

-- the modules of the file from frame k on
abbrev parts_from : List Frame → ℕ → List Part
parts_from fs k = modules_from fs k (drop k fs)

module _ (fs : List Frame) where
  from : (k : ℕ) → k < length fs
      → parts_from fs k ≡ with_part fs k (frame_at fs k) (frame_at fs k).kind
      (parts_from fs (suc k))
  unfolding modules_from
  from k h = ap (modules_from fs k) (drop-cons fs k no_frame h)

  no_part : (k : ℕ) (f : Frame) (q : Kind) (ps : List Part) → is_module q ≡ false
      → with_part fs k f q ps ≡ ps
  no_part k f Header ps h = refl
  no_part k f (Declared d) ps h = refl
  no_part k f Module ps h = absurd (true≢false h)
  no_part k f (Statement s) ps h = refl
  no_part k f (Expression s) ps h = refl
  no_part k f Unknown ps h = refl

  part_at : (k : ℕ) → k < length fs → (frame_at fs k).kind ≡ Module
      → parts_from fs k ≡ part_of fs k (frame_at fs k) ∷ parts_from fs (suc k)
  part_at k h e =
      from k h ∙ ap (λ (q : Kind). with_part fs k (frame_at fs k) q (parts_from fs (suc k))) e

  skip : (k : ℕ) → k < length fs → is_module (frame_at fs k).kind ≡ false
      → parts_from fs k ≡ parts_from fs (suc k)
  skip k h e = from k h ∙ no_part k (frame_at fs k) (frame_at fs k).kind (parts_from fs (suc k)) e

module _ (ws : List ℕ) (clean : NoFault (frames_of ws)) where
  inside : (k : ℕ) → k < length ws → k < length (frames_of ws)
  inside k l = rw length-map l

  -- the last frame is a module
  last_module : (k : ℕ) → k < length ws → length ws ≤ k + 1
      → (frame_at (frames_of ws) k).kind ≡ Module
  last_module k l h =
      let n : length (frames_of ws) - 1 ≡ k =
      ap (λ (m : ℕ). m - 1) (length-map ws frame_of_word) ∙ omega arith in
      let m = (main_last (frames_of ws) clean (rw length-map (omega arith))).0 in
      ap (λ (j : ℕ). (frame_at (frames_of ws) j).kind) (sym n) ∙ m

  here : (k : ℕ) → k < length ws → (frame_at (frames_of ws) k).kind ≡ Module
      → NonEmpty (parts_from (frames_of ws) k)
  here k l e = record {
    head = part_of (frames_of ws) k (frame_at (frames_of ws) k);
    tail = parts_from (frames_of ws) (suc k);
    same = part_at (frames_of ws) k (inside k l) e;
  }

  -- so there is one from each frame on: by the number of frames after k
  some_part : (n k : ℕ) → length ws ≡ suc (n + k) → NonEmpty (parts_from (frames_of ws) k)
  some_part zero k e =
      let l : k < length ws = omega arith in
      here k l (last_module k l (omega arith))
  some_part (suc n) k e =
      go (is_module (frame_at (frames_of ws) k).kind) refl (some_part n (suc k) (omega arith))
    where
      l : k < length ws
      l = omega arith

      go : (b : Bool) → is_module (frame_at (frames_of ws) k).kind ≡ b
          → NonEmpty (parts_from (frames_of ws) (suc k)) → NonEmpty (parts_from (frames_of ws) k)
      go true t p = here k l (is_module_lem _ t)
      go false t p = subst NonEmpty (sym (skip (frames_of ws) k (inside k l) t)) p

-- ---- the parameters of a module
pub take_two : (s b c : ℕ) (l : List ℕ) → s ≤ 2 → take s (b ∷ c ∷ l) ≡ take s (b ∷ c ∷ [])
take_two zero b c l h = refl
take_two (suc zero) b c l h = refl
take_two (suc (suc zero)) b c l h = refl
take_two (suc (suc (suc s))) b c l h = absurd (omega arith)

-- ---- the loop over modules

-- what a module leaves to be said, by what its body was found to be
module _ (allows : EffectTest) (rest : List Signature → Verdict) (below : List Signature)
    (p : Part) where
  after_fails : (ms : List Part) (r : Refusal) → after_module allows rest below p ms (Err r) ≡ Err r
  after_fails [] r = refl
  after_fails (q ∷ qs) r = refl

  after_last : {ms : List Part} (a : Ending) → ms ≡ []
      → after_module allows rest below p ms (Ok a) ≡ main_rule allows p.frame a.effect
  after_last a h = ap (λ (ns : List Part). after_module allows rest below p ns (Ok a)) h

  after_earlier : {q : Part} {ms qs : List Part} (a : Ending) → ms ≡ q ∷ qs
      → after_module allows rest below p ms (Ok a) ≡ rest (below ++ (signature p a.effect ∷ []))
  after_earlier a h = ap (λ (ns : List Part). after_module allows rest below p ns (Ok a)) h

-- what the rules say of all modules of the file
abbrev all_modules : Setting → List ℕ → Verdict
all_modules env ws = modules_in env [] (modules_from (frames_of ws) 0 (frames_of ws))

-- the frames before frame i are passed, and m modules among them
pub record Judging (env : Setting) (ws below : List ℕ) (m i : ℕ) : Type 0 where
  pub file : FileIn ws
  pub there : i < length ws
  pub count : m ≡ count_of is_module (take i (frames_of ws))
  pub wide : length below ≡ 16
  pub rest : modules_in env (map signature_of (take m below)) (parts_from (frames_of ws) i)
      ≡ all_modules env ws

pub judge_start : (env : Setting) (ws : List ℕ) → FileIn ws → Judging env ws (replicate 16 0) 0 0
unfolding count_of
judge_start env ws g =
    record { file = g; there = g.some; count = refl; wide = refl; rest = refl }

-- the last frame
pub judge_end : (env : Setting) (ws below : List ℕ) (m i : ℕ) → Judging env ws below m i
    → length ws - 1 ≤ i → Judging env ws below m (length ws - 1)
judge_end env ws below m i j h =
    let t = j.there in
    let e : i ≡ length ws - 1 = omega arith in
    subst (λ (k : ℕ). Judging env ws below m k) e j

-- f is the last frame
pub last_here : (env : Setting) (ws below : List ℕ) (m i : ℕ) → Judging env ws below m i
    → length ws - 1 ≤ i → (f : Frame) → f ≡ frame_at (frames_of ws) (length ws - 1)
    → f.kind ≡ Module
last_here env ws below m i j h f q =
    let t = j.there in
    ap (λ (g : Frame). g.kind) q
    ∙ last_module ws j.file.laid_out (length ws - 1) (omega arith) (omega arith)

-- f was found to be a module
pub module_here : (f : Frame) (x : Bool) → x ≡ is_module f.kind → x ≡ true → f.kind ≡ Module
module_here f x e h = is_module_lem f.kind (sym e ∙ h)

module _ (env : Setting) (ws below : List ℕ) (m i : ℕ) (j : Judging env ws below m i) where
  inside_fs : i < length (frames_of ws)
  inside_fs = rw length-map j.there

  -- no module: it is passed over
  pub judge_skip : (f : Frame) → f ≡ frame_at (frames_of ws) i → is_module f.kind ≡ false
      → i + 1 < length ws → Judging env ws below m (i + 1)
  judge_skip f q n l =
      let e = ap (λ (g : Frame). is_module g.kind) (sym q) ∙ n in
      record {
        file = j.file;
        there = l;
        count =
            j.count
            ∙ sym (counted_none is_module (take i (frames_of ws)) (frame_at (frames_of ws) i) e)
            ∙ ap (count_of is_module) (sym (take-suc (frames_of ws) i no_frame inside_fs))
            ∙ ap (λ (x : ℕ). count_of is_module (take x (frames_of ws))) (sym (add-one i));
        wide = j.wide;
        rest =
            ap (λ (k : ℕ). modules_in env (map signature_of (take m below))
            (parts_from (frames_of ws) k)) (add-one i)
            ∙ ap (modules_in env (map signature_of (take m below)))
            (sym (skip (frames_of ws) i inside_fs e))
            ∙ j.rest;
      }

-- where frame i is a module, f
module _ (env : Setting) (ws below : List ℕ) (m i : ℕ) (j : Judging env ws below m i) (f : Frame)
    (q : f ≡ frame_at (frames_of ws) i) (is : f.kind ≡ Module) where
  inside_f : i < length (frames_of ws)
  inside_f = rw length-map j.there

  module_at : (frame_at (frames_of ws) i).kind ≡ Module
  module_at = ap (λ (g : Frame). g.kind) (sym q) ∙ is

  pub judge_few : m < 16
  judge_few =
      let c = j.count in
      let k = few_modules (frames_of ws) j.file.laid_out i inside_f module_at in
      omega arith

  pub judge_room_for : m ≤ length below
  judge_room_for = let h = judge_few in let w = j.wide in omega arith

  pub judge_length : m ≡ length (take m below)
  judge_length = let h = judge_few in prefix_length below m j.wide (omega arith)

  pub judge_add : m + 1 < 2 ^ 64
  judge_add = let h = judge_few in omega arith

  pub judge_parameters : f.s ≤ 2
  judge_parameters = subst (λ (g : Frame). g.s ≤ 2) (sym q)
      (few_parameters (frames_of ws) j.file.laid_out i inside_f module_at)

  pub judge_body : f.a < length ws
  judge_body =
      let g = frame_at (frames_of ws) i in
      let b : g.a < i = child_below
      (frames_of ws) j.file.laid_out {c = child Class.Statement g.a} inside_f
      (in_a g Module module_at In.first) in
      let t = j.there in
      subst (λ (h : Frame). h.a < length ws) (sym q) (omega arith)

  pub judge_room : Room (frames_of ws) f.a f.s
  judge_room = subst (λ (g : Frame). Room (frames_of ws) g.a g.s) (sym q)
      (room_body i (frame_at (frames_of ws) i).s inside_f module_at
      (few_parameters (frames_of ws) j.file.laid_out i inside_f module_at))

  -- ---- what the rules say of all modules, once the body of this one was found to be c
  abbrev known : List Signature
  known = map signature_of (take m below)

  abbrev later : List Part
  later = parts_from (frames_of ws) (suc i)

  module _ (c : StatementEffect)
      (k : c ≡ effect_in env (map signature_of (take m below)) (take f.s (f.b ∷ f.c ∷ [])) linked
      (statement_at (frames_of ws) f.a)) where
    by_body : (v : StatementEffect) → c ≡ v
        → after_module (within env.links) (λ sigs. modules_in env sigs later) known
        (part_of (frames_of ws) i f) later v
        ≡ all_modules env ws
    unfolding modules_in
    by_body v h =
        ap (after_module (within env.links) (λ sigs. modules_in env sigs later) known
        (part_of (frames_of ws) i f) later)
        (sym h ∙ k)
        ∙ ap (λ (g : Frame). modules_in env known (part_of (frames_of ws) i g ∷ later)) q
        ∙ ap (modules_in env known) (sym (part_at (frames_of ws) i inside_f module_at))
        ∙ j.rest

    pub judge_fails : (a : Refusal) → c ≡ Err a → Err a ≡ all_modules env ws
    judge_fails a h =
        sym (after_fails (within env.links) (λ sigs. modules_in env sigs later) known
        (part_of (frames_of ws) i f) later a)
        ∙ by_body (Err a) h

    main_judged : (a : Ending) (r : Verdict) → c ≡ Ok a → length ws ≤ i + 1
        → r ≡ main_rule (within env.links) i a.effect → r ≡ all_modules env ws
    unfolding modules_from
    main_judged a r h l d =
        let z : later ≡ [] = ap (modules_from (frames_of ws) (suc i))
        (drop_of_length-le (frames_of ws) {i = suc i} (rw length-map (omega arith))) in
        d ∙ sym (after_last (within env.links) (λ sigs. modules_in env sigs later) known
        (part_of (frames_of ws) i f) a z) ∙ by_body (Ok a) h

    pub judge_more : (a : Ending) (w : ℕ) → c ≡ Ok a
        → signature_of w ≡ signature_with f.s f.b f.c a.effect
        → i + 1 < length ws → Judging env ws (set below m w) (m + 1) (i + 1)
    judge_more a w h d y =
        let s = judge_few in
        let wide = j.wide in
        let some = some_part ws j.file.laid_out (length ws - suc (suc i)) (suc i) (omega arith) in
        let sigs : map signature_of (take (m + 1) (set below m w))
        ≡ known ++ (signature (part_of (frames_of ws) i f) a.effect ∷ []) =
        ap (λ (x : ℕ). map signature_of (take x (set below m w))) (add-one m)
        ∙ ap (map signature_of) (take-suc-set below m w (omega arith))
        ∙ map-append signature_of (take m below) (w ∷ [])
        ∙ ap (λ (g : Signature). known ++ (g ∷ [])) d in
        record {
          file = j.file;
          there = y;
          count =
              ap (λ (x : ℕ). x + 1) j.count
              ∙ sym (counted_one is_module (take i (frames_of ws)) (frame_at (frames_of ws) i)
              (ap is_module module_at))
              ∙ ap (count_of is_module) (sym (take-suc (frames_of ws) i no_frame inside_f))
              ∙ ap (λ (x : ℕ). count_of is_module (take x (frames_of ws))) (sym (add-one i));
          wide = length-set below m w ∙ j.wide;
          rest =
              ap₂ (modules_in env) sigs (ap (parts_from (frames_of ws)) (add-one i))
              ∙ sym (after_earlier (within env.links) (λ sigs. modules_in env sigs later) known
              (part_of (frames_of ws) i f) a some.same)
              ∙ by_body (Ok a) h;
        }

-- the last module, by the labels
pub judge_main : (cells ws below labels : List ℕ) (m i : ℕ)
    → Judging (setting_in ws cells) ws below m i
    → (f : Frame) (c : StatementEffect) → f ≡ frame_at (frames_of ws) i → f.kind ≡ Module
    → c
    ≡ effect_in (setting_in ws cells) (map signature_of (take m below))
    (take f.s (f.b ∷ f.c ∷ [])) linked (statement_at (frames_of ws) f.a)
    → (a : Ending) (r : Verdict) → c ≡ Ok a → length ws ≤ i + 1
    → r ≡ main_rule (within_in labels) i a.effect → LabelsOf ws labels
    → r ≡ all_modules (setting_in ws cells) ws
judge_main cells ws below labels m i j f c q e k a r h l d g =
    main_judged (setting_in ws cells) ws below m i j f q e c k a r h l
    (d ∙ ap (λ (test : EffectTest). main_rule test i a.effect) (same_test ws labels g))
