-- The modules of a file that passes refusals 4 to 7: which frames they are, that their bodies are
-- laid out as they have to be, and that main, the last, has no parameters. Assumes nothing.
use mathlib.Core.Path.{◌≡◌, refl, sym, ap, subst, ◌∙◌}
use mathlib.Core.List.{List, [], ◌∷◌}
use Prim.Native.Nat.{ℕ, zero, suc, ◌+◌, ◌-◌, ◌≤◌, ◌<◌}
use native.Mathlib.Omega.{arith}
use lib.ListN.{length, take, length-take}
use Rattle.language.specs.declared.refusal.Rule.{Rule}
use Rattle.basics.specs.Members.{All}
use Rattle.language.specs.declared.kind.Kind.{Kind}
use Rattle.language.specs.declared.kind.Kind.TheVariants.{Header, Declared, Module, Statement}
use Rattle.language.specs.declared.kind.Kind.TheVariants.{Expression, Unknown}
use Rattle.language.specs.declared.frame.Frame.{Frame}
use Rattle.program.specs.Trees.{frame_at}
use Rattle.program.specs.Programs.{Part, part_of, modules_from}
use Rattle.program.specs.Inner.Modules.{with_part}
use Rattle.fields.specs.Fields.{schedulers_of}
use Rattle.layout.specs.Depths.{Depth}
use Rattle.layout.specs.Faults.{NoFault}
use Rattle.layout.proofs.Trees.{From, from_next, from_start}
use Rattle.layout.proofs.Parts.{has_main}
use Rattle.reach.proofs.Passed.{some_frame, last_main}
use Rattle.reach.proofs.Laid.{LaidS, laid_stmt}

-- m is the module that a frame of the file is
pub record IsPart (fs : List Frame) (m : Part) : Type 0 where
  pub at : ℕ
  pub inside : at < length fs
  pub kind : (frame_at fs at).kind ≡ Module
  pub same : m ≡ part_of fs at (frame_at fs at)

with_part_lem : {fs : List Frame} (i : ℕ) (f : Frame) (k : Kind) (ps : List Part) → i < length fs
    → f ≡ frame_at fs i → f.kind ≡ k → All (IsPart fs) ps → All (IsPart fs) (with_part fs i f k ps)
with_part_lem {fs} i f Module ps l e k h = All.more (record { at = i; inside = l; kind = ap (λ (g : Frame). g.kind) (sym e) ∙ k; same = ap (part_of fs i) e }) h
with_part_lem i f Header ps l e k h = h
with_part_lem i f (Declared d) ps l e k h = h
with_part_lem i f (Statement q) ps l e k h = h
with_part_lem i f (Expression q) ps l e k h = h
with_part_lem i f Unknown ps l e k h = h

parts_from : {fs : List Frame} (tail : List Frame) (i : ℕ) → From fs i tail
    → All (IsPart fs) (modules_from fs i tail)
unfolding modules_from
parts_from [] i w = All.none
parts_from {fs} (f ∷ tail) i w =
    let z : i + 0 ≡ i = omega arith in
    with_part_lem i f f.kind _ (let s = w.size in omega arith) (w.same 0 ∙ ap (frame_at fs) z) refl
    (parts_from tail (suc i) (from_next w))

pub parts : (fs : List Frame) → All (IsPart fs) (modules_from fs 0 fs)
parts fs = parts_from fs 0 (from_start fs)

-- the last of the modules has no parameters
pub data LastPlain : List Part → Type 0 where
  last : {m : Part} → m.types ≡ [] → LastPlain (m ∷ [])
  later : {m : Part} {ms : List Part} → LastPlain ms → LastPlain (m ∷ ms)

with_later : (fs : List Frame) (i : ℕ) (f : Frame) (k : Kind) {ps : List Part} → LastPlain ps
    → LastPlain (with_part fs i f k ps)
with_later fs i f Module h = LastPlain.later h
with_later fs i f Header h = h
with_later fs i f (Declared d) h = h
with_later fs i f (Statement q) h = h
with_later fs i f (Expression q) h = h
with_later fs i f Unknown h = h

plain_last : (fs tail : List Frame) (i q : ℕ) → length tail ≡ suc q → (frame_at tail q).kind ≡ Module
    → (frame_at tail q).s ≡ 0 → LastPlain (modules_from fs i tail)
unfolding modules_from
plain_last fs [] i q l k s = absurd (omega arith)
plain_last fs (f ∷ []) i zero l k s =
    rw k (LastPlain.last (ap (λ (n : ℕ). take n (f.b ∷ f.c ∷ [])) s))
plain_last fs (f ∷ []) i (suc q) l k s = absurd (omega arith)
plain_last fs (f ∷ g ∷ tail) i zero l k s = absurd (omega arith)
plain_last fs (f ∷ g ∷ tail) i (suc q) l k s =
    with_later fs i f f.kind (plain_last fs (g ∷ tail) (suc i) q (omega arith) k s)

module _ {fs : List Frame} (fine : NoFault fs) where
  pub main_plain : LastPlain (modules_from fs 0 fs)
  main_plain =
      let l = some_frame fine in
      let m = last_main fine in
      plain_last fs fs 0 (length fs - 1) (omega arith) m.0 m.1

  pub some_module : 1 ≤ length (modules_from fs 0 fs)
  some_module =
      let r = has_main fs (some_frame fine) (fine Rule.WrongOrder) in
      let e = ap length r.same in
      omega arith

  -- 'S parameters, 0 to 2'
  pub part_types : (m : Part) → IsPart fs m → length m.types ≤ 2
  part_types m h =
      let f = frame_at fs h.at in
      let e = ap (λ (p : Part). length p.types) h.same in
      let l = length-take f.s (f.b ∷ f.c ∷ []) in
      omega arith

  -- 'A body stands at depth 1', 'the whole tree is at most 24 deep'
  pub part_laid : (Q : ℕ → Type 0) → Q 0 → ((j : ℕ) → Q (frame_at fs j).a) → (m : Part)
      → IsPart fs m → LaidS Q (schedulers_of fs) 24 m.body
  part_laid Q none each m h =
      subst (λ (p : Part). LaidS Q (schedulers_of fs) 24 p.body) (sym h.same)
      (laid_stmt Q fine none each 24 (frame_at fs h.at).a 1 refl (Depth.body h.inside h.kind))
