-- What a file without fault has of links: each names two schedulers of the file. Assumes nothing.
use mathlib.Core.Path.{◌≡◌, refl, sym, ap, ◌∙◌}
use mathlib.Core.Bool.{Bool, true, false, true≢false}
use mathlib.Core.List.{List, [], ◌∷◌}
use Prim.Native.Nat.{ℕ, suc, ◌<◌}
use native.Mathlib.Omega.{arith}
use borrow.Author.Tests.{leb-false}
use lib.ListN.{length}
use Rattle.basics.specs.If.{keep_if}
use Rattle.basics.specs.Members.{All}
use Rattle.basics.proofs.Ifs.{and_true}
use Rattle.language.specs.declared.refusal.Rule.TheVariants.{WrongOrder}
use Rattle.language.specs.Groups.{Link}
use Rattle.language.specs.Kinds.{declarations, file_rank, is_link, uses}
use Rattle.language.specs.Places.{has_scheduler}
use Rattle.language.specs.declared.kind.DeclarationKind.TheVariants.{Shared, Event, Link as Links}
use Rattle.language.specs.declared.kind.Kind.{Kind}
use Rattle.language.specs.declared.kind.Kind.TheVariants.{Header, Declared, Module, Statement}
use Rattle.language.specs.declared.kind.Kind.TheVariants.{Expression, Unknown}
use Rattle.language.specs.declared.frame.Frame.{Frame}
use Rattle.language.proofs.PlaceLaws.{has_scheduler_lem}
use Rattle.program.specs.Trees.{frame_at}
use Rattle.program.specs.Programs.{link_of, links_of}
use Rattle.program.specs.Inner.Links.{is_early, LinksPlaced}
use Rattle.fields.specs.Fields.{schedulers_of, field_fine}
use Rattle.fields.proofs.FramePass.{fine_parts}
use Rattle.layout.specs.Faults.{Fault, NoFault}
use Rattle.layout.proofs.Scopes.{frame_right}

pub is_link_lem : (k : Kind) → is_link k ≡ true → k ≡ Declared Links
is_link_lem (Declared Links) h = refl
is_link_lem (Declared Shared) h = absurd (true≢false (sym h))
is_link_lem (Declared Event) h = absurd (true≢false (sym h))
is_link_lem Header h = absurd (true≢false (sym h))
is_link_lem Module h = absurd (true≢false (sym h))
is_link_lem (Statement k) h = absurd (true≢false (sym h))
is_link_lem (Expression k) h = absurd (true≢false (sym h))
is_link_lem Unknown h = absurd (true≢false (sym h))

-- both schedulers of the link are of a file with b schedulers
abbrev EndsIn : ℕ → Link → Type 0
EndsIn b l = (has_scheduler b l.upper ≡ true) × (has_scheduler b l.lower ≡ true)

-- what holds of each frame that declares a link, as one, holds of each link
all_links : (P : Link → Type 0) (gs : List Frame)
    → ((i : ℕ) → i < length gs → is_link (frame_at gs i).kind ≡ true → P (link_of (frame_at gs i)))
    → All P (links_of gs)
unfolding links_of
all_links P [] h = All.none
all_links P (f ∷ gs) h =
    go (is_link f.kind) refl (all_links P gs (λ i m t. h (suc i) (omega arith) t))
  where
    go : (b : Bool) → is_link f.kind ≡ b → All P (links_of gs)
        → All P (keep_if b (link_of f) (links_of gs))
    go false t rest = rest
    go true t rest = All.more (h 0 (omega arith) t) rest

module _ (fs : List Frame) (fine : NoFault fs) where
  -- 'The S byte of K 04 .. names a scheduler, and its A names a lower one'
  pub links_in_file : (i : ℕ) → i < length fs → is_link (frame_at fs i).kind ≡ true
      → (has_scheduler (schedulers_of fs) (frame_at fs i).s ≡ true)
      × (has_scheduler (schedulers_of fs) (frame_at fs i).a ≡ true)
  links_in_file i l t =
      let f = frame_at fs i in
      let e = is_link_lem f.kind t in
      let parts = fine_parts fs i f (frame_right fs fine i l) in
      let asked_s : Kind → Bool = λ (k : Kind). field_fine fs i f (uses k).s f.s in
      let asked_a : Kind → Bool = λ (k : Kind). field_fine fs i f (uses k).a f.a in
      (sym (ap asked_s e) ∙ parts.1, (and_true _ _ (sym (ap asked_a e) ∙ parts.2)).0)

  -- nothing stands before a link but the header and declarations
  links_early : (i j : ℕ) → i < j → j < length fs → is_link (frame_at fs j).kind ≡ true
      → is_early (frame_at fs i).kind ≡ true
  links_early i j l k t = go (is_early (frame_at fs i).kind) refl
    where
      go : (b : Bool) → is_early (frame_at fs i).kind ≡ b → is_early (frame_at fs i).kind ≡ true
      go true e = e
      go false e =
          absurd (fine WrongOrder j (Fault.misplaced {d = Links} l k (is_link_lem (frame_at fs j).kind t)
          (leb-false (file_rank (frame_at fs i).kind) declarations e)))

  pub links_placed : LinksPlaced fs
  links_placed =
      record {
        ends = λ i l t.
            let z = links_in_file i l t in
            let b = schedulers_of fs in
            ((has_scheduler_lem b (frame_at fs i).s z.0).0, (has_scheduler_lem b (frame_at fs i).a z.1).0);
        early = links_early;
      }

  -- the same of the program's links
  pub link_ends
      : All (λ (l : Link). (has_scheduler (schedulers_of fs) l.upper ≡ true)
      × (has_scheduler (schedulers_of fs) l.lower ≡ true)) (links_of fs)
  link_ends = all_links (EndsIn (schedulers_of fs)) fs links_in_file
