-- From the rules to typing at a place: a statement whose effect is within q runs on q. Assumes
-- nothing.
use mathlib.Core.Path.{◌≡◌, refl, sym, ap, subst, ◌∙◌}
use mathlib.Core.Logic.{inl, inr}
use mathlib.Core.Bool.{Bool, true, ◌||◌, ◌&&◌}
use mathlib.Core.List.{List, [], ◌∷◌, ◌++◌, map, append_assoc, map-append}
use Prim.Native.Nat.{ℕ, zero, suc, ◌-◌, ◌≤◌, ◌<◌}
use native.Mathlib.Omega.{arith}
use native.Mathlib.Decide.{dec_lt, ℕ_discrete}
use lib.Dec.{eqb}
use lib.Bits.{bit_or}
use borrow.Author.Tests.{le-leb, eq-eqb, ltb-true}
use lib.ListN.{length, get_or, length-append, length-map, get_or-append}
use lib.Seq.{get_or_at}
use Rattle.basics.specs.Members.{All}
use Rattle.basics.proofs.Ifs.{or_on}
use Rattle.language.specs.Places.{has_place, is_scheduler, Standing, linked, unlinked}
use Rattle.language.proofs.PlaceLaws.{from_home, test_bounds, has_place_lem}
use Rattle.language.specs.Types.{number_type, truth_type, cell_type, owner_of}
use Rattle.language.specs.Effects.{member, no_effect, ◌∪◌, with_member, with_owner, with_event}
use Rattle.language.specs.Groups.{Link, InStep}
use Rattle.language.specs.declared.effect.Effect.{Effect}
use Rattle.language.proofs.Members.{member_join, member_owner, Within, within_sets}
use Rattle.program.specs.Trees.{Expr, Stmt}
use Rattle.program.specs.Programs.{Part, Program, owner_of_event, no_module, module_at, main_of}
use Rattle.rules.specs.Rules.{Setting, Signature, no_signature, signature_at, signature, HasType}
use Rattle.rules.specs.Rules.{HaveTypes, AllPublic, HasEffect, Modules}
use Rattle.machine.proofs.Lists.{all_get_d, all_append}
use Rattle.reach.proofs.Laid.{LaidE, LaidS}
use Rattle.reach.proofs.Modules.{LastPlain}
use Rattle.safety.proofs.Typing.{Ty, num, tru, cell, Pub, CellTyping, At, here, there}
use Rattle.safety.proofs.Typing.{Allowed, TypedE, t_number, t_truth, t_variable, t_shared}
use Rattle.safety.proofs.Typing.{t_new, t_content, t_sum, t_less, t_choose, Args, OwnEvent}
use Rattle.safety.proofs.Typing.{TypedS, s_nothing, s_seq, s_do, s_start, s_start_wait}
use Rattle.safety.proofs.Typing.{s_cooperate, s_let, s_store, s_if, s_while, s_generate}
use Rattle.safety.proofs.Typing.{s_await}
use Rattle.safety.proofs.TypeWords.{ty_of, ty_number, ty_truth, ty_cell, Formed, formed_cell}
use Rattle.safety.proofs.TypeWords.{formed_public}

-- ---- sets within a place or its group: each part of one is within it too

-- P holds of each member of the set s; of a join, then, of the members of each part
abbrev OfEach : (ℕ → Type 0) → ℕ → Type 0
OfEach P s = (q : ℕ) → member q s ≡ true → P q

module _ (P : ℕ → Type 0) (s t : ℕ) (h : OfEach P (bit_or s t)) where
  left_within : OfEach P s
  left_within q m = h q (member_join q s t ∙ ap (λ (b : Bool). b || member q t) m)

  right_within : OfEach P t
  right_within q m =
      h q (member_join q s t ∙ ap (λ (b : Bool). member q s || b) m ∙ or_on (member q s))

module _ (P : ℕ → Type 0) (o s : ℕ) (h : OfEach P (with_member o s)) where
  rest_within : OfEach P s
  rest_within q m = h q (member_owner q o s ∙ ap (λ (b : Bool). b || is_scheduler o && eqb q o) m)

  -- and of a scheduler added
  added : 2 ≤ o → o ≤ 9 → P o
  added l k =
      let a : (is_scheduler o && eqb o o) ≡ true = rw (le-leb 2 o l, le-leb o 9 k, eq-eqb o o refl) in
      h o (member_owner o o s ∙ ap (λ (b : Bool). member o s || b) a ∙ or_on (member o s))

-- what `SetWithin` and `GroupWithin` say of each member
abbrev IsPlace : ℕ → ℕ → Type 0
IsPlace p q = (q ≡ p) × (is_scheduler p ≡ true)

abbrev IsPartner : List Link → ℕ → ℕ → Type 0
IsPartner ls p q = InStep ls q p × (is_scheduler q ≡ true) × (is_scheduler p ≡ true)

-- ---- so of effects
module _ {ls : List Link} (p : ℕ) (e f : Effect) (h : Within ls p (e ∪ f)) where
  in_left : Within ls p e
  in_left = (
    left_within (IsPlace p) e.cells f.cells h.0,
    left_within (IsPartner ls p) e.events f.events h.1,
  )

  in_right : Within ls p f
  in_right = (
    right_within (IsPlace p) e.cells f.cells h.0,
    right_within (IsPartner ls p) e.events f.events h.1,
  )

module _ {ls : List Link} (p o : ℕ) (e : Effect) (h : Within ls p (with_owner o e)) where
  in_owned : Within ls p e
  in_owned = (rest_within (IsPlace p) o e.cells h.0, h.1)

  -- an owner added is allowed on p: it is p, where it is a scheduler
  allowed : 1 ≤ o → o ≤ 9 → Allowed p o
  allowed l k = go (ℕ_discrete o 1)
    where
      go : Dec (o ≡ 1) → Allowed p o
      go (yes q) = inl q
      go (no n) =
          let r = added (IsPlace p) o e.cells h.0 (omega (arith, n)) k in
          inr (from_home p r.1, r.0)

-- p is a place at which a thread stands so
data Stands : Standing → ℕ → Type 0 where
  on : {p : ℕ} → 2 ≤ p → p ≤ 9 → Stands linked p
  off : Stands unlinked 1

most : {at : Standing} {p : ℕ} → Stands at p → p ≤ 9
most (on a b) = b
most off = omega arith

-- ---- the types of variables and of shared cells

at_map : (Γ : List ℕ) (s : ℕ) → s < length Γ → At (map ty_of Γ) s (ty_of (get_or Γ s 0))
at_map [] s h = absurd (omega arith)
at_map (x ∷ Γ) zero h = here
at_map (x ∷ Γ) (suc s) h = there (at_map Γ s (omega arith))

-- shared cell s: the rules' type word for it and the store typing say the same, and the word is
-- well formed
pub record SharedIs (sh : List CellTyping) (cells : List ℕ) (s : ℕ) : Type 0 where
  pub typing : CellTyping
  pub at : At sh s typing
  pub same : ty_of (get_or cells s 0) ≡ cell typing.own typing.ty
  pub formed : Formed (get_or cells s 0)

-- event s: whose it is to the rules, and to the program, is the same scheduler
pub record EventIs (P : Program) (events : List ℕ) (s : ℕ) : Type 0 where
  pub there : s < length P.events
  pub same : owner_of_event P s ≡ get_or events s 0
  pub low : 2 ≤ get_or events s 0
  pub high : get_or events s 0 ≤ 9

-- P is laid out as reach/proofs/Laid says (Q, n); its shared cells are, to the rules, of the type
-- words in `env`, and sh types them; its events and links are to the rules those in `env`
module _ (P : Program) (sh : List CellTyping) (env : Setting) (Q : ℕ → Type 0) (n : ℕ) (shared : (s : ℕ) → s < length env.cells → SharedIs sh env.cells s) (events : (s : ℕ) → s < length env.events → EventIs P env.events s) (links : P.links ≡ env.links) where
  place_range : (o : ℕ) → has_place n o ≡ true → (1 ≤ o) × (o ≤ 9)
  place_range o h = test_bounds 1 o (has_place_lem n o h).0

  -- ---- expressions

  -- what a rule's typing comes to at p: the typing there, of a well-formed type word
  record HasEx (Γ : List ℕ) (p : ℕ) (x : Expr) (t : ℕ) : Type 0 where
    typed : TypedE sh (map ty_of Γ) p x (ty_of t)
    formed : Formed t

  a_number : {Γ : List ℕ} {p : ℕ} {x : Expr} → HasEx Γ p x number_type
      → TypedE sh (map ty_of Γ) p x num
  a_number h = rw ty_number at h.typed

  a_truth : {Γ : List ℕ} {p : ℕ} {x : Expr} → HasEx Γ p x truth_type → TypedE sh (map ty_of Γ) p x tru
  a_truth h = rw ty_truth at h.typed

  has_number : {Γ : List ℕ} {p : ℕ} {x : Expr} → TypedE sh (map ty_of Γ) p x num
      → HasEx Γ p x number_type
  has_number h = record { typed = rw ty_number h; formed = Formed.number }

  has_truth : {Γ : List ℕ} {p : ℕ} {x : Expr} → TypedE sh (map ty_of Γ) p x tru
      → HasEx Γ p x truth_type
  has_truth h = record { typed = rw ty_truth h; formed = Formed.truth }

  has_new : {Γ : List ℕ} {p i o t : ℕ} {x : Expr} → p ≤ 9 → has_place n o ≡ true → t < 0x1000
      → Allowed p o → (2 ≤ o → Pub (ty_of t)) → HasEx Γ p x t
      → HasEx Γ p (Expr.new i o x) (cell_type o t)
  has_new {o = o} {t = t} l h r k q x =
      let b = place_range o h in
      record { typed = rw (ty_cell o t b.0 b.1 r) (t_new k l q x.typed); formed = Formed.around_of b.0 b.1 r q x.formed }

  ex_typed : {Γ : List ℕ} {x : Expr} {t : ℕ} {e : Effect} (p : ℕ) → p ≤ 9 → All Formed Γ
      → LaidE Q n x → Within env.links p e → HasType env.cells Γ x t e → HasEx Γ p x t
  ex_typed p l g a w HasType.number = has_number t_number
  ex_typed p l g a w HasType.truth = has_truth t_truth
  ex_typed {Γ} p l g a w (HasType.variable {s =
      s} h) = record { typed = t_variable (at_map Γ s h); formed = all_get_d Formed Γ 0 s g h }
  ex_typed p l g a w (HasType.shared {s = s} h) = let r = shared s h in record { typed = rw r.same (t_shared r.at); formed = r.formed }
  ex_typed p l g (LaidE.new h a) w (HasType.new_private {t = t} d r) = has_new l h (ltb-true t 0x1000 r) (inl refl) (λ two. absurd (omega arith)) (ex_typed p l g a w d)
  ex_typed p l g (LaidE.new {o = o} h a) w (HasType.new_public {t = t} {e = e} m d r k) =
      let b = place_range o h in
      let x = ex_typed p l g a (in_owned p o e w) d in
      has_new l h (ltb-true t 0x1000 r) (allowed p o e w b.0 b.1)
      (λ _. formed_public x.formed k) x
  ex_typed {Γ} p l g (LaidE.content a) w (HasType.content {t = t} {x = x} {e = e} d h) =
      let r = ex_typed p l g a (in_owned p (owner_of t) e w) d in
      let c = formed_cell r.formed h in
      record { typed = t_content (allowed p (owner_of t) e w c.low c.high) (subst (TypedE sh (map ty_of Γ) p x) c.same r.typed); formed = c.inner }
  ex_typed p l g (LaidE.sum a b) w (HasType.sum {e = e} {f = f} c d) =
      has_number (t_sum (a_number (ex_typed p l g a (in_left p e f w) c)) (a_number (ex_typed p l g b (in_right p e f w) d)))
  ex_typed p l g (LaidE.less a b) w (HasType.less {e = e} {f = f} c d) =
      has_truth (t_less (a_number (ex_typed p l g a (in_left p e f w) c)) (a_number (ex_typed p l g b (in_right p e f w) d)))
  ex_typed p l g (LaidE.choose a b c) w (HasType.choose {e = e} {f = f} {g = k} d u v) =
      let m = in_left p (e ∪ f) k w in
      has_number (t_choose (a_truth (ex_typed p l g a (in_left p e f m) d)) (a_number (ex_typed p l g b (in_right p e f m) u)) (a_number (ex_typed p l g c (in_right p (e ∪ f) k w) v)))

  -- ---- arguments

  record HasArgs (Γ : List ℕ) (p : ℕ) (xs : List Expr) (ts : List ℕ) : Type 0 where
    typed : Args sh (map ty_of Γ) p xs (map ty_of ts)
    formed : All Formed ts

  args_typed : {Γ : List ℕ} {xs : List Expr} {ts : List ℕ} {e : Effect} (p : ℕ) → p ≤ 9
      → All Formed Γ → All (LaidE Q n) xs → Within env.links p e → AllPublic ts
      → HaveTypes env.cells Γ xs ts e → HasArgs Γ p xs ts
  args_typed p l g a w k HaveTypes.none = record { typed = Args.none; formed = All.none }
  args_typed p l g (All.more a rest) w (All.more k ks) (HaveTypes.more {e = e} {f = f} d ds) =
      let x = ex_typed p l g a (in_left p e f w) d in
      let r = args_typed p l g rest (in_right p e f w) ks ds in
      record { typed = Args.more x.typed (formed_public x.formed k) r.typed; formed = All.more x.formed r.formed }

  -- ---- starts

  -- what is known of module s, whose signature is g: its body runs on each place that its effect is
  -- within, where its parameters are well formed
  pub record Known (g : Signature) (s : ℕ) : Type 0 where
    pub inside : s < length P.modules
    pub types : length g.types ≡ length (module_at P s).types
    pub typed : All Formed g.types → (q : ℕ) → 2 ≤ q → q ≤ 9 → Within env.links q g.effect
        → TypedS P sh (map ty_of g.types) q (module_at P s).body

  abbrev pub KnownBelow : List Signature → Type 0
  KnownBelow below = (s : ℕ) → s < length below → Known (signature_at below s) s

  -- module s may be started on p with the arguments xs
  record Startable (Γ : List ℕ) (p s : ℕ) (xs : List Expr) : Type 0 where
    types : List Ty
    inside : s < length P.modules
    arguments : Args sh (map ty_of Γ) p xs types
    count : length types ≡ length (module_at P s).types
    body : TypedS P sh types p (module_at P s).body

  started : {Γ : List ℕ} {xs : List Expr} (p s : ℕ) (e : Effect) (f : Signature) → Known f s → 2 ≤ p
      → p ≤ 9 → All Formed Γ → All (LaidE Q n) xs → Within env.links p (e ∪ f.effect)
      → HaveTypes env.cells Γ xs f.types e → AllPublic f.types → Startable Γ p s xs
  started p s e f y l m g a w ds ps =
      let r = args_typed p m g a (in_left p e f.effect w) ps ds in
      record {
        types = map ty_of f.types;
        inside = y.inside;
        arguments = r.typed;
        count = length-map f.types ty_of ∙ y.types;
        body = y.typed r.formed p l m (in_right p e f.effect w);
      }

  -- ---- events

  -- 'both have the owner as effect': where that is within the group of p, the owner is p or in step
  -- with it
  own_event : (p s : ℕ) → s < length env.events
      → Within env.links p (with_event (get_or env.events s 0) no_effect) → OwnEvent P p s
  own_event p s l w =
      let x = events s l in
      let o = get_or env.events s 0 in
      let (i, _, j) = added (IsPartner env.links p) o 0 w.1 x.low x.high in
      record {
        scheduler = from_home p j;
        there = x.there;
        owner = subst (λ (ls : List Link). InStep ls (owner_of_event P s) p) (sym links)
            (subst (λ (q : ℕ). InStep env.links q p) (sym x.same) i);
      }

  -- ---- statements

  st_typed : {below : List Signature} {Γ : List ℕ} {at : Standing} {x : Stmt} {e : Effect} {b : Bool} {d : ℕ} (p : ℕ)
      → KnownBelow below → Stands at p → All Formed Γ → LaidS Q n d x → Within env.links p e
      → HasEffect env below Γ at x e b → TypedS P sh (map ty_of Γ) p x
  st_typed p k s g a w HasEffect.nothing = s_nothing
  st_typed p k s g (LaidS.seq a b) w (HasEffect.seq {e = e} {f = f} c d) = s_seq (st_typed p k s g a (in_left p e f w) c) (st_typed p k s g b (in_right p e f w) d)
  st_typed p k (on l m) g (LaidS.do_at h a) w (HasEffect.do_unlinked {e = e} r v) = s_do {p = p} {q = 1} (λ z _. omega (arith, l, z)) (st_typed 1 k off g a (within_sets env.links 1 e v) r)
  st_typed p k s g (LaidS.do_at {q = q} h a) w (HasEffect.do_linked {e = e} z r v) =
      let b = place_range q h in
      s_do {p = p} {q = q} (λ _ y. z y)
      (st_typed q k (on (two q z b.0) b.1) g a (within_sets env.links q e v) r)
    where
      two : (q : ℕ) → (q ≡ 1 → ⊥) → 1 ≤ q → 2 ≤ q
      two q z l = omega (arith, z)
  st_typed {below} p k (on l m) g (LaidS.start a) w (HasEffect.start {s = s} {e = e} i ds ps) = let r = started p s e (signature_at below s) (k s i) l m g a w ds ps in s_start l r.inside r.arguments r.count r.body
  st_typed {below} p k (on l m) g (LaidS.start_wait a) w (HasEffect.start_wait {s = s} {e = e} i ds ps) = let r = started p s e (signature_at below s) (k s i) l m g a w ds ps in s_start_wait l r.inside r.arguments r.count r.body
  st_typed p k (on l m) g a w HasEffect.cooperate = s_cooperate l
  st_typed {Γ = Γ} p k s g (LaidS.let_in {a = body} x a) w (HasEffect.let_in {t = t} {e = e} {f = f} d r) =
      let v = ex_typed p (most s) g x (in_left p e f w) d in
      s_let v.typed (subst (λ (Δ : List Ty). TypedS P sh Δ p body) (map-append ty_of Γ (t ∷ [])) (st_typed p k s (all_append g (All.more v.formed All.none)) a (in_right p e f w) r))
  st_typed {Γ = Γ} p k s g (LaidS.store {x = x} a b) w (HasEffect.store {t = t} {e = e} {f = f} c h d) =
      let v = in_owned p (owner_of t) (e ∪ f) w in
      let u = ex_typed p (most s) g a (in_left p e f v) c in
      let q = formed_cell u.formed h in
      s_store (allowed p (owner_of t) (e ∪ f) w q.low q.high) (subst (TypedE sh (map ty_of Γ) p x) q.same u.typed) (ex_typed p (most s) g b (in_right p e f v) d).typed
  st_typed p k s g (LaidS.if_else x a b) w (HasEffect.if_else {e = e} {f = f} {g = h} c d r) =
      let v = in_left p (e ∪ f) h w in
      s_if (a_truth (ex_typed p (most s) g x (in_left p e f v) c))
      (st_typed p k s g a (in_right p e f v) d) (st_typed p k s g b (in_right p (e ∪ f) h w) r)
  st_typed p k s g (LaidS.while x a) w (HasEffect.while {e = e} {f = f} c d) =
      s_while (a_truth (ex_typed p (most s) g x (in_left p e f w) c))
      (st_typed p k s g a (in_right p e f w) d)
  st_typed p k s g a w (HasEffect.generate {s = x} l) = s_generate (own_event p x l w)
  st_typed p k s g a w (HasEffect.await {s = x} l) = s_await (own_event p x l w)

  -- ---- modules: those below are typed first

  known_snoc : (below : List Signature) (g : Signature) → KnownBelow below → Known g (length below)
      → KnownBelow (below ++ (g ∷ []))
  known_snoc below g k y s h = go (dec_lt s (length below))
    where
      go : Dec (s < length below) → Known (signature_at (below ++ (g ∷ [])) s) s
      go (yes l) = subst (λ (x : Signature). Known x s) (sym (get_or-append below (g ∷ []) no_signature s l)) (k s l)
      go (no m) =
          let a = length-append below (g ∷ []) in
          let e : length below ≡ s = omega (arith, m) in
          subst (λ (x : Signature). Known x s) (sym (get_or_at below g [] no_signature s e))
          (subst (Known g) e y)

  module_here : (before : List Part) (m : Part) (ms : List Part) (s : ℕ)
      → P.modules ≡ before ++ (m ∷ ms) → length before ≡ s
      → (s < length P.modules) × (module_at P s ≡ m)
  module_here before m ms s e l =
      let a = ap length e in
      let b = length-append before (m ∷ ms) in
      (omega arith, ap (λ (ps : List Part). get_or ps s no_module) e ∙ get_or_at before m ms no_module s l)

  known_module : {below : List Signature} {m : Part} {e : Effect} {b : Bool} (s : ℕ)
      → s < length P.modules → module_at P s ≡ m → KnownBelow below → LaidS Q n 24 m.body
      → HasEffect env below m.types linked m.body e b → Known (signature m e) s
  known_module {m = m} s l q k a r = record {
    inside = l;
    types = ap (λ (x : Part). length x.types) (sym q);
    typed = λ g p low high w. subst (λ (x : Part). TypedS P sh (map ty_of m.types) p x.body) (sym q) (st_typed p k (on low high) g a w r);
  }

  -- `main`, the last, runs at home
  pub main_typed : {below : List Signature} (before ms : List Part) → P.modules ≡ before ++ ms
      → length before ≡ length below → KnownBelow below
      → All (λ (m : Part). LaidS Q n 24 m.body) ms → LastPlain ms
      → Modules env below ms → TypedS P sh [] 2 (main_of P).body
  main_typed {below} before (m ∷ []) e l k (All.more a rest) (LastPlain.last t) (Modules.main {e = f} r w) =
      let h = module_here before m [] (length P.modules - 1) e (let x = ap length e in let y = length-append before (m ∷ []) in omega arith) in
      subst (λ (x : Part). TypedS P sh [] 2 x.body) (sym h.1)
      (subst (λ (Γ : List ℕ). TypedS P sh (map ty_of Γ) 2 m.body) t
      (st_typed 2 k (on (omega arith) (omega arith)) (subst (All Formed) (sym t) All.none) a (within_sets env.links 2 f w) r))
  main_typed {below} before (m ∷ n' ∷ ms) e l k (All.more a rest) (LastPlain.later p) (Modules.more {e = f} r rs) =
      let h = module_here before m (n' ∷ ms) (length below) e l in
      main_typed (before ++ (m ∷ [])) (n' ∷ ms) (e ∙ sym (append_assoc before (m ∷ []) (n' ∷ ms)))
      (let x = length-append before (m ∷ []) in let y = length-append below (signature m f ∷ []) in omega arith)
      (known_snoc below (signature m f) k (known_module (length below) h.0 h.1 k a r)) rest p rs
  main_typed {below = below} before [] e l k _ x7 _ = elim x7 [ ]
  main_typed {below = below} before (m ∷ []) e l k (Rattle.basics.specs.Members.more a rest) (Rattle.reach.proofs.Modules.later p) _ = elim p [ ]
