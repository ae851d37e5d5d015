-- The code's steps of the depth pass: how it raises depths in its array, from the last frame down
-- (`depths_down`). Assumes nothing.
use mathlib.Core.Path.{◌≡◌, refl, sym, ap, ◌∙◌}
use mathlib.Core.Bool.{Bool, true, false}
use mathlib.Core.List.{List}
use Rattle.std.specs.Prelude.{fold}
use Rattle.std.specs.Int.{from_bool}
use Prim.Native.Nat.{ℕ, suc, ◌+◌, ◌-◌, ◌≤◌, ◌<◌}
use native.Mathlib.Omega.{arith}
use borrow.Author.Tests.{lt-ltb, le-ltb, eq-eqb, ne_eqb}
use lib.ListN.{get_or, set}
use Rattle.basics.specs.If.{when◌then◌else◌}
use Rattle.basics.proofs.Ifs.{yes, no, if_yes}
use Rattle.language.specs.Kinds.{is_module, children}
use Rattle.language.specs.declared.frame.Frame.{Frame}
use Rattle.program.specs.Trees.{frame_at}
use Rattle.program.specs.Inner.Children.{over_children, child_numbers_of}
use Rattle.program.proofs.ChildFolds.{children_folded}
use Rattle.layout.specs.Inner.Passes.{given, raised, depths_down}

-- ---- one depth
pub raise_past : (d : ℕ) (u : List ℕ) (v : ℕ) → 1024 ≤ v → u ≡ raised d u v
unfolding raised
raise_past d u v l = no _ (le-ltb v 1024 l) refl

-- j is v, as the code has it
module _ (d : ℕ) (u : List ℕ) (v j : ℕ) (e : j ≡ v) where
  pub raise_over : 1024 ≤ j → u ≡ raised d u v
  raise_over l = raise_past d u v (omega arith)

  pub raise_not : d ≤ get_or u j 0 → j < 1024 → u ≡ raised d u v
  unfolding raised
  raise_not h l = rw (sym e) (yes u (lt-ltb j 1024 l) (no (set u j d) (le-ltb (get_or u j 0) d h) refl))

  pub raise_set : get_or u j 0 < d → j < 1024 → set u j d ≡ raised d u v
  unfolding raised
  raise_set h l = rw (sym e) (yes u (lt-ltb j 1024 l) (yes u (lt-ltb (get_or u j 0) d h) refl))

pub ruleset raise_laws = (raise_over, raise_not, raise_set)

-- ---- the depth that a frame gives to its children
truth_number : (b : Bool) → from_bool b ≡ (when b then 1 else 0)
unfolding when◌then◌else◌
truth_number true = refl
truth_number false = refl

module _ (f : Frame) (d : ℕ) where
  pub given_body : (b : Bool) (r : ℕ) → b ≡ is_module f.kind → r ≡ from_bool b → d ≡ 0 → r ≡ given f d
  unfolding given
  given_body b r p h e =
      h ∙ ap from_bool p ∙ truth_number (is_module f.kind) ∙ sym (if_yes _ _ (eq-eqb _ _ e))

  pub given_deeper : (d ≡ 0 → ⊥) → d < 25 → d + 1 ≡ given f d
  unfolding given
  given_deeper n l =
      let s : d + 1 ≡ suc d = omega arith in no _ (ne_eqb _ _ n) (yes _ (lt-ltb _ _ l) s)

  pub given_over : (d ≡ 0 → ⊥) → 25 ≤ d → 25 ≡ given f d
  unfolding given
  given_over n l = no _ (ne_eqb _ _ n) (no _ (le-ltb _ _ l) refl)

pub ruleset given_laws = (given_body, given_deeper, given_over)

-- ---- the loop, downwards: from here on it is as from the last frame
abbrev pub Sinking : List Frame → ℕ → List ℕ → List ℕ → ℕ → Type 0
Sinking fs size start u n = depths_down n fs u ≡ depths_down size fs start

pub sinking_next : (fs : List Frame) (size : ℕ) (start u t : List ℕ) (n d : ℕ) (f : Frame)
    → f ≡ frame_at fs (n - 1) → d ≡ given f (get_or u (n - 1) 0)
    → t ≡ fold (raised d) u (child_numbers_of (children f)) → Sinking fs size start u n → 0 < n
    → Sinking fs size start t (n - 1)
sinking_next fs size start u t n d f e q p g l = go (n - 1) (omega arith) e q
  where
    r : t ≡ over_children (raised d) u (children f)
    r = p ∙ children_folded (raised d) (raise_past d) u f

    go : (m : ℕ) → n ≡ suc m → f ≡ frame_at fs m → d ≡ given f (get_or u m 0)
        → depths_down m fs t ≡ depths_down size fs start
    go m s e q =
        let b = r ∙ ap (λ (x : ℕ). over_children (raised x) u (children f)) q ∙ ap gives e in
        ap (depths_down m fs) b ∙ step ∙ sym (ap (λ (k : ℕ). depths_down k fs u) s) ∙ g
      where
        gives : Frame → List ℕ
        gives h = over_children (raised (given h (get_or u m 0))) u (children h)

        step : depths_down m fs (gives (frame_at fs m)) ≡ depths_down (suc m) fs u
        step = unfold depths_down in refl

pub sinking_end : (fs : List Frame) (size : ℕ) (start u : List ℕ) (n : ℕ)
    → Sinking fs size start u n → n ≤ 0 → u ≡ depths_down size fs start
sinking_end fs size start u n g l =
    let e : n ≡ 0 = omega arith in end ∙ ap (λ (k : ℕ). depths_down k fs u) (sym e) ∙ g
  where
    end : u ≡ depths_down 0 fs u
    end = unfold depths_down in refl

pub ruleset sinking_laws = (sinking_next, sinking_end)
