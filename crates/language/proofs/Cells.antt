-- What a cell's type means: of a cell around a type, the content is that type, the owner that
-- owner, and it is one cell deeper. Assumes nothing.
use mathlib.Core.Path.{◌≡◌, sym, ap, subst, ◌∙◌}
use Prim.Native.Nat.{ℕ, suc, ◌+◌, ◌*◌, ◌/◌, ◌%◌, ◌^◌, ◌<◌, ◌≤◌}
use native.Mathlib.Omega.{arith}
use native.Mathlib.Decide.{dec_lt}
use borrow.Author.Tests.{le-leb}
use Rattle.basics.proofs.Ifs.{if_yes}
use Rattle.language.specs.Types.{cell_depth, cell_type, owner_of, content_of}
use Rattle.language.proofs.Words.{depth_0, depth_1, depth_2, depth_3}

-- what is to be shown of o around t
pub record Around (o t : ℕ) : Type 0 where
  pub deeper : cell_depth (cell_type o t) ≡ suc (cell_depth t)
  pub owner : owner_of (cell_type o t) ≡ o
  pub content : content_of (cell_type o t) ≡ t

-- from the depths of both
by_depth : (o t d : ℕ) → 0x0010 ≤ o * 16 ^ suc d + t → d ≡ cell_depth t
    → suc d ≡ cell_depth (o * 16 ^ suc d + t) → (o * 16 ^ suc d + t) / 16 ^ suc d ≡ o
    → (o * 16 ^ suc d + t) % 16 ^ suc d ≡ t → Around o t
unfolding cell_type owner_of content_of
by_depth o t d c e f g h =
    let w : o * 16 ^ suc d + t ≡ o * 16 ^ suc (cell_depth t) + t = ap (λ (n : ℕ). o * 16 ^ suc n + t) e in
    let k : suc d ≡ cell_depth (o * 16 ^ suc (cell_depth t) + t) = f ∙ ap cell_depth w in
    record {
      deeper = sym k ∙ ap suc e;
      owner =
          if_yes _ _ (le-leb 0x0010 _ (subst (λ (n : ℕ). 0x0010 ≤ n) w c))
          ∙ ap (λ (n : ℕ). (o * 16 ^ suc (cell_depth t) + t) / 16 ^ n) (sym k)
          ∙ ap (λ (n : ℕ). n / 16 ^ suc d) (sym w) ∙ g;
      content =
          ap (λ (n : ℕ). (o * 16 ^ suc (cell_depth t) + t) % 16 ^ n) (sym k)
          ∙ ap (λ (n : ℕ). n % 16 ^ suc d) (sym w) ∙ h;
    }

-- an owner's digit in front of a type with room
pub around : (o t : ℕ) → 1 ≤ o → o < 16 → t < 0x1000 → Around o t
around o t a b h = go (dec_lt t 0x0010) (dec_lt t 0x0100)
  where
    go : Dec (t < 0x0010) → Dec (t < 0x0100) → Around o t
    go (yes l) _ = by_depth o t 0 (omega arith) (depth_0 t l) (depth_1 (o * 0x0010 + t) (omega arith) (omega arith)) (omega arith) (omega arith)
    go (no n) (yes l) = by_depth o t 1 (omega arith) (depth_1 t (omega (arith, n)) l) (depth_2 (o * 0x0100 + t) (omega arith) (omega arith) (omega arith)) (omega arith) (omega arith)
    go (no n) (no m) = by_depth o t 2 (omega arith) (depth_2 t (omega (arith, n)) (omega (arith, m)) h) (depth_3 (o * 0x1000 + t) (omega arith) (omega arith) (omega arith)) (omega arith) (omega arith)
