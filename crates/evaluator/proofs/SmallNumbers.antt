-- The numbers in a file's expressions fit: a literal the word of a value, a shared cell's index a
-- byte. Assumes nothing.
use mathlib.Core.List.{List, [], ◌∷◌}
use Prim.Native.Nat.{ℕ, zero, suc, ◌^◌, ◌<◌}
use native.Mathlib.Omega.{arith}
use Rattle.language.specs.declared.kind.ExpressionKind.{ExpressionKind}
use Rattle.language.specs.declared.kind.Kind.{Kind}
use Rattle.language.specs.declared.kind.Kind.TheVariants.{Header, Declared, Module, Statement}
use Rattle.language.specs.declared.kind.Kind.TheVariants.{Expression, Unknown}
use Rattle.language.specs.declared.frame.Frame.{Frame}
use Rattle.text.specs.Frames.{frame_of_word, frames_of}
use Rattle.program.specs.Trees.{Expr, number, truth, variable, shared, new, content, sum, less}
use Rattle.program.specs.Trees.{choose, frame_at, expression_with, expression_of, expression_to}
use Rattle.program.specs.Trees.{expression_at}

abbrev pub Small : Expr → Type 0
Small (number i n) = n < 2 ^ 32
Small (truth i n) = Unit {0}
Small (variable i s) = Unit {0}
Small (shared i s) = s < 256
Small (new i s x) = Small x
Small (content i x) = Small x
Small (sum i x y) = Small x × Small y
Small (less i x y) = Small x × Small y
Small (choose i x y z) = Small x × Small y × Small z

-- fields of two and of four digits
small_fields : (ws : List ℕ) (i : ℕ)
    → ((frame_at (frames_of ws) i).s < 256) × ((frame_at (frames_of ws) i).a < 2 ^ 32)
unfolding frame_of_word
small_fields [] i = (omega arith, omega arith)
small_fields (w ∷ ws) zero = (omega arith, omega arith)
small_fields (w ∷ ws) (suc i) = small_fields ws i

small_with : (rec : ℕ → Expr) (i : ℕ) (f : Frame) (k : ExpressionKind) → f.s < 256 → f.a < 2 ^ 32
    → ((j : ℕ) → Small (rec j)) → Small (expression_with rec i f k)
small_with rec i f ExpressionKind.Number l m h = m
small_with rec i f ExpressionKind.Truth l m h = tt
small_with rec i f ExpressionKind.Variable l m h = tt
small_with rec i f ExpressionKind.SharedCell l m h = l
small_with rec i f ExpressionKind.NewCell l m h = h f.a
small_with rec i f ExpressionKind.Content l m h = h f.a
small_with rec i f ExpressionKind.Sum l m h = (h f.a, h f.b)
small_with rec i f ExpressionKind.Less l m h = (h f.a, h f.b)
small_with rec i f ExpressionKind.Choose l m h = (h f.a, h f.b, h f.c)

small_of : (rec : ℕ → Expr) (i : ℕ) (f : Frame) (k : Kind) → f.s < 256 → f.a < 2 ^ 32
    → ((j : ℕ) → Small (rec j)) → Small (expression_of rec i f k)
small_of rec i f (Expression k) l m h = small_with rec i f k l m h
small_of rec i f (Statement k) l m h = omega arith
small_of rec i f Header l m h = omega arith
small_of rec i f (Declared d) l m h = omega arith
small_of rec i f Module l m h = omega arith
small_of rec i f Unknown l m h = omega arith

small_to : (d : ℕ) (ws : List ℕ) (i : ℕ) → Small (expression_to d (frames_of ws) i)
unfolding expression_to
small_to zero ws i = omega arith
small_to (suc d) ws i = small_of (λ j. expression_to d (frames_of ws) j) i (frame_at (frames_of ws) i) (frame_at (frames_of ws) i).kind (small_fields ws i).0 (small_fields ws i).1 (λ j. small_to d ws j)

pub small_at : (ws : List ℕ) (i : ℕ) → Small (expression_at (frames_of ws) i)
unfolding expression_at
small_at ws i = small_to (suc i) ws i
