-- How large a tree is. Assumes nothing: definitions.
use Rattle.std.specs.Prelude.{List, [], ◌∷◌, ℕ, ◌+◌}
use Rattle.program.specs.Trees.{Expr, number, truth, variable, shared, new, content, sum}
use Rattle.program.specs.Trees.{less, choose}

-- the number of an expression's nodes
unfoldable pub expr_size : Expr → ℕ
expr_size (number i v) = 1
expr_size (truth i v) = 1
expr_size (variable i v) = 1
expr_size (shared i v) = 1
expr_size (new i o x) = 1 + expr_size x
expr_size (content i x) = 1 + expr_size x
expr_size (sum i x y) = 1 + (expr_size x + expr_size y)
expr_size (less i x y) = 1 + (expr_size x + expr_size y)
expr_size (choose i x y z) = 1 + (expr_size x + (expr_size y + expr_size z))

-- and of those of several, as of the arguments of a start
unfoldable pub expr_sizes : List Expr → ℕ
expr_sizes [] = 0
expr_sizes (x ∷ xs) = expr_size x + expr_sizes xs
