-- A start in a file has at most two arguments: as many as an act has words for. Assumes nothing.
use Prim.Native.Nat.{ℕ, zero, suc, ◌≤◌}
use mathlib.Core.List.{List}
use native.Mathlib.Omega.{arith}
use lib.ListN.{length}
use Rattle.language.specs.declared.kind.StatementKind.{StatementKind}
use Rattle.language.specs.declared.kind.StatementKind.TheVariants as K
use Rattle.language.specs.declared.kind.Kind.{Kind}
use Rattle.language.specs.declared.kind.Kind.TheVariants.{Header, Declared, Module, Statement}
use Rattle.language.specs.declared.kind.Kind.TheVariants.{Expression, Unknown}
use Rattle.language.specs.declared.frame.Frame.{Frame}
use Rattle.program.specs.Trees.{Expr, Stmt, nothing, seq, do_at, start, start_wait, cooperate}
use Rattle.program.specs.Trees.{let_in}
use Rattle.program.specs.Trees.{store, if_else, while, frame_at, arguments, statement_with}
use Rattle.program.specs.Trees.{statement_of, statement_to, statement_at, expression_at}
use Rattle.program.specs.Trees.{generate, await}

abbrev pub FewArguments : Stmt → Type 0
FewArguments (start i m xs) = length xs ≤ 2
FewArguments (start_wait i m xs) = length xs ≤ 2
FewArguments (nothing i) = Unit {0}
FewArguments (cooperate i) = Unit {0}
FewArguments (seq i a b) = Unit {0}
FewArguments (do_at i q a) = Unit {0}
FewArguments (let_in i x a) = Unit {0}
FewArguments (store i x y) = Unit {0}
FewArguments (if_else i x a b) = Unit {0}
FewArguments (while i x a) = Unit {0}
FewArguments (generate i e) = Unit {0}
FewArguments (await i e) = Unit {0}

few_arguments : (f : ℕ → Expr) (a b : ℕ) → length (arguments f a b) ≤ 2
few_arguments f zero b = omega arith
few_arguments f (suc a) zero = omega arith
few_arguments f (suc a) (suc b) = omega arith

pub few_arguments_at : (fs : List Frame) (i : ℕ) → FewArguments (statement_at fs i)
unfolding statement_at statement_to
few_arguments_at fs i = of (frame_at fs i).kind
  where
    by : (k : StatementKind)
        → FewArguments
        (statement_with (λ j. expression_at fs j) (λ j. statement_to i fs j) i (frame_at fs i) k)
    by K.Nothing = tt
    by K.Then = tt
    by K.DoAt = tt
    by K.Start = few_arguments (λ j. expression_at fs j) (frame_at fs i).a (frame_at fs i).b
    by K.StartWait = few_arguments (λ j. expression_at fs j) (frame_at fs i).a (frame_at fs i).b
    by K.Cooperate = tt
    by K.Let = tt
    by K.Store = tt
    by K.If = tt
    by K.While = tt
    by K.Generate = tt
    by K.Await = tt

    of : (k : Kind)
        → FewArguments
        (statement_of (λ j. expression_at fs j) (λ j. statement_to i fs j) i (frame_at fs i) k)
    of (Statement k) = by k
    of (Expression k) = tt
    of Header = tt
    of (Declared d) = tt
    of Module = tt
    of Unknown = tt
