-- Refusal 6: the order of frames.
use Rattle.std.specs.Prelude.{◌∷◌, ◌&&◌, ◌≡◌}
use Rattle.basics.specs.Prelude.{List, [], Bool, true, false, ℕ, suc, eqb, any}
use Rattle.language.specs.{Kinds.is_module, Kinds.class_of, Kinds.Child, Kinds.children}
use Rattle.language.specs.{declared.kind.Class.Class, declared.frame.Frame.Frame}
use Rattle.program.specs.Trees.{frame_at}

-- 'child-before-parent order: a frame's last child is the frame just before it, and each earlier
-- child ends just before the next one's first frame'
mutual
  -- `Tree fs lo i`: the frames lo to i are one tree, whose root is i
  pub data Tree (fs : List Frame) : ℕ → ℕ → Type 0 where
    root : {lo i : ℕ} → Row fs lo i (children (frame_at fs i)) → Tree fs lo i

  -- `Row fs lo stop cs`: the frames from lo to just before `stop` are the trees of the children cs,
  -- each of its class
  pub data Row (fs : List Frame) : ℕ → ℕ → List Child → Type 0 where
    none : {stop : ℕ} → Row fs stop stop []
    more : {lo stop : ℕ} {c : Child} {cs : List Child}
        → Tree fs lo c.at → class_of (frame_at fs c.at).kind ≡ c.class
        → Row fs (suc c.at) stop cs
        → Row fs lo stop (c ∷ cs)

-- 'a statement or expression that no frame has as a child': frame f has the frame j as a child
unfoldable pub has_child : ℕ → Frame → Bool
has_child j f = any (λ (c : Child). eqb c.at j) (children f)

-- and that is what a leftover frame is: a statement or an expression
abbrev pub has_class : Class → Bool
has_class k = elim k [ Class.Statement ↦ true | Class.Expression ↦ true | Class.Neither ↦ false ]

-- 'The last frame is main, a module with S 0.'
abbrev pub is_main : Frame → Bool
is_main f = is_module f.kind && eqb f.s 0
