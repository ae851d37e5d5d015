-- Schedulers in step as the code keeps them: the labels of 2 to 9, in order. No reader has to
-- believe it: proofs/Labels shows that those of a file's links say who is in step. Assumes nothing:
-- definitions.
use Rattle.std.specs.Prelude.{Bool, ◌&&◌, List, [], ◌∷◌, map, ℕ, zero, suc, ◌-◌, eqb, get_or}
use Rattle.basics.specs.If.{when◌then◌else◌}
use Rattle.language.specs.Places.{home, is_scheduler}
use Rattle.language.specs.Limits.{most_schedulers}
use Rattle.language.specs.Groups.{Link, label}
use Rattle.language.specs.Effects.{set_within, set_from, subset}
use Rattle.language.specs.declared.effect.Effect.{Effect}

-- the labels of n schedulers from p on
unfoldable pub labels_from : List Link → ℕ → ℕ → List ℕ
labels_from ls p zero = []
labels_from ls p (suc n) = label ls p ∷ labels_from ls (suc p) n

abbrev pub labels_of : List Link → List ℕ
labels_of ls = labels_from ls home most_schedulers

-- the label of scheduler p
abbrev pub label_at : List ℕ → ℕ → ℕ
label_at labels p = get_or labels (p - home) 0

abbrev pub same_label : List ℕ → ℕ → ℕ → Bool
same_label labels p q = eqb (label_at labels p) (label_at labels q)

-- n is a scheduler, with p's label
abbrev pub in_group : List ℕ → ℕ → ℕ → Bool
in_group labels p n = is_scheduler n && same_label labels p n

-- the one label is now the other
abbrev pub with_label : ℕ → ℕ → ℕ → ℕ
with_label old new x = when eqb x old then new else x

unfoldable pub relabelled : ℕ → ℕ → List ℕ → List ℕ
relabelled old new labels = map (with_label old new) labels

-- the schedulers that have p's label; none where p is no scheduler
unfoldable pub group_in : List ℕ → ℕ → ℕ
group_in labels p =
    when is_scheduler p then set_from (same_label labels p) home most_schedulers else 0

unfoldable pub within_in : List ℕ → ℕ → Effect → Bool
within_in labels p e = set_within p e.cells && subset e.events (group_in labels p)
