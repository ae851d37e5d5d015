-- `clear_cells` meets its contract.
use Rattle.std.proofs.Common.{arith, refl, sym, ◌≡◌, ◌+◌, ◌-◌, ℕ, replicate, slice_index_or}
use Rattle.std.proofs.lemmas.Grind.{common_steps}
use Rattle.std.proofs.lemmas.List.{length-replicate}
use Rattle.std.proofs.lemmas.Slice.{put_mid-paste}
use Rattle.machine.specs.Inner.Blocks.{pasted}
use Rattle.commits.proofs.WritingLaws.{cells_none, cells_filled}
use Rattle.commits.proofs.writing.clear_cells.Goals as goal
use Rattle.commits.proofs.writing.clear_cells.Goals.{then-from-upto, else-from-upto}

pub returns : goal.returns
unfolding pasted
returns c = elim c.if-from-upto.branch [
  | then-from-upto w ↦
      let k : ℕ = 4578 + slice_index_or c.args.state.now 1 0 - (4578 + c.args.from) in
      let zeros : w.fill.new.self ≡ replicate k 0 = grind (arith, common_steps) in
      rw w.state-is
      (cells_filled _ _ _ k (omega arith)
      (put_mid-paste _ k _ _ (replicate k 0) k zeros refl (sym (length-replicate k 0))))
  | else-from-upto w ↦ rw w.state-is (cells_none _ _ (omega arith))
]
