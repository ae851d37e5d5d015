-- `store_thread` meets its contract.
use Rattle.states.proofs.Store.{whole_stored}
use Prim.Native.Nat.{◌+◌, ◌*◌}
use native.Mathlib.Omega.{arith}
use borrow.Author.Rules.{rules}
use Rattle.states.proofs.thread.store_thread.Goals as goal

pub returns : goal.returns
returns c =
    whole_stored c.args.th.now c.args.state.now _ (1042 + 55 * c.args.k) (omega arith) (search rules) c.store_run.ensures (search rules) _ c.store_run-2.ensures
