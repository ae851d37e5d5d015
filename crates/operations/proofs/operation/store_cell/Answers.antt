-- `store_cell` meets its contract.
use Rattle.std.proofs.Common.{refl, rules}
use Rattle.operations.proofs.Operations.{store_none, store_refused, store_is}
use Rattle.operations.proofs.InState.{rest_put}
use Rattle.operations.proofs.operation.store_cell.Goals as goal

pub returns-in_default : goal.returns-in_default
returns-in_default c = record { found = search store_none; rest = refl }

pub returns-in_default-o : goal.returns-in_default-o
returns-in_default-o c = record { found = search (store_refused, rules); rest = search rules }

pub returns : goal.returns
returns c =
    record {
      found = store_is _ _ _ _ _ c.in-Cell.is _ c.from-i.ensures _ _ _ _ c.access-o.ensures.found
          c.in-Is.is c.with_content.ensures;
      rest = search (rest_put, rules);
    }
