-- `act_in` meets its contract.
use borrow.Author.Rules.{rules}
use native.Mathlib.Omega.{arith}
use mathlib.Core.Path.{refl, sym}
use Rattle.stepper.proofs.ActLaws.{act_bounds, place_read, items_read, number_is}
use Rattle.stepper.proofs.ActLaws.{act_asks, act_gives}
use Rattle.stepper.proofs.turn.act_in.Goals as goal

pub overflow_sub-k : goal.overflow_sub-k
overflow_sub-k c =
    let b = act_bounds c.requires in omega arith

pub overflow_mul-at : goal.overflow_mul-at
overflow_mul-at c =
    let b = act_bounds c.requires in record { fits = omega arith }

pub overflow_add-at : goal.overflow_add-at
overflow_add-at c =
    let b = act_bounds c.requires in omega arith

pub overflow_cast-who : goal.overflow_cast-who
overflow_cast-who c =
    let b = act_bounds c.requires in record { fits = omega arith }

pub offset_bounds-state-at : goal.offset_bounds-state-at
offset_bounds-state-at c =
    let b = act_bounds c.requires in record { fits = omega arith }

pub bounds-state-at : goal.bounds-state-at
bounds-state-at c =
    let b = act_bounds c.requires in omega arith

pub known-requires : goal.known-requires
known-requires c =
    place_read _ _ _ c.requires.0 _ c.requires.1 c.requires.2 _ refl

pub overflow_add-counts : goal.overflow_add-counts
overflow_add-counts c =
    let b = act_bounds c.requires in omega arith

pub offset_bounds-state-at-2 : goal.offset_bounds-state-at-2
offset_bounds-state-at-2 c =
    let b = act_bounds c.requires in record { fits = omega arith }

pub bounds-state-at-2 : goal.bounds-state-at-2
bounds-state-at-2 c =
    let b = act_bounds c.requires in omega arith

pub overflow_add-counts-2 : goal.overflow_add-counts-2
overflow_add-counts-2 c =
    let b = act_bounds c.requires in omega arith

pub offset_bounds-state-at-3 : goal.offset_bounds-state-at-3
offset_bounds-state-at-3 c =
    let b = act_bounds c.requires in record { fits = omega arith }

pub bounds-state-at-3 : goal.bounds-state-at-3
bounds-state-at-3 c =
    let b = act_bounds c.requires in omega arith

pub top_item-item-requires : goal.top_item-item-requires
top_item-item-requires c =
    let p = c.requires in
    let b = act_bounds p in (omega arith, items_read _ _ _ p.0 _ p.1 p.2)

pub act-requires : goal.act-requires
act-requires c =
    act_asks _ _ _ c.requires.0 _ c.requires.1 c.requires.2 _ _ _
    (record {
      place = sym (number_is _ _ c.known.ensures);
      items = refl;
      variables = refl;
    })
    c.top_item-item.ensures

pub returns : goal.returns
returns c =
    act_gives _ _ _ c.requires.0 _ c.requires.1 c.requires.2 _ _ _
    (record {
      place = sym (number_is _ _ c.known.ensures);
      items = refl;
      variables = refl;
    })
    c.top_item-item.ensures _ _
    c.act.ensures.found c.act.ensures.rest (search rules)
