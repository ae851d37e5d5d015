-- `modules_rule` meets its contract.
use Prim.Native.Nat.{◌-◌, ◌+◌, ◌≤◌, ◌<◌}
use mathlib.Core.Path.{sym, ◌∙◌}
use native.Mathlib.Omega.{arith}
use lib.ListN.{length}
use Rattle.std.proofs.lemmas.Result.{err_from_is_err_and}
use Rattle.checker.proofs.ModuleLaws.{judge_start, judge_end, last_here, module_here, judge_skip}
use Rattle.checker.proofs.ModuleLaws.{judge_few, judge_room_for, judge_length, judge_add}
use Rattle.checker.proofs.ModuleLaws.{judge_parameters, judge_body, judge_room, judge_fails}
use Rattle.checker.proofs.ModuleLaws.{judge_more, judge_main}
use Rattle.checker.proofs.module.modules_rule.Goals as goal

pub loop-i-init : goal.loop-i-init
loop-i-init c = judge_start _ _ c.requires.0

pub loop-i-preserved-then-not-is_module : goal.loop-i-preserved-then-not-is_module
loop-i-preserved-then-not-is_module c =
    judge_skip _ _ _ _ _ c.loop-i.invariant _ c.frame_at-f.ensures
    (sym c.is_module.ensures ∙ c.if-not-is_module.true)
    (let more = c.loop-i-test.true in omega arith)

pub slice_bounds-below-end : goal.slice_bounds-below-end
slice_bounds-below-end c = search (judge_room_for, module_here)

pub slice_bounds-setting-end : goal.slice_bounds-setting-end
slice_bounds-setting-end c = search (judge_length, module_here)

pub module_effect-requires : goal.module_effect-requires
module_effect-requires c = (
  search (judge_body, module_here),
  search (judge_room, module_here),
  search (judge_parameters, module_here),
)

pub returns-in_err-x : goal.returns-in_err-x
returns-in_err-x c =
    let p = err_from_is_err_and c.from_residual.result c.from_residual.ensures.1 in
    rw (p.1, p.2)
    (judge_fails _ _ _ _ _ c.loop-i.invariant _ c.frame_at-f.ensures
    (module_here c.frame_at-f.result _ c.is_module.ensures c.if-not-is_module.false)
    _ c.module_effect.ensures _ c.in_err-x.was)

pub module_signature-requires : goal.module_signature-requires
module_signature-requires c = search (judge_parameters, module_here)

pub offset_bounds-below-m : goal.offset_bounds-below-m
offset_bounds-below-m c =
    let few : c.loop-i.m < 16 = search (judge_few, module_here) in record { fits = omega arith }

pub bounds-below-m : goal.bounds-below-m
bounds-below-m c = search (judge_few, module_here)

pub overflow_add-m : goal.overflow_add-m
overflow_add-m c = record { fits = search (judge_add, module_here) }

pub loop-i-preserved : goal.loop-i-preserved
loop-i-preserved c =
    judge_more _ _ _ _ _ c.loop-i.invariant _ c.frame_at-f.ensures
    (module_here c.frame_at-f.result _ c.is_module.ensures c.if-not-is_module.false)
    _ c.module_effect.ensures _ _ c.in_ok-x.was c.module_signature.ensures.says
    (let more = c.loop-i-test.true in omega arith)

pub slice_bounds-below-end-2 : goal.slice_bounds-below-end-2
slice_bounds-below-end-2 c =
    let passed = judge_end _ _ _ _ _ c.loop-i.invariant c.loop-i-test.false in
    let is = last_here _ _ _ _ _ c.loop-i.invariant c.loop-i-test.false _ c.frame_at-f-2.ensures in
    judge_room_for _ _ _ _ _ passed _ c.frame_at-f-2.ensures is

pub slice_bounds-setting-end-2 : goal.slice_bounds-setting-end-2
slice_bounds-setting-end-2 c =
    let passed = judge_end _ _ _ _ _ c.loop-i.invariant c.loop-i-test.false in
    let is = last_here _ _ _ _ _ c.loop-i.invariant c.loop-i-test.false _ c.frame_at-f-2.ensures in
    judge_length _ _ _ _ _ passed _ c.frame_at-f-2.ensures is

pub module_effect-requires-2 : goal.module_effect-requires-2
module_effect-requires-2 c =
    let passed = judge_end _ _ _ _ _ c.loop-i.invariant c.loop-i-test.false in
    let is = last_here _ _ _ _ _ c.loop-i.invariant c.loop-i-test.false _
    c.frame_at-f-2.ensures in (
      judge_body _ _ _ _ _ passed _ c.frame_at-f-2.ensures is,
      judge_room _ _ _ _ _ passed _ c.frame_at-f-2.ensures is,
      judge_parameters _ _ _ _ _ passed _ c.frame_at-f-2.ensures is,
    )

pub returns-in_err-x-2 : goal.returns-in_err-x-2
returns-in_err-x-2 c =
    let passed = judge_end _ _ _ _ _ c.loop-i.invariant c.loop-i-test.false in
    let is = last_here _ _ _ _ _ c.loop-i.invariant c.loop-i-test.false _ c.frame_at-f-2.ensures in
    let p = err_from_is_err_and c.from_residual-in_err-x-2.result
    c.from_residual-in_err-x-2.ensures.1 in
    rw (p.1, p.2)
    (judge_fails _ _ _ _ _ passed _ c.frame_at-f-2.ensures is _ c.module_effect-2.ensures _
    c.in_err-x-2.was)

pub returns : goal.returns
returns c =
    let passed = judge_end _ _ _ _ _ c.loop-i.invariant c.loop-i-test.false in
    let is = last_here _ _ _ _ _ c.loop-i.invariant c.loop-i-test.false _ c.frame_at-f-2.ensures in
    let some = c.loop-i.invariant.there in
    let end : length c.args.frames.now ≤ length c.args.frames.now - 1 + 1 = omega arith in
    judge_main _ _ _ _ _ _ passed _ _ c.frame_at-f-2.ensures is c.module_effect-2.ensures _ _
    c.in_ok-x-2.was end c.main_rule.ensures c.requires.1
