use Rattle.checker.specs.Inner.Settings.{setting_in}
use Rattle.checker.proofs.ModuleLaws.{Judging}
use Rattle.checker.proofs.module.modules_rule.Given as goal

abbrev pub invariant-loop-i : goal.invariant-loop-i
invariant-loop-i l = Judging (setting_in l.frames l.cells) l.frames l.below l.m l.i
