-- `kind_of` meets its contract.
use mathlib.Core.Path.{sym, ap}
use borrow.Author.Tests.{ne_eqb}
use Rattle.basics.specs.If.{when◌then◌else◌}
use Rattle.language.specs.Kinds.{kind_of}
use Rattle.language.proofs.kind.kind_of.Goals as goal

-- an arm of a number: `kind_of` computes at it
pub returns-in-0 : goal.returns-in-0
unfolding kind_of when◌then◌else◌
returns-in-0 c = sym (ap kind_of c.in-0.is)

pub returns-in-1 : goal.returns-in-1
unfolding kind_of when◌then◌else◌
returns-in-1 c = sym (ap kind_of c.in-1.is)

pub returns-in-2 : goal.returns-in-2
unfolding kind_of when◌then◌else◌
returns-in-2 c = sym (ap kind_of c.in-2.is)

pub returns-in-3 : goal.returns-in-3
unfolding kind_of when◌then◌else◌
returns-in-3 c = sym (ap kind_of c.in-3.is)

pub returns-in-4 : goal.returns-in-4
unfolding kind_of when◌then◌else◌
returns-in-4 c = sym (ap kind_of c.in-4.is)

pub returns-in-16 : goal.returns-in-16
unfolding kind_of when◌then◌else◌
returns-in-16 c = sym (ap kind_of c.in-16.is)

pub returns-in-17 : goal.returns-in-17
unfolding kind_of when◌then◌else◌
returns-in-17 c = sym (ap kind_of c.in-17.is)

pub returns-in-18 : goal.returns-in-18
unfolding kind_of when◌then◌else◌
returns-in-18 c = sym (ap kind_of c.in-18.is)

pub returns-in-19 : goal.returns-in-19
unfolding kind_of when◌then◌else◌
returns-in-19 c = sym (ap kind_of c.in-19.is)

pub returns-in-20 : goal.returns-in-20
unfolding kind_of when◌then◌else◌
returns-in-20 c = sym (ap kind_of c.in-20.is)

pub returns-in-21 : goal.returns-in-21
unfolding kind_of when◌then◌else◌
returns-in-21 c = sym (ap kind_of c.in-21.is)

pub returns-in-22 : goal.returns-in-22
unfolding kind_of when◌then◌else◌
returns-in-22 c = sym (ap kind_of c.in-22.is)

pub returns-in-23 : goal.returns-in-23
unfolding kind_of when◌then◌else◌
returns-in-23 c = sym (ap kind_of c.in-23.is)

pub returns-in-24 : goal.returns-in-24
unfolding kind_of when◌then◌else◌
returns-in-24 c = sym (ap kind_of c.in-24.is)

pub returns-in-25 : goal.returns-in-25
unfolding kind_of when◌then◌else◌
returns-in-25 c = sym (ap kind_of c.in-25.is)

pub returns-in-26 : goal.returns-in-26
unfolding kind_of when◌then◌else◌
returns-in-26 c = sym (ap kind_of c.in-26.is)

pub returns-in-27 : goal.returns-in-27
unfolding kind_of when◌then◌else◌
returns-in-27 c = sym (ap kind_of c.in-27.is)

pub returns-in-32 : goal.returns-in-32
unfolding kind_of when◌then◌else◌
returns-in-32 c = sym (ap kind_of c.in-32.is)

pub returns-in-33 : goal.returns-in-33
unfolding kind_of when◌then◌else◌
returns-in-33 c = sym (ap kind_of c.in-33.is)

pub returns-in-34 : goal.returns-in-34
unfolding kind_of when◌then◌else◌
returns-in-34 c = sym (ap kind_of c.in-34.is)

pub returns-in-35 : goal.returns-in-35
unfolding kind_of when◌then◌else◌
returns-in-35 c = sym (ap kind_of c.in-35.is)

pub returns-in-36 : goal.returns-in-36
unfolding kind_of when◌then◌else◌
returns-in-36 c = sym (ap kind_of c.in-36.is)

pub returns-in-37 : goal.returns-in-37
unfolding kind_of when◌then◌else◌
returns-in-37 c = sym (ap kind_of c.in-37.is)

pub returns-in-38 : goal.returns-in-38
unfolding kind_of when◌then◌else◌
returns-in-38 c = sym (ap kind_of c.in-38.is)

pub returns-in-39 : goal.returns-in-39
unfolding kind_of when◌then◌else◌
returns-in-39 c = sym (ap kind_of c.in-39.is)

pub returns-in-40 : goal.returns-in-40
unfolding kind_of when◌then◌else◌
returns-in-40 c = sym (ap kind_of c.in-40.is)

-- the last arm: each of the 26 tests is false, the first arm's first
pub returns-in_default : goal.returns-in_default
unfolding kind_of when◌then◌else◌
returns-in_default c = simp (
  ne_eqb _ _ c.in_default.in_default-own.rest.0.0.0.0.0.0.0.0.0.0.0.0.0.0.0.0.0.0.0.0.0.0.0.0.0.1,
  ne_eqb _ _ c.in_default.in_default-own.rest.0.0.0.0.0.0.0.0.0.0.0.0.0.0.0.0.0.0.0.0.0.0.0.0.1,
  ne_eqb _ _ c.in_default.in_default-own.rest.0.0.0.0.0.0.0.0.0.0.0.0.0.0.0.0.0.0.0.0.0.0.0.1,
  ne_eqb _ _ c.in_default.in_default-own.rest.0.0.0.0.0.0.0.0.0.0.0.0.0.0.0.0.0.0.0.0.0.0.1,
  ne_eqb _ _ c.in_default.in_default-own.rest.0.0.0.0.0.0.0.0.0.0.0.0.0.0.0.0.0.0.0.0.0.1,
  ne_eqb _ _ c.in_default.in_default-own.rest.0.0.0.0.0.0.0.0.0.0.0.0.0.0.0.0.0.0.0.0.1,
  ne_eqb _ _ c.in_default.in_default-own.rest.0.0.0.0.0.0.0.0.0.0.0.0.0.0.0.0.0.0.0.1,
  ne_eqb _ _ c.in_default.in_default-own.rest.0.0.0.0.0.0.0.0.0.0.0.0.0.0.0.0.0.0.1,
  ne_eqb _ _ c.in_default.in_default-own.rest.0.0.0.0.0.0.0.0.0.0.0.0.0.0.0.0.0.1,
  ne_eqb _ _ c.in_default.in_default-own.rest.0.0.0.0.0.0.0.0.0.0.0.0.0.0.0.0.1,
  ne_eqb _ _ c.in_default.in_default-own.rest.0.0.0.0.0.0.0.0.0.0.0.0.0.0.0.1,
  ne_eqb _ _ c.in_default.in_default-own.rest.0.0.0.0.0.0.0.0.0.0.0.0.0.0.1,
  ne_eqb _ _ c.in_default.in_default-own.rest.0.0.0.0.0.0.0.0.0.0.0.0.0.1,
  ne_eqb _ _ c.in_default.in_default-own.rest.0.0.0.0.0.0.0.0.0.0.0.0.1,
  ne_eqb _ _ c.in_default.in_default-own.rest.0.0.0.0.0.0.0.0.0.0.0.1,
  ne_eqb _ _ c.in_default.in_default-own.rest.0.0.0.0.0.0.0.0.0.0.1,
  ne_eqb _ _ c.in_default.in_default-own.rest.0.0.0.0.0.0.0.0.0.1,
  ne_eqb _ _ c.in_default.in_default-own.rest.0.0.0.0.0.0.0.0.1,
  ne_eqb _ _ c.in_default.in_default-own.rest.0.0.0.0.0.0.0.1,
  ne_eqb _ _ c.in_default.in_default-own.rest.0.0.0.0.0.0.1,
  ne_eqb _ _ c.in_default.in_default-own.rest.0.0.0.0.0.1,
  ne_eqb _ _ c.in_default.in_default-own.rest.0.0.0.0.1,
  ne_eqb _ _ c.in_default.in_default-own.rest.0.0.0.1,
  ne_eqb _ _ c.in_default.in_default-own.rest.0.0.1,
  ne_eqb _ _ c.in_default.in_default-own.rest.0.1,
  ne_eqb _ _ c.in_default.in_default-own.rest.1,
)
