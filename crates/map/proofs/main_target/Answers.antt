-- By the tests of each branch, on what the calls gave.
use Rattle.std.proofs.lemmas.Bool.{not-true, not-false}
use Rattle.gmch.proofs.Choice.{called}
use Rattle.gmch.specs.Map.{main_target}
use Rattle.map.proofs.main_target.Goals as goal

pub returns-then-not-within : goal.returns-then-not-within
returns-then-not-within c = unfold main_target in search (called, not-true)

pub returns-then-hole_on : goal.returns-then-hole_on
returns-then-hole_on c = unfold main_target in search (called, not-false)

pub returns : goal.returns
returns c = unfold main_target in search (called, not-false)
