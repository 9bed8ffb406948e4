-- By the tests of each branch, on the pair that the call gave.
use Rattle.gmch.proofs.Choice.{tests}
use Rattle.gmch.specs.Map.{shadow_target}
use Rattle.map.proofs.shadow_target.Goals as goal

pub returns-then-pair-eq3 : goal.returns-then-pair-eq3
returns-then-pair-eq3 c = unfold shadow_target in search (tests, ← c.pair_of-pair.ensures)

pub returns-then-pair-eq2 : goal.returns-then-pair-eq2
returns-then-pair-eq2 c = unfold shadow_target in search (tests, ← c.pair_of-pair.ensures)

pub returns-then-write : goal.returns-then-write
returns-then-write c = unfold shadow_target in search (tests, ← c.pair_of-pair.ensures)

pub returns-then-pair-eq1 : goal.returns-then-pair-eq1
returns-then-pair-eq1 c = unfold shadow_target in search (tests, ← c.pair_of-pair.ensures)

pub returns : goal.returns
returns c = unfold shadow_target in search (tests, ← c.pair_of-pair.ensures)
