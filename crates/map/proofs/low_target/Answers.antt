-- By the tests of each branch, on what the calls gave.
use Rattle.gmch.proofs.Choice.{called}
use Rattle.gmch.specs.Map.{low_target}
use Rattle.map.proofs.low_target.Goals as goal

pub returns-then-low_open : goal.returns-then-low_open
returns-then-low_open c = unfold low_target in search (called, ← c.lsmm.ensures)

pub returns-then-gms-eq0 : goal.returns-then-gms-eq0
returns-then-gms-eq0 c = unfold low_target in search (called, ← c.lsmm.ensures, ← c.gms.ensures)

pub returns : goal.returns
returns c = unfold low_target in search (called, ← c.lsmm.ensures, ← c.gms.ensures)
