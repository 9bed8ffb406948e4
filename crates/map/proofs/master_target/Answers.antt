-- By the tests of each branch, on what the calls gave.
use Rattle.gmch.proofs.Choice.{tests}
use Rattle.gmch.specs.Map.{master_target}
use Rattle.map.proofs.master_target.Goals as goal

pub returns-then-p-lt655360 : goal.returns-then-p-lt655360
returns-then-p-lt655360 c = unfold master_target in search tests

pub returns-then-lsmm-eq1 : goal.returns-then-lsmm-eq1
returns-then-lsmm-eq1 c = unfold master_target in search (tests, ← c.lsmm.ensures)

pub returns-then-p-lt786432 : goal.returns-then-p-lt786432
returns-then-p-lt786432 c = unfold master_target in search (tests, ← c.lsmm.ensures)

pub returns-then-p-lt1048576 : goal.returns-then-p-lt1048576
returns-then-p-lt1048576 c = unfold master_target in search (tests, c.shadow_target.ensures)

pub returns-then-p-u : goal.returns-then-p-u
returns-then-p-u c =
    unfold master_target in search (tests, c.main_target.ensures, ← c.tseg_start-tseg.ensures, ← c.usable-u.ensures)

pub returns : goal.returns
returns c = unfold master_target in search (tests, ← c.tseg_start-tseg.ensures, ← c.usable-u.ensures)
