use Rattle.std.proofs.Common.{rules}
use Rattle.gmch.proofs.Choice.{tests}
use Rattle.gmch.specs.Choice.{pick}
use Rattle.gmch.specs.Smram.{segment}
use Rattle.map.proofs.segment.Goals as goal

pub returns-in-2 : goal.returns-in-2
returns-in-2 c = unfold segment pick in rw c.in-2.is (search rules)

pub returns-in-3 : goal.returns-in-3
returns-in-3 c = unfold segment pick in rw c.in-3.is (search rules)

pub returns-in_default : goal.returns-in_default
returns-in_default c = unfold segment in search tests
