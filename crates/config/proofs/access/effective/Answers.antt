use Rattle.gmch.proofs.Choice.{tests}
use Rattle.gmch.specs.Choice.{◌or◌}
use Rattle.gmch.specs.Config.{unsupported, effective}
use Rattle.config.proofs.access.effective.Goals as goal

pub returns-then-v : goal.returns-then-v
returns-then-v c = unfold effective unsupported ◌or◌ in rw c.from.ensures (search (c.if-v.true, tests))

pub returns-else-v : goal.returns-else-v
returns-else-v c = unfold effective unsupported ◌or◌ in search (c.if-v.false, tests)

pub returns-else-x-eq480 : goal.returns-else-x-eq480
returns-else-x-eq480 c = unfold effective unsupported in search tests
