use Rattle.gmch.proofs.Choice.{tests}
use Rattle.gmch.specs.Map.{window_base}
use Rattle.map.proofs.window_base.Goals as goal

pub returns-then-miscc-eq1 : goal.returns-then-miscc-eq1
returns-then-miscc-eq1 c = unfold window_base in rw c.from.ensures (search tests)

pub returns-else-miscc-eq1 : goal.returns-else-miscc-eq1
returns-else-miscc-eq1 c = unfold window_base in rw c.from-else-miscc-eq1.ensures (search tests)
