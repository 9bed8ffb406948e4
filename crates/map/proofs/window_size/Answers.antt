use Rattle.gmch.proofs.Choice.{tests}
use Rattle.gmch.specs.Map.{window_size}
use Rattle.map.proofs.window_size.Goals as goal

pub returns-then-miscc-eq1 : goal.returns-then-miscc-eq1
returns-then-miscc-eq1 c = unfold window_size in search tests

pub returns-else-miscc-eq1 : goal.returns-else-miscc-eq1
returns-else-miscc-eq1 c = unfold window_size in search tests
