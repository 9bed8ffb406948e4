use Rattle.gmch.proofs.Choice.{tests}
use Rattle.gmch.specs.Map.{hseg_target}
use Rattle.map.proofs.hseg_target.Goals as goal

pub returns-then-management : goal.returns-then-management
returns-then-management c = unfold hseg_target in search tests

pub returns : goal.returns
returns c = unfold hseg_target in search tests
