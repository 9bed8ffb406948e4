use Rattle.gmch.proofs.Choice.{tests}
use Rattle.gmch.specs.Map.{top_target}
use Rattle.map.proofs.top_target.Goals as goal

pub returns-then-a-tseg : goal.returns-then-a-tseg
returns-then-a-tseg c = unfold top_target in search tests

pub returns-then-management : goal.returns-then-management
returns-then-management c = unfold top_target in search tests

pub returns : goal.returns
returns c = unfold top_target in search tests
