use Rattle.gmch.specs.Choice.{◌and◌}
use Rattle.gmch.specs.Map.{graphics_on}
use Rattle.map.proofs.graphics_on.Goals as goal

pub returns : goal.returns
returns c = unfold graphics_on ◌and◌ in cc
