use Rattle.gmch.specs.Choice.{◌and◌}
use Rattle.map.proofs.graphics_hit.Goals as goal

pub returns : goal.returns
returns c = unfold ◌and◌ in cc
