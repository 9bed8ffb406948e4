use Rattle.gmch.specs.Choice.{◌and◌}
use Rattle.gmch.specs.Map.{hseg_hit}
use Rattle.map.proofs.hseg_hit.Goals as goal

pub returns : goal.returns
returns c = unfold hseg_hit ◌and◌ in cc
