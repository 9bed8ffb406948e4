use Rattle.gmch.specs.Choice.{◌and◌}
use Rattle.gmch.specs.Smram.{hseg_acts}
use Rattle.map.proofs.hseg_acts.Goals as goal

pub returns : goal.returns
returns c = unfold hseg_acts ◌and◌ in cc
