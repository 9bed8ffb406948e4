use Rattle.gmch.specs.Choice.{◌or◌}
use Rattle.gmch.specs.Map.{low_protected}
use Rattle.map.proofs.low_protected.Goals as goal

pub returns : goal.returns
returns c = unfold low_protected ◌or◌ in cc
