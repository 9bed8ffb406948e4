use Rattle.gmch.specs.Choice.{◌and◌, ◌or◌}
use Rattle.gmch.specs.Map.{protected_at}
use Rattle.map.proofs.protected_at.Goals as goal

pub returns : goal.returns
returns c = unfold protected_at ◌and◌ ◌or◌ in cc
