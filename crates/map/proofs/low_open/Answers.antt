use Rattle.std.proofs.Common.{refl}
use Rattle.gmch.specs.Choice.{◌and◌, ◌or◌}
use Rattle.gmch.specs.Map.{low_open}
use Rattle.map.proofs.low_open.Goals as goal

pub returns : goal.returns
returns c = unfold low_open ◌and◌ ◌or◌ in refl
