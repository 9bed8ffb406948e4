use Rattle.std.proofs.Common.{refl}
use Rattle.gmch.specs.Choice.{◌and◌}
use Rattle.gmch.specs.Machine.{has_cache}
use Rattle.gmch.specs.Map.{cache_on}
use Rattle.map.proofs.cache_on.Goals as goal

pub returns : goal.returns
returns c = unfold cache_on has_cache ◌and◌ in refl
