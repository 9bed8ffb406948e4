use Rattle.std.proofs.Common.{refl}
use Rattle.gmch.specs.Choice.{◌and◌}
use Rattle.gmch.specs.Config.{touches}
use Rattle.config.proofs.access.is_touched.Goals as goal

pub returns : goal.returns
returns c = unfold touches ◌and◌ in refl
