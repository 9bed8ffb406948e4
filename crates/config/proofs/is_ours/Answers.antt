use Rattle.gmch.specs.Choice.{◌and◌, ◌or◌}
use Rattle.gmch.specs.Config.{present, ours}
use Rattle.config.proofs.is_ours.Goals as goal

pub gms-requires : goal.gms-requires
gms-requires c = tt

pub returns : goal.returns
returns c = unfold ours present ◌and◌ ◌or◌ in rw c.gms.ensures
