use Rattle.std.proofs.Common.{refl}
use Rattle.gmch.specs.Choice.{◌and◌, ◌or◌}
use Rattle.gmch.specs.Records.{is_write}
use Rattle.records.proofs.is_write.Goals as goal

pub returns : goal.returns
returns c = unfold is_write ◌and◌ ◌or◌ in refl
