use Rattle.std.proofs.Common.{refl}
use Rattle.gmch.specs.Choice.{◌and◌, ◌or◌}
use Rattle.gmch.specs.Records.{is_processor}
use Rattle.records.proofs.is_processor.Goals as goal

pub returns : goal.returns
returns c = unfold is_processor ◌and◌ ◌or◌ in refl
