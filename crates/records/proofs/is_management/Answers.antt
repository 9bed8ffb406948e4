use Rattle.gmch.specs.Choice.{◌and◌, ◌or◌}
use Rattle.gmch.specs.Records.{is_management}
use Rattle.records.proofs.is_management.Goals as goal

pub returns : goal.returns
returns c = unfold is_management ◌and◌ ◌or◌ in cc
