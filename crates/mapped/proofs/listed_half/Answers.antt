use Rattle.gmch.specs.Choice.{◌and◌}
use Rattle.gmch.specs.Mapped.{listed_half}
use Rattle.mapped.proofs.listed_half.Goals as goal

pub returns : goal.returns
returns c = unfold listed_half ◌and◌ in cc
