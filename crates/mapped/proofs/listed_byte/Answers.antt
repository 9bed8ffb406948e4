use Rattle.gmch.specs.Choice.{◌and◌}
use Rattle.gmch.specs.Machine.{has_cache}
use Rattle.gmch.specs.Mapped.{listed_byte}
use Rattle.mapped.proofs.listed_byte.Goals as goal

pub returns : goal.returns
returns c = unfold listed_byte has_cache ◌and◌ in cc
