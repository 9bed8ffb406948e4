use Rattle.gmch.specs.Mapped.{is_entry}
use Rattle.mapped.proofs.is_entry.Goals as goal

pub returns : goal.returns
returns c = unfold is_entry in c.within.ensures
