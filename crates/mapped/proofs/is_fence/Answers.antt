use Rattle.gmch.specs.Mapped.{is_fence}
use Rattle.mapped.proofs.is_fence.Goals as goal

pub returns : goal.returns
returns c = unfold is_fence in c.within.ensures
