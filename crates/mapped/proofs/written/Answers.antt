-- By the tests of each branch.
use Rattle.gmch.proofs.Choice.{called}
use Rattle.gmch.specs.Mapped.{mapped_written}
use Rattle.mapped.proofs.written.Goals as goal

pub returns-then-is_fence : goal.returns-then-is_fence
returns-then-is_fence c = unfold mapped_written in rw c.fence_number.ensures.0 (search called)

pub returns-else-is_fence : goal.returns-else-is_fence
returns-else-is_fence c = unfold mapped_written in rw c.regs_written-t.ensures (search called)
