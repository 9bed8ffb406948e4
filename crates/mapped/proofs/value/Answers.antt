-- By the tests of each branch.
use Rattle.gmch.proofs.Choice.{called}
use Rattle.gmch.specs.Mapped.{mapped_value}
use Rattle.mapped.proofs.value.Goals as goal

pub returns-then-is_entry : goal.returns-then-is_entry
returns-then-is_entry c = unfold mapped_value in rw c.entry_number.ensures.0 (search called)

pub returns-then-is_fence : goal.returns-then-is_fence
returns-then-is_fence c = unfold mapped_value in rw c.fence_number.ensures.0 (search called)

pub returns : goal.returns
returns c = unfold mapped_value in rw c.regs_value.ensures (search called)
