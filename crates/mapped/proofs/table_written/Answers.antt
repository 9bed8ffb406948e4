-- By the tests of each branch.
use Rattle.gmch.proofs.Choice.{called}
use Rattle.gmch.specs.Mapped.{table_written}
use Rattle.mapped.proofs.table_written.Goals as goal

pub returns-then-is_entry : goal.returns-then-is_entry
returns-then-is_entry c = unfold table_written in rw (c.entry_number.ensures.0, c.stored.ensures) (search called)

pub returns-else-is_entry : goal.returns-else-is_entry
returns-else-is_entry c = unfold table_written in search called
