-- The offset is within the range.
use Rattle.std.proofs.Common.{refl, arith}
use Rattle.gmch.proofs.Words.{within_from, within_to}
use Rattle.gmch.specs.Mapped.{is_entry}
use Rattle.mapped.proofs.entry_number.Goals as goal

pub overflow_sub-result : goal.overflow_sub-result
overflow_sub-result c = unfold is_entry in within_from _ _ _ c.requires

pub returns : goal.returns
returns c = unfold is_entry in (refl, omega (arith, within_to _ _ _ c.requires))
