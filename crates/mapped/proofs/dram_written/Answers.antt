-- Each arm says what `o` is, and the definition computes; the last says what it is not.
use Rattle.gmch.proofs.Choice.{tests}
use Rattle.gmch.specs.Choice.{pick}
use Rattle.gmch.specs.Mapped.{dram_written}
use Rattle.mapped.proofs.dram_written.Goals as goal

pub returns-in-12288 : goal.returns-in-12288
returns-in-12288 c = unfold dram_written pick in rw c.in-12288.is

pub returns-in-12289 : goal.returns-in-12289
returns-in-12289 c = unfold dram_written pick in rw c.in-12289.is

pub returns-in-12290 : goal.returns-in-12290
returns-in-12290 c = unfold dram_written pick in rw c.in-12290.is

pub returns-in_default : goal.returns-in_default
returns-in_default c = unfold dram_written in search tests
