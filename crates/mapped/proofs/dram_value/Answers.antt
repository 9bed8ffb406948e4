-- Each arm says what `o` is, and the definition computes; the last says what it is not.
use Rattle.gmch.proofs.Choice.{tests}
use Rattle.gmch.specs.Choice.{pick}
use Rattle.gmch.specs.Mapped.{dram_value}
use Rattle.mapped.proofs.dram_value.Goals as goal

pub returns-in-12288 : goal.returns-in-12288
returns-in-12288 c = unfold dram_value pick in rw c.in-12288.is

pub returns-in-12289 : goal.returns-in-12289
returns-in-12289 c = unfold dram_value pick in rw c.in-12289.is

pub returns-in_default : goal.returns-in_default
returns-in_default c = unfold dram_value in search tests
