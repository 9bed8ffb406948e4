use Rattle.std.proofs.Common.{add-zero}
use Rattle.gmch.proofs.Choice.{tests}
use Rattle.gmch.specs.Smram.{smram_written}
use Rattle.config.proofs.access.smram_written.Goals as goal

pub returns-then-v-eq1 : goal.returns-then-v-eq1
returns-then-v-eq1 c = unfold smram_written in search (tests, add-zero)

pub returns-then-old-eq1 : goal.returns-then-old-eq1
returns-then-old-eq1 c = unfold smram_written in search tests

pub returns-then-v-eq1-2 : goal.returns-then-v-eq1-2
returns-then-v-eq1-2 c = unfold smram_written in search (tests, add-zero)

pub returns : goal.returns
returns c = unfold smram_written in search tests
