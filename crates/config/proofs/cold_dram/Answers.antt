use Rattle.gmch.proofs.Choice.{tests}
use Rattle.gmch.specs.Machine.{has_cache}
use Rattle.gmch.specs.Replay.{cold_dram}
use Rattle.config.proofs.cold_dram.Goals as goal

pub returns-then-board-eq1 : goal.returns-then-board-eq1
returns-then-board-eq1 c = unfold cold_dram has_cache in search tests

pub returns-else-board-eq1 : goal.returns-else-board-eq1
returns-else-board-eq1 c = unfold cold_dram has_cache in search tests
