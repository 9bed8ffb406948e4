use Rattle.std.proofs.Common.{⊎_elim, arith}
use Rattle.gmch.proofs.Choice.{tests}
use Rattle.gmch.specs.Config.{register_value}
use Rattle.config.proofs.register_value.Goals as goal

pub returns-then-x-eq3320 : goal.returns-then-x-eq3320
returns-then-x-eq3320 c = unfold register_value in search tests

pub config_read-requires : goal.config_read-requires
config_read-requires c = (omega arith, ⊎_elim (λ e. absurd (c.if-x-eq3320.false e)) (λ h. omega arith) c.requires.0)

pub returns : goal.returns
returns c = unfold register_value in search (tests, ← c.config_read.ensures)
