use Rattle.gmch.specs.Replay.{cold_regs, cold_start}
use Rattle.config.proofs.cold_start.Goals as goal

pub returns : goal.returns
returns c = unfold cold_start cold_regs in cc
