use Rattle.std.proofs.Common.{arith}
use Rattle.gmch.specs.Table.{entered}
use Rattle.graphics.proofs.entered.Goals as goal

pub returns-in-Ok : goal.returns-in-Ok
unfolding entered
returns-in-Ok c = grind arith

pub returns-in-Err : goal.returns-in-Err
unfolding entered
returns-in-Err c = grind arith
