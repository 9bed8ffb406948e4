use Rattle.std.proofs.Common.{◌≢◌, arith}
use Rattle.gmch.proofs.Choice.{tests, choices}
use Rattle.gmch.specs.Choice.{◌and◌}
use Rattle.gmch.specs.Config.{read_byte}
use Rattle.config.proofs.access.read_byte.Goals as goal

-- GMADR is no register of device 0
pub returns-then-x-lt256 : goal.returns-then-x-lt256
unfolding read_byte
returns-then-x-lt256 c = let h : c.args.x ≢ 0x113 = λ e. omega arith in search tests

pub returns-then-x-dev0 : goal.returns-then-x-dev0
returns-then-x-dev0 c = unfold read_byte ◌and◌ in simp (c.if-x-dev0.true, choices) (search tests)

pub returns : goal.returns
returns c = unfold read_byte ◌and◌ in simp (c.if-x-dev0.false, choices) (search tests)
