use Rattle.std.proofs.Common.{arith, shl_exact}
use Rattle.gmch.specs.Fence.{fence_size}
use Rattle.gmch.proofs.Choice.{tests}
use Rattle.graphics.proofs.fence_size.Goals as goal

pub returns-then-code-eq7 : goal.returns-then-code-eq7
returns-then-code-eq7 c = unfold fence_size in search tests

pub returns : goal.returns
returns c = unfold fence_size in search (tests, shl_exact {a = 0x80000} 20 c.args.code 32 (omega arith) (omega arith))
