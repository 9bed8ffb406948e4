-- The bytes from i on have been read; what they make fits.
use Rattle.std.proofs.Common.{◌≡◌, ◌+◌, ◌-◌, ◌^◌, ◌<◌}
use Rattle.gmch.specs.Config.{config_read}
use Rattle.config.proofs.access.config_read.Given as goal

abbrev pub invariant-loop-i : goal.invariant-loop-i
invariant-loop-i l = (l.v ≡ config_read l.dev0 l.dev1 (l.x + l.i) (l.n - l.i)) × (l.v < 256 ^ (l.n - l.i))
