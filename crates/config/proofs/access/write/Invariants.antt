-- What is left to write gives the whole.
use Rattle.std.proofs.Common.{◌≡◌, ◌+◌, ◌-◌, ◌%◌}
use Rattle.config.specs.Word.{written_in}
use Rattle.config.proofs.access.write.Given as goal

abbrev pub invariant-loop-i : goal.invariant-loop-i
invariant-loop-i l =
    written_in l.b (l.x + l.i) (l.x % 256 + l.i) (l.n - l.i) l.rest l.dev ≡ written_in l.b l.x (l.x % 256) l.n l.v l.initial.dev
