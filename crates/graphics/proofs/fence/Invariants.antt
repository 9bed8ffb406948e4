-- The fences from i on give what all of them give.
use Rattle.std.proofs.Common.{◌≡◌, drop}
use Rattle.gmch.specs.Fence.{fenced}
use Rattle.graphics.proofs.fence.Given as goal

abbrev pub invariant-loop-f : goal.invariant-loop-f
invariant-loop-f l = fenced (drop l.f-index l.f-items) l.o ≡ fenced l.f-items l.o
