-- The invariant: what is left of the run, after the steps counted so far, is the whole run.
use Rattle.std.proofs.Common.{◌≡◌, ◌-◌}
use Rattle.gmch.specs.Ring.{run}
use Rattle.ring.specs.Fetch.{fetched, memories}
use Rattle.ring.proofs.parser.Parser.steps.Given as goal

abbrev pub invariant-loop-left : goal.invariant-loop-left
invariant-loop-left g l =
    let p = l.fn.self in
    run (fetched p) (l.budget - (l.budget - l.left)) (l.budget - l.left) l.regs (memories p)
    ≡ run (fetched p) l.budget 0 l.fn.r (memories p)
