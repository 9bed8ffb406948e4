use Rattle.gmch.specs.Ring.{executed}
use Rattle.ring.proofs.Opcode.{interrupted_bit}
use Rattle.ring.proofs.executed.Goals as goal

pub returns : goal.returns
unfolding executed
returns c =
    let s = c.requires in
    rw (← s.0, ← c.advanced.ensures, ← interrupted_bit _ _ (rw s.0 at s.1))
