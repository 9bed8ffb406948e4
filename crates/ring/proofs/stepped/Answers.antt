use Rattle.std.proofs.Common.{ne_eqb, arith}
use Rattle.gmch.specs.Ring.{stepped}
use Rattle.gmch.proofs.Choice.{tests}
use Rattle.ring.proofs.stepped.Goals as goal

pub returns-in-Some : goal.returns-in-Some
unfolding stepped
returns-in-Some c =
    let known = c.in-Some.ensures in
    let some = ne_eqb c.in-Some.n 0 (λ z. omega arith) in
    rw (c.in-Ok.is, ← c.executed.ensures, ← known.0) (search (tests, some))

pub returns-in-None : goal.returns-in-None
returns-in-None c = unfold stepped in rw c.in-Ok.is (search (tests, c.in-None.ensures))

pub returns-in-Err : goal.returns-in-Err
returns-in-Err c = unfold stepped in rw c.in-Err.is
