use Rattle.std.proofs.Common.{ne_eqb, arith}
use Rattle.gmch.specs.Choice.{◌or◌}
use Rattle.gmch.specs.Ring.{step}
use Rattle.gmch.proofs.Choice.{tests}
use Rattle.gmch.proofs.Ring.{step_fetched}
use Rattle.ring.proofs.begin.Goals as goal

pub returns-then-r-eq0 : goal.returns-then-r-eq0
returns-then-r-eq0 c = ((λ fetch. unfold step in search tests), tt)

pub returns-then-length-head : goal.returns-then-length-head
returns-then-length-head c =
    ((λ fetch. unfold step ◌or◌ in search (tests, ← c.tail_offset-tail.ensures, ← c.head_offset-head.ensures, ← c.ring_length-length.ensures)), tt)

pub returns-then-head-tail : goal.returns-then-head-tail
returns-then-head-tail c =
    ((λ fetch. unfold step ◌or◌ in search (tests, ← c.tail_offset-tail.ensures, ← c.head_offset-head.ensures, ← c.ring_length-length.ensures)), tt)

pub returns : goal.returns
unfolding ◌or◌
returns c =
    let h = c.head_offset-head.ensures in
    let l = c.ring_length-length.ensures in
    let t = c.tail_offset-tail.ensures in
    let s = c.ring_start.ensures in (
      (λ fetch. rw (s, h)
          (step_fetched fetch _ (ne_eqb _ _ c.if-r-eq0.false)
          (rw (← l, ← h, ← t) c.if-length-head.false)
          (rw (← h, ← t) (ne_eqb _ _ c.if-head-tail.false)))),
      omega (arith, h, s),
    )
