-- A configuration write: `stored_0` and `stored_1` give it, by the device that is written.
use Rattle.config.proofs.Stored.{stored_0, stored_1}
use Rattle.access.specs.Decide.{applied}
use Rattle.replay.proofs.carry_out.Goals as goal
use Rattle.replay.proofs.carry_out.Goals.{then-n-lt256, else-n-lt256}

pub returns-after-n-lt256-clause-state : goal.returns-after-n-lt256-clause-state
unfolding applied
returns-after-n-lt256-clause-state c =
    let e = c.in-Configure.is in
    let u = rw e at c.requires.1 in
    rw e
    (elim c.if-n-lt256.branch [
      | then-n-lt256 v ↦ rw v.s-is (stored_0 _ _ _ _ u.1 _ c.bits_of-bits.ensures _ _ _ _ c.effective-data.ensures c.is_touched-wrote2c.ensures c.is_touched-wrote2e.ensures v.if-n-lt256.true v.write.ensures)
      | else-n-lt256 v ↦ rw v.s-is (stored_1 _ _ _ _ u.1 _ c.bits_of-bits.ensures _ _ _ _ c.effective-data.ensures c.is_touched-wrote2c.ensures c.is_touched-wrote2e.ensures v.if-n-lt256.false u.0 v.write-else-n-lt256.ensures)
    ])
