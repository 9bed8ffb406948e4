-- The width is known at each return, and `store_le` computes there to the stores.
use Rattle.std.proofs.Common.{◌≡◌, add-zero, div-one, arith}
use Rattle.gmch.specs.Words.{store_le}
use Rattle.words.proofs.Stores.{copied}
use Rattle.words.proofs.store.Goals as goal

pub returns-in-2 : goal.returns-in-2
returns-in-2 c =
    let a = c.args in
    let e = c.to_le_bytes-bytes.ensures in
    rw c.in-2.is (copied 2 a.at _ a.value a.s.now _ (rw e at c.copy_from_slice.ensures.after) (omega arith) (omega arith) (omega arith))

pub returns-in_default : goal.returns-in_default
unfolding store_le
returns-in_default c =
    let w : c.args.width ≡ 1 = omega arith in
    rw (w, c.to_le_bytes-bytes.ensures) (simp (add-zero, div-one))
