use Rattle.std.proofs.Common.{arith}
use Rattle.words.proofs.Stores.{copied}
use Rattle.words.proofs.store4.Goals as goal

pub returns : goal.returns
returns c =
    let a = c.args in
    copied 4 a.at _ a.value a.s.now _ (rw c.to_le_bytes.ensures at c.copy_from_slice.ensures.after) (omega arith) (omega arith) c.requires
