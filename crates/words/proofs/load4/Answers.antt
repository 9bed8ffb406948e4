use Rattle.std.proofs.Common.{add-zero, arith}
use Rattle.gmch.specs.Words.{load_le}
use Rattle.words.proofs.load4.Goals as goal

pub returns : goal.returns
returns c = unfold load_le in rw c.from_le_bytes.ensures (simp add-zero (omega arith))
