-- The width is known at each return, and `load_le` computes there to the sum of the bytes.
use Rattle.std.proofs.Common.{◌≡◌, add-zero, arith}
use Rattle.gmch.specs.Words.{load_le}
use Rattle.words.proofs.load.Goals as goal

pub returns-in-2 : goal.returns-in-2
returns-in-2 c = unfold load_le in rw c.in-2.is (simp (c.from.ensures, c.from_le_bytes.ensures, add-zero) (omega arith))

pub returns-in_default : goal.returns-in_default
unfolding load_le
returns-in_default c =
    let w : c.args.width ≡ 1 = omega arith in
    rw w (simp (c.from-in_default.ensures, add-zero) (omega arith))
