use Rattle.std.proofs.Common.{◌≡◌, refl, Bool, true, false, eqb}
use Rattle.std.specs.Prelude.{not}
use Rattle.std.specs.Int.{from_bool}
use Rattle.std.specs.Int.Bits.{bit_and}
use Rattle.gmch.specs.Choice.{pick}
use Rattle.gmch.specs.Mapped.{line_of}
use Rattle.mapped.proofs.line.Goals as goal

from_not : (b : Bool) → from_bool (not b) ≡ pick b 0 1
unfolding pick
from_not true = refl
from_not false = refl

pub returns : goal.returns
returns c = unfold line_of in rw c.from.ensures (from_not (eqb (bit_and c.args.r.identity c.args.r.enable) 0))
