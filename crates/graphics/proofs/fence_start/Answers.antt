use Rattle.std.proofs.lemmas.Nat.Bits.{and_high}
use Rattle.graphics.proofs.fence_start.Goals as goal

pub returns : goal.returns
returns c = and_high c.args.f 7 19
