use Rattle.std.proofs.Common.{refl}
use Rattle.gmch.specs.Map.{pair_of}
use Rattle.map.proofs.pair_of.Goals as goal

pub returns : goal.returns
returns c = unfold pair_of in refl
