use Rattle.std.proofs.Common.{refl}
use Rattle.gmch.specs.Map.{hole_on}
use Rattle.map.proofs.hole_on.Goals as goal

pub returns : goal.returns
returns c = unfold hole_on in refl
