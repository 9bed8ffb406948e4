use Rattle.gmch.specs.Map.{map_from}
use Rattle.map.proofs.map_from.Goals as goal

pub returns : goal.returns
returns c = unfold map_from in cc
