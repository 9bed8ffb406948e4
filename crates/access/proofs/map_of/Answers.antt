-- Each number of the map is read off its byte.
use Rattle.access.proofs.map_of.Goals as goal

pub returns : goal.returns
returns c = c.map_from.ensures
