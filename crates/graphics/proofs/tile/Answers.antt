use Rattle.graphics.proofs.Fields.{tile_masks}
use Rattle.graphics.proofs.tile.Goals as goal

pub returns : goal.returns
returns c = rw c.pitch-p.ensures (tile_masks _ _ c.requires.0)
