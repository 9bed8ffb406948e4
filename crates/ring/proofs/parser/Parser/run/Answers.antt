use Rattle.ring.proofs.Parts.{counted}
use Rattle.ring.proofs.parser.Parser.run.Goals as goal

pub returns-then-map-lt2 : goal.returns-then-map-lt2
returns-then-map-lt2 c = counted _ _ _ _ c.steps.ensures

pub returns-else-map-lt2 : goal.returns-else-map-lt2
returns-else-map-lt2 c = counted _ _ _ _ c.steps-else-map-lt2.ensures

pub returns-then-map-lt2-2 : goal.returns-then-map-lt2-2
returns-then-map-lt2-2 c = counted _ _ _ _ c.steps-then-map-lt2-2.ensures

pub returns-else-map-lt2-2 : goal.returns-else-map-lt2-2
returns-else-map-lt2-2 c = counted _ _ _ _ c.steps-else-map-lt2-2.ensures
