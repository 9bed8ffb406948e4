-- The route of any access of this width and address, so that one that is routed as another fails at what it answers.
use Rattle.gmch.proofs.Choice.{flag}
use Rattle.access.proofs.Bounds.{route_inside}
use Rattle.access.proofs.target_of.Goals as goal

pub resolve-requires : goal.resolve-requires
resolve-requires c = route_inside c.args.t.now _ _ _ (flag c.fits_word.ensures c.if-not-fits_word.false) c.route.ensures
