use Rattle.gmch.specs.Choice.{◌and◌}
use Rattle.gmch.specs.Words.{within}
use Rattle.gmch.proofs.Choice.{choices}
use Rattle.gmch.specs.Config.{port_target}
use Rattle.config.proofs.port_target.Goals as goal

pub returns-then-port-width : goal.returns-then-port-width
returns-then-port-width c = unfold port_target ◌and◌ in simp (c.if-port-width.true, choices)

pub is_ours-requires : goal.is_ours-requires
is_ours-requires c = tt

pub returns-then-port-is_ours : goal.returns-then-port-is_ours
returns-then-port-is_ours c =
    unfold port_target within ◌and◌ in simp (c.if-port-width.false, ← c.is_ours.ensures, c.if-port-is_ours.true, choices)

pub returns : goal.returns
returns c =
    unfold port_target within ◌and◌ in simp (c.if-port-width.false, ← c.is_ours.ensures, c.if-port-is_ours.false, choices)
