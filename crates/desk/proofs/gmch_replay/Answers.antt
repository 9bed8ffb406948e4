use Rattle.std.proofs.Common.{refl, arith}
use Rattle.gmch.specs.Replay.{cold_table}
use Rattle.gmch.proofs.Choice.{flag}
use Rattle.desk.proofs.Laws.{good, refused, replayed}
use Rattle.desk.proofs.gmch_replay.Goals as goal

pub returns-then-not-good_call : goal.returns-then-not-good_call
returns-then-not-good_call c = refused _ _ _ _ _ (flag c.good_call.ensures c.if-not-good_call.true)

pub overflow_cast-b : goal.overflow_cast-b
overflow_cast-b c =
    let g = good _ _ _ _ (flag c.good_call.ensures c.if-not-good_call.false) in
    let t = g.tom in
    omega arith

pub replay-requires : goal.replay-requires
replay-requires c =
    let g = good _ _ _ _ (flag c.good_call.ensures c.if-not-good_call.false) in
    (g.tom, refl, g.whole, g.same, g.lends)

pub returns : goal.returns
unfolding cold_table
returns c =
    replayed _ _ _ _ _ (flag c.good_call.ensures c.if-not-good_call.false) _ _ _ _ _ _ _ c.cold_start-start.ensures refl c.replay.ensures
