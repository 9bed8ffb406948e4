use Rattle.std.proofs.Common.{◌≡◌, ◌∙◌, arith}
use Rattle.gmch.specs.Access.{target_of}
use Rattle.gmch.specs.Replay.{cold_table}
use Rattle.gmch.proofs.Choice.{flag}
use Rattle.access.specs.Decide.{changed, applied}
use Rattle.replay.proofs.Laws.{malformed, a_run, a_reset, an_access, run_done, reset_done}
use Rattle.access.proofs.Bounds.{target_reachable}
use Rattle.replay.proofs.decide.Goals as goal

pub returns-then-not-well_formed-clause-outcome : goal.returns-then-not-well_formed-clause-outcome
unfolding applied
returns-then-not-well_formed-clause-outcome c =
    rw c.done.ensures (λ p q. malformed _ _ _ (flag c.well_formed-2.ensures c.if-not-well_formed.true))

pub returns-in-8-clause-outcome : goal.returns-in-8-clause-outcome
unfolding applied
returns-in-8-clause-outcome c =
    let e = flag c.well_formed-2.ensures c.if-not-well_formed.false in
    let f = rw c.requires.0 at c.run-q.ensures.0 in
    rw c.run_reply.ensures (λ p q. run_done _ _ c.args.table.now _ _ _ _ f ∙ a_run _ _ _ e c.in-8.is)

pub returns-in-9-clause-outcome : goal.returns-in-9-clause-outcome
unfolding applied changed cold_table
returns-in-9-clause-outcome c =
    let e = flag c.well_formed-2.ensures c.if-not-well_formed.false in
    let zeroed : c.fill.new.self ≡ cold_table = rw c.requires.1.3 at (c.fill.ensures.after (λ _ same. same)) in
    rw (c.reset_reply.ensures, zeroed) (λ p q. reset_done _ _ c.args.table.now _ _ ∙ a_reset _ _ _ e c.in-9.is)

pub act-requires : goal.act-requires
act-requires c =
    let z = c.requires in
    rw (z.1.4, c.target_of-t.ensures) (target_reachable _ _ _ _ _ _ _ _ c.args.display.now z.1.0 z.1.2 z.2)

pub returns-in_default-clause-outcome : goal.returns-in_default-clause-outcome
unfolding target_of
returns-in_default-clause-outcome c =
    let e = flag c.well_formed-2.ensures c.if-not-well_formed.false in
    λ p q. c.act.ensures.outcome p q ∙ rw (c.target_of-t.ensures, c.access_of-a.ensures, c.requires.0) (an_access _ _ _ e (λ k. omega arith) (λ k. omega arith))
