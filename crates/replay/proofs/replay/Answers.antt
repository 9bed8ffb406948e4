-- What is left of the replay gives the whole: one law takes a turn of the loop, one ends it.
use Rattle.std.proofs.Common.{rules, ◌∙◌, arith}
use Rattle.access.proofs.Bounds.{ready}
use Rattle.replay.proofs.Loop.{turn, finished}
use Rattle.replay.proofs.replay.Goals as goal

pub decide-d-requires : goal.decide-d-requires
decide-d-requires c =
    let l = c.loop-at in
    let q = c.requires in
    ready _ l.s l.table l.memory l.display _ l.invariant.map q.0 l.invariant.table (l.auto.memory ∙ q.1) (l.auto.display ∙ q.4)

pub loop-at-preserved : goal.loop-at-preserved
loop-at-preserved c =
    let h = c.loop-at.invariant in
    record {
      whole = omega arith;
      table = search rules;
      map = c.carry_out.ensures.map;
      rest = turn _ _ _ _ _ _ _ _ _ _ _ _ _ _ _ _ h.whole c.requires.2 (omega arith) c.record_at-r.ensures (c.decide-d.ensures.outcome _ _) c.carry_out.ensures.state c.line.ensures c.put_answer.ensures ∙ h.rest;
    }

pub returns-2 : goal.returns-2
returns-2 c =
    let h = c.loop-at.invariant in
    let q = c.requires in
    finished _ _ _ _ _ _ _ q.2 q.3 (omega arith)
    (turn _ _ _ _ _ _ _ _ _ _ _ _ _ _ _ _ h.whole q.2 (omega arith) c.record_at-r.ensures (c.decide-d.ensures.outcome _ _) c.carry_out.ensures.state c.line.ensures c.put_answer.ensures ∙ h.rest)

pub returns : goal.returns
returns c =
    let q = c.requires in
    finished _ _ _ _ _ _ _ q.2 q.3 (omega arith) c.loop-at.invariant.rest
