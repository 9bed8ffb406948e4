-- Each return hands the facts of its branches to the law of its rule.
use Rattle.std.proofs.Common.{arith, ◌∙◌, ap}
use Rattle.gmch.specs.declared.Route.TheVariants.{To}
use Rattle.gmch.proofs.Choice.{flag}
use Rattle.gmch.proofs.Rules.{hseg_from, hit_from, rule_1, rule_2, rule_3, rule_4, rule_5, rule_6, rule_7, rule_8, rule_9}
use Rattle.map.proofs.route.Goals as goal

pub returns-then-p-lt655360 : goal.returns-then-p-lt655360
returns-then-p-lt655360 c = rule_1 _ _ _ (omega arith)

pub returns-then-p-lt786432 : goal.returns-then-p-lt786432
returns-then-p-lt786432 c = ap To c.low_target.ensures ∙ rule_2 _ _ _ (omega arith) (omega arith)

pub returns-then-p-lt1048576 : goal.returns-then-p-lt1048576
returns-then-p-lt1048576 c = ap To c.shadow_target.ensures ∙ rule_3 _ _ _ (omega arith) (omega arith)

pub returns-then-p-u : goal.returns-then-p-u
returns-then-p-u c = ap To c.main_target.ensures ∙ rule_4 _ _ _ (omega arith) (omega arith)

pub returns-then-p-m : goal.returns-then-p-m
returns-then-p-m c = (cc) ∙ rule_5 _ _ _ (omega arith) (omega arith) (omega arith)

pub hseg_target-requires : goal.hseg_target-requires
hseg_target-requires c = search hseg_from

pub returns-then-hseg_hit : goal.returns-then-hseg_hit
returns-then-hseg_hit c =
    ap To c.hseg_target.ensures ∙ rule_6 _ _ _ (omega arith) (omega arith) (flag c.hseg_hit.ensures c.if-hseg_hit.true)

pub overflow_sub-result : goal.overflow_sub-result
overflow_sub-result c = hit_from _ _ c.graphics_hit.ensures c.if-graphics_hit.true

pub returns-then-graphics_hit : goal.returns-then-graphics_hit
returns-then-graphics_hit c =
    rule_7 _ _ _ (omega arith) (omega arith)
    (flag c.hseg_hit.ensures c.if-hseg_hit.false)
    (flag c.graphics_hit.ensures c.if-graphics_hit.true)

pub overflow_sub-result-then-graphics_hit-2 : goal.overflow_sub-result-then-graphics_hit-2
overflow_sub-result-then-graphics_hit-2 c = hit_from _ _ c.graphics_hit-2.ensures c.if-graphics_hit-2.true

pub returns-then-graphics_hit-2 : goal.returns-then-graphics_hit-2
returns-then-graphics_hit-2 c =
    rule_8 _ _ _ (omega arith) (omega arith)
    (flag c.hseg_hit.ensures c.if-hseg_hit.false)
    (flag c.graphics_hit.ensures c.if-graphics_hit.false)
    (flag c.graphics_hit-2.ensures c.if-graphics_hit-2.true)

pub returns : goal.returns
returns c =
    rule_9 _ _ _ (omega arith) (omega arith)
    (flag c.hseg_hit.ensures c.if-hseg_hit.false)
    (flag c.graphics_hit.ensures c.if-graphics_hit.false)
    (flag c.graphics_hit-2.ensures c.if-graphics_hit-2.false)
