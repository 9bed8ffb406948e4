use Rattle.std.proofs.Common.{◌%◌, ap, ◌∙◌, not, arith, eq-eqb, ne_eqb}
use Rattle.gmch.specs.Table.{forbidden}
use Rattle.gmch.proofs.Choice.{choices, flag}
use Rattle.gmch.proofs.Settled.{main_type}
use Rattle.graphics.proofs.forbidden.Goals as goal

pub returns-then-word-eq0 : goal.returns-then-word-eq0
unfolding forbidden
returns-then-word-eq0 c = simp (ne_eqb (c.args.word % 2) 1 (λ h. omega arith), choices)

pub returns-then-foreign : goal.returns-then-foreign
unfolding forbidden
returns-then-foreign c = simp (main_type _ ∙ ap not (flag c.foreign.ensures c.if-foreign.true), choices)

pub returns : goal.returns
unfolding forbidden
returns c =
    let main = main_type _ ∙ ap not (flag c.foreign.ensures c.if-foreign.false) in
    rw (c.protected_at.ensures, c.page_of.ensures) (simp (eq-eqb (c.args.word % 2) 1 (omega arith), main, choices))
