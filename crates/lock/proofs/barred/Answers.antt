use Rattle.std.proofs.Common.{ne_eqb, eq-eqb, ◌/◌, ◌%◌, arith}
use Rattle.gmch.specs.Access.{barred}
use Rattle.gmch.proofs.Choice.{choices}
use Rattle.lock.proofs.barred.Goals as goal

pub returns-then-m-eq0 : goal.returns-then-m-eq0
unfolding barred
returns-then-m-eq0 c =
    let e = c.if-m-eq0.true in
    let smram = c.args.m.smram in
    simp (ne_eqb (smram / 2 % 2) 1 (λ h. omega arith), choices)

pub returns : goal.returns
unfolding barred
returns c =
    let e = c.if-m-eq0.false in
    let smram = c.args.m.smram in
    rw (c.forbidden.ensures, c.stored.ensures) (simp (eq-eqb (smram / 2 % 2) 1 (omega arith), choices))
