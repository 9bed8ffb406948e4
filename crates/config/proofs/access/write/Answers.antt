use Rattle.std.proofs.Common.{◌≡◌, ◌-◌, ◌%◌, ◌∙◌, add-zero, arith}
use Rattle.std.proofs.Math.Nat.{sub-zero}
use Rattle.config.specs.Word.{written_in}
use Rattle.config.proofs.Bytes.{write_step}
use Rattle.config.proofs.access.write.Goals as goal

pub loop-i-init : goal.loop-i-init
loop-i-init c = simp (add-zero, sub-zero)

pub loop-i-preserved : goal.loop-i-preserved
loop-i-preserved c =
    let l = c.loop-i in
    let a = c.args in
    rw c.new_byte.ensures (write_step a.b a.x (a.x % 256) l.i a.n l.rest l.dev (omega arith) ∙ l.invariant)

pub returns : goal.returns
unfolding written_in
returns c =
    let e : c.args.n - c.loop-i.i ≡ 0 = omega arith in
    rw e at c.loop-i.invariant
