use Rattle.std.proofs.Common.{◌≡◌, suc, ◌-◌, sym, ◌∙◌, add-zero, rules, arith}
use Rattle.std.proofs.Math.Nat.{sub-zero, sub_self}
use Rattle.gmch.specs.Config.{config_read}
use Rattle.config.proofs.Bytes.{read_step, grows, word_fits}
use Rattle.config.proofs.access.config_read.Goals as goal

pub loop-i-init : goal.loop-i-init
loop-i-init c = (unfold config_read in rw sub_self, rw sub_self (omega arith))

pub overflow_mul-v : goal.overflow_mul-v
overflow_mul-v c =
    let l = c.loop-i in
    omega (arith, word_fits (c.args.n - l.i) l.v c.read_byte.result (omega arith) l.invariant.1 (search rules))

-- one byte more fits a word
pub overflow_add-v : goal.overflow_add-v
overflow_add-v c =
    let l = c.loop-i in
    omega (arith, c.from.ensures, word_fits (c.args.n - l.i) l.v c.read_byte.result (omega arith) l.invariant.1 (search rules))

pub loop-i-preserved : goal.loop-i-preserved
loop-i-preserved c =
    let l = c.loop-i in
    let a = c.args in
    let e : a.n - (l.i - 1) ≡ suc (a.n - l.i) = omega arith in (
      rw (c.from.ensures, c.read_byte.ensures, l.invariant.0) (sym (read_step a.dev0.now a.dev1.now a.x l.i a.n (omega arith) (omega arith))),
      rw (c.from.ensures, e) (grows (a.n - l.i) l.v c.read_byte.result l.invariant.1 (search rules)),
    )

pub returns : goal.returns
returns c =
    let e : c.loop-i.i ≡ 0 = omega arith in
    c.loop-i.invariant.0 ∙ rw (e, add-zero, sub-zero)
