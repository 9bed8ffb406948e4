-- Each arm says what `o` is, and the definition computes; the last says what it is not.
use Rattle.gmch.proofs.Choice.{tests}
use Rattle.gmch.specs.Choice.{pick}
use Rattle.gmch.specs.Mapped.{regs_written}
use Rattle.mapped.proofs.regs_written.Goals as goal

pub returns-in-8224 : goal.returns-in-8224
returns-in-8224 c = unfold regs_written pick in rw c.in-8224.is

pub returns-in-8240 : goal.returns-in-8240
returns-in-8240 c = unfold regs_written pick in rw c.in-8240.is

pub returns-in-8244 : goal.returns-in-8244
returns-in-8244 c = unfold regs_written pick in rw c.in-8244.is

pub returns-in-8248 : goal.returns-in-8248
returns-in-8248 c = unfold regs_written pick in rw c.in-8248.is

pub returns-in-8252 : goal.returns-in-8252
returns-in-8252 c = unfold regs_written pick in rw c.in-8252.is

pub returns-in-8352 : goal.returns-in-8352
returns-in-8352 c = unfold regs_written pick in rw c.in-8352.is

pub returns-in-8356 : goal.returns-in-8356
returns-in-8356 c = unfold regs_written pick in rw c.in-8356.is

pub returns-in-8360 : goal.returns-in-8360
returns-in-8360 c = unfold regs_written pick in rw c.in-8360.is

pub returns-in_default : goal.returns-in_default
returns-in_default c = unfold regs_written in search tests
