use Rattle.gmch.proofs.Choice.{tests}
use Rattle.rows.specs.Word.{fixed_bits}
use Rattle.rows.proofs.fixed_bits.Goals as goal

pub returns-then-w-ne75 : goal.returns-then-w-ne75
returns-then-w-ne75 c = unfold fixed_bits in search tests

pub returns-then-wrote2e : goal.returns-then-wrote2e
returns-then-wrote2e c = unfold fixed_bits in search tests

pub returns-then-wrote2c : goal.returns-then-wrote2c
returns-then-wrote2c c = unfold fixed_bits in search tests

pub returns-then-wrote2e-2 : goal.returns-then-wrote2e-2
returns-then-wrote2e-2 c = unfold fixed_bits in search tests

pub returns : goal.returns
returns c = unfold fixed_bits in search tests
