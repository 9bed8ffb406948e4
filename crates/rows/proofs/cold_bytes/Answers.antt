use Rattle.gmch.specs.Rows.{cold_bytes}
use Rattle.rows.proofs.cold_bytes.Goals as goal

pub returns : goal.returns
returns c = unfold cold_bytes in cc
