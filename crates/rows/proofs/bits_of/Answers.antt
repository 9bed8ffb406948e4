use Rattle.rows.specs.Word.{bits_of}
use Rattle.rows.proofs.bits_of.Goals as goal

pub returns : goal.returns
returns c = unfold bits_of in cc
