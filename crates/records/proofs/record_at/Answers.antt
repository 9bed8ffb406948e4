use Rattle.std.proofs.Common.{◌∙◌, sym}
use Rattle.records.proofs.Bytes.{record_part}
use Rattle.records.proofs.record_at.Goals as goal

pub returns : goal.returns
returns c = let a = c.args in (cc) ∙ sym (record_part a.records.now a.at)
