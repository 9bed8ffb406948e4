use Rattle.records.proofs.Bytes.{answer_sets}
use Rattle.records.proofs.put_answer.Goals as goal

pub returns : goal.returns
returns c = rw (c.store4-3.ensures, c.store4-2.ensures, c.store4.ensures) (answer_sets _ _ _ _)
