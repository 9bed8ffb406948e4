use Rattle.std.proofs.Common.{add-zero}
use Rattle.gmch.proofs.Choice.{tests}
use Rattle.gmch.specs.Rows.{id_byte}
use Rattle.rows.proofs.id_byte.Goals as goal

pub returns-then-board-eq0 : goal.returns-then-board-eq0
returns-then-board-eq0 c = unfold id_byte in search (tests, add-zero)

pub returns : goal.returns
returns c = unfold id_byte in search tests
