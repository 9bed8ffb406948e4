use Rattle.gmch.proofs.Choice.{tests}
use Rattle.rows.specs.Word.{joined}
use Rattle.rows.proofs.joined.Goals as goal

pub returns-then-at-w : goal.returns-then-at-w
returns-then-at-w c = unfold joined in search tests

pub returns : goal.returns
returns c = unfold joined in search tests
