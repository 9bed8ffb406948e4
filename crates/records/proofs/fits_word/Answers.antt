use Rattle.gmch.specs.Choice.{◌and◌, ◌or◌}
use Rattle.gmch.specs.Records.{fits_word}
use Rattle.records.proofs.fits_word.Goals as goal

pub returns-then-width : goal.returns-then-width
returns-then-width c = unfold fits_word ◌and◌ ◌or◌ in rw c.if-width.true

pub returns-else-width : goal.returns-else-width
returns-else-width c = unfold fits_word ◌and◌ ◌or◌ in rw c.if-width.false
