use Rattle.gmch.specs.Choice.{◌or◌}
use Rattle.gmch.specs.Mapped.{listed_word, is_entry}
use Rattle.mapped.proofs.listed_word.Goals as goal

pub returns : goal.returns
returns c = unfold listed_word is_entry ◌or◌ in cc
