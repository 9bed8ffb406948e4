use Rattle.gmch.specs.Choice.{pick, ◌and◌}
use Rattle.gmch.proofs.Choice.{called}
use Rattle.gmch.specs.Mapped.{misfit}
use Rattle.mapped.proofs.misfit.Goals as goal

pub returns-then-listed_word : goal.returns-then-listed_word
returns-then-listed_word c = unfold misfit ◌and◌ in search called

pub returns-then-listed_half : goal.returns-then-listed_half
returns-then-listed_half c = unfold misfit ◌and◌ in search called

pub returns : goal.returns
unfolding misfit pick ◌and◌
returns c =
    let h = c.listed_half.ensures in
    let w = c.listed_word.ensures in
    rw (← w, c.if-listed_word.false, ← h, c.if-listed_half.false, ← c.listed_byte.ensures)
