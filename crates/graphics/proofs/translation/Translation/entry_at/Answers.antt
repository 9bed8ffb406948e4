use Rattle.std.proofs.Common.{sym, ◌∙◌}
use Rattle.gmch.specs.Table.{entry_at}
use Rattle.gmch.proofs.Choice.{tests, pick_false}
use Rattle.graphics.proofs.translation.Translation.entry_at.Goals as goal

pub returns-then-self-eq0 : goal.returns-then-self-eq0
returns-then-self-eq0 c = unfold entry_at in search tests

pub returns : goal.returns
unfolding entry_at
returns c = c.lookup.ensures ∙ sym (pick_false _ _ (search tests))
