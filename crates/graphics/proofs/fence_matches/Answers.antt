use Rattle.std.proofs.Common.{sym, ◌∙◌}
use Rattle.std.proofs.lemmas.Nat.{and_mask}
use Rattle.gmch.specs.Fence.{fence_matches}
use Rattle.gmch.proofs.Choice.{tests, and_on}
use Rattle.graphics.proofs.fence_matches.Goals as goal

pub returns-then-f-ne1 : goal.returns-then-f-ne1
returns-then-f-ne1 c = unfold fence_matches in search (tests, ← and_mask c.args.f 1)

pub returns : goal.returns
returns c = unfold fence_matches in (cc) ∙ sym (and_on _ (search (tests, ← and_mask c.args.f 1)))
