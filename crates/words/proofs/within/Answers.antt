-- The two laws of `within`, one for each branch.
use Rattle.gmch.proofs.Words.{within_less, within_below}
use Rattle.std.proofs.Common.{sym}
use Rattle.words.proofs.within.Goals as goal

pub returns-then-a-base : goal.returns-then-a-base
returns-then-a-base c = sym (within_below _ _ _ c.if-a-base.true)

pub returns : goal.returns
returns c = within_less _ _ _ c.if-a-base.false
