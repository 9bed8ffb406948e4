use Rattle.std.proofs.lemmas.Bool.{lt-leb}
use Rattle.gmch.specs.Choice.{◌and◌}
use Rattle.gmch.specs.Table.{of_cache, foreign_reach, entry_reach}
use Rattle.gmch.proofs.Choice.{tests, flag, or_false, or_no_left, or_no_right}
use Rattle.graphics.proofs.place.Goals as goal

pub returns-then-entry-eq0 : goal.returns-then-entry-eq0
returns-then-entry-eq0 c = unfold entry_reach in search tests

pub returns-then-page-ge4194304 : goal.returns-then-page-ge4194304
unfolding entry_reach foreign_reach of_cache ◌and◌
returns-then-page-ge4194304 c = rw (← c.page_of-page.ensures) (search (tests, flag c.foreign.ensures c.if-foreign.true))

pub returns-then-m-entry : goal.returns-then-m-entry
unfolding entry_reach foreign_reach of_cache ◌and◌
returns-then-m-entry c = rw (← c.page_of-page.ensures) (search (tests, flag c.foreign.ensures c.if-foreign.true))

pub returns-then-foreign : goal.returns-then-foreign
unfolding entry_reach foreign_reach of_cache ◌and◌
returns-then-foreign c = rw (← c.page_of-page.ensures) (search (tests, flag c.foreign.ensures c.if-foreign.true))

pub returns-then-m-page : goal.returns-then-m-page
unfolding entry_reach
returns-then-m-page c = rw (← c.page_of-page.ensures) (search (tests, flag c.foreign.ensures c.if-foreign.false))

-- a page below TOM that is closed is protected
pub returns-then-closed_at : goal.returns-then-closed_at
unfolding entry_reach
returns-then-closed_at c =
    let below = lt-leb _ _ c.if-m-page.false in
    let protected = rw (below, or_false) at (flag c.closed_at.ensures c.if-closed_at.true) in
    rw (← c.page_of-page.ensures) (search (tests, flag c.foreign.ensures c.if-foreign.false, protected))

-- one that is not closed is neither
pub returns : goal.returns
unfolding entry_reach
returns c =
    let neither = flag c.closed_at.ensures c.if-closed_at.false in
    rw (← c.page_of-page.ensures) (search (tests, flag c.foreign.ensures c.if-foreign.false, or_no_left _ _ neither, or_no_right _ _ neither))
