-- The sum is the definition's, and has 32 bits where it is below TOM.
use Rattle.std.proofs.Common.{◌≡◌, ℕ, ◌+◌, ◌*◌, ◌/◌, ◌^◌, ◌<◌, ◌≤◌, true, false, leb, le-leb, ap, Ok, arith}
use Rattle.std.proofs.lemmas.Bool.{lt-leb}
use Rattle.gmch.specs.Table.{word_place, word_reach}
use Rattle.gmch.proofs.Choice.{choices, flag, or_false, or_no_left}
use Rattle.graphics.proofs.main_word.Goals as goal

module _ (tom control i : ℕ) (fits : control < 2 ^ 32) where
  -- the sum does not wrap
  place : control / 4096 * 4096 + 4 * i ≡ word_place control i
  place = omega arith

  past : tom ≤ control / 4096 * 4096 + 4 * i → leb tom (word_place control i) ≡ true
  past h = le-leb tom (word_place control i) (omega arith)

  below : control / 4096 * 4096 + 4 * i < tom → leb tom (word_place control i) ≡ false
  below h = lt-leb tom (word_place control i) (omega arith)

pub returns-then-saturating_sub-i : goal.returns-then-saturating_sub-i
unfolding word_reach
returns-then-saturating_sub-i c = simp (past c.args.m.tom c.args.control c.args.i c.ranges.control.fits (omega arith), choices)

-- what is closed below TOM is protected
pub returns-then-closed_at : goal.returns-then-closed_at
unfolding word_reach
returns-then-closed_at c =
    let a = c.args in
    let under = below a.m.tom a.control a.i c.ranges.control.fits (omega arith) in
    let closed = rw (place a.m.tom a.control a.i c.ranges.control.fits) at (flag c.closed_at.ensures c.if-closed_at.true) in
    simp (under, rw (under, or_false) at closed, choices)

pub returns : goal.returns
unfolding word_reach
returns c =
    let a = c.args in
    let sum = place a.m.tom a.control a.i c.ranges.control.fits in
    let open' = rw sum at (flag c.closed_at.ensures c.if-closed_at.false) in
    simp (below a.m.tom a.control a.i c.ranges.control.fits (omega arith), or_no_left _ _ open', choices) (ap Ok sum)
