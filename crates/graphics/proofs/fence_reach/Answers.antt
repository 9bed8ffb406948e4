-- The fence matches, so the offset is at or past its start; it is well-formed, so its pitch has a meaning.
use Rattle.std.proofs.Common.{◌≡◌, ℕ, Bool, false, sym, ap, ◌∙◌, arith, Ok}
use Rattle.gmch.specs.Fence.{ill_formed, fence_reach, pitch_code}
use Rattle.gmch.proofs.Choice.{called, pick_false, flag}
use Rattle.gmch.proofs.Fence.{WellFormed, well_formed_lem, matches_from}
use Rattle.graphics.proofs.Fields.{tile_from}
use Rattle.graphics.proofs.fence_reach.Goals as goal

-- by the test that it passed
formed : (f : ℕ) {r : Bool} → r ≡ ill_formed f → r ≡ false → WellFormed f
formed f e h = well_formed_lem f (flag e h)

pub returns-then-ill_formed : goal.returns-then-ill_formed
returns-then-ill_formed c = unfold fence_reach in search called

pub tile-requires : goal.tile-requires
tile-requires c = (rw c.pitch_code.ensures (formed _ c.ill_formed.ensures c.if-ill_formed.false).pitch, omega arith)

pub returns : goal.returns
unfolding fence_reach
returns c =
    let s = c.args in
    let t = tile_from s.f (pitch_code s.f) s.o (formed _ c.ill_formed.ensures c.if-ill_formed.false).pitch (matches_from _ _ c.requires.0) in
    ap Ok (rw (c.tile.ensures, c.pitch_code.ensures) (sym t)) ∙ sym (pick_false _ _ (search called))
