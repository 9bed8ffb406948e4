use Rattle.std.proofs.Common.{◌≡◌, ◌-◌, ◌/◌, ◌%◌, bit_and, arith}
use Rattle.std.proofs.lemmas.Nat.{and_mask}
use Rattle.gmch.specs.Fence.{ill_formed, fence_start, fence_size}
use Rattle.gmch.proofs.Choice.{tests}
use Rattle.gmch.proofs.Fence.{size_some}
use Rattle.graphics.proofs.Fields.{below_size}
use Rattle.graphics.proofs.ill_formed.Goals as goal

pub returns-then-code-eq7 : goal.returns-then-code-eq7
returns-then-code-eq7 c = unfold ill_formed in search (tests, ← c.size_code-code.ensures)

pub returns-then-pitch_code-ge6 : goal.returns-then-pitch_code-ge6
returns-then-pitch_code-ge6 c = unfold ill_formed in search (tests, ← c.pitch_code.ensures, ← c.size_code-code.ensures)

pub returns-then-f-eq1 : goal.returns-then-f-eq1
returns-then-f-eq1 c =
    unfold ill_formed in search (tests, ← and_mask (c.args.f / 4096) 1, ← c.pitch_code.ensures, ← c.size_code-code.ensures)

pub overflow_sub-result : goal.overflow_sub-result
overflow_sub-result c = omega (arith, size_some c.size_code-code.result)

-- the bits of the start below the size
pub returns : goal.returns
unfolding ill_formed
returns c =
    let f = c.args.f in
    let rest : bit_and c.fence_start.result (c.fence_size.result - 1) ≡ fence_start f % fence_size c.size_code-code.result =
    rw (c.fence_size.ensures, c.fence_start.ensures) (below_size _ _ (omega arith)) in
    search (tests, rest, ← and_mask (f / 4096) 1, ← c.pitch_code.ensures, ← c.size_code-code.ensures)
