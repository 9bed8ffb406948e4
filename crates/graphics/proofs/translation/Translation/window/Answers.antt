-- What the fences leave is an offset of the window again, so it has an entry.
use Rattle.std.proofs.Common.{◌≡◌, arith, Ok}
use Rattle.std.proofs.lemmas.Result.{err_from_is_err_and}
use Rattle.gmch.specs.Fence.{fenced}
use Rattle.gmch.specs.Table.{translated}
use Rattle.gmch.proofs.Fence.{fenced_at}
use Rattle.graphics.proofs.translation.Translation.window.Goals as goal

pub returns-in_err-v : goal.returns-in_err-v
unfolding translated
returns-in_err-v c =
    let p = err_from_is_err_and c.from_residual.result c.from_residual.ensures.1 in
    rw (p.1, p.2) (grind arith)

pub entry_at-requires : goal.entry_at-requires
entry_at-requires c =
    let e : fenced c.args.fences c.args.o ≡ Ok c.in_ok-v.v = grind arith in
    let v = fenced_at _ _ _ c.requires e in
    omega arith

pub returns : goal.returns
unfolding translated
returns c =
    let e : fenced c.args.fences c.args.o ≡ Ok c.in_ok-v.v = grind arith in
    rw e (rw c.entry_at.ensures at c.entered.ensures)
