use Rattle.std.proofs.Common.{◌≡◌, ◌∙◌, sym, eq-eqb, ne_eqb}
use Rattle.gmch.specs.Rows.{rows}
use Rattle.gmch.proofs.Choice.{pick_true, pick_false}
use Rattle.rows.proofs.Fill.{row_at, filled_by, filled_more, filled_all, length_filled, row_fits}
use Rattle.rows.proofs.default_bytes.Goals as goal
use Rattle.rows.proofs.default_bytes.Goals.{then-r-device, else-r-device}

pub store-requires : goal.store-requires
unfolding rows
store-requires c =
    let l = c.loop-r in
    rw l.invariant.0 (row_fits l.r-index c.loop-r-test.true)

pub loop-r-preserved : goal.loop-r-preserved
unfolding rows
loop-r-preserved c =
    let d = c.args.device in
    let l = c.loop-r in
    let r = row_at l.r-index in
    let e : c.if-r-device.a ≡ filled_by d l.a r =
    elim c.if-r-device.branch [
      | then-r-device w ↦ rw (w.a-is, w.store.ensures) (sym (pick_true _ _ (eq-eqb _ _ w.if-r-device.true)))
      | else-r-device w ↦ w.a-is ∙ sym (pick_false _ _ (ne_eqb _ _ w.if-r-device.false))
    ] in
    rw e (length_filled d r l.a ∙ l.invariant.0, filled_more d l.r-index l.a c.loop-r-test.true l.invariant.1)

pub returns : goal.returns
returns c = filled_all c.args.device c.loop-r.r-index c.loop-r.a c.requires c.loop-r-test.false c.loop-r.invariant.1
