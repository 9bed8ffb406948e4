-- The rows so far have been filled in.
use Rattle.std.proofs.Common.{◌≡◌, length, take, replicate}
use Rattle.std.specs.List.{fold}
use Rattle.gmch.specs.Rows.{rows}
use Rattle.rows.proofs.Fill.{filled_by}
use Rattle.rows.proofs.default_bytes.Given as goal

abbrev pub invariant-loop-r : goal.invariant-loop-r
invariant-loop-r l = (length l.a ≡ 256) × (l.a ≡ fold (filled_by l.device) (replicate 256 0) (take l.r-index rows))
