use Rattle.std.proofs.Common.{◌≡◌, refl, rules}
use Rattle.std.specs.List.{fold}
use Rattle.std.proofs.lemmas.Fn.{fold_over, slice_gives, fronts}
use Rattle.std.proofs.lemmas.List.Sums.{fold-append}
use Rattle.gmch.specs.Rows.{rows}
use Rattle.gmch.specs.declared.Row.{Row}
use Rattle.rows.specs.Word.{row_bits, joined_by}
use Rattle.rows.proofs.row_bits.Goals as goal

pub returns : goal.returns
unfolding row_bits rows
returns c =
    let w = c.args.w in
    let p : c.fold.result ≡ fold (joined_by (λ (r : Row). r.writable) w) 0 c.iter.result.rest.now =
    fold_over fronts (λ y. y.now) _ (λ ys n. n ≡ fold (joined_by (λ (r : Row). r.writable) w) 0 ys) _ (λ ys a x b f' j k. simp fold-append (rw (← j) (search rules)))
    _ _ _ _ (slice_gives c.iter.result) refl c.fold.ensures.ran in
    let q : c.fold-2.result ≡ fold (joined_by (λ (r : Row). r.clearing) w) 0 c.iter-2.result.rest.now =
    fold_over fronts (λ y. y.now) _ (λ ys n. n ≡ fold (joined_by (λ (r : Row). r.clearing) w) 0 ys) _ (λ ys a x b f' j k. simp fold-append (rw (← j) (search rules)))
    _ _ _ _ (slice_gives c.iter-2.result) refl c.fold-2.ensures.ran in
    rw (p, q, c.iter.ensures.rest, c.iter-2.ensures.rest)
