-- A device's bytes, filled with the defaults of its rows one after the other.
use Rattle.std.proofs.Common.{◌≡◌, refl, sym, ◌∙◌, List, true, ℕ, zero, suc, ◌+◌, ◌*◌, ◌/◌, ◌%◌, ◌<◌, ◌≤◌, arith, leb-true, leb, eqb, length, get_or, replicate, take}
use Rattle.std.specs.List.{fold}
use Rattle.std.proofs.Math.Seq.{take_all}
use Rattle.std.proofs.lemmas.List.Sums.{fold_more}
use Rattle.gmch.specs.Choice.{pick, ◌and◌, ◌or◌}
use Rattle.gmch.specs.Words.{within, store_le}
use Rattle.gmch.specs.Records.{fits_word}
use Rattle.gmch.specs.Rows.{row, rows, row_in, masks_of, defaults_from}
use Rattle.gmch.specs.declared.Row.{Row}
use Rattle.gmch.proofs.Choice.{pick_elim}
use Rattle.gmch.proofs.Words.{length-store_le}
use Rattle.words.specs.Width.{Width}
use Rattle.words.proofs.Width.{fits_width}
use Rattle.rows.proofs.Table.{table, same_at}

-- what is read past the end of the rows
abbrev pub zero_row : Row
zero_row = row 0 0 0 0 0

abbrev pub row_at : ℕ → Row
row_at i = get_or rows i zero_row

abbrev pub filled_by : ℕ → List ℕ → Row → List ℕ
filled_by device a r = pick (eqb (r.at / 256) device) (store_le r.width (r.at % 256) r.default a) a

pub filled_defaults : (device : ℕ) → device < 2 → fold (filled_by device) (replicate 256 0) rows ≡ defaults_from (device * 256) 256
unfolding rows defaults_from masks_of row_in store_le pick within ◌and◌
filled_defaults zero h = refl
filled_defaults (suc zero) h = refl
filled_defaults (suc (suc d)) h = absurd (omega arith)

length_rows : length rows ≡ 26
unfolding rows
length_rows = refl

-- one row more
pub filled_more : (device i : ℕ) (a : List ℕ) → i < 26 → a ≡ fold (filled_by device) (replicate 256 0) (take i rows)
    → filled_by device a (row_at i) ≡ fold (filled_by device) (replicate 256 0) (take (i + 1) rows)
filled_more device i a h e = rw e (sym (fold_more (filled_by device) (replicate 256 0) rows i zero_row (rw length_rows h)))

-- all of them
pub filled_all : (device i : ℕ) (a : List ℕ) → device < 2 → 26 ≤ i → a ≡ fold (filled_by device) (replicate 256 0) (take i rows) → a ≡ defaults_from (device * 256) 256
filled_all device i a d h e = e ∙ rw (take_all i rows (rw length_rows h)) (filled_defaults device d)

pub length_filled : (device : ℕ) (r : Row) (a : List ℕ) → length (filled_by device a r) ≡ length a
length_filled device r a = pick_elim (λ (l : List ℕ). length l ≡ length a) _ (λ _. length-store_le r.width (r.at % 256) r.default a) (λ _. refl)

-- ---- a register has 1, 2 or 4 bytes, all of one device: a test of the rows

all_narrow : table (λ (i : ℕ). fits_word (row_at i).width (row_at i).at) 26 ≡ table (λ (i : ℕ). true) 26
unfolding table rows fits_word ◌and◌ ◌or◌
all_narrow = refl

all_inside : table (λ (i : ℕ). leb ((row_at i).at % 256 + (row_at i).width) 256) 26 ≡ table (λ (i : ℕ). true) 26
unfolding table rows
all_inside = refl

pub row_fits : (i : ℕ) → i < 26 → Width (row_at i).width × ((row_at i).at % 256 + (row_at i).width ≤ 256)
row_fits i h = ((fits_width _ _ (same_at _ _ 26 all_narrow i h)).0, leb-true _ _ (same_at _ _ 26 all_inside i h))
