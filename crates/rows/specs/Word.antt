-- What a write may change of an aligned word of four bytes, gathered from the rows.
use Rattle.std.specs.Prelude.{ℕ, ◌-◌, ◌*◌, ◌/◌, ◌%◌, ◌^◌, Bool, eqb}
use Rattle.std.specs.List.{fold}
use Rattle.std.specs.Int.Bits.{bit_and, bit_or}
use Rattle.gmch.specs.Choice.{pick}
use Rattle.gmch.specs.Rows.{rows}
use Rattle.gmch.specs.declared.Row.{Row}
use Rattle.rows.specs.declared.Bits.{Bits}

-- p, and what a number n of the register at `at` has of the aligned word w
unfoldable pub joined : ℕ → ℕ → ℕ → ℕ → ℕ
joined p n at w = pick (eqb (at / 4) w) (bit_or p (n * 2 ^ (8 * (at % 4)) % 2 ^ 32)) p

-- the same of a row's number f
abbrev pub joined_by : (Row → ℕ) → ℕ → ℕ → Row → ℕ
joined_by f w p r = joined p (f r) r.at w

-- what the rows say of the aligned word w
unfoldable pub row_bits : ℕ → Bits
row_bits w =
    record { writable = fold (joined_by (λ (r : Row). r.writable) w) 0 rows; clearing = fold (joined_by (λ (r : Row). r.clearing) w) 0 rows }

-- the bits of the write-once registers 2Ch and 2Eh of device 1 that have been written
unfoldable pub fixed_bits : Bool → Bool → ℕ → ℕ
fixed_bits c e w = pick (eqb w 0x4B) (pick c (pick e 0xFFFFFFFF 0xFFFF) (pick e 0xFFFF0000 0)) 0

-- what a write may change now of the aligned word w
unfoldable pub bits_of : Bool → Bool → ℕ → Bits
bits_of c e w = record { writable = bit_and (row_bits w).writable (2 ^ 32 - 1 - fixed_bits c e w); clearing = (row_bits w).clearing }
