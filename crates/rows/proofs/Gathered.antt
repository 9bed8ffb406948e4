-- A byte's bits of its word are its masks: a test over the 512 bytes, closed by computing.
use Rattle.std.proofs.Common.{◌≡◌, refl, Bool, true, false, ℕ, ◌+◌, ◌-◌, ◌/◌, ◌%◌, ◌<◌, arith, ne_eqb, eqb}
use Rattle.std.proofs.Math.Decide.{ℕ_discrete}
use Rattle.gmch.specs.Choice.{pick, ◌and◌, ◌or◌}
use Rattle.gmch.specs.Words.{within}
use Rattle.gmch.specs.Rows.{rows, row_in, byte_of, masks_of}
use Rattle.gmch.specs.Config.{fixed_at, writable_at}
use Rattle.gmch.specs.declared.State.{State}
use Rattle.gmch.proofs.Choice.{choices}
use Rattle.rows.specs.Word.{joined, row_bits, fixed_bits, bits_of}
use Rattle.rows.proofs.Table.{table, same_at}

stored : Bool → Bool → ℕ → ℕ
stored c e x = byte_of (bits_of c e (x / 4)).writable (x % 4)

storable : Bool → Bool → ℕ → ℕ
storable c e x = pick ((eqb (x / 2) 0x96 and c) or (eqb (x / 2) 0x97 and e)) 0 (masks_of x).writable

-- whether 2Ch and 2Eh have been written counts in their word alone, so the flags need not be known in the others
others : (c e : Bool)
    → table (λ (x : ℕ). pick (eqb (x / 4) 0x4B) 0 (stored c e x)) 512 ≡ table (λ (x : ℕ). pick (eqb (x / 4) 0x4B) 0 (storable c e x)) 512
unfolding table stored storable bits_of row_bits fixed_bits joined rows masks_of row_in pick within ◌and◌ ◌or◌
others c e = refl

once : (c e : Bool) → table (λ (k : ℕ). stored c e (0x12C + k)) 4 ≡ table (λ (k : ℕ). storable c e (0x12C + k)) 4
unfolding table stored storable bits_of row_bits fixed_bits joined rows masks_of row_in pick within ◌and◌ ◌or◌
once true true = refl
once true false = refl
once false true = refl
once false false = refl

stored_bits : (c e : Bool) (x : ℕ) → x < 512 → stored c e x ≡ storable c e x
stored_bits c e x h =
    elim (ℕ_discrete (x / 4) 0x4B) [
      | yes q ↦ let i : 0x12C + (x - 0x12C) ≡ x = omega arith in rw i at (same_at _ _ 4 (once c e) (x - 0x12C) (omega arith))
      | no q ↦ simp (ne_eqb _ _ q, choices) at (same_at _ _ 512 (others c e) x h)
    ]

all_cleared : table (λ (x : ℕ). byte_of (row_bits (x / 4)).clearing (x % 4)) 512 ≡ table (λ (x : ℕ). (masks_of x).clearing) 512
unfolding table row_bits joined rows masks_of row_in pick within ◌and◌
all_cleared = refl

pub writable_bits : (s : State) (x : ℕ) → x < 512 → byte_of (bits_of s.wrote2c s.wrote2e (x / 4)).writable (x % 4) ≡ writable_at s x
unfolding stored storable writable_at fixed_at
writable_bits s x h = stored_bits s.wrote2c s.wrote2e x h

pub clearing_bits : (c e : Bool) (x : ℕ) → x < 512 → byte_of (bits_of c e (x / 4)).clearing (x % 4) ≡ (masks_of x).clearing
unfolding bits_of
clearing_bits c e x h = same_at _ _ 512 all_cleared x h
