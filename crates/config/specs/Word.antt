-- A write of data, all of which acts, by the bits of an aligned word of four bytes, as code makes it.
use Rattle.std.specs.Prelude.{ℕ, zero, suc, ◌+◌, ◌/◌, ◌%◌, List, get_or, set, eqb}
use Rattle.gmch.specs.Choice.{pick}
use Rattle.gmch.specs.Smram.{smram_written}
use Rattle.gmch.specs.Rows.{byte_of}
use Rattle.gmch.specs.Config.{merge}
use Rattle.rows.specs.declared.Bits.{Bits}

-- what a write of v leaves in the byte x, which was old
unfoldable pub new_in : Bits → ℕ → ℕ → ℕ → ℕ
new_in b x old v =
    pick (eqb x 0x70) (smram_written old v) (merge old v (byte_of b.writable (x % 4)) (byte_of b.clearing (x % 4)))

-- the bytes of a device after a write of the n low bytes of v at x, which is its byte i, the lowest first
unfoldable pub written_in : Bits → ℕ → ℕ → ℕ → ℕ → List ℕ → List ℕ
written_in b x i zero v l = l
written_in b x i (suc n) v l = written_in b (x + 1) (i + 1) n (v / 256) (set l i (new_in b x (get_or l i 0) (v % 256)))
