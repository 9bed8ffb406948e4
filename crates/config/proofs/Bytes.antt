-- Bytes of numbers: one turn of a write and of a read of n bytes, for any n.
use Rattle.std.proofs.Common.{◌≡◌, refl, List, ℕ, zero, suc, ◌+◌, ◌-◌, ◌*◌, ◌/◌, ◌%◌, ◌^◌, ◌<◌, ◌≤◌, add_assoc, mul-suc, pow-suc, arith, get_or, set, pow-add}
use Rattle.std.proofs.Math.Nat.{pow-le-pow_right}
use Rattle.gmch.specs.Config.{read_byte, config_read}
use Rattle.config.specs.Word.{new_in, written_in}
use Rattle.rows.specs.declared.Bits.{Bits}

-- 2 ^ (8 * k), as code shifts, and 256 ^ k
pub bits_of_bytes : (k : ℕ) → 2 ^ (8 * k) ≡ 256 ^ k
bits_of_bytes zero = refl
bits_of_bytes (suc k) = rw (mul-suc 8 k, pow-add 2 (8 * k) 8, bits_of_bytes k, pow-suc 256 k)

-- the byte above those that have been written
pub write_step : (b : Bits) (x a i n v : ℕ) (l : List ℕ) → i < n
    → written_in b (x + (i + 1)) (a + (i + 1)) (n - (i + 1)) (v / 256) (set l (a + i) (new_in b (x + i) (get_or l (a + i) 0) (v % 256)))
    ≡ written_in b (x + i) (a + i) (n - i) v l
unfolding written_in
write_step b x a i n v l h =
    let e : n - i ≡ suc (n - (i + 1)) = omega arith in
    rw (← add_assoc x i 1, ← add_assoc a i 1, e)

-- the byte below those that have been read
pub read_step : (dev0 dev1 : List ℕ) (x i n : ℕ) → 0 < i → i ≤ n
    → config_read dev0 dev1 (x + (i - 1)) (n - (i - 1)) ≡ read_byte dev0 dev1 (x + (i - 1)) + 256 * config_read dev0 dev1 (x + i) (n - i)
unfolding config_read
read_step dev0 dev1 x i n h l =
    let e : n - (i - 1) ≡ suc (n - i) = omega arith in
    let f : x + (i - 1) + 1 ≡ x + i = omega arith in
    rw (e, f)

-- one byte more at the low end
pub grows : (k v b : ℕ) → v < 256 ^ k → b < 256 → b + 256 * v < 256 ^ suc k
grows k v b h l = rw pow-suc (omega arith)

-- four bytes fit a word
pub word_fits : (k v b : ℕ) → k < 4 → v < 256 ^ k → b < 256 → b + 256 * v < 2 ^ 32
word_fits k v b l h hb =
    let e = grows k v b h hb in
    let f = pow-le-pow_right {n = 256} (omega arith) {i = suc k} {j = 4} l in
    omega arith
