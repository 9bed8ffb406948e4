-- What the masks of the fences' code keep, as quotients and remainders: the sum and the alignment of document 01.
use Rattle.std.proofs.Common.{◌≡◌, ℕ, ◌+◌, ◌-◌, ◌*◌, ◌/◌, ◌%◌, ◌^◌, ◌≤◌, ◌<◌, sym, ap, ◌∙◌, bit_and, mul_comm, mul_assoc, add-mul, div-add-mod', mod-eq_of_lt, pow_mono, pow-add, pow_pos, arith}
use Rattle.std.proofs.Math.Nat.{mul-div_right, div-div-eq-div-mul, add-mul-div_right, add-mul-mod_self_right}
use Rattle.std.proofs.lemmas.Nat.{and_le_r, and_mask}
use Rattle.std.proofs.lemmas.Nat.Bits.{and_high}
use Rattle.std.proofs.Math.Arith.{mod-mul}
use Rattle.gmch.specs.Fence.{fence_start, fence_size, tile}
use Rattle.gmch.proofs.Fence.{size_pow}

-- the bits below a size
pub below_size : (s c : ℕ) → c < 7 → bit_and s (fence_size c - 1) ≡ s % fence_size c
below_size s c h = rw (size_pow c h) (and_mask s (19 + c))

-- j bits, from bit 7 on
from_7 : (d j : ℕ) → bit_and d (128 * 2 ^ j - 128) ≡ d / 128 % 2 ^ j * 128
from_7 d j = ap (λ (n : ℕ). bit_and d (n - 128)) (mul_comm 128 (2 ^ j) ∙ sym (pow-add 2 j 7)) ∙ and_high d j 7

module _ (q : ℕ) (some : 0 < q) where
  -- column and line change places; the row of tiles and the place in the line stay
  tile_bits : (d : ℕ) → tile (128 * q) d ≡ d - d / 128 % (q * 16) * 128 + d / 128 % q * 128 * 16 + d / q / 128 % 16 * 128
  unfolding tile
  tile_bits d =
      let y : d / (128 * q) ≡ d / 128 / q = sym (div-div-eq-div-mul d 128 q) in
      let z : d / q / 128 ≡ d / 128 / q = div-div-eq-div-mul d q 128 ∙ ap (λ (n : ℕ). d / n) (mul_comm q 128) ∙ y in
      let x : d % (128 * q) ≡ d / 128 % q * 128 + d % 128 = ap (λ (n : ℕ). d % n) (mul_comm 128 q) ∙ mod-mul d {m = q} {c = 128} some (omega arith) in
      let m : d / 128 % (q * 16) ≡ d / 128 / q % 16 * q + d / 128 % q = ap (λ (n : ℕ). d / 128 % n) (mul_comm q 16) ∙ mod-mul (d / 128) {m = 16} {c = q} (omega arith) some in
      let r = ap (λ (n : ℕ). n * q) (sym (div-add-mod' (d / 128 / q) 16)) ∙ add-mul (d / 128 / q / 16 * 16) (d / 128 / q % 16) q in
      rw (mul-div_right q {m = 128} (omega arith), y, z, x, m) (omega (arith, r, div-add-mod' (d / 128) q))

  -- whole rows of tiles pass through the sum
  tile_rows : (m d : ℕ) → tile (128 * q) (d + m * (2048 * q)) ≡ tile (128 * q) d + m * (2048 * q)
  unfolding tile
  tile_rows m d =
      let w : m * (2048 * q) ≡ m * 16 * (128 * q) = omega arith in
      let u : (d / (128 * q) + m * 16) / 16 ≡ d / (128 * q) / 16 + m = omega arith in
      let v : (d / (128 * q) + m * 16) % 16 ≡ d / (128 * q) % 16 = omega arith in
      rw (w, mul-div_right q {m = 128} (omega arith), add-mul-div_right d (m * 16) {z = 128 * q} (omega arith), add-mul-mod_self_right d (m * 16) (128 * q), u, v, add-mul (d / (128 * q) / 16) m q)
      (omega arith)

-- the sum at a pitch code
pub tile_masks : (k d : ℕ) → k < 6
    → d - bit_and d (128 * 2 ^ k * 16 % 2 ^ 32 - 128) + bit_and d (128 * 2 ^ k - 128) * 16 % 2 ^ 32 + bit_and (d / 2 ^ k) 0x780 ≡ tile (128 * 2 ^ k) d
tile_masks k d h =
    let b = pow_mono {i = k} {j = 5} (omega arith) in
    let w : 128 * 2 ^ k * 16 % 2 ^ 32 ≡ 128 * (2 ^ k * 16) = omega arith in
    let u : bit_and d (128 * 2 ^ k - 128) * 16 % 2 ^ 32 ≡ bit_and d (128 * 2 ^ k - 128) * 16 = mod-eq_of_lt (omega (arith, and_le_r d (128 * 2 ^ k - 128))) in
    rw (w, u, ← pow-add 2 k 4, from_7 d (k + 4), pow-add 2 k 4, from_7 d k, and_high (d / 2 ^ k) 4 7) (sym (tile_bits (2 ^ k) (pow_pos k) d))

-- a region starts at a multiple of 512 KiB, so at a row of tiles: the sum leaves the start where it is
pub tile_from : (f k o : ℕ) → k < 6 → fence_start f ≤ o → fence_start f + tile (128 * 2 ^ k) (o - fence_start f) ≡ tile (128 * 2 ^ k) o
tile_from f k o h l =
    let i : 19 ≡ 8 - k + (11 + k) = omega arith in
    let e : 0x80000 ≡ 2 ^ (8 - k) * (2048 * 2 ^ k) = ap (λ (n : ℕ). 2 ^ n) i ∙ pow-add 2 (8 - k) (11 + k) ∙ ap (λ (n : ℕ). 2 ^ (8 - k) * n) (pow-add 2 11 k) in
    let s = ap (λ (n : ℕ). f / 0x80000 % 128 * n) e ∙ sym (mul_assoc (f / 0x80000 % 128) (2 ^ (8 - k)) (2048 * 2 ^ k)) in
    let m : o ≡ o - fence_start f + f / 0x80000 % 128 * 2 ^ (8 - k) * (2048 * 2 ^ k) = omega arith in
    let t = ap (tile (128 * 2 ^ k)) m ∙ tile_rows (2 ^ k) (pow_pos k) (f / 0x80000 % 128 * 2 ^ (8 - k)) (o - fence_start f) in
    omega arith
