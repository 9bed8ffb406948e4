-- A write by the bits of an aligned word is the definitions' write.
use Rattle.std.proofs.Common.{◌≡◌, refl, sym, ◌∙◌, List, Bool, ◌||◌, ℕ, zero, suc, ◌+◌, ◌-◌, ◌*◌, ◌/◌, ◌%◌, ◌<◌, ◌≤◌, arith, lt-ltb, le-ltb, eqb-true, get_or, set, eqb}
use Rattle.std.proofs.Math.Nat.{sub-zero}
use Rattle.std.proofs.Math.Decide.{ℕ_discrete}
use Rattle.gmch.specs.Choice.{◌or◌}
use Rattle.gmch.specs.Config.{with_dev0, with_dev1, with_once, unsupported, effective, new_byte, write_byte, write_bytes, touches, config_write}
use Rattle.gmch.specs.declared.State.{State}
use Rattle.gmch.proofs.Choice.{choices, pick_elim, pick_elim₂}
use Rattle.gmch.proofs.Power.{effective_else}
use Rattle.rows.specs.Word.{bits_of}
use Rattle.rows.specs.declared.Bits.{Bits}
use Rattle.rows.proofs.Gathered.{writable_bits, clearing_bits}
use Rattle.config.specs.Word.{new_in, written_in}

-- ---- what acts, byte by byte

low_effective : (x old v : ℕ) → effective x old v % 256 ≡ effective x old (v % 256)
unfolding effective unsupported
low_effective x old v =
    let e : v % 256 % 4 ≡ v % 4 = omega arith in
    let q : v / 4 ≡ 64 * (v / 256) + v % 256 / 4 = omega arith in
    let j : (v / 4 * 4 + old % 4) / 256 ≡ v / 256 = omega arith in
    rw e (pick_elim₂ (λ (a b : ℕ). a % 256 ≡ b) _ (λ _. omega arith) (λ _. refl))

high_effective : (x old v : ℕ) → effective x old v / 256 ≡ v / 256
unfolding effective
high_effective x old v = pick_elim (λ (z : ℕ). z / 256 ≡ v / 256) _ (λ _. omega arith) (λ _. refl)

new_byte_is : (s : State) (x w old v : ℕ) → x < 512 → x / 4 ≡ w → new_in (bits_of s.wrote2c s.wrote2e w) x old (effective x old v) ≡ new_byte s x old v
unfolding new_in new_byte
new_byte_is s x w old v h q = rw (← q, writable_bits s x h, clearing_bits s.wrote2c s.wrote2e x h)
    (pick_elim₂ (λ (a b : ℕ). a ≡ b) (eqb x 0x70) (λ e. let r = eqb-true x 0x70 e in rw (effective_else x old v (λ f. omega arith))) (λ _. refl))

-- ---- the bytes of a write, all of one word, in the device that put puts back and whose first byte is base

module _ (put : List ℕ → State) (base : ℕ) (b : Bits) (w : ℕ)
    (step : (l : List ℕ) (x v : ℕ) → base ≤ x → x / 4 ≡ w → put (set l (x - base) (new_in b x (get_or l (x - base) 0) (effective x (get_or l (x - base) 0) v))) ≡ write_byte (put l) x v) where
  -- those above the word's lowest, which has the power state
  upper : (n x v : ℕ) (l : List ℕ) → base ≤ x → 4 * w < x → x + n ≤ 4 * w + 4 → put (written_in b x (x - base) n v l) ≡ write_bytes (put l) x n v
  unfolding written_in write_bytes
  upper zero x v l o f u = refl
  upper (suc n) x v l o f u =
      let old = get_or l (x - base) 0 in
      let i : x - base + 1 ≡ x + 1 - base = omega arith in
      rw (← step l x (v % 256) o (omega arith), effective_else x old (v % 256) (λ e. omega arith), i)
      (upper n (x + 1) (v / 256) (set l (x - base) (new_in b x old (v % 256))) (omega arith) (omega arith) (omega arith))

  written : (n x v : ℕ) (l : List ℕ) → base ≤ x → 4 * w ≤ x → x + n ≤ 4 * w + 4
      → put (written_in b x (x - base) n (effective x (get_or l (x - base) 0) v) l) ≡ write_bytes (put l) x n v
  unfolding written_in write_bytes
  written zero x v l o f u = refl
  written (suc n) x v l o f u =
      let old = get_or l (x - base) 0 in
      let i : x - base + 1 ≡ x + 1 - base = omega arith in
      rw (low_effective x old v, high_effective x old v, ← step l x (v % 256) o (omega arith), i)
      (upper n (x + 1) (v / 256) (set l (x - base) (new_in b x old (effective x old (v % 256)))) (omega arith) (omega arith) (omega arith))

-- ---- a whole write: the bytes of a device, then the flags

module _ (s : State) (x n v : ℕ) (u : x % 4 + n ≤ 4) (b : Bits) (p : b ≡ bits_of s.wrote2c s.wrote2e (x / 4)) where
  module _ (l : List ℕ) (d : ℕ) (c e : Bool) (a : d ≡ effective x (get_or s.dev1 0xE0 0) v) (q : c ≡ touches 0x12C x n) (r : e ≡ touches 0x12E x n) where
    flagged : (t : State) → t ≡ write_bytes s x n v → with_once t (t.wrote2c || c) (t.wrote2e || e) ≡ config_write s x n v
    unfolding config_write ◌or◌
    flagged t k = rw (k, q, r)

    -- the first byte is E0h, or all of v acts
    acts : (m : List ℕ) (i : ℕ) → (x ≡ 0x1E0 → get_or m i 0 ≡ get_or s.dev1 0xE0 0) → d ≡ effective x (get_or m i 0) v
    acts m i h =
        elim (ℕ_discrete x 0x1E0) [
          | yes f ↦ rw (h f) a
          | no f ↦ a ∙ effective_else x (get_or s.dev1 0xE0 0) v f ∙ sym (effective_else x (get_or m i 0) v f)
        ]

    pub stored_0 : x < 256 → l ≡ written_in b x (x % 256) n d s.dev0 → with_once (with_dev0 s l) (s.wrote2c || c) (s.wrote2e || e) ≡ config_write s x n v
    unfolding write_byte
    stored_0 h k =
        let i : x % 256 ≡ x - 0 = omega arith in
        flagged (with_dev0 s l)
        (rw (k, p, i, acts s.dev0 (x - 0) (λ f. absurd (omega arith)))
        (written (with_dev0 s) 0 _ (x / 4) (λ m y d _ f. simp (sub-zero, new_byte_is (with_dev0 s m) y (x / 4) (get_or m y 0) d (omega arith) f, lt-ltb y 256 (omega arith), choices)) n x v s.dev0 (omega arith) (omega arith) (omega arith)))

    pub stored_1 : 256 ≤ x → x < 512 → l ≡ written_in b x (x % 256) n d s.dev1 → with_once (with_dev1 s l) (s.wrote2c || c) (s.wrote2e || e) ≡ config_write s x n v
    unfolding write_byte
    stored_1 o h k =
        let i : x % 256 ≡ x - 256 = omega arith in
        flagged (with_dev1 s l)
        (rw (k, p, i, acts s.dev1 (x - 256) (λ f. rw f))
        (written (with_dev1 s) 256 _ (x / 4) (λ m y d g f. simp (new_byte_is (with_dev1 s m) y (x / 4) (get_or m (y - 256) 0) d (omega arith) f, le-ltb y 256 g, choices)) n x v s.dev1 o (omega arith) (omega arith)))
