-- The power state, bits 1:0 of device 1's E0h (request 3 of document 02): what a write leaves of it, and that from a cold start
-- it is 00 or 11 throughout.
use Rattle.std.proofs.Common.{◌≡◌, refl, ap, ◌∙◌, ◌≢◌, inl, List, [], ◌∷◌, false, ℕ, suc, ◌+◌, ◌-◌, ◌*◌, ◌/◌, ◌%◌, ◌^◌, ◌≤◌, ◌<◌, mod-lt, arith, ne_eqb, le-ltb, eqb, pow_pos, length, get_or-set_same}
use Rattle.std.proofs.Math.Pow.{low, mod-mod-pow}
use Rattle.std.proofs.lemmas.Nat.{and_mask, or_shifted}
use Rattle.std.proofs.lemmas.Nat.Bits.{and_high}
use Rattle.std.specs.Int.Bits.{and_zero_r}
use Rattle.gmch.specs.Choice.{pick, ◌and◌, ◌or◌}
use Rattle.gmch.specs.Words.{within}
use Rattle.gmch.specs.Records.{record_of}
use Rattle.gmch.specs.Rows.{rows, row_in, masks_of, defaults_from, id_byte, cold_bytes}
use Rattle.gmch.specs.Config.{with_error, byte_at, with_byte, fixed_at, writable_at, merge, unsupported, effective, new_byte, write_byte, write_bytes, config_write, register_written}
use Rattle.gmch.specs.Machine.{Memories, Machine}
use Rattle.gmch.specs.Mapped.{mapped_written}
use Rattle.gmch.specs.Access.{Out, act}
use Rattle.gmch.specs.Replay.{parser_run, cold_start, cold_machine, reset, one_record, replay}
use Rattle.gmch.specs.declared.Board.{Board}
use Rattle.gmch.specs.declared.State.{State}
use Rattle.gmch.specs.declared.Access.{Access}
use Rattle.gmch.specs.declared.Record.{Record}
use Rattle.gmch.specs.declared.Target.{Target}
use Rattle.gmch.specs.declared.Target.TheVariants.{Refused, Memory, Cache, Register, Hub, HubError, Vga, Mapped, Entry, CacheRegister}
use Rattle.gmch.proofs.Choice.{choices, pick_elim, pick_elim₂}
use Rattle.gmch.proofs.Config.{byte_after, bytes_other, byte_beside, writes_keep}

-- ---- one write

pub effective_else : (x old v : ℕ) → x ≢ 0x1E0 → effective x old v ≡ v
unfolding effective unsupported
effective_else x old v h = simp (ne_eqb x 0x1E0 h, choices)

-- a byte of device 1 after a store there
byte_same : (s : State) (x v : ℕ) → 256 ≤ x → x - 256 < length s.dev1 → byte_at (with_byte s x v) x ≡ v
byte_same s x v h l = simp (le-ltb x 256 h, choices) (get_or-set_same s.dev1 (x - 256) v 0 l)

-- the first byte of a write
first_byte : (s : State) (x n v : ℕ) → 256 ≤ x → x - 256 < length s.dev1 → byte_at (write_bytes s x (suc n) v) x ≡ new_byte s x (byte_at s x) (v % 256)
unfolding write_bytes write_byte
first_byte s x n v h l =
    bytes_other x n (write_byte s x (v % 256)) (x + 1) (v / 256) (inl (omega arith)) ∙ byte_same s x (new_byte s x (byte_at s x) (v % 256)) h l

-- the k lowest bits of a byte, where a write stores these alone
low_bits : (j k : ℕ) → j + k ≡ 8 → (old v : ℕ) → merge old v (2 ^ k - 1) 0 % 2 ^ k ≡ v % 2 ^ k
unfolding merge
low_bits j k e old v =
    let n = old / 2 ^ k % 2 ^ j in
    let m = n * 2 ^ k + v % 2 ^ k in
    let p = pow_pos k in
    let b : 256 ≡ 2 ^ (j + k) = rw e refl in
    let h : 255 - (2 ^ k - 1) ≡ 2 ^ (j + k) - 2 ^ k = rw (← b) (omega arith) in
    rw (and_zero_r v, h, and_high old j k, and_mask v k, or_shifted n k (v % 2 ^ k) (mod-lt v p), and_mask m 8)
    (ap (λ (z : ℕ). m % z % 2 ^ k) b ∙ mod-mod-pow m j k ∙ low n k (mod-lt v p))

-- the writable bits of its byte are the two of the state
state_byte : (s : State) (old v : ℕ) → new_byte s 0x1E0 old v ≡ merge old (effective 0x1E0 old v) 3 0
unfolding new_byte writable_at fixed_at masks_of row_in rows within ◌and◌ ◌or◌ pick
state_byte s old v = refl

effective_state : (old v : ℕ) → effective 0x1E0 old v % 4 ≡ pick (eqb (v % 4) 1 or eqb (v % 4) 2) (old % 4) (v % 4)
unfolding effective unsupported
effective_state old v = simp choices (pick_elim₂ (λ (a b : ℕ). a % 4 ≡ b) _ (λ _. omega arith) (λ _. omega arith))

-- a write of any width that touches the state: 01 and 10 leave it as it was, whatever that is, and 00 and 11 are taken
pub power_state : (s : State) (n v : ℕ) → 0xE0 < length s.dev1
    → byte_at (config_write s 0x1E0 (suc n) v) 0x1E0 % 4 ≡ pick (eqb (v % 4) 1 or eqb (v % 4) 2) (byte_at s 0x1E0 % 4) (v % 4)
unfolding config_write
power_state s n v l =
    let e : v % 256 % 4 ≡ v % 4 = omega arith in
    rw (first_byte s 0x1E0 n v (omega arith) l, state_byte s (byte_at s 0x1E0) (v % 256), low_bits 6 2 refl (byte_at s 0x1E0) (effective 0x1E0 (byte_at s 0x1E0) (v % 256)), ← e)
    (effective_state (byte_at s 0x1E0) (v % 256))

-- the byte above it has one writable bit, bit 8
enable_byte : (s : State) (old v : ℕ) → new_byte s 0x1E1 old v ≡ merge old v 1 0
unfolding new_byte effective unsupported writable_at fixed_at masks_of row_in rows within ◌and◌ ◌or◌ pick
enable_byte s old v = refl

-- which acts in every write of two bytes or more, whatever the state
pub power_enable : (s : State) (n v : ℕ) → 0xE1 < length s.dev1 → byte_at (config_write s 0x1E0 (suc (suc n)) v) 0x1E1 % 2 ≡ v / 256 % 2
unfolding config_write write_bytes
power_enable s n v l =
    let t = write_byte s 0x1E0 (v % 256) in
    let b = byte_beside s s 0x1E0 (v % 256) (record { cf8 = refl; length0 = refl; length1 = refl; fences = refl; regs = refl }) in
    rw (first_byte t 0x1E1 n (v / 256) (omega arith) (rw b.length1 l), enable_byte t (byte_at t 0x1E1) (v / 256 % 256), low_bits 7 1 refl (byte_at t 0x1E1) (v / 256 % 256))
    (omega arith)

-- ---- 00 and 11 only

abbrev pub Supported : State → Type 0
Supported s = unsupported 0x1E0 (byte_at s 0x1E0) ≡ false

-- device 0 has no part in it
other_device : (s t : State) → t.dev1 ≡ s.dev1 → Supported s → Supported t
unfolding pick
other_device s t e h = rw e h

same_state : (u v : ℕ) → u % 4 ≡ v % 4 → unsupported 0x1E0 u ≡ unsupported 0x1E0 v
unfolding unsupported
same_state u v e = rw e refl

effective_supported : (old v : ℕ) → unsupported 0x1E0 old ≡ false → unsupported 0x1E0 (effective 0x1E0 old v) ≡ false
unfolding effective
effective_supported old v h =
    pick_elim (λ (z : ℕ). unsupported 0x1E0 z ≡ false) (unsupported 0x1E0 v) (λ _. same_state (v / 4 * 4 + old % 4) old (omega arith) ∙ h) (λ e. e)

byte_supported : (s : State) (x v : ℕ) → Supported s → Supported (write_byte s x v)
unfolding write_byte
byte_supported s x v h =
    let old = byte_at s 0x1E0 in
    byte_after (λ (z : ℕ). unsupported 0x1E0 z ≡ false) s x (new_byte s x (byte_at s x) v) 0x1E0 h
    (λ e. rw (e, state_byte s old v) (same_state (merge old (effective 0x1E0 old v) 3 0) (effective 0x1E0 old v) (low_bits 6 2 refl old (effective 0x1E0 old v)) ∙ effective_supported old v h))

register_supported : (s : State) (x n v : ℕ) → Supported s → Supported (register_written s x n v)
unfolding register_written config_write
register_supported s x n v h = pick_elim Supported _ (λ _. h) (λ _. writes_keep Supported byte_supported n s x v h)

mapped_supported : (s : State) (o v : ℕ) → Supported s → Supported (mapped_written s o v)
unfolding mapped_written
mapped_supported s o v h = pick_elim Supported _ (λ _. h) (λ _. h)

abbrev After : Out → Type 0
After o = Supported o.after.state

act_supported : (x : Machine) (a : Access) (v : ℕ) → Supported x.state → (t : Target) → After (act x a v t)
unfolding act
act_supported x a v h (Refused c o) = h
act_supported x a v h (Memory p) = pick_elim After _ (λ _. h) (λ _. h)
act_supported x a v h (Cache p) = pick_elim After _ (λ _. h) (λ _. h)
act_supported x a v h (Register n) = pick_elim After _ (λ _. register_supported x.state n a.width v h) (λ _. h)
act_supported x a v h (Hub p) = h
act_supported x a v h (HubError p) = other_device x.state (with_error x.state) refl h
act_supported x a v h (Vga o) = h
act_supported x a v h (Mapped o) = pick_elim After _ (λ _. mapped_supported x.state o v h) (λ _. h)
act_supported x a v h (Entry o p) = pick_elim After _ (λ _. h) (λ _. h)
act_supported x a v h (CacheRegister o) = pick_elim After _ (λ _. h) (λ _. h)

cold_supported : (kind : ℕ) → Supported (cold_start kind)
unfolding cold_start cold_bytes defaults_from id_byte masks_of row_in rows within unsupported ◌and◌ ◌or◌ pick
cold_supported kind = refl

record_supported : (b : Board) (x : Machine) (r : Record) → Supported x.state → After (one_record b x r)
unfolding one_record parser_run reset cold_machine
record_supported b x r h =
    pick_elim After _ (λ _. h) (λ _. pick_elim After _ (λ _. h) (λ _. pick_elim After _ (λ _. cold_supported b.kind) (λ _. act_supported x _ _ h _)))

-- no list of records leaves another state where one of the two was held
pub power_supported : (b : Board) (x : Machine) (rs : List (List ℕ)) → Supported x.state → Supported (replay b x rs).after.state
unfolding replay
power_supported b x [] h = h
power_supported b x (r ∷ rs) h = power_supported b (one_record b x (record_of r)).after rs (record_supported b x (record_of r) h)

-- so none does from a cold start
pub power_cold : (b : Board) (memories : Memories) (rs : List (List ℕ)) → Supported (replay b (cold_machine b memories) rs).after.state
unfolding cold_machine
power_cold b memories rs = power_supported b (cold_machine b memories) rs (cold_supported b.kind)
