-- A store byte by byte is one copy of the number's low bytes.
use Rattle.std.proofs.Common.{◌≡◌, ℕ, zero, suc, ◌+◌, ◌/◌, ◌%◌, ◌^◌, ◌<◌, ◌≤◌, List, length, get_or, take, refl, sym, ◌∙◌, div-one, arith}
use Rattle.std.proofs.lemmas.List.{get_or-take}
use Rattle.std.proofs.lemmas.Slice.{put_mid-paste}
use Rattle.std.proofs.Math.ListN.{length-take}
use Rattle.std.proofs.Math.Seq.{paste, paste-zero, paste-suc}
use Rattle.std.specs.Int.{w32, to_le_bytes}
use borrow.Rule.Slice.PartMut.{put_mid}
use Rattle.gmch.specs.Words.{store_le}

store_le-paste : (w a v : ℕ) (s l : List ℕ) → ((i : ℕ) → i < w → get_or s i 0 ≡ v / 256 ^ i % 256) → w ≤ length s → a + w ≤ length l
    → store_le w a v l ≡ paste l a s w
unfolding store_le
store_le-paste zero a v s l e h k = paste-zero l a s
store_le-paste (suc w) a v s l e h k =
    rw (store_le-paste w a v s l (λ i j. e i (omega arith)) (omega arith) (omega arith), ← e w (omega arith))
    (paste-suc l a s w 0 (omega arith) (omega arith))

byte_is : (v i : ℕ) → i < 4 → get_or (to_le_bytes w32 v) i 0 ≡ v / 256 ^ i % 256
byte_is v zero h = rw (div-one v) refl
byte_is v (suc zero) h = refl
byte_is v (suc (suc zero)) h = refl
byte_is v (suc (suc (suc zero))) h = refl
byte_is v (suc (suc (suc (suc i)))) h = absurd (omega arith)

-- after `s[at..at + w].copy_from_slice(&v.to_le_bytes()[..w])`
pub copied : (w at k v : ℕ) (l part : List ℕ) → part ≡ take w (to_le_bytes w32 v) → w ≡ k → w ≤ 4 → at + w ≤ length l
    → put_mid at k l part ≡ store_le w at v l
copied w at k v l part e q n h =
    let bytes = to_le_bytes w32 v in
    let long : w ≡ length (take w bytes) = rw length-take (omega arith) in
    put_mid-paste at k l part (take w bytes) w e q long
    ∙ sym (store_le-paste w at v (take w bytes) l (λ i j. get_or-take w bytes i 0 j ∙ byte_is v i (omega arith)) (omega arith) h)
