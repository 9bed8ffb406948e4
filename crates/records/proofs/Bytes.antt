-- Records and answers in flat bytes.
use Rattle.std.proofs.Common.{ℕ, zero, suc, ◌+◌, ◌/◌, ◌%◌, ◌^◌, ◌≤◌, ◌<◌, ◌≡◌, refl, sym, ap, ◌∙◌, List, [], ◌∷◌, ◌++◌, arith, add-zero, div-one, pow-suc, mul_comm, length, get_or, set, take, drop, get_or-take, get_or-drop}
use Rattle.std.proofs.Math.Nat.{div-div-eq-div-mul}
use Rattle.std.proofs.lemmas.List.Edits.{sets}
use Rattle.gmch.specs.Words.{load_le, store_le, bytes_of}
use Rattle.gmch.specs.Records.{record_of, answer_bytes}
use Rattle.gmch.specs.declared.Answer.{Answer}
use Rattle.gmch.proofs.Words.{length-bytes_of}

-- ---- a part of a list

pub get_or-part : (l : List ℕ) (at n i : ℕ) → i < n → get_or (take n (drop at l)) i 0 ≡ get_or l (at + i) 0
get_or-part l at n i h = get_or-take n (drop at l) i 0 h ∙ get_or-drop at l i 0

pub load_le-part : (l : List ℕ) (at n w i : ℕ) → i + w ≤ n → load_le w i (take n (drop at l)) ≡ load_le w (at + i) l
unfolding load_le
load_le-part l at n zero i h = refl
load_le-part l at n (suc w) i h =
    let e : at + (i + w) ≡ at + i + w = omega arith in
    rw (load_le-part l at n w i (omega arith), get_or-part l at n (i + w) (omega arith), e) refl

-- a record's fields, from the bytes in front of which at others stand
pub record_part : (l : List ℕ) (at : ℕ) → record_of (take 16 (drop at l))
    ≡ record { kind = get_or l at 0; width = get_or l (at + 1) 0; flags = get_or l (at + 2) 0; zero = get_or l (at + 3) 0; address = load_le 4 (at + 4) l; value = load_le 4 (at + 8) l; rest = load_le 4 (at + 12) l }
record_part l at =
    rw (
      get_or-part l at 16 0 (omega arith),
      add-zero at,
      get_or-part l at 16 1 (omega arith),
      get_or-part l at 16 2 (omega arith),
      get_or-part l at 16 3 (omega arith),
      load_le-part l at 16 4 4 (omega arith),
      load_le-part l at 16 4 8 (omega arith),
      load_le-part l at 16 4 12 (omega arith),
    )
    refl

-- ---- stores one after the other

pub sets_append : (l : List ℕ) (i : ℕ) (x y : List ℕ) → sets l i (x ++ y) ≡ sets (sets l i x) (i + length x) y
sets_append l i [] y = rw (add-zero i) refl
sets_append l i (a ∷ x) y =
    let e : i + suc (length x) ≡ suc i + length x = omega arith in
    rw e (sets_append (set l i a) (suc i) x y)

bytes_snoc : (w d : ℕ) → bytes_of (suc w) d ≡ bytes_of w d ++ (d / 256 ^ w % 256 ∷ [])
unfolding bytes_of
bytes_snoc zero d = rw (div-one d) refl
bytes_snoc (suc w) d =
    ap (λ (l : List ℕ). d % 256 ∷ l)
    (bytes_snoc w (d / 256) ∙ rw (div-div-eq-div-mul d 256 (256 ^ w), mul_comm 256 (256 ^ w), ← pow-suc 256 w) refl)

pub store_le-sets : (w a d : ℕ) (l : List ℕ) → store_le w a d l ≡ sets l a (bytes_of w d)
unfolding store_le bytes_of
store_le-sets zero a d l = refl
store_le-sets (suc w) a d l =
    rw (store_le-sets w a d l, bytes_snoc w d, sets_append l a (bytes_of w d) (d / 256 ^ w % 256 ∷ []), length-bytes_of w d) refl

-- ---- an answer

pub length_answer : (a : Answer) (line : ℕ) → length (answer_bytes a line) ≡ 16
unfolding answer_bytes bytes_of
length_answer a line = refl

-- three words one after the other
three : (l : List ℕ) (p x y z : ℕ) → sets l p (bytes_of 4 x ++ (bytes_of 4 y ++ bytes_of 4 z)) ≡ store_le 4 (p + 8) z (store_le 4 (p + 4) y (store_le 4 p x l))
three l p x y z =
    let e : p + 8 ≡ p + 4 + 4 = omega arith in
    rw (
      store_le-sets 4 p x l,
      store_le-sets 4 (p + 4) y (sets l p (bytes_of 4 x)),
      e,
      store_le-sets 4 (p + 4 + 4) z (sets (sets l p (bytes_of 4 x)) (p + 4) (bytes_of 4 y)),
      sets_append l p (bytes_of 4 x) (bytes_of 4 y ++ bytes_of 4 z),
      length-bytes_of 4 x,
      sets_append (sets l p (bytes_of 4 x)) (p + 4) (bytes_of 4 y) (bytes_of 4 z),
      length-bytes_of 4 y,
    )
    refl

-- an answer stored byte by byte and word by word
pub answer_sets : (l : List ℕ) (at : ℕ) (a : Answer) (line : ℕ)
    → store_le 4 (at + 12) a.count (store_le 4 (at + 8) a.value (store_le 4 (at + 4) a.address
    (set (set (set (set l at a.code) (at + 1) a.target) (at + 2) line) (at + 3) 0)))
    ≡ sets l at (answer_bytes a line)
unfolding answer_bytes
answer_sets l at a line =
    let e₁ : at + 1 ≡ suc at = omega arith in
    let e₂ : at + 2 ≡ suc (suc at) = omega arith in
    let e₃ : at + 3 ≡ suc (suc (suc at)) = omega arith in
    let e₄ : at + 4 ≡ suc (suc (suc (suc at))) = omega arith in
    let e₈ : at + 8 ≡ suc (suc (suc (suc at))) + 4 = omega arith in
    let e₁₂ : at + 12 ≡ suc (suc (suc (suc at))) + 8 = omega arith in
    rw (e₁, e₂, e₃, e₄, e₈, e₁₂) (sym (three _ (suc (suc (suc (suc at)))) a.address a.value a.count))
