-- Two functions that give the same up to a bound, closed by computing; the library's `agree_below` has this of tests alone.
use Rattle.std.proofs.Common.{◌≡◌, List, [], ◌∷◌, ℕ, zero, suc, ◌<◌, arith}
use Rattle.std.proofs.Math.Decide.{ℕ_discrete}

-- what f gives below n
unfoldable pub table : {A : Type 0} → (ℕ → A) → ℕ → List A
table f zero = []
table f (suc n) = f n ∷ table f n

pub same_at : {A : Type 0} (f g : ℕ → A) (n : ℕ) → table f n ≡ table g n → (i : ℕ) → i < n → f i ≡ g i
unfolding table
same_at f g zero e i h = absurd (omega arith)
same_at f g (suc n) e i h =
    elim (ℕ_discrete i n) [
      | yes q ↦ rw q (cc)
      | no q ↦ same_at f g n (cc) i (omega (arith, q))
    ]
