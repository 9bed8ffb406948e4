-- The fences from i on give what all of them give.
use Rattle.std.proofs.Common.{◌≡◌, ℕ, ◌+◌, ◌<◌, refl, sym, ap, ◌∙◌, List, length, drop, get_or, Ok, true, false, ◌≤◌, arith}
use Rattle.std.proofs.Math.Numerals.{add-one}
use Rattle.std.proofs.Math.ListN.{drop_of_length-le}
use Rattle.std.proofs.Math.Seq.{drop-cons}
use Rattle.std.proofs.lemmas.List.{ext_get_or}
use Rattle.gmch.specs.Choice.{pick}
use Rattle.gmch.specs.Fence.{fence_matches, fence_reach, fenced}
use Rattle.gmch.proofs.Choice.{pick_true, pick_false, flag}
use Rattle.graphics.proofs.fence.Goals as goal

step : (l : List ℕ) (i o : ℕ) → i < length l
    → fenced (drop i l) o ≡ pick (fence_matches (get_or l i 0) o) (fence_reach (get_or l i 0) o) (fenced (drop (i + 1) l) o)
unfolding fenced
step l i o h = rw (drop-cons l i 0 h, add-one)

-- what holds of the numbers of all eight
each : (P : ℕ → Type 0) → P 0 → P 1 → P 2 → P 3 → P 4 → P 5 → P 6 → P 7 → (i : ℕ) → i < 8 → P i
each P a b c d e f g h i l = grind arith

-- eight that are the fences, one by one
same : {xs : List ℕ} (ys : List ℕ) → length xs ≡ 8 → length ys ≡ 8
    → get_or xs 0 0 ≡ get_or ys 0 0 → get_or xs 1 0 ≡ get_or ys 1 0 → get_or xs 2 0 ≡ get_or ys 2 0 → get_or xs 3 0 ≡ get_or ys 3 0
    → get_or xs 4 0 ≡ get_or ys 4 0 → get_or xs 5 0 ≡ get_or ys 5 0 → get_or xs 6 0 ≡ get_or ys 6 0 → get_or xs 7 0 ≡ get_or ys 7 0 → xs ≡ ys
same {xs} ys m n a b c d e f g h =
    ext_get_or 0 xs ys (m ∙ sym n) (λ i l. each (λ (k : ℕ). get_or xs k 0 ≡ get_or ys k 0) a b c d e f g h i (omega (arith, l, m)))

-- the first that matches decides
first : (xs ys : List ℕ) (i o : ℕ) → fenced (drop i xs) o ≡ fenced xs o → xs ≡ ys → i < length xs → fence_matches (get_or xs i 0) o ≡ true
    → fence_reach (get_or xs i 0) o ≡ fenced ys o
first xs ys i o inv e h m = sym (step xs i o h ∙ pick_true _ _ m) ∙ inv ∙ ap (λ (x : List ℕ). fenced x o) e

-- one that does not match is passed
next : (xs : List ℕ) (i o : ℕ) → fenced (drop i xs) o ≡ fenced xs o → i < length xs → fence_matches (get_or xs i 0) o ≡ false
    → fenced (drop (i + 1) xs) o ≡ fenced xs o
next xs i o inv h m = sym (step xs i o h ∙ pick_false _ _ m) ∙ inv

-- past the last the offset stays
last : (xs ys : List ℕ) (i o : ℕ) → fenced (drop i xs) o ≡ fenced xs o → xs ≡ ys → length xs ≤ i → Ok o ≡ fenced ys o
unfolding fenced
last xs ys i o inv e h = rw (drop_of_length-le xs {i = i} h) at inv ∙ ap (λ (x : List ℕ). fenced x o) e

pub returns-then-fence_matches : goal.returns-then-fence_matches
returns-then-fence_matches c =
    c.fence_reach.ensures
    ∙ first _ _ c.loop-f.f-index c.args.o c.loop-f.invariant (same c.args.fences (omega arith) (omega arith) refl refl refl refl refl refl refl refl) (omega arith) (flag c.fence_matches.ensures c.if-fence_matches.true)

pub loop-f-preserved : goal.loop-f-preserved
loop-f-preserved c = next _ c.loop-f.f-index c.args.o c.loop-f.invariant (omega arith) (flag c.fence_matches.ensures c.if-fence_matches.false)

pub returns : goal.returns
returns c = last _ _ c.loop-f.f-index c.args.o c.loop-f.invariant (same c.args.fences (omega arith) (omega arith) refl refl refl refl refl refl refl refl) (omega arith)
