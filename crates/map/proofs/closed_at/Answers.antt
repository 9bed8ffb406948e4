use Rattle.std.proofs.Common.{ℕ, ◌≤◌, ◌-◌, ◌≡◌, refl, ◌∙◌, Bool, true, false, ◌&&◌, ◌||◌, arith, leb, ltb, leb-true, leb-false, ltb-false}
use Rattle.gmch.specs.Choice.{◌and◌, ◌or◌}
use Rattle.gmch.specs.Words.{within}
use Rattle.gmch.specs.Smram.{tseg_size}
use Rattle.gmch.specs.Map.{low_protected, protected_at}
use Rattle.map.proofs.closed_at.Goals as goal

-- what starts below TOM and ends there goes on above it
goes_on : (low : Bool) (start tom a : ℕ) → start ≤ tom → (leb start a or low) ≡ ((low or (leb start a and ltb a tom)) or leb tom a)
unfolding ◌and◌ ◌or◌
goes_on low start tom a h = by low (leb start a) (ltb a tom) (leb tom a) refl refl refl
  where
    by : (l x y z : Bool) → leb start a ≡ x → ltb a tom ≡ y → leb tom a ≡ z → (x or l) ≡ ((l or (x and y)) or z)
    by true true y z p q r = refl
    by true false y z p q r = refl
    by false true true z p q r = refl
    by false true false true p q r = refl
    by false true false false p q r = absurd (omega (arith, ltb-false a tom q, leb-false tom a r))
    by false false y true p q r = absurd (omega (arith, leb-false start a p, leb-true tom a r))
    by false false y false p q r = refl

pub returns : goal.returns
unfolding protected_at ◌and◌ ◌or◌
returns c =
    let s = c.args in
    let tested : (leb c.tseg_start-tseg.result s.a || (c.low_protected.result && c.within.result))
    ≡ (leb (s.tom - tseg_size s.smram) s.a or (low_protected s.smram and within 0xA0000 0x20000 s.a)) =
    cc in
    tested ∙ goes_on _ (s.tom - tseg_size s.smram) s.tom s.a (omega arith)
