use Rattle.std.proofs.Common.{◌≡◌, ℕ, ◌+◌, ◌/◌, ◌%◌, ◌<◌, refl, sym, subst, Bool, true, false, eqb, eqb-true, arith}
use Rattle.std.proofs.lemmas.Bool.{eqb-false}
use Rattle.gmch.specs.Choice.{◌or◌}
use Rattle.gmch.specs.Table.{foreign}
use Rattle.graphics.proofs.foreign.Goals as goal

-- of each of the four types
upper-bit : (t : ℕ) → t < 4 → eqb ((t + 1) / 2 % 2) 1 ≡ (eqb t 1 or eqb t 2)
unfolding ◌or◌
upper-bit t h = by (eqb t 0) (eqb t 1) (eqb t 2) refl refl refl
  where
    P : ℕ → Type 0
    P n = eqb ((n + 1) / 2 % 2) 1 ≡ (eqb n 1 or eqb n 2)

    by : (x y z : Bool) → eqb t 0 ≡ x → eqb t 1 ≡ y → eqb t 2 ≡ z → P t
    by true y z p q r = subst P (sym (eqb-true t 0 p)) refl
    by false true z p q r = subst P (sym (eqb-true t 1 q)) refl
    by false false true p q r = subst P (sym (eqb-true t 2 r)) refl
    by false false false p q r =
        let k : t ≡ 3 = omega (arith, h, eqb-false t 0 p, eqb-false t 1 q, eqb-false t 2 r) in
        subst P (sym k) refl

by-type : (entry : ℕ) → eqb ((entry % 8 + 2) / 4 % 2) 1 ≡ foreign entry
unfolding foreign
by-type entry =
    let e : (entry % 8 + 2) / 4 ≡ (entry / 2 % 4 + 1) / 2 = omega arith in
    rw e (upper-bit (entry / 2 % 4) (omega arith))

pub returns : goal.returns
returns c = by-type c.args.entry
