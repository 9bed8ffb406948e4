-- Each arm says what the kind is, and the definition's tests of it compute; the last says what it is not.
use Rattle.std.proofs.Common.{ℕ, ◌≤◌, ◌≡◌, refl, sym, Bool, true, false, ◌≢◌, arith, leb, leb-true}
use Rattle.gmch.specs.Choice.{◌and◌, ◌or◌}
use Rattle.gmch.specs.Records.{is_write, takes_data, is_processor, well_formed}
use Rattle.gmch.specs.declared.Record.{Record}
use Rattle.gmch.proofs.Choice.{and_off, and_left, and_right}
use Rattle.records.proofs.well_formed.Goals as goal

outside : (r : Record) → (1 ≤ r.kind → r.kind ≤ 9 → ⊥) → false ≡ well_formed r
unfolding well_formed
outside r n = sym (and_off _ (by (leb 1 r.kind and leb r.kind 9) refl))
  where
    by : (x : Bool) → (leb 1 r.kind and leb r.kind 9) ≡ x → x ≡ false
    by true e = absurd (n (leb-true _ _ (and_left _ _ e)) (leb-true _ _ (and_right (leb 1 r.kind) _ e)))
    by false e = refl

-- no kind: two steps, since each inequality doubles omega's work
from-6 : (k : ℕ) → k ≢ 1 → k ≢ 2 → k ≢ 3 → k ≢ 4 → k ≢ 5 → 1 ≤ k → 6 ≤ k
from-6 k n1 n2 n3 n4 n5 h = omega arith

past-9 : (k : ℕ) → k ≢ 6 → k ≢ 7 → k ≢ 8 → k ≢ 9 → 6 ≤ k → k ≤ 9 → ⊥
past-9 k n6 n7 n8 n9 h g = omega arith

pub returns-in-1 : goal.returns-in-1
returns-in-1 c = unfold well_formed is_processor takes_data is_write ◌and◌ ◌or◌ in rw c.in-1.is

pub returns-in-2 : goal.returns-in-2
returns-in-2 c = unfold well_formed is_processor takes_data is_write ◌and◌ ◌or◌ in rw c.in-2.is

pub returns-in-3 : goal.returns-in-3
returns-in-3 c = unfold well_formed is_processor takes_data is_write ◌and◌ ◌or◌ in rw c.in-3.is

pub returns-in-4 : goal.returns-in-4
returns-in-4 c = unfold well_formed is_processor takes_data is_write ◌and◌ ◌or◌ in rw c.in-4.is

pub returns-in-5 : goal.returns-in-5
returns-in-5 c = unfold well_formed is_processor takes_data is_write ◌and◌ ◌or◌ in rw c.in-5.is

pub returns-in-6 : goal.returns-in-6
returns-in-6 c = unfold well_formed is_processor takes_data is_write ◌and◌ ◌or◌ in rw c.in-6.is

pub returns-in-7 : goal.returns-in-7
returns-in-7 c = unfold well_formed is_processor takes_data is_write ◌and◌ ◌or◌ in rw c.in-7.is

pub returns-in-8 : goal.returns-in-8
returns-in-8 c = unfold well_formed is_processor takes_data is_write ◌and◌ ◌or◌ in rw c.in-8.is

pub returns-in-9 : goal.returns-in-9
returns-in-9 c = unfold well_formed is_processor takes_data is_write ◌and◌ ◌or◌ in rw c.in-9.is

pub returns-in_default : goal.returns-in_default
returns-in_default c =
    let n = c.in_default.in_default-own.rest in
    let m = n.0.0.0.0 in
    outside _ (λ h g. past-9 _ n.0.0.0.1 n.0.0.1 n.0.1 n.1 (from-6 _ m.0.0.0.0.1 m.0.0.0.1 m.0.0.1 m.0.1 m.1 h) g)
