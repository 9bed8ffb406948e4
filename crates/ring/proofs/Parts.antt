-- A run by its steps.
use Rattle.std.proofs.Common.{ℕ, ◌+◌, ◌-◌, ◌≤◌, ◌<◌, ◌≡◌, sym, subst, ◌∙◌, Bool, List, arith}
use Rattle.gmch.specs.Machine.{Memories}
use Rattle.gmch.specs.Table.{fetch_in}
use Rattle.gmch.specs.Ring.{step, Parsed, parsed, run, words_left}
use Rattle.gmch.specs.Look.{Look}
use Rattle.gmch.specs.declared.Map.{Map}
use Rattle.gmch.specs.declared.Regs.{Regs}
use Rattle.gmch.specs.declared.Step.{Step}
use Rattle.gmch.specs.declared.Ran.{Ran}
use Rattle.gmch.proofs.Steps.{count_words}

-- the map with its flag as a constant is the map
pub at_flag : (m : Map) (control : ℕ) (table : List ℕ) (memories : Memories) (r : Regs) {b : Bool} {s t : Step} → m.cache ≡ b
    → s ≡ step (fetch_in (record m { cache = b }) control table memories) r → s ≡ t → step (fetch_in m control table memories) r ≡ t
at_flag m control table memories r {b} {s} e f g =
    let P : Bool → Type 0 = λ (b : Bool). s ≡ step (fetch_in (record m { cache = b }) control table memories) r in
    sym (subst P (sym e) f) ∙ g

-- a count that goes down from the budget is one that goes up: one step less is left, then none
pub one_less : (fetch : Memories → ℕ → Look) (budget left : ℕ) (r : Regs) (memories : Memories) (q : Parsed) → 0 < left → left ≤ budget
    → run fetch (budget - (budget - left + 1)) (budget - left + 1) r memories ≡ q
    → run fetch (budget - (budget - (left - 1))) (budget - (left - 1)) r memories ≡ q
one_less fetch budget left r memories q h l rest = let e : budget - left + 1 ≡ budget - (left - 1) = omega arith in rw e at rest

pub none_left : (fetch : Memories → ℕ → Look) (budget count : ℕ) (r : Regs) (memories : Memories) {q : Parsed} → count ≡ budget
    → run fetch (budget - count) count r memories ≡ q → parsed 0 r budget memories ≡ q
unfolding run
none_left fetch budget count r memories e rest = let z : budget - budget ≡ 0 = omega arith in rw (e, z) at rest

-- it completes no more steps than there are words left
pub counted : (fetch : Memories → ℕ → Look) (budget : ℕ) (r : Regs) (memories : Memories) {x : Ran} → x ≡ (run fetch budget 0 r memories).ran
    → (x ≡ (run fetch budget 0 r memories).ran) × (x.count ≤ words_left r)
counted fetch budget r memories e = (e, rw e (count_words _ _ _ _))
