-- Code 16: it bars the entries that code 6 refuses at use, and passes by what ends in protected memory.
use Rattle.std.proofs.Common.{Ok, ℕ, zero, suc, ◌/◌, ◌%◌, ◌<◌, ◌≡◌, refl, ap, ◌∙◌, Bool, true, false, not, leb, eqb, eqb-true, eq-eqb, ne_eqb, leb-true, arith}
use Rattle.std.proofs.lemmas.Bool.{false≢true, eqb-false, both_ways, not-true}
use Rattle.gmch.specs.Choice.{◌and◌, ◌or◌}
use Rattle.gmch.specs.Look.{Reach, denied}
use Rattle.gmch.specs.Map.{Tom, protected_at}
use Rattle.gmch.specs.Table.{page_of, foreign, foreign_reach, entry_reach, forbidden}
use Rattle.gmch.specs.Access.{is_table_word, barred, settled, location_of}
use Rattle.gmch.specs.Isolation.{is_protected}
use Rattle.gmch.specs.declared.Map.{Map}
use Rattle.gmch.specs.declared.Access.{Access}
use Rattle.gmch.specs.declared.Place.{Place}
use Rattle.gmch.specs.declared.Place.TheVariants.{InMain, InCache}
use Rattle.gmch.specs.declared.Target.{Target}
use Rattle.gmch.specs.declared.Target.TheVariants.{Refused}
use Rattle.gmch.proofs.Choice.{choices, pick_elim, and_left, and_right}
use Rattle.gmch.proofs.Protect.{free_above}
use Rattle.gmch.proofs.Fence.{same_refusal}
use Rattle.gmch.proofs.Routing.{Safe, refused_safe, memory_safe, cache_safe, register_safe, hub_safe, error_safe, vga_safe, mapped_safe, entry_safe, cache_register_safe}

-- ---- what is forbidden

-- types 00 and 11 are those that are not foreign
pub main_type : (entry : ℕ) → (eqb (entry / 2 % 4) 0 or eqb (entry / 2 % 4) 3) ≡ not (foreign entry)
unfolding foreign ◌or◌
main_type entry = by (entry / 2 % 4) (omega arith)
  where
    by : (k : ℕ) → k < 4 → (eqb k 0 or eqb k 3) ≡ not (eqb k 1 or eqb k 2)
    by zero h = refl
    by (suc zero) h = refl
    by (suc (suc zero)) h = refl
    by (suc (suc (suc zero))) h = refl
    by (suc (suc (suc (suc k)))) h = absurd (omega arith)

module _ (m : Map) (z : Tom m.tom) (entry o : ℕ) where
  -- refused with 6 at use
  pub forbidden_six : forbidden m entry ≡ true → entry_reach m entry o ≡ denied 6 o
  unfolding forbidden entry_reach
  forbidden_six f =
      let valid : entry % 2 ≡ 1 = eqb-true _ _ (and_left _ _ f) in
      let hidden = and_right _ _ (and_right _ _ f) in
      let main : foreign entry ≡ false = not-true _ (rw (main_type entry) at (and_left _ _ (and_right _ _ f))) in
      simp (ne_eqb (entry % 2) 0 (λ e. omega arith), main, below hidden, hidden, choices)
    where
      below : protected_at m.tom m.smram (page_of entry) ≡ true → leb m.tom (page_of entry) ≡ false
      below e = by (leb m.tom (page_of entry)) refl
        where
          by : (t : Bool) → leb m.tom (page_of entry) ≡ t → t ≡ false
          by false h = refl
          by true h = absurd (both_ways _ (free_above m.tom m.smram (page_of entry) z (leb-true _ _ h)) e)

  -- and no others are
  pub six_forbidden : entry_reach m entry o ≡ denied 6 o → forbidden m entry ≡ true
  unfolding forbidden entry_reach foreign_reach
  six_forbidden =
      pick_elim P _ (λ _ e. other 4 (λ q. omega arith) e) (λ valid. pick_elim P _ (λ _.
      pick_elim P _ (λ _. pick_elim P _ (λ _ e. other 7 (λ q. omega arith) e) (λ _ e. cached e)) (λ _ e. other 5 (λ q. omega arith) e)) (λ main.
      pick_elim P _ (λ _ e. other 7 (λ q. omega arith) e) (λ _. pick_elim P _ (λ hidden _. so valid main hidden) (λ _ e. reached e))))
    where
      P : Reach Place → Type 0
      P r = r ≡ denied 6 o → forbidden m entry ≡ true

      other : (c : ℕ) → (c ≡ 6 → ⊥) → denied {A = Place} c o ≡ denied 6 o → forbidden m entry ≡ true
      other c n e = absurd (n (same_refusal e).0)

      cached : {p : ℕ} → Ok (InCache p) ≡ denied 6 o → forbidden m entry ≡ true
      cached e = let q : ◌≡◌ {A = ℕ} 0 1 = cc in absurd (omega arith)

      reached : {p : ℕ} → Ok (InMain p) ≡ denied 6 o → forbidden m entry ≡ true
      reached e = let q : ◌≡◌ {A = ℕ} 0 1 = cc in absurd (omega arith)

      so : eqb (entry % 2) 0 ≡ false → foreign entry ≡ false → protected_at m.tom m.smram (page_of entry) ≡ true → forbidden m entry ≡ true
      so valid main hidden =
          let n = eqb-false (entry % 2) 0 valid in
          simp (eq-eqb (entry % 2) 1 (omega arith), main_type entry ∙ ap not main, hidden, choices)

-- ---- where an access ends after all

module _ (m : Map) (a : Access) (v : ℕ) (t : Target) where
  -- refused with 16, or where it ended
  pub settled_elim : (P : Target → Type 0) → P (Refused 16 0) → ((a.write and (is_table_word t and barred m v)) ≡ false → P t) → P (settled m a v t)
  unfolding settled
  settled_elim P h k = pick_elim P _ (λ _. h) k

  pub settled_refused : (a.write and (is_table_word t and barred m v)) ≡ true → settled m a v t ≡ Refused 16 0
  unfolding settled
  settled_refused e = simp (e, choices)

  pub settled_passed : (a.write and (is_table_word t and barred m v)) ≡ false → settled m a v t ≡ t
  unfolding settled
  settled_passed e = simp (e, choices)

  -- what is no word of the table
  pub settled_plain : is_table_word t ≡ false → settled m a v t ≡ t
  unfolding settled
  settled_plain e = simp (e, choices)

  -- what lies in protected memory is no word of the table, so it ends there whatever the data
  pub settled_hidden : {tom smram : ℕ} {cache : Bool} → Safe tom smram cache a t → is_protected (protected_at tom smram) (location_of t) ≡ true
      → settled m a v t ≡ t
  unfolding is_table_word location_of is_protected
  settled_hidden {tom} {smram} {cache} s e = settled_plain (no_word s e)
    where
      no_word : {t : Target} → Safe tom smram cache a t → is_protected (protected_at tom smram) (location_of t) ≡ true → is_table_word t ≡ false
      no_word refused_safe e = refl
      no_word (memory_safe p l h n) e = refl
      no_word (cache_safe p o l h) e = refl
      no_word (register_safe n _) e = refl
      no_word hub_safe e = refl
      no_word error_safe e = refl
      no_word vga_safe e = refl
      no_word mapped_safe e = absurd (false≢true e)
      no_word (entry_safe p l h n) e = absurd (both_ways (protected_at tom smram p) n e)
      no_word cache_register_safe e = refl

-- the same of a target that is known
pub settled_is : (m : Map) (a : Access) (v : ℕ) {t t' : Target} → t ≡ t' → is_table_word t' ≡ false → settled m a v t ≡ t'
settled_is m a v {t} {t'} k e = rw k (settled_plain m a v t' e)
