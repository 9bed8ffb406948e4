-- Rules 3 and 4 alone go by PAMR and FDHC, and neither reaches a protected byte, whatever the two hold.
use Rattle.std.proofs.Common.{ℕ, ◌≤◌, ◌<◌, ◌≡◌, refl, sym, ap, ◌∙◌, List, Bool, true, false, get_or, set, get_or-set_other, ltb-true, ltb-false, arith}
use Rattle.std.proofs.lemmas.Bool.{both_ways}
use Rattle.gmch.specs.Choice.{◌and◌}
use Rattle.gmch.specs.Records.{well_formed, is_management}
use Rattle.gmch.specs.Smram.{usmm}
use Rattle.gmch.specs.Look.{Look}
use Rattle.gmch.specs.Config.{smram_of}
use Rattle.gmch.specs.Machine.{Machine}
use Rattle.gmch.specs.Map.{Tom, map_from, map_of, Shadow, usable, shadow_target, main_target, route_of, master_target, protected_at}
use Rattle.gmch.specs.Access.{resolved, target_in, location_of, target_of}
use Rattle.gmch.specs.Isolation.{is_protected, lands}
use Rattle.gmch.specs.declared.Board.{Board}
use Rattle.gmch.specs.declared.Map.{Map}
use Rattle.gmch.specs.declared.Access.{Access}
use Rattle.gmch.specs.declared.Record.{Record}
use Rattle.gmch.specs.declared.Route.{Route}
use Rattle.gmch.specs.declared.Target.{Target}
use Rattle.gmch.proofs.Choice.{pick_elim, pick_elim₂}
use Rattle.gmch.proofs.Protect.{segment_fits, free_high}
use Rattle.shadow.specs.Unmoved.{steered, ends_protected, ProtectionUnmoved}

-- ---- any two values of the registers, under one map

-- the target is in protected memory
abbrev hits : Map → Target → Bool
hits m t = is_protected (protected_at m.tom m.smram) (location_of t)

-- one target, or two that are not
data Alike (m : Map) : Target → Target → Type 0 where
  same : {t : Target} → Alike m t t
  free : {t t' : Target} → hits m t ≡ false → hits m t' ≡ false → Alike m t t'

alike_hits : (m : Map) {t t' : Target} → Alike m t t' → hits m t' ≡ hits m t
alike_hits m same = refl
alike_hits m (free e e') = e' ∙ sym e

alike_place : (m : Map) {t t' : Target} → Alike m t t' → hits m t ≡ true → t' ≡ t
alike_place m same h = refl
alike_place m (free e e') h = absurd (both_ways _ e h)

module _ (m : Map) (z : Tom m.tom) where
  Free : Target → Type 0
  Free t = hits m t ≡ false

  -- rule 3
  shadow_free : (pamr : ℕ) (write : Bool) (p : ℕ) → 0xC0000 ≤ p → p < 0x100000 → Free (shadow_target pamr write p)
  unfolding Free shadow_target location_of is_protected
  shadow_free pamr write p l u =
      let g = segment_fits (usmm m.smram) in
      pick_elim Free _ (λ _. free_high m.tom m.smram p l (omega arith)) (λ _. refl)

  -- rule 4
  main_free : (hole : Bool) (p : ℕ) → 0x100000 ≤ p → p < usable m → Free (main_target hole p)
  unfolding Free main_target location_of is_protected
  main_free hole p l u = pick_elim Free _ (λ _. refl) (λ _. free_high m.tom m.smram p (omega arith) (omega arith))

  module _ (q q' : Shadow) (a : Access) where
    master_alike : Alike m (master_target m q a) (master_target m q' a)
    unfolding Free master_target
    master_alike =
        pick_elim₂ (Alike m) _ (λ _. same) (λ _.
        pick_elim₂ (Alike m) _ (λ _. same) (λ l.
        pick_elim₂ (Alike m) _ (λ u. free (shadow_free _ _ _ (ltb-false _ _ l) (ltb-true _ _ u)) (shadow_free _ _ _ (ltb-false _ _ l) (ltb-true _ _ u))) (λ l.
        pick_elim₂ (Alike m) _ (λ u. free (main_free _ _ (ltb-false _ _ l) (ltb-true _ _ u)) (main_free _ _ (ltb-false _ _ l) (ltb-true _ _ u))) (λ _. same))))

    route_alike : (fences : List ℕ) (control : ℕ) (look : ℕ → Look)
        → Alike m (resolved m fences control look a (route_of m q a)) (resolved m fences control look a (route_of m q' a))
    unfolding Free route_of resolved
    route_alike fences control look =
        pick_elim₂ R _ (λ _. same) (λ _.
        pick_elim₂ R _ (λ _. same) (λ l.
        pick_elim₂ R _ (λ u. free (shadow_free _ _ _ (ltb-false _ _ l) (ltb-true _ _ u)) (shadow_free _ _ _ (ltb-false _ _ l) (ltb-true _ _ u))) (λ l.
        pick_elim₂ R _ (λ u. free (main_free _ _ (ltb-false _ _ l) (ltb-true _ _ u)) (main_free _ _ (ltb-false _ _ l) (ltb-true _ _ u))) (λ _. same))))
      where
        R : Route → Route → Type 0
        R r r' = Alike m (resolved m fences control look a r) (resolved m fences control look a r')

    target_alike : (cf8 : ℕ) (fences : List ℕ) (control : ℕ) (look : ℕ → Look) (kind : ℕ)
        → Alike m (target_in m q cf8 fences control look kind a) (target_in m q' cf8 fences control look kind a)
    unfolding target_in
    target_alike cf8 fences control look kind =
        pick_elim₂ (Alike m) _ (λ _. same) (λ _.
        pick_elim₂ (Alike m) _ (λ _. same) (λ _.
        pick_elim₂ (Alike m) _ (λ _. route_alike fences control look) (λ _. master_alike)))

-- ---- the machine with other bytes in the two

-- device 0's other bytes stay
other_byte : (dev0 : List ℕ) (pamr fdhc i : ℕ) → (i ≡ 0x51 → ⊥) → (i ≡ 0x58 → ⊥) → get_or (set (set dev0 0x51 pamr) 0x58 fdhc) i 0 ≡ get_or dev0 i 0
other_byte dev0 pamr fdhc i p q = get_or-set_other (set dev0 0x51 pamr) 0x58 i fdhc 0 q ∙ get_or-set_other dev0 0x51 i pamr 0 p

module _ (b : Board) (x : Machine) (pamr fdhc : ℕ) where
  abbrev y : Machine
  y = steered x pamr fdhc

  smram_same : smram_of y.state ≡ smram_of x.state
  smram_same = other_byte x.state.dev0 pamr fdhc 0x70 (λ e. omega arith) (λ e. omega arith)

  -- so the map is the same
  map_same : map_of b y.state ≡ map_of b x.state
  map_same = let e = other_byte x.state.dev0 pamr fdhc 0x72 (λ e. omega arith) (λ e. omega arith) in rw (smram_same, e) refl

  ends_alike : Tom b.tom → (r : Record) → Alike (map_of b x.state) (target_of b x r) (target_of b y r)
  unfolding target_of map_from
  ends_alike z r = rw map_same (target_alike (map_of b x.state) z _ _ _ _ _ _ _ _)

pub protection_unmoved : ProtectionUnmoved
unfolding lands map_from
protection_unmoved b x pamr fdhc z =
    let m = map_of b x.state in
    let s = smram_same b x pamr fdhc in
    let alike = ends_alike b x pamr fdhc z in
    let e : (r : Record) → ends_protected b (steered x pamr fdhc) r ≡ ends_protected b x r = λ r. rw s (alike_hits m (alike r)) in
    record {
      bytes = λ p. rw s refl;
      ends = e;
      places = λ r h. alike_place m (alike r) h;
      landings = λ r. ap (λ (t : Bool). well_formed r and (is_management r and t)) (e r);
    }
