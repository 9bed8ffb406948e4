-- The bytes that an access takes are there.
use Rattle.std.proofs.Common.{ℕ, ◌%◌, ◌≤◌, ◌≡◌, refl, List, Bool, true, false, arith, length}
use Rattle.gmch.specs.Look.{Look}
use Rattle.gmch.specs.Records.{fits_word}
use Rattle.gmch.specs.Map.{Tom, Sized, Cached, map_of, Shadow, route_of}
use Rattle.gmch.specs.Machine.{cache_size, cache_length}
use Rattle.gmch.specs.Access.{target_in}
use Rattle.gmch.specs.declared.Board.{Board}
use Rattle.gmch.specs.declared.State.{State}
use Rattle.gmch.specs.declared.Map.{Map}
use Rattle.gmch.specs.declared.Access.{Access}
use Rattle.gmch.specs.declared.Target.{Target}
use Rattle.gmch.specs.declared.Target.TheVariants.{Refused}
use Rattle.gmch.specs.declared.Route.{Route}
use Rattle.gmch.proofs.Choice.{choices}
use Rattle.gmch.proofs.Routing.{Safe, refused_safe, memory_safe, cache_safe, register_safe, hub_safe, error_safe, vga_safe, mapped_safe, entry_safe, cache_register_safe, sized, cached, target_safe, SafeRoute, to_safe, registers_safe, offset_safe, route_safe}
use Rattle.graphics.specs.declared.translation.Translation.{Translation}
use Rattle.words.specs.Width.{Width}
use Rattle.words.proofs.Width.{fits_width}
use Rattle.access.specs.Decide.{Reachable, InWindow}

-- ---- what a decision asks

pub ready : (b : Board) (s : State) (table main cache : List ℕ) (m : Map) → m ≡ map_of b s → Tom b.tom → length table ≡ 16384 → length main ≡ b.tom
    → length cache ≡ cache_length b.kind → (m ≡ map_of b s) × Sized m table main × Cached m cache
ready b s table main cache m e z l k n = (e, rw e (sized b s table main z l k), rw e (cached b s cache n))

-- ---- the window

in_window : {tom smram n : ℕ} {cache : Bool} {a : Access} {r : Route} → n ≤ 0x4000000 → SafeRoute tom smram cache n a r → InWindow r
in_window h (to_safe e) = tt
in_window h registers_safe = tt
in_window h (offset_safe o l k) = omega arith

-- the route of an access that code 2 lets pass
pub route_ready : (table main : List ℕ) (m : Map) (q : Shadow) (a : Access) (r : Route) → Sized m table main → fits_word a.width a.address ≡ true
    → r ≡ route_of m q a → Sized m table main × InWindow r
route_ready table main m q a r z f k =
    let h = (fits_width a.width a.address f).1 in
    rw k (z, in_window z.1 (route_safe m z.0 a h q z.2))

-- the same of a translation, which holds that it is sized
pub route_inside : (t : Translation) (q : Shadow) (a : Access) (r : Route) → fits_word a.width a.address ≡ true → r ≡ route_of t.map q a → InWindow r
route_inside t q a r f k = (route_ready _ _ t.map q a r t.sized f k).1

-- ---- targets

reachable : {tom smram size : ℕ} {cache : Bool} {a : Access} {t : Target} → Tom tom → (cache ≡ true → size ≡ cache_size) → Width a.width
    → Safe tom smram cache a t → Reachable tom size a.width t
reachable z c d refused_safe = tt
reachable z c d (memory_safe p l h n) = (d, omega arith)
reachable z c d (cache_safe p on l h) = let e = c on in (d, omega arith)
reachable z c d (register_safe n k) = k
reachable z c d hub_safe = tt
reachable z c d error_safe = tt
reachable z c d vga_safe = tt
reachable z c d mapped_safe = tt
reachable z c d (entry_safe p l h n) = omega arith
reachable z c d cache_register_safe = tt

module _ (m : Map) (q : Shadow) (cf8 : ℕ) (fences : List ℕ) (control : ℕ) (look : ℕ → Look) (kind : ℕ) (a : Access) where
  abbrev t : Target
  t = target_in m q cf8 fences control look kind a

  misfit_refused : fits_word a.width a.address ≡ false → t ≡ Refused 2 0
  unfolding target_in
  misfit_refused e = simp (e, choices)

  pub target_reachable : (cache : List ℕ) → Tom m.tom → m.gmadr % 4 ≡ 0 → Cached m cache → Reachable m.tom (length cache) a.width t
  target_reachable cache z g c = by (fits_word a.width a.address) refl
    where
      by : (f : Bool) → fits_word a.width a.address ≡ f → Reachable m.tom (length cache) a.width t
      by true e = reachable z c.whole (fits_width a.width a.address e).0 (target_safe m q cf8 fences control look kind a z g)
      by false e = rw (misfit_refused e) tt
