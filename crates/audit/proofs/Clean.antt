-- While the lock is set, no forbidden entry comes into the private table: by induction over the records, each of which stores one
-- entry at most, that code 16 has let pass.
use Rattle.std.proofs.Common.{Ok, ℕ, ◌/◌, ◌<◌, ◌≡◌, refl, sym, ◌∙◌, List, [], ◌∷◌, true, false, get_or, eq-eqb}
use Rattle.std.proofs.lemmas.Bool.{false≢true, lt-leb, not-false}
use Rattle.gmch.specs.Choice.{◌and◌}
use Rattle.gmch.specs.Records.{record_of, access_of, well_formed}
use Rattle.gmch.specs.Smram.{lock_bit}
use Rattle.gmch.specs.Config.{smram_of}
use Rattle.gmch.specs.Machine.{Machine}
use Rattle.gmch.specs.Map.{map_from, map_of}
use Rattle.gmch.specs.Table.{page_of, forbidden, look_in, look_of}
use Rattle.gmch.specs.Mapped.{stored, table_written}
use Rattle.gmch.specs.Access.{is_table_word, barred, target_of, Out, act}
use Rattle.gmch.specs.Replay.{parser_run, one_record, replay}
use Rattle.gmch.specs.Isolation.{is_reset, NoReset}
use Rattle.gmch.specs.declared.Board.{Board}
use Rattle.gmch.specs.declared.Map.{Map}
use Rattle.gmch.specs.declared.State.{State}
use Rattle.gmch.specs.declared.Access.{Access}
use Rattle.gmch.specs.declared.Record.{Record}
use Rattle.gmch.specs.declared.Target.{Target}
use Rattle.gmch.specs.declared.Target.TheVariants.{Refused, Memory, Cache, Register, Hub, HubError, Vga, Mapped, Entry, CacheRegister}
use Rattle.gmch.proofs.Choice.{choices, pick_elim}
use Rattle.gmch.proofs.Config.{set_at}
use Rattle.gmch.proofs.Protect.{protected_upper}
use Rattle.gmch.proofs.Settled.{settled_elim}
use Rattle.gmch.proofs.Locked.{Locked}
use Rattle.gmch.proofs.OneRecord.{never_reset}
use Rattle.gmch.proofs.OneRun.{record_locked}
use Rattle.audit.specs.Clean.{StaysClean}

-- no entry of the table is forbidden
abbrev Free : Map → List ℕ → Type 0
Free m table = (i : ℕ) → forbidden m (get_or table i 0) ≡ false

-- while the lock is set, the same entries are forbidden: SMRAM's upper bits alone say which
free_still : (b : Board) (s t : State) (table : List ℕ) → smram_of s / 2 ≡ smram_of t / 2 → Free (map_of b s) table → Free (map_of b t) table
unfolding forbidden map_from
free_still b s t table e f i = rw (protected_upper b.tom (smram_of t) (smram_of s) (page_of (get_or table i 0)) (sym e)) (f i)

-- ---- an access, and a record

module _ (b : Board) (x : Machine) (free : Free (map_of b x.state) x.table) where
  abbrev m : Map
  m = map_of b x.state

  abbrev P : Out → Type 0
  P o = Free m o.after.table

  -- where a word of the table is written, only one that is not forbidden
  act_free : (a : Access) (v : ℕ) (t : Target) → (a.write ≡ true → is_table_word t ≡ true → forbidden m (stored v) ≡ false) → P (act x a v t)
  unfolding act is_table_word table_written
  act_free a v (Refused c o) f = free
  act_free a v (Memory p) f = pick_elim P _ (λ _. free) (λ _. free)
  act_free a v (Cache p) f = pick_elim P _ (λ _. free) (λ _. free)
  act_free a v (Register n) f = pick_elim P _ (λ _. free) (λ _. free)
  act_free a v (Hub p) f = free
  act_free a v (HubError p) f = free
  act_free a v (Vga o) f = free
  act_free a v (Mapped o) f =
      pick_elim P _ (λ w. pick_elim (Free m) _
      (λ e i. set_at (λ (z : ℕ). forbidden m z ≡ false) x.table _ i (stored v) (free i) (λ _. f w e))
      (λ _. free)) (λ _. free)
  act_free a v (Entry o p) f = pick_elim P _ (λ _. free) (λ _. free)
  act_free a v (CacheRegister o) f = pick_elim P _ (λ _. free) (λ _. free)

  -- with the lock set, code 16 sees to that
  passed : (a : Access) (v : ℕ) (t : Target) → lock_bit (smram_of x.state) ≡ 1 → (a.write and (is_table_word t and barred m v)) ≡ false
      → a.write ≡ true → is_table_word t ≡ true → forbidden m (stored v) ≡ false
  unfolding barred map_from
  passed a v t lock c w k = simp (w, k, eq-eqb (lock_bit (smram_of x.state)) 1 lock, choices) at c

  record_free : (r : Record) → lock_bit (smram_of x.state) ≡ 1 → is_reset r ≡ false → P (one_record b x r)
  unfolding one_record parser_run is_table_word
  record_free r lock n =
      pick_elim P _ (λ _. free) (λ e.
      let wf : well_formed r ≡ true = not-false _ e in
      pick_elim P _ (λ _. free) (λ _.
      pick_elim P _ (λ k. never_reset r n wf k) (λ _.
      settled_elim m (access_of r) r.value (target_of b x r) (λ (t : Target). P (act x (access_of r) r.value t))
      (act_free (access_of r) r.value (Refused 16 0) (λ _ k. absurd (false≢true k)))
      (λ c. act_free (access_of r) r.value (target_of b x r) (passed (access_of r) r.value (target_of b x r) lock c)))))

-- ---- the whole list

record Still (b : Board) (s : State) (x : Machine) : Type 0 where
  locked : Locked (smram_of s / 2) x.state
  free : Free (map_of b s) x.table

replay_still : (b : Board) (s : State) (x : Machine) (rs : List (List ℕ)) → NoReset rs → Still b s x → Still b s (replay b x rs).after
unfolding replay
replay_still b s x [] n q = q
replay_still b s x (r ∷ rs) n q =
    let l = q.locked in
    let here = free_still b s x.state x.table (sym l.upper) q.free in
    replay_still b s (one_record b x (record_of r)).after rs n.1
    record {
      locked = record_locked b (smram_of s / 2) x (record_of r) l n.0;
      free = free_still b x.state s (one_record b x (record_of r)).after.table l.upper (record_free b x here (record_of r) (rw l.upper l.lock) n.0);
    }

-- on kinds 0 and 1 a lookup reads the private table
private_look : (b : Board) (x : Machine) (i : ℕ) → b.kind < 2 → look_of b x i ≡ Ok (get_or x.table i 0)
unfolding look_in map_from
private_look b x i k = simp (lt-leb 2 b.kind k, choices)

pub stays_clean : StaysClean
stays_clean b x rs kind lock n clean i entry e =
    let s = x.state in
    let y = (replay b x rs).after in
    let q = replay_still b s x rs n record { locked = record { upper = refl; lock = lock }; free = λ j. clean j _ (private_look b x j kind) } in
    let k : Ok (get_or y.table i 0) ≡ Ok entry = sym (private_look b y i kind) ∙ e in
    let same : get_or y.table i 0 ≡ entry = cc in
    rw (← same) (free_still b s y.state y.table (sym q.locked.upper) q.free i)
