-- A call whose arguments are wrong, and one whose arguments are right.
use Rattle.std.proofs.Common.{ℕ, ◌/◌, ◌%◌, ◌≡◌, refl, ap, List, true, false, length, leb-true, eqb-true}
use Rattle.gmch.specs.Machine.{cache_length, Machine, machine, lent}
use Rattle.gmch.specs.Map.{Tom}
use Rattle.gmch.specs.Replay.{Replayed, cold_start, cold_table, cold_machine, replay}
use Rattle.gmch.specs.Call.{good_call, cut, joined, call}
use Rattle.gmch.specs.declared.Board.{Board}
use Rattle.gmch.specs.declared.State.{State}
use Rattle.gmch.proofs.Choice.{choices, and_left, and_right}
use Rattle.replay.specs.Flat.{Replays}
use Rattle.desk.specs.Calls.{Calls}

-- what right arguments come to
pub record Good (b : Board) (records answers cache : ℕ) : Type 0 where
  pub tom : Tom b.tom
  pub whole : records % 16 ≡ 0
  pub same : answers ≡ records
  pub lends : cache ≡ cache_length b.kind

pub good : (b : Board) (records answers cache : ℕ) → good_call b records answers cache ≡ true → Good b records answers cache
unfolding good_call
good b records answers cache e =
    let rest = and_left _ _ e in
    let tom = and_right _ _ (and_left _ _ (and_left _ _ rest)) in
    record {
      tom = record {
        least = leb-true _ _ (and_left _ _ (and_left _ _ tom));
        most = leb-true _ _ (and_right _ _ (and_left _ _ tom));
        whole = eqb-true _ _ (and_right _ _ tom);
      };
      whole = eqb-true _ _ (and_left _ _ (and_right _ _ (and_left _ _ rest)));
      same = eqb-true _ _ (and_right _ _ rest);
      lends = eqb-true _ _ (and_right _ _ e);
    }

module _ (kind : ℕ) (main records answers cache : List ℕ) where
  abbrev b : Board
  b = record { kind = kind; tom = length main }

  abbrev R : Replayed
  R = replay b (machine (cold_start kind) cold_table main cache) (cut (length records / 16) records)

  pub refused : good_call b (length records) (length answers) (length cache) ≡ false
      → Calls kind (lent main cache) records answers 1 (lent main cache) answers
  unfolding call
  refused e = simp (e, choices)

  pub replayed : good_call b (length records) (length answers) (length cache) ≡ true
      → (s s' : State) (table table' main' cache' answers' : List ℕ) → s ≡ cold_start kind → table ≡ cold_table
      → Replays b (machine s table main cache) records (machine s' table' main' cache') answers'
      → Calls kind (lent main cache) records answers 0 (lent main' cache') answers'
  unfolding call cold_machine
  replayed e s s' table table' main' cache' answers' es et q =
      let m : lent main' cache' ≡ R.after.memories = rw (← es, ← et) (ap (λ (y : Machine). y.memories) q.machines) in
      let a : answers' ≡ joined R.answers = rw (← es, ← et) q.answers in
      simp (e, choices) (rw (m, a) refl)
