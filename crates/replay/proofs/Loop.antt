-- The replay over flat bytes is that of the definitions.
use Rattle.std.proofs.Common.{ℕ, zero, suc, ◌+◌, ◌-◌, ◌*◌, ◌/◌, ◌%◌, ◌≤◌, ◌<◌, ◌≡◌, refl, sym, ap, ◌∙◌, List, ◌++◌, append_assoc, append-nil, arith, length, take, drop, length-append, drop-drop, length-take-le, take_at, take_all}
use Rattle.std.proofs.lemmas.List.Edits.{sets, sets-eq}
use Rattle.std.proofs.Math.Nat.{sub-zero}
use Rattle.std.proofs.Math.Seq.{length-sets}
use Rattle.gmch.specs.Records.{record_of, answer_bytes}
use Rattle.gmch.specs.Mapped.{line_of}
use Rattle.gmch.specs.Ring.{with_head}
use Rattle.gmch.specs.Config.{with_regs}
use Rattle.gmch.specs.Machine.{Machine, machine}
use Rattle.gmch.specs.Access.{Out}
use Rattle.gmch.specs.Replay.{one_record, answered, replay}
use Rattle.gmch.specs.Call.{cut, joined}
use Rattle.gmch.specs.declared.Board.{Board}
use Rattle.gmch.specs.declared.State.{State}
use Rattle.gmch.specs.declared.Record.{Record}
use Rattle.access.specs.Decide.{applied, carried}
use Rattle.replay.specs.Flat.{Flat, record_at, replay_from, Replays}
use Rattle.access.specs.declared.Decided.{Decided}
use Rattle.access.specs.declared.Effect.{Effect}
use Rattle.access.specs.declared.Effect.TheVariants.{Ring}
use Rattle.records.proofs.Bytes.{length_answer}

length_answered : (o : Out) → length (answered o) ≡ 16
unfolding answered
length_answered o = length_answer o.answer (line_of o.after.state.regs)

-- what has been answered before and now
answered_more : (answers : List ℕ) (i : ℕ) (a : List ℕ) → length a ≡ 16 → 16 * i + 16 ≤ length answers
    → take (16 * (i + 1)) (sets answers (16 * i) a) ≡ take (16 * i) answers ++ a
answered_more answers i a e h =
    let f : 16 * (i + 1) ≡ 16 * i + 16 = omega arith in
    let g : length (take (16 * i) answers) ≡ 16 * i = length-take-le (16 * i) answers (omega arith) in
    rw (f, sets-eq a answers (16 * i) (omega arith))
    (take_at (take (16 * i) answers ++ a) (drop (16 * i + length a) answers) (16 * i + 16) (length-append (take (16 * i) answers) a ∙ (rw (g, e) refl)))

module _ (b : Board) (records : List ℕ) where
  pub record Same (n i : ℕ) (x : Machine) (answers : List ℕ) : Type 0 where
    pub machines : (replay_from b records n i x answers).after ≡ (replay b x (cut n (drop (16 * i) records))).after
    pub replies : (replay_from b records n i x answers).answers ≡ take (16 * i) answers ++ joined (replay b x (cut n (drop (16 * i) records))).answers

  flat_same : (n i : ℕ) (x : Machine) (answers : List ℕ) → 16 * (i + n) ≡ length answers → Same n i x answers
  unfolding replay_from replay cut joined
  flat_same zero i x answers h =
      record { machines = refl; replies = sym (append-nil (take (16 * i) answers) ∙ take_all (16 * i) answers (omega arith)) }
  flat_same (suc n) i x answers h =
      let o = one_record b x (record_at records i) in
      let e : 16 * i + 16 ≡ 16 * (i + 1) = omega arith in
      let d : drop 16 (drop (16 * i) records) ≡ drop (16 * (i + 1)) records = drop-drop 16 (16 * i) records ∙ ap (λ (k : ℕ). drop k records) e in
      let ih = flat_same n (i + 1) o.after (sets answers (16 * i) (answered o)) (rw (length-sets answers (16 * i) (answered o)) (omega arith)) in
      record {
        machines = rw d ih.machines;
        replies = rw d (ih.replies ∙ rw (answered_more answers i (answered o) (length_answered o) (omega arith)) (append_assoc (take (16 * i) answers) (answered o) _));
      }

  -- one turn of the loop
  next_record : (n i : ℕ) (x : Machine) (answers : List ℕ) (o : Out) → i < n → o ≡ one_record b x (record_at records i)
      → replay_from b records (n - (i + 1)) (i + 1) o.after (sets answers (16 * i) (answered o)) ≡ replay_from b records (n - i) i x answers
  unfolding replay_from
  next_record n i x answers o h e =
      let k : n - i ≡ suc (n - (i + 1)) = omega arith in
      rw (k, e) refl

  -- what is left of the replay where the next record is that at the byte `at`
  abbrev pub rest_at : ℕ → Machine → List ℕ → Flat
  rest_at at x answers = replay_from b records (length records / 16 - at / 16) (at / 16) x answers

  -- the same turn, by what the loop's calls give
  pub turn : (at : ℕ) (s s' : State) (table table' main main' cache cache' answers answers' : List ℕ) (r : Record) (d : Decided) (line : ℕ)
      → at % 16 ≡ 0 → length records % 16 ≡ 0 → at < length records
      → r ≡ record_of (take 16 (drop at records)) → carried s table' main' cache' d ≡ one_record b (machine s table main cache) r
      → s' ≡ applied s d.effect → line ≡ line_of s'.regs → answers' ≡ sets answers at (answer_bytes d.answer line)
      → rest_at (at + 16) (machine s' table' main' cache') answers' ≡ rest_at at (machine s table main cache) answers
  unfolding answered
  turn at s s' table table' main main' cache cache' answers answers' r d line w k h er ed es el ea =
      let e : 16 * (at / 16) ≡ at = omega arith in
      let f : (at + 16) / 16 ≡ at / 16 + 1 = omega arith in
      let o = carried s table' main' cache' d in
      let next = next_record (length records / 16) (at / 16) (machine s table main cache) answers o (omega arith) (rw e (rw (← er) ed)) in
      rw (ea, el, es, f) (rw e at next)

  -- all records done
  pub finished : (at : ℕ) (x₀ x : Machine) (answers₀ answers : List ℕ) → length records % 16 ≡ 0 → length answers₀ ≡ length records → length records ≤ at
      → rest_at at x answers ≡ rest_at 0 x₀ answers₀ → Replays b x₀ records x answers
  unfolding replay_from
  finished at x₀ x answers₀ answers k l h rest =
      let e : length records / 16 - at / 16 ≡ 0 = omega arith in
      let f = rw (e, sub-zero) at rest in
      let q = flat_same (length records / 16) 0 x₀ answers₀ (omega arith) in
      record {
        machines = ap (λ (y : Flat). y.after) f ∙ q.machines;
        answers = ap (λ (y : Flat). y.answers) f ∙ q.replies;
      }

-- ---- what an effect leaves of the state: a run's

pub ring_is : (s : State) (e : Effect) (head identity : ℕ) → e ≡ Ring head identity → with_regs s (with_head s.regs head identity) ≡ applied s e
unfolding applied
ring_is s e head identity h = rw h
