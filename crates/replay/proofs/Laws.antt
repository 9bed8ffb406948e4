-- A decision, with its effect carried out, is the definitions' record, kind by kind.
use Rattle.std.proofs.Common.{ℕ, ◌≡◌, refl, ◌≢◌, List, true, false, ne_eqb}
use Rattle.gmch.specs.Records.{access_of, well_formed, reset_reply}
use Rattle.gmch.specs.Config.{with_regs}
use Rattle.gmch.specs.Machine.{Machine, machine, lent}
use Rattle.gmch.specs.Map.{map_of}
use Rattle.gmch.specs.Table.{fetch_in}
use Rattle.gmch.specs.Ring.{with_head, run}
use Rattle.gmch.specs.Access.{target_of, settled, done, act}
use Rattle.gmch.specs.Replay.{fetch_from, run_reply, parser_run, cold_start, cold_table, cold_machine, reset, one_record}
use Rattle.gmch.specs.declared.Board.{Board}
use Rattle.gmch.specs.declared.State.{State}
use Rattle.gmch.specs.declared.Ran.{Ran}
use Rattle.gmch.specs.declared.Record.{Record}
use Rattle.gmch.specs.declared.Target.TheVariants.{Refused}
use Rattle.gmch.proofs.Choice.{choices}
use Rattle.gmch.proofs.Steps.{run_memories, run_keeps}
use Rattle.access.proofs.Laws.{out}

-- ---- a record, by its kind

module _ (b : Board) (x : Machine) (r : Record) where
  pub malformed : well_formed r ≡ false → done x (Refused 13 0) 0 ≡ one_record b x r
  unfolding one_record
  malformed e = simp (e, choices)

  module _ (e : well_formed r ≡ true) where
    pub a_run : r.kind ≡ 8 → parser_run b x r.value ≡ one_record b x r
    unfolding one_record
    a_run k = simp (e, k, choices)

    pub a_reset : r.kind ≡ 9 → reset b x ≡ one_record b x r
    unfolding one_record
    a_reset k = simp (e, k, choices)

    pub an_access : r.kind ≢ 8 → r.kind ≢ 9
        → act x (access_of r) r.value (settled (map_of b x.state) (access_of r) r.value (target_of b x r)) ≡ one_record b x r
    unfolding one_record
    an_access n k = simp (e, ne_eqb r.kind 8 n, ne_eqb r.kind 9 k, choices)

-- a run, which changes head and identity alone, and leaves the memories as they are
pub run_done : (b : Board) (s : State) (table main cache : List ℕ) (budget : ℕ) (q : Ran)
    → q ≡ (run (fetch_in (map_of b s) s.regs.control table) budget 0 s.regs (lent main cache)).ran
    → out (with_regs s (with_head s.regs q.regs.head q.regs.identity)) table main cache (run_reply q) ≡ parser_run b (machine s table main cache) budget
unfolding parser_run
run_done b s table main cache budget q f =
    let fetches = fetch_from b (machine s table main cache) in
    rw (f, run_memories fetches budget s.regs (lent main cache), ← run_keeps fetches budget s.regs (lent main cache)) refl

pub reset_done : (b : Board) (s : State) (table main cache : List ℕ)
    → out (cold_start b.kind) cold_table main cache reset_reply ≡ reset b (machine s table main cache)
unfolding reset cold_machine
reset_done b s table main cache = refl
