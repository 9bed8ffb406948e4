-- The replay over flat bytes, as the loop takes it: record i of the list, and its answer stored in place.
use Rattle.std.specs.Prelude.{ℕ, zero, suc, ◌+◌, ◌*◌, ◌/◌, List, ◌≡◌, length, take, drop}
use Rattle.std.proofs.lemmas.List.Edits.{sets}
use Rattle.gmch.specs.Records.{record_of}
use Rattle.gmch.specs.Machine.{Machine}
use Rattle.gmch.specs.Replay.{one_record, answered, replay}
use Rattle.gmch.specs.Call.{cut, joined}
use Rattle.gmch.specs.declared.Board.{Board}
use Rattle.gmch.specs.declared.Record.{Record}

pub record Flat : Type 0 where
  pub after : Machine
  pub answers : List ℕ

abbrev pub record_at : List ℕ → ℕ → Record
record_at records i = record_of (take 16 (drop (16 * i) records))

-- the n records from record i on
unfoldable pub replay_from : Board → List ℕ → ℕ → ℕ → Machine → List ℕ → Flat
replay_from b records zero i x answers = record { after = x; answers = answers }
replay_from b records (suc n) i x answers =
    let o = one_record b x (record_at records i) in
    replay_from b records n (i + 1) o.after (sets answers (16 * i) (answered o))

-- what a replay over flat bytes comes to: the definitions' replay of the records cut into sixteens
pub record Replays (b : Board) (x : Machine) (records : List ℕ) (x' : Machine) (answers' : List ℕ) : Type 0 where
  pub machines : x' ≡ (replay b x (cut (length records / 16) records)).after
  pub answers : answers' ≡ joined (replay b x (cut (length records / 16) records)).answers
