-- Document 01, 'The board and its host': the host's call, which refuses wrong arguments with code 1.
-- Request 11 of document 02: it lends the display cache as well.
use Rattle.std.specs.Prelude.{ℕ, zero, suc, ◌/◌, ◌%◌, List, [], ◌∷◌, ◌++◌, Bool, length, take, drop, leb, eqb}
use Rattle.gmch.specs.Choice.{pick, ◌and◌}
use Rattle.gmch.specs.Map.{largest_tom}
use Rattle.gmch.specs.Machine.{cache_length, Memories}
use Rattle.gmch.specs.Replay.{cold_machine, replay}
use Rattle.gmch.specs.declared.Board.{Board}

-- board kind, memory length, record length, answer length and the display cache's length; where one is wrong, code 1
unfoldable pub good_call : Board → ℕ → ℕ → ℕ → Bool
good_call b records answers cache =
    leb b.kind 3
    and (leb 0x800000 b.tom and leb b.tom largest_tom and eqb (b.tom % 0x800000) 0)
    and (eqb (records % 16) 0 and leb (records / 16) 65535)
    and eqb answers records
    and eqb cache (cache_length b.kind)

-- the n records of 16 bytes each
unfoldable pub cut : ℕ → List ℕ → List (List ℕ)
cut zero bytes = []
cut (suc n) bytes = take 16 bytes ∷ cut n (drop 16 bytes)

unfoldable pub joined : List (List ℕ) → List ℕ
joined [] = []
joined (a ∷ as') = a ++ joined as'

-- what it returns and leaves
pub record Called : Type 0 where
  pub result : ℕ
  pub memories : Memories
  pub answers : List ℕ

-- a cold start, all records in order, and 0; or 1, with nothing touched
unfoldable pub call : ℕ → Memories → List ℕ → List ℕ → Called
call kind memories records answers =
    let b : Board = record { kind = kind; tom = length memories.main } in
    let q = replay b (cold_machine b memories) (cut (length records / 16) records) in
    pick (good_call b (length records) (length answers) (length memories.cache))
    (record { result = 0; memories = q.after.memories; answers = joined q.answers })
    (record { result = 1; memories = memories; answers = answers })
