-- Request 9 of document 02: what is promised of the private table, on board kinds 0 and 1. It is proved in proofs/Clean.antt.
-- On kinds 2 and 3 ordinary writes may change the table's words, so there the check at use alone is promised.
use Rattle.std.specs.Prelude.{ℕ, ◌<◌, ◌≡◌, List, false, Ok}
use Rattle.gmch.specs.Smram.{lock_bit}
use Rattle.gmch.specs.Config.{smram_of}
use Rattle.gmch.specs.Machine.{Machine}
use Rattle.gmch.specs.Map.{map_of}
use Rattle.gmch.specs.Table.{forbidden, look_of}
use Rattle.gmch.specs.Replay.{replay}
use Rattle.gmch.specs.Isolation.{NoReset}
use Rattle.gmch.specs.declared.Board.{Board}

-- no lookup finds a valid entry of main memory that names a protected page
abbrev pub Clean : Board → Machine → Type 0
Clean b x = (i entry : ℕ) → look_of b x i ≡ Ok entry → forbidden (map_of b x.state) entry ≡ false

-- From any state with the lock set and such a table, no list without a reset carried out puts one there: at the end of every
-- list, and so after each of its records.
abbrev pub StaysClean : Type 0
StaysClean =
    (b : Board) (x : Machine) (rs : List (List ℕ))
    → b.kind < 2
    → lock_bit (smram_of x.state) ≡ 1
    → NoReset rs
    → Clean b x
    → Clean b (replay b x rs).after
