-- A translation table as the code holds it.
use Rattle.std.specs.Prelude.{ℕ}
use Rattle.gmch.specs.Look.{Look}
use Rattle.gmch.specs.Table.{look_in}
use Rattle.graphics.specs.declared.translation.Translation.{Translation}

-- what a lookup of an entry gives
abbrev pub look : Translation → ℕ → Look
look t = look_in t.map t.control t.table.now t.memory.now
