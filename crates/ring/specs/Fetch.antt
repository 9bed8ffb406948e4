-- What the parser fetches, and from where.
use Rattle.std.specs.Prelude.{ℕ}
use Rattle.gmch.specs.Look.{Look}
use Rattle.gmch.specs.Machine.{Memories, lent}
use Rattle.gmch.specs.Table.{fetch_in}
use Rattle.ring.specs.declared.parser.Parser.{Parser}

-- from memories as they stand
abbrev pub fetched : Parser → Memories → ℕ → Look
fetched p = fetch_in p.translation.map p.translation.control p.translation.table.now

abbrev pub memories : Parser → Memories
memories p = lent p.translation.memory.now p.display.now
