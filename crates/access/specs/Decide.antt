-- One record as the code takes it: decided with the state only read, table and memories changed on the spot, and what is
-- left to do to the state given as an effect.
use Rattle.std.specs.Prelude.{ℕ, ◌+◌, ◌%◌, ◌≤◌, ◌<◌, List, Bool, eqb}
use Rattle.std.specs.Int.Bits.{bit_and}
use Rattle.gmch.specs.Choice.{pick}
use Rattle.gmch.specs.Config.{with_cf8, with_regs, with_dram, with_error, Placed, config_write}
use Rattle.gmch.specs.Machine.{machine}
use Rattle.gmch.specs.Mapped.{is_entry, mapped_written, dram_written}
use Rattle.gmch.specs.Access.{Out}
use Rattle.gmch.specs.Replay.{cold_start}
use Rattle.words.specs.Width.{Width}
use Rattle.gmch.specs.Ring.{with_head}
use Rattle.gmch.specs.declared.State.{State}
use Rattle.gmch.specs.declared.Target.{Target}
use Rattle.gmch.specs.declared.Target.TheVariants.{Refused, Memory, Cache, Register, Hub, HubError, Vga, Mapped, Entry, CacheRegister}
use Rattle.gmch.specs.declared.Route.{Route}
use Rattle.gmch.specs.declared.Route.TheVariants.{To, Registers, Window}
use Rattle.access.specs.declared.Effect.{Effect}
use Rattle.access.specs.declared.Effect.TheVariants.{Keep, Ring, Select, Configure, Rarely}
use Rattle.access.specs.declared.Rare.{Rare}
use Rattle.access.specs.declared.Rare.TheVariants.{Store, StoreCache, Error, Reset}
use Rattle.access.specs.declared.Decided.{Decided}

-- the state after an effect
unfoldable pub changed : State → Rare → State
changed s (Store o v) = mapped_written s o v
changed s (StoreCache o v) = with_dram s (dram_written s.dram o v)
changed s Error = with_error s
changed s (Reset kind) = cold_start kind

unfoldable pub applied : State → Effect → State
applied s Keep = s
applied s (Ring head identity) = with_regs s (with_head s.regs head identity)
applied s (Select v) = with_cf8 s v
applied s (Configure n width v) = config_write s n width v
applied s (Rarely e) = changed s e

-- what a memory-mapped register asks of the state; entries of the private table are stored where they are decided
unfoldable pub store_effect : Bool → ℕ → ℕ → Effect
store_effect write o v = pick write (pick (is_entry o) Keep (Rarely (Store o v))) Keep

-- what a write of CF8h or of configuration registers asks of it
unfoldable pub register_effect : ℕ → ℕ → ℕ → Effect
register_effect n width v = pick (eqb n 0xCF8) (Select (bit_and v 0x80FFFFFC)) (Configure n width v)

-- a decision in the state s that left this table and these memories
abbrev pub carried : State → List ℕ → List ℕ → List ℕ → Decided → Out
carried s table main cache d = record { after = machine (applied s d.effect) table main cache; answer = d.answer }

-- ---- the bytes that are taken are there

-- an offset that rule 8 gives is in the window
abbrev pub InWindow : Route → Type 0
InWindow (To t) = Unit {0}
InWindow (Registers o) = Unit {0}
InWindow (Window o) = o < 0x4000000

-- those of an access of this width, which is 4 for an entry of the table
abbrev pub Reachable : ℕ → ℕ → ℕ → Target → Type 0
Reachable tom cache width (Refused c o) = Unit {0}
Reachable tom cache width (Memory p) = Width width × (p + width ≤ tom)
Reachable tom cache width (Cache p) = Width width × (p + width ≤ cache)
Reachable tom cache width (Register n) = Placed n width
Reachable tom cache width (Hub p) = Unit {0}
Reachable tom cache width (HubError p) = Unit {0}
Reachable tom cache width (Vga o) = Unit {0}
Reachable tom cache width (Mapped o) = Unit {0}
Reachable tom cache width (Entry o p) = p + 4 ≤ tom
Reachable tom cache width (CacheRegister o) = Unit {0}

-- those of a configuration write
abbrev pub Sound : Effect → Type 0
Sound Keep = Unit {0}
Sound (Ring head identity) = Unit {0}
Sound (Select v) = Unit {0}
Sound (Configure n width v) = (n < 512) × (n % 4 + width ≤ 4)
Sound (Rarely e) = Unit {0}
