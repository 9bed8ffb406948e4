-- Document 01, 'Records and answers', 'Codes' and 'Where an address goes': one access, where it ends and what it does there.
-- Request 9 of document 02: code 16. Request 11: the display cache and its registers.
use Rattle.std.specs.Prelude.{ℕ, List, Bool, true, false, not, leb, eqb, Ok, Err}
use Rattle.gmch.specs.Choice.{pick, ◌and◌}
use Rattle.gmch.specs.Words.{load_le, store_le}
use Rattle.gmch.specs.Records.{access_of, fits_word, reply}
use Rattle.gmch.specs.Smram.{lock_bit}
use Rattle.gmch.specs.Look.{Look, Reach}
use Rattle.gmch.specs.Config.{with_dram, with_error, port_target, register_value, register_written}
use Rattle.gmch.specs.Machine.{Machine, with_state, with_table, with_main, with_cache}
use Rattle.gmch.specs.Map.{map_of, Shadow, shadow_in, route_of, master_target}
use Rattle.gmch.specs.Table.{forbidden, window_reach, in_memory, word_reach, look_of}
use Rattle.gmch.specs.Mapped.{listed_byte, misfit, is_entry, entry_number, mapped_value, mapped_written, stored, table_written, dram_value, dram_written}
use Rattle.gmch.specs.declared.Board.{Board}
use Rattle.gmch.specs.declared.Map.{Map}
use Rattle.gmch.specs.declared.Record.{Record}
use Rattle.gmch.specs.declared.Access.{Access}
use Rattle.gmch.specs.declared.Answer.{Answer}
use Rattle.gmch.specs.declared.Place.{Place}
use Rattle.gmch.specs.declared.Place.TheVariants.{InMain, InCache}
use Rattle.gmch.specs.declared.Target.{Target}
use Rattle.gmch.specs.declared.Target.TheVariants.{Refused, Memory, Cache, Register, Hub, HubError, Vga, Mapped, Entry, CacheRegister}
use Rattle.gmch.specs.declared.Route.{Route}
use Rattle.gmch.specs.declared.Route.TheVariants.{To, Registers, Window}

-- ---- where it ends. Nothing here looks at the record's data

abbrev pub reached : Reach Place → Target
reached (Ok (InMain p)) = Memory p
reached (Ok (InCache p)) = Cache p
reached (Err r) = Refused r.code r.offset

-- an entry of a table in main memory: codes 7, 6
abbrev pub entry_target : ℕ → Reach ℕ → Target
entry_target o (Ok p) = Entry o p
entry_target o (Err r) = Refused r.code r.offset

-- after routing: 10, then a table word's 7, 6; or 9, 3, 4, 5, 7, 6, with a table word's 7, 6 after 3
unfoldable pub resolved : Map → List ℕ → ℕ → (ℕ → Look) → Access → Route → Target
resolved m fences control look a (To t) = t
resolved m fences control look a (Registers o) =
    pick (misfit m.kind o a.width) (Refused 10 0)
    (pick (in_memory m and is_entry o) (entry_target o (word_reach m control (entry_number o)))
    (pick (listed_byte m.kind o) (CacheRegister o)
    (Mapped o)))
resolved m fences control look a (Window o) = reached (window_reach m fences control look o)

-- an access of kinds 1 to 7: 2; ports; the processor; hub masters
unfoldable pub target_in : Map → Shadow → ℕ → List ℕ → ℕ → (ℕ → Look) → ℕ → Access → Target
target_in m q cf8 fences control look kind a =
    pick (not (fits_word a.width a.address)) (Refused 2 0)
    (pick (leb kind 2) (port_target cf8 m.smram a.width a.address)
    (pick (leb kind 5) (resolved m fences control look a (route_of m q a))
    (master_target m q a)))

-- a record of these kinds that keeps the layout
unfoldable pub target_of : Board → Machine → Record → Target
target_of b x r =
    let s = x.state in
    target_in (map_of b s) (shadow_in s.dev0) s.cf8 s.fences s.regs.control (look_of b x) r.kind (access_of r)

-- ---- code 16: after all others, and the only one that looks at the record's data

-- a word of the table, in either home
unfoldable pub is_table_word : Target → Bool
is_table_word (Refused c o) = false
is_table_word (Memory p) = false
is_table_word (Cache p) = false
is_table_word (Register n) = false
is_table_word (Hub p) = false
is_table_word (HubError p) = false
is_table_word (Vga o) = false
is_table_word (Mapped o) = is_entry o
is_table_word (Entry o p) = true
is_table_word (CacheRegister o) = false

-- with the lock set, what a write of v would store there is forbidden
unfoldable pub barred : Map → ℕ → Bool
barred m v = eqb (lock_bit m.smram) 1 and forbidden m (stored v)

-- where a read, or a write of v, ends after all
unfoldable pub settled : Map → Access → ℕ → Target → Target
settled m a v t = pick (a.write and (is_table_word t and barred m v)) (Refused 16 0) t

-- ---- what it does there

-- the machine afterwards, and the answer
pub record Out : Type 0 where
  pub after : Machine
  pub answer : Answer

-- the answer for a target, with the value that was read
abbrev pub done : Machine → Target → ℕ → Out
done x t v = record { after = x; answer = reply t v }

-- a read, or a write of v
unfoldable pub act : Machine → Access → ℕ → Target → Out
act x a v (Refused c o) = done x (Refused c o) 0
act x a v (Memory p) =
    pick a.write
    (done (with_main x (store_le a.width p v x.memories.main)) (Memory p) 0)
    (done x (Memory p) (load_le a.width p x.memories.main))
act x a v (Cache p) =
    pick a.write
    (done (with_cache x (store_le a.width p v x.memories.cache)) (Cache p) 0)
    (done x (Cache p) (load_le a.width p x.memories.cache))
act x a v (Register n) =
    pick a.write
    (done (with_state x (register_written x.state n a.width v)) (Register n) 0)
    (done x (Register n) (register_value x.state.cf8 x.state.dev0 x.state.dev1 n a.width))
act x a v (Hub p) = done x (Hub p) 0
act x a v (HubError p) = done (with_state x (with_error x.state)) (HubError p) 0
act x a v (Vga o) = done x (Vga o) 0
act x a v (Mapped o) =
    pick a.write
    (done (with_table (with_state x (mapped_written x.state o v)) (table_written x.table o v)) (Mapped o) 0)
    (done x (Mapped o) (mapped_value x.state.fences x.state.regs x.table o))
-- a write masks as in the private table, a read does not
act x a v (Entry o p) =
    pick a.write
    (done (with_main x (store_le 4 p (stored v) x.memories.main)) (Entry o p) 0)
    (done x (Entry o p) (load_le 4 p x.memories.main))
act x a v (CacheRegister o) =
    pick a.write
    (done (with_state x (with_dram x.state (dram_written x.state.dram o v))) (CacheRegister o) 0)
    (done x (CacheRegister o) (dram_value x.state.dram o))

-- ---- the target's place in memory

pub data Location : Type 0 where
  Nowhere : Location
  Main : ℕ → Location
  Display : ℕ → Location

unfoldable pub location_of : Target → Location
location_of (Refused c o) = Nowhere
location_of (Memory p) = Main p
location_of (Cache p) = Display p
location_of (Register n) = Nowhere
location_of (Hub p) = Nowhere
location_of (HubError p) = Nowhere
location_of (Vga o) = Nowhere
location_of (Mapped o) = Nowhere
location_of (Entry o p) = Main p
location_of (CacheRegister o) = Nowhere
