-- Request 8 of document 02: neither PAMR's value nor FDHC's changes which bytes are protected or which accesses land in them. It
-- is proved in proofs/Unmoved.antt.
use Rattle.std.specs.Prelude.{ℕ, ◌≡◌, Bool, true, set}
use Rattle.gmch.specs.Config.{with_dev0}
use Rattle.gmch.specs.Machine.{Machine, with_state}
use Rattle.gmch.specs.Map.{Tom, protected_in}
use Rattle.gmch.specs.Access.{location_of, target_of}
use Rattle.gmch.specs.Isolation.{is_protected, lands}
use Rattle.gmch.specs.declared.Board.{Board}
use Rattle.gmch.specs.declared.Record.{Record}

-- the machine with other bytes in the two registers
abbrev pub steered : Machine → ℕ → ℕ → Machine
steered x pamr fdhc = with_state x (with_dev0 x.state (set (set x.state.dev0 0x51 pamr) 0x58 fdhc))

-- the access of a record ends in protected memory, in management mode or not
abbrev pub ends_protected : Board → Machine → Record → Bool
ends_protected b x r = is_protected (protected_in b x.state) (location_of (target_of b x r))

pub record Unmoved (b : Board) (x y : Machine) : Type 0 where
  -- the same bytes are protected
  pub bytes : (p : ℕ) → protected_in b y.state p ≡ protected_in b x.state p
  -- the same accesses end in them
  pub ends : (r : Record) → ends_protected b y r ≡ ends_protected b x r
  -- and where they did
  pub places : (r : Record) → ends_protected b x r ≡ true → target_of b y r ≡ target_of b x r
  -- so the same land, as demand 3 has it
  pub landings : (r : Record) → lands b y r ≡ lands b x r

-- for every board and machine, locked or not
abbrev pub ProtectionUnmoved : Type 0
ProtectionUnmoved = (b : Board) (x : Machine) (pamr fdhc : ℕ) → Tom b.tom → Unmoved b x (steered x pamr fdhc)
