-- A decision, with its effect carried out, is the definitions' access, target by target.
use Rattle.std.proofs.Common.{ℕ, ◌≤◌, ◌<◌, ◌≡◌, refl, ◌⊎◌, inl, inr, List, Bool, true, false, arith, eqb, ne_eqb, le-ltb}
use Rattle.std.proofs.lemmas.Bool.{eqb-false}
use Rattle.gmch.specs.Choice.{pick}
use Rattle.gmch.specs.Words.{within, load_le, store_le}
use Rattle.gmch.specs.Records.{reply}
use Rattle.gmch.specs.Config.{Placed, register_written}
use Rattle.gmch.specs.Machine.{Machine, machine, with_main, with_cache}
use Rattle.gmch.specs.Mapped.{listed_byte, is_entry, is_fence, mapped_value, regs_written, mapped_written, stored, table_written}
use Rattle.gmch.specs.Access.{Out, done, act, is_table_word, barred, settled}
use Rattle.gmch.specs.declared.State.{State}
use Rattle.gmch.specs.declared.Access.{Access}
use Rattle.gmch.specs.declared.Map.{Map}
use Rattle.gmch.specs.declared.Answer.{Answer}
use Rattle.gmch.specs.declared.Target.{Target}
use Rattle.gmch.specs.declared.Target.TheVariants.{Refused, Memory, Cache, Register, Mapped, Entry}
use Rattle.gmch.proofs.Choice.{choices, pick_elim}
use Rattle.gmch.proofs.Words.{within_from}
use Rattle.gmch.proofs.Settled.{settled_plain}
use Rattle.access.specs.Decide.{Sound, changed, applied, store_effect, register_effect}

abbrev pub out : State → List ℕ → List ℕ → List ℕ → Answer → Out
out s table main cache a = record { after = machine s table main cache; answer = a }

-- ---- an access, by its target

-- an entry of the table is no register of the display cache
pub entry_unlisted : (kind o : ℕ) → is_entry o ≡ true → listed_byte kind o ≡ false
unfolding is_entry listed_byte within
entry_unlisted kind o e =
    let l : 0x10000 ≤ o = within_from 0x10000 0x10000 o e in
    simp (le-ltb o 0x3003 (omega arith), choices)

-- a write of a table entry leaves the other registers
entry_keeps : (s : State) (o v : ℕ) → is_entry o ≡ true → mapped_written s o v ≡ s
unfolding mapped_written is_entry is_fence regs_written within
entry_keeps s o v e =
    let l : 0x10000 ≤ o = within_from 0x10000 0x10000 o e in
    let other : (k : ℕ) → k < 0x10000 → eqb o k ≡ false = λ k h. ne_eqb o k (λ q. omega arith) in
    simp (
      le-ltb o 0x2020 (omega arith),
      other 0x2020 (omega arith),
      other 0x2030 (omega arith),
      other 0x2034 (omega arith),
      other 0x2038 (omega arith),
      other 0x203C (omega arith),
      other 0x20A0 (omega arith),
      other 0x20A4 (omega arith),
      other 0x20A8 (omega arith),
      choices,
    )

-- w bytes at p of a memory, with d to be stored there: a read in the machine x, or a write, which leaves f of the memory after it
bytes_done : (write : Bool) (x : Machine) (f : List ℕ → Machine) (memory : List ℕ) → f memory ≡ x
    → (t : Target) (w p d y : ℕ) (memory' : List ℕ) → y ≡ pick write 0 (load_le w p memory) → memory' ≡ pick write (store_le w p d memory) memory
    → done (f memory') t y ≡ pick write (done (f (store_le w p d memory)) t 0) (done x t (load_le w p memory))
bytes_done true x f memory k t w p d y memory' e g = rw (e, g) (simp choices)
bytes_done false x f memory k t w p d y memory' e g = rw (e, g) (simp (k, choices))

module _ (s : State) (table main cache : List ℕ) (a : Access) (v : ℕ) where
  abbrev x : Machine
  x = machine s table main cache

  pub memory_done : (p y : ℕ) (main' : List ℕ) → y ≡ pick a.write 0 (load_le a.width p main) → main' ≡ pick a.write (store_le a.width p v main) main
      → out s table main' cache (reply (Memory p) y) ≡ act x a v (Memory p)
  unfolding act
  memory_done p = bytes_done a.write x (with_main x) main refl (Memory p) a.width p v

  pub cache_done : (p y : ℕ) (cache' : List ℕ) → y ≡ pick a.write 0 (load_le a.width p cache) → cache' ≡ pick a.write (store_le a.width p v cache) cache
      → out s table main cache' (reply (Cache p) y) ≡ act x a v (Cache p)
  unfolding act
  cache_done p = bytes_done a.write x (with_cache x) cache refl (Cache p) a.width p v

  pub entry_done : (o p y : ℕ) (main' : List ℕ) → y ≡ pick a.write 0 (load_le 4 p main) → main' ≡ pick a.write (store_le 4 p (stored v) main) main
      → out s table main' cache (reply (Entry o p) y) ≡ act x a v (Entry o p)
  unfolding act
  entry_done o p = bytes_done a.write x (with_main x) main refl (Entry o p) 4 p (stored v)

  pub mapped_done : (o y : ℕ) (table' : List ℕ) → y ≡ pick a.write 0 (mapped_value s.fences s.regs table o)
      → table' ≡ pick a.write (table_written table o v) table
      → out (applied s (store_effect a.write o v)) table' main cache (reply (Mapped o) y) ≡ act x a v (Mapped o)
  unfolding act applied changed store_effect
  mapped_done o y table' e f = by a.write (is_entry o) refl refl
    where
      by : (w k : Bool) → a.write ≡ w → is_entry o ≡ k
          → out (applied s (store_effect a.write o v)) table' main cache (reply (Mapped o) y) ≡ act x a v (Mapped o)
      by false k h i = rw (e, f, h) (simp choices)
      by true true h i = rw (e, f, h) (simp (i, entry_keeps s o v i, choices))
      by true false h i = rw (e, f, h) (simp (i, choices))

-- a write of CF8h or of configuration registers
module _ (s : State) (table main cache : List ℕ) (a : Access) (v n : ℕ) where
  pub register_done : a.write ≡ true
      → out (applied s (register_effect n a.width v)) table main cache (reply (Register n) 0) ≡ act (machine s table main cache) a v (Register n)
  unfolding act applied register_effect register_written
  register_done w = by (eqb n 0xCF8) refl
    where
      by : (k : Bool) → eqb n 0xCF8 ≡ k
          → out (applied s (register_effect n a.width v)) table main cache (reply (Register n) 0) ≡ act (machine s table main cache) a v (Register n)
      by true e = rw w (simp (e, choices))
      by false e = rw w (simp (e, choices))

pub register_sound : (n width v : ℕ) → Placed n width → Sound (register_effect n width v)
unfolding register_effect
register_sound n width v p = pick_elim Sound (eqb n 0xCF8) (λ _. tt) (λ e. (below (eqb-false n 0xCF8 e) p.0, p.1))
  where
    below : (n ≡ 0xCF8 → ⊥) → (n ≡ 0xCF8) ⊎ (n < 512) → n < 512
    below k (inl h) = absurd (k h)
    below k (inr h) = h

pub effect_sound : (write : Bool) (o v : ℕ) → Sound (store_effect write o v)
unfolding store_effect
effect_sound write o v = pick_elim Sound write (λ _. pick_elim Sound (is_entry o) (λ _. tt) (λ _. tt)) (λ _. tt)

-- ---- code 16, by the branches that the code takes

module _ (m : Map) (a : Access) (v : ℕ) (t : Target) where
  pub word_barred : a.write ≡ true → is_table_word t ≡ true → barred m v ≡ true → settled m a v t ≡ Refused 16 0
  unfolding settled
  word_barred w i b = simp (w, i, b, choices)

  pub read_passes : a.write ≡ false → settled m a v t ≡ t
  unfolding settled
  read_passes w = simp (w, choices)

  pub free_passes : barred m v ≡ false → settled m a v t ≡ t
  unfolding settled
  free_passes b = simp (b, choices)

-- what each arm of `act` rests on
pub ruleset arms = (word_barred, read_passes, free_passes, settled_plain, memory_done, cache_done, entry_done, register_done, register_sound, effect_sound)
