-- A memory-mapped register: the write of an entry passes code 16, or there is none.
use Rattle.std.proofs.Common.{◌≡◌, refl}
use Rattle.gmch.specs.Access.{is_table_word, settled}
use Rattle.gmch.proofs.Choice.{flag}
use Rattle.gmch.proofs.Settled.{settled_is, settled_plain}
use Rattle.access.proofs.Laws.{free_passes, read_passes, mapped_done, register_done}
use Rattle.access.proofs.act.Goals as goal
use Rattle.access.proofs.act.Goals.{else-write-via-then-write+then-is_entry+else-barred, else-write-via-then-write+else-is_entry, else-write-via-else-write}

pub returns-else-write-clause-outcome : goal.returns-else-write-clause-outcome
unfolding is_table_word
returns-else-write-clause-outcome c =
    let s = c.args in
    let t = c.in-Mapped.is in
    let m = c.at_mapped-x.ensures in
    let passes : settled s.m s.a s.v s.t ≡ s.t = elim c.else-write.branch [
      | else-write-via-then-write+then-is_entry+else-barred w ↦ free_passes _ _ _ _ (flag w.barred.ensures w.if-barred.false)
      | else-write-via-then-write+else-is_entry w ↦ settled_plain _ _ _ _ (rw t (flag w.is_entry.ensures w.if-is_entry.false))
      | else-write-via-else-write w ↦ read_passes _ _ _ _ w.if-write.false
    ] in
    rw (c.done-in-Mapped.ensures, passes, c.store_effect.ensures, t) (λ p q. mapped_done _ _ _ _ _ _ _ _ _ m.0 m.1)

pub returns-then-write-2-clause-outcome : goal.returns-then-write-2-clause-outcome
unfolding is_table_word
returns-then-write-2-clause-outcome c =
    let s = c.args in
    let t = c.in-Register.is in
    rw (c.done-then-write-2.ensures, settled_is s.m s.a s.v t refl, c.register_effect.ensures) (λ p q. register_done _ _ _ _ _ _ _ c.if-write-2.true)
