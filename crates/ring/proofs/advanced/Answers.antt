use Rattle.std.proofs.Common.{◌≡◌, ℕ, ◌+◌, ◌-◌, ◌*◌, ◌%◌, ◌≤◌, ◌<◌, sym, ◌∙◌, lt-ltb, le-ltb, arith}
use Rattle.gmch.specs.Ring.{ring_length, head_offset, head_wraps, advanced}
use Rattle.gmch.specs.declared.Regs.{Regs}
use Rattle.gmch.proofs.Choice.{pick_true, pick_false}
use Rattle.ring.proofs.advanced.Goals as goal

module _ (r : Regs) (n : ℕ) {x : ℕ} where
  stays : head_offset r + 4 * n < ring_length r → x ≡ head_wraps r * 0x200000 + (head_offset r + 4 * n) → x ≡ advanced r n
  unfolding advanced
  stays h e = e ∙ sym (pick_true _ _ (lt-ltb _ _ h))

  wraps : ring_length r ≤ head_offset r + 4 * n → x ≡ (head_wraps r + 1) % 2048 * 0x200000 + (head_offset r + 4 * n - ring_length r) → x ≡ advanced r n
  unfolding advanced
  wraps h e = e ∙ sym (pick_false _ _ (le-ltb _ _ h))

pub returns-then-next-length : goal.returns-then-next-length
returns-then-next-length c = stays _ _ (omega arith) (omega arith)

pub returns : goal.returns
returns c = wraps _ _ (omega arith) (rw (c.head_wraps.ensures, c.head_offset.ensures, c.ring_length-length.ensures))
