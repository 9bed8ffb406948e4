use Rattle.std.proofs.Common.{◌≡◌, ℕ, ap, ◌∙◌, arith}
use Rattle.gmch.specs.Machine.{Memories}
use Rattle.gmch.specs.Ring.{Parsed, parsed}
use Rattle.gmch.specs.declared.Regs.{Regs}
use Rattle.gmch.specs.declared.Ran.{Ran}
use Rattle.gmch.proofs.Ring.{run_ended, run_failed, run_done}
use Rattle.ring.proofs.Parts.{at_flag, one_less, none_left}
use Rattle.ring.proofs.parser.Parser.steps.Goals as goal

-- a run's end, whatever form its count has
ends : {x : Ran} {code : ℕ} {r : Regs} {n count : ℕ} {memories : Memories} {q : Parsed} → x ≡ record { code = code; regs = r; count = n }
    → parsed code r count memories ≡ q → n ≡ count → x ≡ q.ran
ends e f m = rw (e, m) (ap (λ (q : Parsed). q.ran) f)

pub returns-in-Ended : goal.returns-in-Ended
returns-in-Ended g c =
    let e = at_flag c.args.self.now.translation.map _ _ _ _ c.requires.0 c.step.ensures c.in-Ended.is in
    ends c.ran.ensures (run_ended _ _ _ _ _ _ c.loop-left.invariant (omega arith) e) (omega arith)

pub returns-in-Failed : goal.returns-in-Failed
returns-in-Failed g c =
    let e = at_flag c.args.self.now.translation.map _ _ _ _ c.requires.0 c.step.ensures c.in-Failed.is in
    ends c.ran-in-Failed.ensures (run_failed _ _ _ _ _ _ c.loop-left.invariant (omega arith) _ e) (omega arith)

pub loop-left-preserved : goal.loop-left-preserved
loop-left-preserved g c =
    let e = at_flag c.args.self.now.translation.map _ _ _ _ c.requires.0 c.step.ensures c.in-Done.is in
    one_less _ _ _ _ _ _ (omega arith) (omega arith) (run_done _ _ _ _ _ _ c.loop-left.invariant (omega arith) _ e)

pub returns : goal.returns
returns g c = c.ran-2.ensures ∙ ap (λ (q : Parsed). q.ran) (none_left _ _ _ _ _ (omega arith) c.loop-left.invariant)
