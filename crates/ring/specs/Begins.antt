-- A step in two parts, as the code takes it: what the registers alone decide, and the fetch.
use Rattle.std.specs.Prelude.{ℕ, ◌%◌, ◌≡◌, Option, Some, None, Result, Ok, Err}
use Rattle.gmch.specs.Ring.{stepped, step}
use Rattle.gmch.specs.Look.{Look}
use Rattle.gmch.specs.declared.Regs.{Regs}
use Rattle.gmch.specs.declared.Step.{Step}
use Rattle.gmch.specs.declared.Step.TheVariants.{Ended, Failed}

-- the step that begins so
abbrev pub going : (ℕ → Look) → Regs → Result (Option ℕ) ℕ → Step
going fetch r (Ok None) = Ended
going fetch r (Ok (Some o)) = stepped r (fetch o)
going fetch r (Err c) = Failed c

-- a fetch is at a multiple of 4
abbrev pub Aligned : Result (Option ℕ) ℕ → Type 0
Aligned (Ok None) = Unit {0}
Aligned (Ok (Some o)) = o % 4 ≡ 0
Aligned (Err c) = Unit {0}

-- whatever is fetched, a step of these registers begins so
abbrev pub Begins : Regs → Result (Option ℕ) ℕ → Type 0
Begins r x = ((fetch : ℕ → Look) → going fetch r x ≡ step fetch r) × Aligned x
