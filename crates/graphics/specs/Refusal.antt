-- What is reached, or the code that refuses it, as the code finds it.
use Rattle.std.specs.Prelude.{ℕ, Result, Ok, Err}
use Rattle.gmch.specs.Look.{Reach, denied}

-- at an offset, which the refusal names
abbrev pub at_offset : {A : Type 0} → ℕ → Result A ℕ → Reach A
at_offset o (Ok x) = Ok x
at_offset o (Err code) = denied code o
