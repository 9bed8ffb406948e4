-- Document 01, 'Codes': what is looked for or reached, or the refusal in its place. Request 5 of document 02: a refusal names its
-- offset.
use Rattle.std.specs.Prelude.{ℕ, Result, Err}
use Rattle.gmch.specs.declared.Refusal.{Refusal}

-- a word that is looked for, an entry of the translation table or the parser's next; or a refusal's code
abbrev pub Look : Type 0
Look = Result ℕ ℕ

-- where an access leads: an offset, an address or a place; or a refusal, its code and the offset that its answer names
abbrev pub Reach : Type 0 → Type 0
Reach A = Result A Refusal

abbrev pub denied : {A : Type 0} → ℕ → ℕ → Reach A
denied c o = Err (record { code = c; offset = o })
