-- What the host's call returns and leaves: `call` of the definitions.
use Rattle.std.specs.Prelude.{ℕ, ◌≡◌, List}
use Rattle.gmch.specs.Machine.{Memories}
use Rattle.gmch.specs.Call.{Called, call}

abbrev pub Calls : ℕ → Memories → List ℕ → List ℕ → ℕ → Memories → List ℕ → Type 0
Calls kind memories records answers r memories' answers' =
    ◌≡◌ {A = Called} (record { result = r; memories = memories'; answers = answers' }) (call kind memories records answers)
