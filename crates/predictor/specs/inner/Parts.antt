-- What an answer leaves as the last resolved state.
-- Assumes nothing.
use Rattle.std.specs.Prelude.{ℕ, Option, None, Some}
use Rattle.deciding.specs.declared.Resolution.{Resolution}

abbrev pub last_after : Option Resolution → ℕ → ℕ
last_after (Some x) last = x.state
last_after None last = last
