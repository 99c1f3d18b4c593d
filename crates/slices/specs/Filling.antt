-- A lent buffer that is filled from its front, one thing after the other.
-- Assumes nothing.
use Rattle.std.specs.Prelude.{ℕ, ◌+◌, ◌≤◌, ◌≡◌, List, length}
use Rattle.slices.specs.declared.Filling.{Filling}
use Rattle.slices.specs.Copying.{pasted}

-- There is room for bytes behind what it is filled with.
pub record HasRoom (filling : Filling) (bytes : List ℕ) : Type 0 where
  pub fits : filling.at + length bytes ≤ length filling.out.now

-- A buffer with bytes pasted in: the same as `pasted`, but a name that stays, by which laws are found.
unfoldable pub filled : List ℕ → ℕ → List ℕ → List ℕ
filled = pasted

-- Bytes are put behind what it was filled with, and it is the same buffer that is filled.
pub record Puts (old : Filling) (bytes : List ℕ) (new : Filling) : Type 0 where
  pub room : HasRoom old bytes
  pub end : new.at ≡ old.at + length bytes
  pub is : new.out.now ≡ filled old.out.now old.at bytes
  pub same_buffer : new.out.ghost_name ≡ old.out.ghost_name
