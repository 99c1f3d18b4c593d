-- What the parts of the calls promise, each of what it puts behind what a lent buffer is filled with. A refusal ends what is printed: its
-- line is still to be put, and there is room for it.
-- Assumes nothing.
use Rattle.std.specs.Prelude.{ℕ, ◌+◌, ◌*◌, ◌≤◌, true, false, ◌≡◌, List, ◌++◌, length, Result, Ok, Err}
use Rattle.refusals.specs.Named.{number_of}
use Rattle.refusals.specs.declared.Refusal.{Refusal}
use Rattle.slices.specs.declared.Filling.{Filling}
use Rattle.slices.specs.Filling.{HasRoom, Puts}
use Rattle.lines.specs.Lines.{refused_line}
use Rattle.text.specs.Calls.{letter_width, open_on, walk_on, fed_upto, FedText}

-- A text is put, and of whatever letters come later it is said that this text and what follows it are printed.
pub record Adds (says : List ℕ → List ℕ → Type 0) (old new : Filling) (later : List ℕ → List ℕ) : Type 0 where
  pub text : List ℕ
  pub put : Puts old text new
  pub follows : (letters : List ℕ) → says letters (text ++ later letters)

-- The first lines, or those from one of them on: what comes later follows; or the line of a refusal does, and nothing more.
abbrev pub Lays : (List ℕ → List ℕ → Type 0) → Filling → Result (Unit {0}) Refusal → Filling → (List ℕ → List ℕ) → Type 0
Lays says old (Ok _) new later = Adds says old new later
Lays says old (Err r) new later = HasRoom new (refused_line (number_of r)) × Adds says old new (λ letters. refused_line (number_of r))

-- Letters fed to a record: the walk goes on with the record that is left; or a letter is refused, and after that line come the open lines.
abbrev pub Feeding : List ℕ → List ℕ → List ℕ → Filling → Result (Unit {0}) Refusal → Filling → List ℕ → Type 0
Feeding table bytes letters old (Ok _) new left =
    (fed_upto table bytes letters ≡ record { refused = false; left = left })
    × Adds (FedText table bytes letters) old new (walk_on table left)
    × (new.at ≤ old.at + letter_width * length letters)
Feeding table bytes letters old (Err r) new left =
    (fed_upto table bytes letters ≡ record { refused = true; left = left })
    × Adds (FedText table bytes letters) old new (λ rest. refused_line (number_of r) ++ open_on table left)
    × (new.at + letter_width ≤ old.at + letter_width * length letters)
