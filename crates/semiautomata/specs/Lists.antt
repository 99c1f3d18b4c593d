-- Lists of numbers in order, and of what stands at those that pass a test.
-- Assumes nothing.
use Rattle.std.specs.Prelude.{ℕ, zero, suc, Bool, cond, List, [], ◌∷◌}

-- The numbers from p on, c of them; and f at those of a list that pass.
abbrev pub range : ℕ → ℕ → List ℕ
range p zero = []
range p (suc c) = p ∷ range (suc p) c

abbrev pub collect : {A : Type 0} → (ℕ → Bool) → (ℕ → A) → List ℕ → List A
collect p f [] = []
collect p f (i ∷ is) = cond (p i) (f i ∷ collect p f is) (collect p f is)
