-- What a pick of a choice does.
use Rattle.std.specs.Prelude.{◌≡◌, ◌++◌, ◌∷◌, ◌%◌, ℕ, zero, suc, List, []}

-- one raw number more was taken, and the answer is what it leaves by k
pub record Picks (answer k : ℕ) (old new : List ℕ) : Type 0 where
  pub raw : ℕ
  pub taken : new ≡ old ++ raw ∷ []
  pub answer_is : answer ≡ raw % k

-- the first n numbers of a sequence
abbrev pub first_numbers : (ℕ → ℕ) → ℕ → List ℕ
first_numbers number zero = []
first_numbers number (suc n) = first_numbers number n ++ number n ∷ []
