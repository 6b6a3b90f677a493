-- own: the raw numbers of a list, and then zeros.
use Rattle.std.specs.Prelude.{ℕ, List, slice_index}
use Rattle.gj_base.specs.Choices.{first_numbers}

-- numbers in a list, of which so many were taken
pub record ListPoint : Type 0 where
  pub numbers : List ℕ
  pub count : ℕ

-- the raw number at an index, from 0: the list's, and zero past its end
abbrev pub listed : List ℕ → ℕ → ℕ
listed numbers index = slice_index numbers index

-- the raw numbers that were taken
abbrev pub listed_taken : ListPoint → List ℕ
listed_taken point = first_numbers (listed point.numbers) point.count
