-- own: the raw numbers that follow from a seed.
use Rattle.std.specs.Prelude.{◌+◌, ◌*◌, ◌/◌, ◌%◌, ◌^◌, ℕ, zero, suc, List}
use Rattle.gj_base.specs.Choices.{first_numbers}

-- a seed, with how many numbers were taken
pub record SeedPoint : Type 0 where
  pub seed : ℕ
  pub count : ℕ

-- the state after n numbers
abbrev pub seeded_state : ℕ → ℕ → ℕ
seeded_state seed zero = seed
seeded_state seed (suc n) = (seeded_state seed n * 6364136223846793005 + 1442695040888963407) % 2 ^ 64

-- the raw number at an index, from 0: the state after it, without its low 33 bits
abbrev pub seeded : ℕ → ℕ → ℕ
seeded seed index = seeded_state seed (suc index) / 2 ^ 33

-- the raw numbers that were taken
abbrev pub seeded_taken : SeedPoint → List ℕ
seeded_taken point = first_numbers (seeded point.seed) point.count
