-- The first numbers of a sequence, and how many they are.
use Rattle.std.proofs.Common.{◌≡◌, ℕ, zero, suc, ◌+◌, ◌*◌, ◌%◌, ◌^◌, ◌<◌, ◌∷◌, [], length, refl, ap, ◌∙◌, arith, length-append, add-one}
use Rattle.std.proofs.Math.Nat.{mod-add-mod}
use Rattle.gj_base.specs.Choices.{first_numbers, Picks}
use Rattle.gj_base.specs.Seeded.{seeded_state}

length-first_numbers : (number : ℕ → ℕ) (n : ℕ) → length (first_numbers number n) ≡ n
length-first_numbers number zero = refl
length-first_numbers number (suc n) =
    let rest = length-first_numbers number n in
    omega (arith, length-append (first_numbers number n) (number n ∷ []), rest)

-- where fewer than 2^63 were taken, one more can be counted
pub count_fits : (number : ℕ → ℕ) (n : ℕ) → length (first_numbers number n) < 2 ^ 63 → n < 2 ^ 63
count_fits number n few = let is = length-first_numbers number n in omega (arith, few, is)

-- one number more
pub picks_next : (number : ℕ → ℕ) (n k answer : ℕ) → answer ≡ number n % k → Picks answer k (first_numbers number n) (first_numbers number (n + 1))
picks_next number n k answer is = record { raw = number n; taken = rw add-one; answer_is = is }

-- the state after one number more, as a product and a sum that each wrap
pub seeded_state-next : (seed n state : ℕ) → state ≡ seeded_state seed n → (state * 6364136223846793005 % 2 ^ 64 + 1442695040888963407) % 2 ^ 64 ≡ seeded_state seed (suc n)
seeded_state-next seed n state is =
    mod-add-mod (state * 6364136223846793005) (2 ^ 64) 1442695040888963407
    ∙ ap (λ x. (x * 6364136223846793005 + 1442695040888963407) % 2 ^ 64) is
