-- Quotients and remainders, and shifts to the right.
use Rattle.std.proofs.Common.{◌≡◌, ℕ, zero, suc, ◌+◌, ◌*◌, ◌/◌, ◌%◌, ◌<◌, ◌≤◌, refl, sym, subst, arith}
use Rattle.std.specs.Prelude.{ℤ, pos, negsuc, neg_ℤ, ◌+ℤ◌, ◌*ℤ◌, ◌≤ℤ◌, ◌<ℤ◌, ◌≢◌}
use Rattle.std.specs.Int.Signed.{shr_z}
use Rattle.std.specs.Int.RustNames.{unsigned_abs, int_div, int_rem}
use Rattle.std.proofs.lemmas.Int.{ints, quot-rem, rem_below}
use Rattle.go_const.specs.Operation.{IsDivision}
use Rattle.go_const.proofs.RangeLemmas.{times_neg}

abs_neg : (n : ℕ) → unsigned_abs (neg_ℤ (pos n)) ≡ n
abs_neg zero = refl
abs_neg (suc n) = refl

times_div : (a b : ℕ) → a / b * b ≤ a
times_div a zero = omega arith
times_div a (suc b) = let e : suc b * (a / suc b) + a % suc b ≡ a = omega arith in grind arith

pub truncated : (x y : ℤ) → unsigned_abs (int_div x y) * unsigned_abs y ≤ unsigned_abs x
truncated (pos a) (pos b) = times_div a b
truncated (pos a) (negsuc b) = rw (abs_neg (a / suc b)) (times_div a (suc b))
truncated (negsuc a) (pos b) = rw (abs_neg (suc a / b)) (times_div (suc a) b)
truncated (negsuc a) (negsuc b) = times_div (suc a) (suc b)

positive : (y : ℤ) → y ≢ pos 0 → 0 < unsigned_abs y
positive (pos zero) h = absurd (h refl)
positive (pos (suc n)) h = omega arith
positive (negsuc n) h = omega arith

pub division : (x y : ℤ) → y ≢ pos 0 → IsDivision x y (int_div x y) (int_rem x y)
division x y h = record {
  whole = quot-rem x y;
  smaller = rem_below x y (positive y h);
  truncated = truncated x y;
}

neg_order : (a b : ℕ) → b ≤ a → neg_ℤ (pos a) ≤ℤ neg_ℤ (pos b)
neg_order a b l = omega (arith, ints)

-- x divided by m, rounded down, is the greatest number whose product with m is at most x
pub shifted_low : (x : ℤ) (m : ℕ) → 0 < m → (shr_z x m *ℤ pos m) ≤ℤ x
shifted_low (pos a) m l = let h : a / m * m ≤ a = times_div a m in omega (arith, ints)
shifted_low (negsuc a) m l = neg_order (suc (a / m) * m) (suc a) (up a m l)
  where
    up : (a m : ℕ) → 0 < m → suc a ≤ suc (a / m) * m
    up a zero l = omega arith
    up a (suc m) l = let e : suc m * (a / suc m) + a % suc m ≡ a = omega arith in let f : a % suc m < suc m = omega arith in let g : suc (a / suc m) * suc m ≡ suc m + suc m * (a / suc m) = grind arith in omega arith

pub shifted_high : (x : ℤ) (m : ℕ) → 0 < m → x <ℤ ((shr_z x m +ℤ pos 1) *ℤ pos m)
shifted_high (pos a) m l = let h : a < (a / m + 1) * m = up a m l in omega (arith, ints)
  where
    up : (a m : ℕ) → 0 < m → a < (a / m + 1) * m
    up a zero l = omega arith
    up a (suc m) l = let e : suc m * (a / suc m) + a % suc m ≡ a = omega arith in let f : a % suc m < suc m = omega arith in let g : (a / suc m + 1) * suc m ≡ suc m + suc m * (a / suc m) = grind arith in omega arith
shifted_high (negsuc a) m l =
    let e : negsuc (a / m) +ℤ pos 1 ≡ neg_ℤ (pos (a / m)) = omega (arith, ints) in
    let h : a / m * m ≤ a = times_div a m in
    let g : negsuc a <ℤ neg_ℤ (pos (a / m * m)) = omega (arith, ints) in
    subst (λ (z : ℤ). negsuc a <ℤ (z *ℤ pos m)) (sym e) (subst (λ (z : ℤ). negsuc a <ℤ z) (sym (times_neg (a / m) m)) g)
