-- Go specification (as of Go 1.17), "Arithmetic operators", "Constant expressions": the bits of whole
-- numbers. A negative number has the bits of two's complement, without end.
use Rattle.std.specs.Prelude.{◌≡◌, ℕ, ◌+◌, ◌-◌, ◌%◌, min, ℤ, pos, negsuc}
use Rattle.std.specs.Int.{bit_at}
use Rattle.std.specs.Int.RustNames.{bit_and, bit_or, bit_xor}

-- the bit at a place: -(n + 1) has a 1 where n has a 0
abbrev pub bit : ℤ → ℕ → ℕ
bit (pos n) i = bit_at n i
bit (negsuc n) i = 1 - bit_at n i

-- each bit of z comes from the bits of x and y at its place
pub record IsBitwise (f : ℕ → ℕ → ℕ) (x y z : ℤ) : Type 0 where
  pub at : (i : ℕ) → bit z i ≡ f (bit x i) (bit y i)

-- 1 where one of the two is 1 and the other 0
abbrev pub differ : ℕ → ℕ → ℕ
differ a b = (a + b) % 2

-- 1 where the first is 1 and the second 0
abbrev pub clears : ℕ → ℕ → ℕ
clears a b = min a (1 - b)

-- the number that has a 1 just where the other has a 0
abbrev pub int_not : ℤ → ℤ
int_not (pos n) = negsuc n
int_not (negsuc n) = pos n

-- the bits of a that b lacks
abbrev pub cleared : ℕ → ℕ → ℕ
cleared a b = bit_xor a (bit_and a b)

-- the functions that compute such numbers
abbrev pub int_and : ℤ → ℤ → ℤ
int_and (pos a) (pos b) = pos (bit_and a b)
int_and (pos a) (negsuc b) = pos (cleared a b)
int_and (negsuc a) (pos b) = pos (cleared b a)
int_and (negsuc a) (negsuc b) = negsuc (bit_or a b)

abbrev pub int_or : ℤ → ℤ → ℤ
int_or (pos a) (pos b) = pos (bit_or a b)
int_or (pos a) (negsuc b) = negsuc (cleared b a)
int_or (negsuc a) (pos b) = negsuc (cleared a b)
int_or (negsuc a) (negsuc b) = negsuc (bit_and a b)

abbrev pub int_xor : ℤ → ℤ → ℤ
int_xor (pos a) (pos b) = pos (bit_xor a b)
int_xor (pos a) (negsuc b) = negsuc (bit_xor a b)
int_xor (negsuc a) (pos b) = negsuc (bit_xor a b)
int_xor (negsuc a) (negsuc b) = pos (bit_xor a b)

abbrev pub int_and_not : ℤ → ℤ → ℤ
int_and_not x y = int_and x (int_not y)
