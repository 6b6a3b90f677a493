-- Bits of whole numbers, and of their 128 bits.
use Rattle.std.proofs.Common.{◌≡◌, ℕ, suc, ◌<◌, ◌^◌, ◌-◌, refl, sym, ◌∙◌, ap, arith}
use Rattle.std.specs.Prelude.{ℤ, pos, negsuc, min, max}
use Rattle.std.specs.Int.{w128, bit_at, cast_signed, cast_unsigned}
use Rattle.std.specs.Int.RustNames.{FitsSigned, bit_and, bit_or, bit_xor}
use Rattle.std.proofs.lemmas.Int.{to_z-of_z}
use Rattle.std.proofs.lemmas.Nat.Bits.{bit_at_and, bit_at_or, bit_at_xor, bit_at-lt, bit_at_not, same_from_bits_below}
use lib.Bits.{and_lt, or_lt, xor_lt}
use Rattle.go_const.specs.Bits.{bit, differ, clears, int_not, cleared, int_and, int_or, int_xor}

-- ---- the bits of the functions' values

cleared_at : (a b i : ℕ) → bit_at (cleared a b) i ≡ clears (bit_at a i) (bit_at b i)
cleared_at a b i = rw (bit_at_xor a (bit_and a b) i, bit_at_and a b i) (omega (arith, bit_at-lt a i, bit_at-lt b i))

pub not_at : (x : ℤ) (i : ℕ) → bit (int_not x) i ≡ 1 - bit x i
not_at (pos n) i = refl
not_at (negsuc n) i = omega (arith, bit_at-lt n i)

pub and_at : (x y : ℤ) (i : ℕ) → bit (int_and x y) i ≡ min (bit x i) (bit y i)
and_at (pos a) (pos b) i = bit_at_and a b i
and_at (pos a) (negsuc b) i = cleared_at a b i
and_at (negsuc a) (pos b) i = cleared_at b a i ∙ omega arith
and_at (negsuc a) (negsuc b) i = rw (bit_at_or a b i) (omega (arith, bit_at-lt a i, bit_at-lt b i))

pub or_at : (x y : ℤ) (i : ℕ) → bit (int_or x y) i ≡ max (bit x i) (bit y i)
or_at (pos a) (pos b) i = bit_at_or a b i
or_at (pos a) (negsuc b) i = rw (cleared_at b a i) (omega (arith, bit_at-lt a i, bit_at-lt b i))
or_at (negsuc a) (pos b) i = rw (cleared_at a b i) (omega (arith, bit_at-lt a i, bit_at-lt b i))
or_at (negsuc a) (negsuc b) i = rw (bit_at_and a b i) (omega (arith, bit_at-lt a i, bit_at-lt b i))

pub xor_at : (x y : ℤ) (i : ℕ) → bit (int_xor x y) i ≡ differ (bit x i) (bit y i)
xor_at (pos a) (pos b) i = bit_at_xor a b i
xor_at (pos a) (negsuc b) i = rw (bit_at_xor a b i) (omega (arith, bit_at-lt a i, bit_at-lt b i))
xor_at (negsuc a) (pos b) i = rw (bit_at_xor a b i) (omega (arith, bit_at-lt a i, bit_at-lt b i))
xor_at (negsuc a) (negsuc b) i = rw (bit_at_xor a b i) (omega (arith, bit_at-lt a i, bit_at-lt b i))

-- ---- 128 bits

fits_pos : (n : ℕ) → n < 2 ^ 127 → FitsSigned w128 (pos n)
fits_pos n l = record { sfits = l }

fits_negsuc : (n : ℕ) → n < 2 ^ 127 → FitsSigned w128 (negsuc n)
fits_negsuc n l = record { sfits = l }

cleared_lt : (k a b : ℕ) → a < 2 ^ k → b < 2 ^ k → cleared a b < 2 ^ k
cleared_lt k a b l m = xor_lt k a (bit_and a b) l (and_lt k a b l m)

pub not_fits : (x : ℤ) → FitsSigned w128 x → FitsSigned w128 (int_not x)
not_fits (pos n) f = record { sfits = f.sfits }
not_fits (negsuc n) f = record { sfits = f.sfits }

pub and_fits : (x y : ℤ) → FitsSigned w128 x → FitsSigned w128 y → FitsSigned w128 (int_and x y)
and_fits (pos a) (pos b) f g = fits_pos (bit_and a b) (and_lt 127 a b f.sfits g.sfits)
and_fits (pos a) (negsuc b) f g = fits_pos (cleared a b) (cleared_lt 127 a b f.sfits g.sfits)
and_fits (negsuc a) (pos b) f g = fits_pos (cleared b a) (cleared_lt 127 b a g.sfits f.sfits)
and_fits (negsuc a) (negsuc b) f g = fits_negsuc (bit_or a b) (or_lt 127 a b f.sfits g.sfits)

pub or_fits : (x y : ℤ) → FitsSigned w128 x → FitsSigned w128 y → FitsSigned w128 (int_or x y)
or_fits (pos a) (pos b) f g = fits_pos (bit_or a b) (or_lt 127 a b f.sfits g.sfits)
or_fits (pos a) (negsuc b) f g = fits_negsuc (cleared b a) (cleared_lt 127 b a g.sfits f.sfits)
or_fits (negsuc a) (pos b) f g = fits_negsuc (cleared a b) (cleared_lt 127 a b f.sfits g.sfits)
or_fits (negsuc a) (negsuc b) f g = fits_negsuc (bit_and a b) (and_lt 127 a b f.sfits g.sfits)

pub xor_fits : (x y : ℤ) → FitsSigned w128 x → FitsSigned w128 y → FitsSigned w128 (int_xor x y)
xor_fits (pos a) (pos b) f g = fits_pos (bit_xor a b) (xor_lt 127 a b f.sfits g.sfits)
xor_fits (pos a) (negsuc b) f g = fits_negsuc (bit_xor a b) (xor_lt 127 a b f.sfits g.sfits)
xor_fits (negsuc a) (pos b) f g = fits_negsuc (bit_xor a b) (xor_lt 127 a b f.sfits g.sfits)
xor_fits (negsuc a) (negsuc b) f g = fits_pos (bit_xor a b) (xor_lt 127 a b f.sfits g.sfits)

unsigned_lt : (x : ℤ) → FitsSigned w128 x → cast_unsigned w128 x < 2 ^ 128
unsigned_lt (pos n) f = let l : n < 2 ^ 127 = f.sfits in omega arith
unsigned_lt (negsuc n) f = omega arith

-- the 128 bits of a number are its first bits
unsigned_at : (x : ℤ) (i : ℕ) → FitsSigned w128 x → i < 128 → bit_at (cast_unsigned w128 x) i ≡ bit x i
unsigned_at (pos n) i f l = refl
unsigned_at (negsuc n) i f l =
    let m : n < 2 ^ 127 = f.sfits in
    let e : 2 ^ 128 - suc n ≡ 2 ^ 128 - 1 - n = omega arith in
    ap (λ (k : ℕ). bit_at k i) e ∙ bit_at_not w128 n i (omega arith) l

-- a number of 128 bits is known by them
by_bits : (n : ℕ) (z : ℤ) → n < 2 ^ 128 → FitsSigned w128 z → ((i : ℕ) → i < 128 → bit_at n i ≡ bit z i) → cast_signed w128 n ≡ z
by_bits n z l f same =
    ap (cast_signed w128) (same_from_bits_below 128 n (cast_unsigned w128 z) l (unsigned_lt z f) (λ i h. same i h ∙ sym (unsigned_at z i f h)))
    ∙ to_z-of_z w128 z f

pub code_and : (x y : ℤ) → FitsSigned w128 x → FitsSigned w128 y → cast_signed w128 (bit_and (cast_unsigned w128 x) (cast_unsigned w128 y)) ≡ int_and x y
code_and x y f g =
    by_bits (bit_and (cast_unsigned w128 x) (cast_unsigned w128 y)) (int_and x y) (and_lt 128 (cast_unsigned w128 x) (cast_unsigned w128 y) (unsigned_lt x f) (unsigned_lt y g)) (and_fits x y f g)
    (λ i h. bit_at_and (cast_unsigned w128 x) (cast_unsigned w128 y) i ∙ ap (λ (b : ℕ). min b (bit_at (cast_unsigned w128 y) i)) (unsigned_at x i f h) ∙ ap (λ (b : ℕ). min (bit x i) b) (unsigned_at y i g h) ∙ sym (and_at x y i))

pub code_or : (x y : ℤ) → FitsSigned w128 x → FitsSigned w128 y → cast_signed w128 (bit_or (cast_unsigned w128 x) (cast_unsigned w128 y)) ≡ int_or x y
code_or x y f g =
    by_bits (bit_or (cast_unsigned w128 x) (cast_unsigned w128 y)) (int_or x y) (or_lt 128 (cast_unsigned w128 x) (cast_unsigned w128 y) (unsigned_lt x f) (unsigned_lt y g)) (or_fits x y f g)
    (λ i h. bit_at_or (cast_unsigned w128 x) (cast_unsigned w128 y) i ∙ ap (λ (b : ℕ). max b (bit_at (cast_unsigned w128 y) i)) (unsigned_at x i f h) ∙ ap (λ (b : ℕ). max (bit x i) b) (unsigned_at y i g h) ∙ sym (or_at x y i))

pub code_xor : (x y : ℤ) → FitsSigned w128 x → FitsSigned w128 y → cast_signed w128 (bit_xor (cast_unsigned w128 x) (cast_unsigned w128 y)) ≡ int_xor x y
code_xor x y f g =
    by_bits (bit_xor (cast_unsigned w128 x) (cast_unsigned w128 y)) (int_xor x y) (xor_lt 128 (cast_unsigned w128 x) (cast_unsigned w128 y) (unsigned_lt x f) (unsigned_lt y g)) (xor_fits x y f g)
    (λ i h. bit_at_xor (cast_unsigned w128 x) (cast_unsigned w128 y) i ∙ ap (λ (b : ℕ). differ b (bit_at (cast_unsigned w128 y) i)) (unsigned_at x i f h) ∙ ap (λ (b : ℕ). differ (bit x i) b) (unsigned_at y i g h) ∙ sym (xor_at x y i))
