-- A number in the range of a kind is that of its bits.
use Rattle.std.proofs.Common.{◌≡◌, ℕ, suc, ◌+◌, ◌-◌, ◌%◌, ◌^◌, ◌<◌, ◌≤◌, ℤ, pos, negsuc, neg_ℤ, refl, ap, arith, nat_lt, Bool, true, false, ◌&&◌, Some, mod-eq_of_lt, if◌then◌else◌}
use Rattle.std.specs.Prelude.{int_le}
use Rattle.std.proofs.lemmas.Bool.{lt-ltb, le-ltb}
use Rattle.std.proofs.lemmas.Int.{ints}
use Rattle.gj_base.specs.declared.kind.Kind.{Kind}
use Rattle.gj_base.specs.declared.kind.Kind.TheVariants.{I8, I16, I32, I64, U8, U16, U32, U64}
use Rattle.go_const.specs.Answer.{holds}
use Rattle.go_core.specs.Arithmetic.{wrapped}

signed_pos : (h m n : ℕ) → h ≤ m → n < h → (if nat_lt (n % m) h then pos (n % m) else neg_ℤ (pos (m - n % m))) ≡ pos n
signed_pos h m n a b = let e : n % m ≡ n = mod-eq_of_lt (omega arith) in let f : nat_lt n h ≡ true = lt-ltb n h b in rw (e, f) refl

signed_neg : (h m n : ℕ) → h + h ≡ m → n < h → (if nat_lt (m - 1 - n % m) h then pos (m - 1 - n % m) else neg_ℤ (pos (m - (m - 1 - n % m)))) ≡ negsuc n
signed_neg h m n a b =
    let e : n % m ≡ n = mod-eq_of_lt (omega arith) in
    let f : nat_lt (m - 1 - n) h ≡ false = le-ltb (m - 1 - n) h (omega arith) in
    let g : m - (m - 1 - n) ≡ suc n = omega arith in rw (e, f, g) refl

unsigned_pos : (m n : ℕ) → n < m → pos (n % m) ≡ pos n
unsigned_pos m n h = ap pos (mod-eq_of_lt h)

below : (h n : ℕ) (b : Bool) → (b && int_le (pos n) (pos (h - 1))) ≡ true → 0 < h → n < h
below h n b k l = grind (arith, ints)

above : (h n : ℕ) (b : Bool) → (int_le (negsuc (h - 1)) (negsuc n) && b) ≡ true → 0 < h → n < h
above h n b k l = grind (arith, ints)

pub number_fits : (kind : Kind) (z : ℤ) → holds (Some kind) z ≡ true → wrapped kind z ≡ z
number_fits I8 (pos n) h = signed_pos (2 ^ 7) (2 ^ 8) n (omega arith) (below (2 ^ 7) n (int_le (negsuc (2 ^ 7 - 1)) (pos n)) h (omega arith))
number_fits I16 (pos n) h = signed_pos (2 ^ 15) (2 ^ 16) n (omega arith) (below (2 ^ 15) n (int_le (negsuc (2 ^ 15 - 1)) (pos n)) h (omega arith))
number_fits I32 (pos n) h = signed_pos (2 ^ 31) (2 ^ 32) n (omega arith) (below (2 ^ 31) n (int_le (negsuc (2 ^ 31 - 1)) (pos n)) h (omega arith))
number_fits I64 (pos n) h = signed_pos (2 ^ 63) (2 ^ 64) n (omega arith) (below (2 ^ 63) n (int_le (negsuc (2 ^ 63 - 1)) (pos n)) h (omega arith))
number_fits U8 (pos n) h = unsigned_pos (2 ^ 8) n (below (2 ^ 8) n (int_le (pos 0) (pos n)) h (omega arith))
number_fits U16 (pos n) h = unsigned_pos (2 ^ 16) n (below (2 ^ 16) n (int_le (pos 0) (pos n)) h (omega arith))
number_fits U32 (pos n) h = unsigned_pos (2 ^ 32) n (below (2 ^ 32) n (int_le (pos 0) (pos n)) h (omega arith))
number_fits U64 (pos n) h = unsigned_pos (2 ^ 64) n (below (2 ^ 64) n (int_le (pos 0) (pos n)) h (omega arith))
number_fits I8 (negsuc n) h = signed_neg (2 ^ 7) (2 ^ 8) n refl (above (2 ^ 7) n (int_le (negsuc n) (pos (2 ^ 7 - 1))) h (omega arith))
number_fits I16 (negsuc n) h = signed_neg (2 ^ 15) (2 ^ 16) n refl (above (2 ^ 15) n (int_le (negsuc n) (pos (2 ^ 15 - 1))) h (omega arith))
number_fits I32 (negsuc n) h = signed_neg (2 ^ 31) (2 ^ 32) n refl (above (2 ^ 31) n (int_le (negsuc n) (pos (2 ^ 31 - 1))) h (omega arith))
number_fits I64 (negsuc n) h = signed_neg (2 ^ 63) (2 ^ 64) n refl (above (2 ^ 63) n (int_le (negsuc n) (pos (2 ^ 63 - 1))) h (omega arith))
number_fits U8 (negsuc n) h = let e : false ≡ true = h in cc
number_fits U16 (negsuc n) h = let e : false ≡ true = h in cc
number_fits U32 (negsuc n) h = let e : false ≡ true = h in cc
number_fits U64 (negsuc n) h = let e : false ≡ true = h in cc
