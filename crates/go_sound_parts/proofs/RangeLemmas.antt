-- A number in the range of a kind is that of its bits.
use Rattle.std.proofs.Common.{◌≡◌, ℕ, suc, ◌+◌, ◌-◌, ◌%◌, ◌^◌, ◌<◌, ◌≤◌, ℤ, pos, negsuc, neg_ℤ, refl, ap, arith, nat_lt, true, false, mod-eq_of_lt, if◌then◌else◌}
use Rattle.std.specs.Prelude.{◌≤ℤ◌}
use Rattle.std.proofs.lemmas.Bool.{lt-ltb, le-ltb}
use Rattle.std.proofs.lemmas.Int.{ints}
use Rattle.gj_base.specs.declared.kind.Kind.{Kind}
use Rattle.gj_base.specs.declared.kind.Kind.TheVariants.{I8, I16, I32, I64, U8, U16, U32, U64}
use Rattle.go_const.specs.Representability.{IsBetween, least, greatest}
use Rattle.go_core.specs.Arithmetic.{wrapped}

signed_pos : (h m n : ℕ) → h ≤ m → n < h → (if nat_lt (n % m) h then pos (n % m) else neg_ℤ (pos (m - n % m))) ≡ pos n
signed_pos h m n a b = let e : n % m ≡ n = mod-eq_of_lt (omega arith) in let f : nat_lt n h ≡ true = lt-ltb n h b in rw (e, f) refl

signed_neg : (h m n : ℕ) → h + h ≡ m → n < h → (if nat_lt (m - 1 - n % m) h then pos (m - 1 - n % m) else neg_ℤ (pos (m - (m - 1 - n % m)))) ≡ negsuc n
signed_neg h m n a b =
    let e : n % m ≡ n = mod-eq_of_lt (omega arith) in
    let f : nat_lt (m - 1 - n) h ≡ false = le-ltb (m - 1 - n) h (omega arith) in
    let g : m - (m - 1 - n) ≡ suc n = omega arith in rw (e, f, g) refl

unsigned_pos : (m n : ℕ) → n < m → pos (n % m) ≡ pos n
unsigned_pos m n h = ap pos (mod-eq_of_lt h)

below : (h n : ℕ) → pos n ≤ℤ pos (h - 1) → 0 < h → n < h
below h n k l = omega (arith, ints)

above : (h n : ℕ) → negsuc (h - 1) ≤ℤ negsuc n → 0 < h → n < h
above h n k l = omega (arith, ints)

none : (n : ℕ) → pos 0 ≤ℤ negsuc n → ⊥
none n h = omega (arith, ints)

pub number_fits : (kind : Kind) (z : ℤ) → IsBetween (least kind) (greatest kind) z → wrapped kind z ≡ z
number_fits I8 (pos n) h = signed_pos (2 ^ 7) (2 ^ 8) n (omega arith) (below (2 ^ 7) n h.below (omega arith))
number_fits I16 (pos n) h = signed_pos (2 ^ 15) (2 ^ 16) n (omega arith) (below (2 ^ 15) n h.below (omega arith))
number_fits I32 (pos n) h = signed_pos (2 ^ 31) (2 ^ 32) n (omega arith) (below (2 ^ 31) n h.below (omega arith))
number_fits I64 (pos n) h = signed_pos (2 ^ 63) (2 ^ 64) n (omega arith) (below (2 ^ 63) n h.below (omega arith))
number_fits U8 (pos n) h = unsigned_pos (2 ^ 8) n (below (2 ^ 8) n h.below (omega arith))
number_fits U16 (pos n) h = unsigned_pos (2 ^ 16) n (below (2 ^ 16) n h.below (omega arith))
number_fits U32 (pos n) h = unsigned_pos (2 ^ 32) n (below (2 ^ 32) n h.below (omega arith))
number_fits U64 (pos n) h = unsigned_pos (2 ^ 64) n (below (2 ^ 64) n h.below (omega arith))
number_fits I8 (negsuc n) h = signed_neg (2 ^ 7) (2 ^ 8) n refl (above (2 ^ 7) n h.above (omega arith))
number_fits I16 (negsuc n) h = signed_neg (2 ^ 15) (2 ^ 16) n refl (above (2 ^ 15) n h.above (omega arith))
number_fits I32 (negsuc n) h = signed_neg (2 ^ 31) (2 ^ 32) n refl (above (2 ^ 31) n h.above (omega arith))
number_fits I64 (negsuc n) h = signed_neg (2 ^ 63) (2 ^ 64) n refl (above (2 ^ 63) n h.above (omega arith))
number_fits U8 (negsuc n) h = absurd (none n h.above)
number_fits U16 (negsuc n) h = absurd (none n h.above)
number_fits U32 (negsuc n) h = absurd (none n h.above)
number_fits U64 (negsuc n) h = absurd (none n h.above)
