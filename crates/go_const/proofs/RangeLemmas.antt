-- Numbers within a range, and numbers of 128 bits.
use Rattle.std.proofs.Common.{◌≡◌, ℕ, zero, suc, ◌+◌, ◌-◌, ◌*◌, ◌/◌, ◌<◌, ◌≤◌, ◌^◌, Bool, true, false, Option, Some, None, Ok, Err, refl, sym, ◌∙◌, ap, subst, arith}
use Rattle.std.specs.Prelude.{ℤ, pos, negsuc, neg_ℤ, ◌*ℤ◌, SomeIff, ◌≢◌, if◌then◌else◌}
use Rattle.std.specs.Int.{w128, cast_signed, cast_unsigned, int_shr}
use Rattle.std.specs.Int.Signed.{shr_z}
use Rattle.std.specs.Int.RustNames.{FitsSigned}
use Rattle.std.proofs.lemmas.Int.{to_z-of_z}
use Rattle.std.proofs.lemmas.Nat.{pow-add, pow_pos}
use Rattle.std.proofs.lemmas.Bool.Decides.{nat_tests}
use Rattle.std.proofs.Math.Nat.{mul_assoc, pow-le-pow_right, div-eq_of_lt, div-le_self}
use Rattle.gj_base.specs.declared.kind.Kind.{Kind}
use Rattle.gj_base.specs.declared.kind.Kind.TheVariants.{I8, I16, I32, I64, U8, U16, U32, U64}
use Rattle.go_const.specs.declared.constant.ConstRefusal.TheVariants.{Code}
use Rattle.go_const.specs.Representability.{range_code}
use Rattle.go_const.specs.Operation.{numeral}
use Rattle.go_const.specs.Answer.{holds, settled_of, settled_value}

-- what a range holds has 128 bits
pub held_fits : (kind : Option Kind) (z : ℤ) → holds kind z ≡ true → FitsSigned w128 z
held_fits None (pos n) h = record { sfits = grind (arith, nat_tests) }
held_fits None (negsuc n) h = record { sfits = grind (arith, nat_tests) }
held_fits (Some I8) (pos n) h = record { sfits = grind (arith, nat_tests) }
held_fits (Some I16) (pos n) h = record { sfits = grind (arith, nat_tests) }
held_fits (Some I32) (pos n) h = record { sfits = grind (arith, nat_tests) }
held_fits (Some I64) (pos n) h = record { sfits = grind (arith, nat_tests) }
held_fits (Some U8) (pos n) h = record { sfits = grind (arith, nat_tests) }
held_fits (Some U16) (pos n) h = record { sfits = grind (arith, nat_tests) }
held_fits (Some U32) (pos n) h = record { sfits = grind (arith, nat_tests) }
held_fits (Some U64) (pos n) h = record { sfits = grind (arith, nat_tests) }
held_fits (Some I8) (negsuc n) h = record { sfits = grind (arith, nat_tests) }
held_fits (Some I16) (negsuc n) h = record { sfits = grind (arith, nat_tests) }
held_fits (Some I32) (negsuc n) h = record { sfits = grind (arith, nat_tests) }
held_fits (Some I64) (negsuc n) h = record { sfits = grind (arith, nat_tests) }
held_fits (Some U8) (negsuc n) h = cc
held_fits (Some U16) (negsuc n) h = cc
held_fits (Some U32) (negsuc n) h = cc
held_fits (Some U64) (negsuc n) h = cc

outside : (kind : Option Kind) (rune : Bool) (z : ℤ) (b : Bool) → holds kind z ≡ b → (FitsSigned w128 z → ⊥) → settled_value kind rune None ≡ (if b then Ok (numeral kind rune z) else Err (Code (range_code kind)))
outside kind rune z true h out = absurd (out (held_fits kind z h))
outside kind rune z false h out = refl

-- a number that is none of 128 bits is in no range
pub settled_exact : (kind : Option Kind) (rune : Bool) (value : Option ℤ) (z : ℤ) → SomeIff value (FitsSigned w128 z) z → settled_value kind rune value ≡ settled_of kind rune z
settled_exact kind rune None z h = outside kind rune z (holds kind z) refl h
settled_exact kind rune (Some x) z h = ap (settled_of kind rune) h.1

-- ---- products with a power of two

pub times_neg : (k n : ℕ) → neg_ℤ (pos k) *ℤ pos n ≡ neg_ℤ (pos (k * n))
times_neg zero n = let e : 0 * n ≡ 0 = omega arith in ap (λ (m : ℕ). pos m) e ∙ sym (ap (λ (m : ℕ). neg_ℤ (pos m)) e)
times_neg (suc k) n = refl

pub times_twice : (x : ℤ) (m n : ℕ) → (x *ℤ pos m) *ℤ pos n ≡ x *ℤ pos (m * n)
times_twice (pos a) m n = ap pos (mul_assoc a m n)
times_twice (negsuc a) m n = times_neg (suc a * m) n ∙ ap (λ (k : ℕ). neg_ℤ (pos k)) (mul_assoc (suc a) m n)

neg_fits : (n : ℕ) → n ≤ 2 ^ 127 → FitsSigned w128 (neg_ℤ (pos n))
neg_fits zero h = record { sfits = omega arith }
neg_fits (suc n) h = record { sfits = omega arith }

fits_neg : (n : ℕ) → FitsSigned w128 (neg_ℤ (pos n)) → n ≤ 2 ^ 127
fits_neg zero f = omega arith
fits_neg (suc n) f = let h : n < 2 ^ 127 = f.sfits in omega arith

-- a smaller factor gives a smaller product
pub smaller_fits : (x : ℤ) (m n : ℕ) → 0 < n → FitsSigned w128 (x *ℤ pos (m * n)) → FitsSigned w128 (x *ℤ pos m)
smaller_fits (pos a) m n l f =
    let h : a * (m * n) < 2 ^ 127 = f.sfits in
    let e : a * m ≤ a * m * n = grow (a * m) n l in
    let g : a * m * n ≡ a * (m * n) = mul_assoc a m n in
    record { sfits = omega arith }
  where
    grow : (k n : ℕ) → 0 < n → k ≤ k * n
    grow k zero l = omega arith
    grow k (suc n) l = grind arith
smaller_fits (negsuc a) m n l f =
    let h : suc a * (m * n) ≤ 2 ^ 127 = fits_neg (suc a * (m * n)) f in
    let e : suc a * m ≤ suc a * m * n = grow (suc a * m) n l in
    let g : suc a * m * n ≡ suc a * (m * n) = mul_assoc (suc a) m n in
    neg_fits (suc a * m) (omega arith)
  where
    grow : (k n : ℕ) → 0 < n → k ≤ k * n
    grow k zero l = omega arith
    grow k (suc n) l = grind arith

-- no number but 0 can be shifted so far
pub too_far : (x : ℤ) (n : ℕ) → x ≢ pos 0 → 2 ^ 128 ≤ n → FitsSigned w128 (x *ℤ pos n) → ⊥
too_far (pos zero) n ne l f = absurd (ne refl)
too_far (pos (suc a)) n ne l f =
    let h : suc a * n < 2 ^ 127 = f.sfits in
    let e : n ≤ suc a * n = grind arith in omega arith
too_far (negsuc a) n ne l f =
    let h : suc a * n ≤ 2 ^ 127 = fits_neg (suc a * n) f in
    let e : n ≤ suc a * n = grind arith in omega arith

nonzero : (x : ℤ) → (cast_unsigned w128 x ≡ 0 → ⊥) → x ≢ pos 0
nonzero x h e = h (ap (cast_unsigned w128) e)

pub too_far_by : (x : ℤ) (c : ℕ) → (cast_unsigned w128 x ≡ 0 → ⊥) → 128 ≤ c → FitsSigned w128 (x *ℤ pos (2 ^ c)) → ⊥
too_far_by x c ne l = too_far x (2 ^ c) (nonzero x ne) (pow-le-pow_right {n = 2} (omega arith) {i = 128} {j = c} l)

-- a power of two in two halves
pow_halves : (c : ℕ) → 2 ^ c ≡ 2 ^ (c / 2) * 2 ^ (c - c / 2)
pow_halves c = let e : c / 2 + (c - c / 2) ≡ c = omega arith in ap (λ (k : ℕ). 2 ^ k) (sym e) ∙ pow-add 2 (c / 2) (c - c / 2)

pub halves_none : (x : ℤ) (c : ℕ) (p : ℤ) (r : Option ℤ) → FitsSigned w128 x → FitsSigned w128 p → p ≡ pos (2 ^ (c / 2)) → r ≡ None
    → SomeIff r (FitsSigned w128 (cast_signed w128 (cast_unsigned w128 x) *ℤ cast_signed w128 (cast_unsigned w128 p))) (cast_signed w128 (cast_unsigned w128 x) *ℤ cast_signed w128 (cast_unsigned w128 p))
    → FitsSigned w128 (x *ℤ pos (2 ^ c)) → ⊥
halves_none x c p r f g e none h fits =
    let out : FitsSigned w128 (x *ℤ p) → ⊥ = plain r none (simp to_z-of_z at h) in
    out (subst (λ (q : ℤ). FitsSigned w128 (x *ℤ q)) (sym e) (smaller_fits x (2 ^ (c / 2)) (2 ^ (c - c / 2)) (pow_pos (c - c / 2)) (subst (λ (m : ℕ). FitsSigned w128 (x *ℤ pos m)) (pow_halves c) fits)))
  where
    plain : (r : Option ℤ) → r ≡ None → SomeIff r (FitsSigned w128 (x *ℤ p)) (x *ℤ p) → FitsSigned w128 (x *ℤ p) → ⊥
    plain None n h = h
    plain (Some z) n h = cc

pub halves_some : (x : ℤ) (c : ℕ) (p q part : ℤ) (r s : Option ℤ) → FitsSigned w128 x → FitsSigned w128 p → FitsSigned w128 q → p ≡ pos (2 ^ (c / 2)) → q ≡ pos (2 ^ (c - c / 2)) → r ≡ Some part
    → SomeIff r (FitsSigned w128 (cast_signed w128 (cast_unsigned w128 x) *ℤ cast_signed w128 (cast_unsigned w128 p))) (cast_signed w128 (cast_unsigned w128 x) *ℤ cast_signed w128 (cast_unsigned w128 p))
    → SomeIff s (FitsSigned w128 (cast_signed w128 (cast_unsigned w128 part) *ℤ cast_signed w128 (cast_unsigned w128 q))) (cast_signed w128 (cast_unsigned w128 part) *ℤ cast_signed w128 (cast_unsigned w128 q))
    → SomeIff s (FitsSigned w128 (x *ℤ pos (2 ^ c))) (x *ℤ pos (2 ^ c))
halves_some x c p q part r s f g k e d some h i =
    let first : FitsSigned w128 (x *ℤ p) × (x *ℤ p ≡ part) = plain r some (simp to_z-of_z at h) in
    let fits : FitsSigned w128 part = subst (FitsSigned w128) first.1 first.0 in
    let second : SomeIff s (FitsSigned w128 (part *ℤ q)) (part *ℤ q) = simp to_z-of_z at i in
    let whole : part *ℤ q ≡ x *ℤ pos (2 ^ c) =
    ap (λ (z : ℤ). z *ℤ q) (sym first.1) ∙ ap (λ (z : ℤ). (x *ℤ z) *ℤ q) e ∙ ap (λ (z : ℤ). (x *ℤ pos (2 ^ (c / 2))) *ℤ z) d
    ∙ times_twice x (2 ^ (c / 2)) (2 ^ (c - c / 2)) ∙ ap (λ (m : ℕ). x *ℤ pos m) (sym (pow_halves c)) in
    subst (λ (z : ℤ). SomeIff s (FitsSigned w128 z) z) whole second
  where
    plain : (r : Option ℤ) → r ≡ Some part → SomeIff r (FitsSigned w128 (x *ℤ p)) (x *ℤ p) → FitsSigned w128 (x *ℤ p) × (x *ℤ p ≡ part)
    plain None n h = cc
    plain (Some z) n h = let same : z ≡ part = cc in (h.0, sym h.1 ∙ same)

-- past its sign no number has a bit
gone : (a c : ℕ) → a < 2 ^ 127 → 127 ≤ c → a / 2 ^ 127 ≡ a / 2 ^ c
gone a c l m =
    let far : 2 ^ 127 ≤ 2 ^ c = pow-le-pow_right {n = 2} (omega arith) {i = 127} {j = c} m in
    let under : a < 2 ^ c = omega arith in
    div-eq_of_lt l ∙ sym (div-eq_of_lt under)

sign_shift : (x : ℤ) (c : ℕ) → FitsSigned w128 x → 127 ≤ c → shr_z x (2 ^ 127) ≡ int_shr x c
sign_shift (pos a) c f l = ap pos (gone a c f.sfits l)
sign_shift (negsuc a) c f l = ap negsuc (gone a c f.sfits l)

pub sign_only : (x : ℤ) (c : ℕ) → FitsSigned w128 x → 127 ≤ c → cast_signed w128 (cast_unsigned w128 (shr_z (cast_signed w128 (cast_unsigned w128 x)) (2 ^ 127))) ≡ int_shr x c
sign_only x c f l =
    ap (λ (z : ℤ). cast_signed w128 (cast_unsigned w128 (shr_z z (2 ^ 127)))) (to_z-of_z w128 x f)
    ∙ to_z-of_z w128 (shr_z x (2 ^ 127)) (small x f)
    ∙ sign_shift x c f l
  where
    small : (x : ℤ) → FitsSigned w128 x → FitsSigned w128 (shr_z x (2 ^ 127))
    small (pos a) f = let h : a < 2 ^ 127 = f.sfits in record { sfits = omega (arith, div-le_self a (2 ^ 127)) }
    small (negsuc a) f = let h : a < 2 ^ 127 = f.sfits in record { sfits = omega (arith, div-le_self a (2 ^ 127)) }
