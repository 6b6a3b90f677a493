-- What the calls answer is the exact value, or the fault whose row holds.
use Rattle.std.proofs.Common.{◌≡◌, ℕ, ◌^◌, Bool, true, false, List, Option, Some, None, Result, Ok, Err, refl, sym, ◌∙◌, ap, subst, arith, inl, inr}
use Rattle.std.specs.Prelude.{ℤ, pos, negsuc, ◌≤ℤ◌, ◌≢◌, ◌↔◌, IsTrue, IfOk, IfErr, if◌then◌else◌, not, bytes_eq, min, ◌||◌}
use Rattle.std.specs.Ordering.{int_eq, nat_cmp, is_lt, is_le, is_gt, is_ge}
use Rattle.std.specs.declared.cmp.Ordering.{Ordering}
use Rattle.std.specs.declared.cmp.Ordering.TheVariants.{Less, Equal, Greater}
use Rattle.std.specs.Cmp.{signed_Decides}
use Rattle.std.specs.Cmp.Lexicographic.{slice_cmp}
use Rattle.std.specs.Char.{encode_utf8}
use Rattle.std.proofs.lemmas.Int.{ints}
use Rattle.std.proofs.lemmas.Nat.{pow_pos}
use Rattle.std.proofs.lemmas.Slice.Eq.{bytes_eq-Decides}
use lib.Utf8.{scalar}
use Rattle.gj_base.specs.declared.kind.Kind.{Kind}
use Rattle.gj_base.specs.declared.kind.Op.{Op}
use Rattle.gj_base.specs.declared.kind.Op.TheVariants as operator
use Rattle.go_const.specs.declared.constant.Const.{Const}
use Rattle.go_const.specs.declared.constant.Const.TheVariants as form
use Rattle.go_const.specs.declared.constant.Basic.{Basic}
use Rattle.go_const.specs.declared.constant.Basic.TheVariants as basic
use Rattle.go_const.specs.declared.constant.ConstRefusal.{ConstRefusal}
use Rattle.go_const.specs.declared.constant.ConstRefusal.TheVariants.{Code, NoMemory}
use Rattle.go_const.specs.Representability.{least, greatest, least_untyped, greatest_untyped, IsBetween, Holds, IsHeld, range_code}
use Rattle.go_const.specs.Operation.{IsArithmetic, IsUnaryNumber, IsShift, ComparesNumbers, ComparesTexts, ComparesTruth, numeral, is_comparison, is_arithmetic, is_shift, is_sign, is_logical, number_has, text_has, IsUnary, IsBinary, IsShiftResult, IsConversion, IsPast, UnaryFault, BinaryFault, ShiftFault, ConversionFault, HasUnary, HasBinary, HasShift, HasConversion, IsNumberResult, IsTextResult, TakesMemory, IsStr, IsTextOf, IsZeroDivision, IsShiftBy, IsNegative, all_ones, whole_of, range_of}
use Rattle.go_const.specs.Answer.{between, holds, settled_of, arithmetic_of, zero_division, compares_numbers, compares_texts, compares_truth, same_truth, arithmetic_answer, sign_of, shifted_of, shift_answer, character_of, OrNoMemory, unary_answer, with_number, text_answer, binary_answer, shift_of, conversion_of}
use Rattle.go_const.specs.Bits.{bit, int_not}
use Rattle.go_const.proofs.BitLemmas.{and_at, or_at, xor_at, not_at}
use Rattle.go_const.proofs.Division.{division, shifted_low, shifted_high}

-- ---- ranges

between_true : (low high z : ℤ) → between low high z ≡ true → IsBetween low high z
between_true low high z h = record { above = grind (arith, ints); below = grind (arith, ints) }

between_false : (low high z : ℤ) → between low high z ≡ false → IsBetween low high z → ⊥
between_false low high z h b = let p : low ≤ℤ z = b.above in let q : z ≤ℤ high = b.below in grind (arith, ints)

holds_true : (kind : Option Kind) (z : ℤ) → holds kind z ≡ true → Holds kind z
holds_true None z h = between_true least_untyped greatest_untyped z h
holds_true (Some k) z h = between_true (least k) (greatest k) z h

holds_false : (kind : Option Kind) (z : ℤ) → holds kind z ≡ false → Holds kind z → ⊥
holds_false None z h = between_false least_untyped greatest_untyped z h
holds_false (Some k) z h = between_false (least k) (greatest k) z h

numeral_held : (kind : Option Kind) (rune : Bool) (z : ℤ) → Holds kind z → IsHeld kind (numeral kind rune z)
numeral_held None true z h = h
numeral_held None false z h = h
numeral_held (Some k) rune z h = h

held_numeral : (kind : Option Kind) (rune : Bool) (z : ℤ) → IsHeld kind (numeral kind rune z) → Holds kind z
held_numeral None true z h = h
held_numeral None false z h = h
held_numeral (Some k) rune z h = h

module _ (exact : Const → Type 0) (kind : Option Kind) (rune : Bool) (z : ℤ) (h : exact (numeral kind rune z)) where
  value_by : (b : Bool) → holds kind z ≡ b → IfOk (if b then Ok (numeral kind rune z) else Err (Code (range_code kind))) (λ c. exact c × IsHeld kind c)
  value_by true e = (h, numeral_held kind rune z (holds_true kind z e))
  value_by false e = tt

  pub settled_value : IfOk (settled_of kind rune z) (λ c. exact c × IsHeld kind c)
  settled_value = value_by (holds kind z) refl

module _ (exact : Const → Type 0) (kind : Option Kind) (rune : Bool) (z : ℤ) (h : exact (numeral kind rune z)) (F : ConstRefusal → Type 0) (faulty : IsPast exact kind (range_code kind) → F (Code (range_code kind))) where
  fault_by : (b : Bool) → holds kind z ≡ b → IfErr (if b then Ok (numeral kind rune z) else Err (Code (range_code kind))) F
  fault_by true e = tt
  fault_by false e = faulty (refl, (numeral kind rune z, h, λ held. holds_false kind z e (held_numeral kind rune z held)))

  pub settled_fault : IfErr (settled_of kind rune z) F
  settled_fault = fault_by (holds kind z) refl

-- ---- arithmetic

zero_false : (y : ℤ) → int_eq y (pos 0) ≡ false → y ≢ pos 0
zero_false y e h = let f : int_eq y (pos 0) ≡ true = grind (arith, signed_Decides y (pos 0)) in cc

zero_true : (y : ℤ) → int_eq y (pos 0) ≡ true → y ≡ pos 0
zero_true y e = grind (arith, signed_Decides y (pos 0))

arithmetic_exact : (o : Op) (x y : ℤ) → IsTrue (is_arithmetic o) → zero_division o y ≡ false → IsArithmetic o x y (arithmetic_of o x y)
arithmetic_exact operator.Add x y a d = refl
arithmetic_exact operator.Sub x y a d = refl
arithmetic_exact operator.Mul x y a d = refl
arithmetic_exact operator.Div x y a d = (_, division x y (zero_false y d))
arithmetic_exact operator.Rem x y a d = (_, division x y (zero_false y d))
arithmetic_exact operator.And x y a d = record { at = and_at x y }
arithmetic_exact operator.Or x y a d = record { at = or_at x y }
arithmetic_exact operator.Xor x y a d = record { at = xor_at x y }
arithmetic_exact operator.AndNot x y a d = record { at = λ i. and_at x (int_not y) i ∙ ap (λ (b : ℕ). min (bit x i) b) (not_at y i) }
arithmetic_exact _ x y a d = cc

-- ---- tests

flip : (b : Bool) (P : Type 0) → IsTrue b ↔ P → IsTrue (not b) ↔ (P → ⊥)
flip true P e = (λ h. cc, λ h. absurd (h (e.0 refl)))
flip false P e = (λ h p. let f : false ≡ true = e.1 p in cc, λ h. refl)

equal_numbers : (x y : ℤ) → IsTrue (int_eq x y) ↔ (x ≡ y)
equal_numbers x y = (λ h. grind (arith, signed_Decides x y), λ h. grind (arith, signed_Decides x y))

compares_numbers_iff : (o : Op) (x y : ℤ) → IsTrue (is_comparison o) → IsTrue (compares_numbers o x y) ↔ ComparesNumbers o x y
compares_numbers_iff operator.Eq x y c = equal_numbers x y
compares_numbers_iff operator.Ne x y c = flip (int_eq x y) (x ≡ y) (equal_numbers x y)
compares_numbers_iff operator.Lt x y c = (λ h. grind (arith, ints), λ h. grind (arith, ints))
compares_numbers_iff operator.Le x y c = (λ h. grind (arith, ints), λ h. grind (arith, ints))
compares_numbers_iff operator.Gt x y c = (λ h. grind (arith, ints), λ h. grind (arith, ints))
compares_numbers_iff operator.Ge x y c = (λ h. grind (arith, ints), λ h. grind (arith, ints))
compares_numbers_iff _ x y c = cc

equal_texts : (x y : List ℕ) → IsTrue (bytes_eq x y) ↔ (x ≡ y)
equal_texts x y = (λ h. grind (arith, bytes_eq-Decides x y), λ h. grind (arith, bytes_eq-Decides x y))

less : (o : Ordering) → IsTrue (is_lt o) ↔ (o ≡ Less)
less Less = (λ h. refl, λ h. refl)
less Equal = (λ h. cc, λ h. cc)
less Greater = (λ h. cc, λ h. cc)

greater : (o : Ordering) → IsTrue (is_gt o) ↔ (o ≡ Greater)
greater Less = (λ h. cc, λ h. cc)
greater Equal = (λ h. cc, λ h. cc)
greater Greater = (λ h. refl, λ h. refl)

at_most : (o : Ordering) → IsTrue (is_le o) ↔ (o ≢ Greater)
at_most Less = (λ h e. cc, λ h. refl)
at_most Equal = (λ h e. cc, λ h. refl)
at_most Greater = (λ h. cc, λ h. absurd (h refl))

at_least : (o : Ordering) → IsTrue (is_ge o) ↔ (o ≢ Less)
at_least Less = (λ h. cc, λ h. absurd (h refl))
at_least Equal = (λ h e. cc, λ h. refl)
at_least Greater = (λ h e. cc, λ h. refl)

compares_texts_iff : (o : Op) (x y : List ℕ) → IsTrue (is_comparison o) → IsTrue (compares_texts o x y) ↔ ComparesTexts o x y
compares_texts_iff operator.Eq x y c = equal_texts x y
compares_texts_iff operator.Ne x y c = flip (bytes_eq x y) (x ≡ y) (equal_texts x y)
compares_texts_iff operator.Lt x y c = less (slice_cmp nat_cmp x y)
compares_texts_iff operator.Le x y c = at_most (slice_cmp nat_cmp x y)
compares_texts_iff operator.Gt x y c = greater (slice_cmp nat_cmp x y)
compares_texts_iff operator.Ge x y c = at_least (slice_cmp nat_cmp x y)
compares_texts_iff _ x y c = cc

equal_truth : (x y : Bool) → IsTrue (same_truth x y) ↔ (x ≡ y)
equal_truth true true = (λ h. refl, λ h. refl)
equal_truth true false = (λ h. cc, λ h. cc)
equal_truth false true = (λ h. cc, λ h. cc)
equal_truth false false = (λ h. refl, λ h. refl)

compares_truth_iff : (o : Op) (x y : Bool) → IsTrue (is_logical o) → IsTrue (compares_truth o x y) ↔ ComparesTruth o x y
compares_truth_iff operator.AndThen true y c = (λ h. (refl, h), λ h. h.1)
compares_truth_iff operator.AndThen false y c = (λ h. cc, λ h. h.0)
compares_truth_iff operator.OrElse true y c = (λ h. inl refl, λ h. refl)
compares_truth_iff operator.OrElse false y c = (λ h. inr h, λ h. elim h [ inl e ↦ cc | inr e ↦ e ])
compares_truth_iff operator.Eq x y c = equal_truth x y
compares_truth_iff operator.Ne x y c = flip (same_truth x y) (x ≡ y) (equal_truth x y)
compares_truth_iff _ x y c = cc

-- ---- unary operators

not_iff : (x : Bool) → IsTrue (not x) ↔ (x ≡ false)
not_iff true = (λ h. cc, λ h. cc)
not_iff false = (λ h. refl, λ h. refl)

sign_exact : (o : Op) (kind : Option Kind) (x : ℤ) → IsTrue (is_sign o) → IsUnaryNumber o kind x (sign_of o kind x)
sign_exact operator.Plus kind x s = refl
sign_exact operator.Neg kind x s = refl
sign_exact operator.Compl kind x s = record { at = xor_at (all_ones kind) x }
sign_exact _ kind x s = cc

unary_is : (o : Op) (kind : Option Kind) (x : Const) → HasUnary o x → IfOk (unary_answer o kind x) (λ c. IsUnary o kind x c × IsHeld kind c)
unary_is o kind (form.Bool x) has = ((not x, refl, not_iff x), tt)
unary_is o kind (form.Int x) has = settled_value (IsUnary o kind (form.Int x)) kind false (sign_of o kind x) (sign_of o kind x, refl, sign_exact o kind x has)
unary_is o kind (form.Rune x) has = settled_value (IsUnary o kind (form.Rune x)) kind true (sign_of o kind x) (sign_of o kind x, refl, sign_exact o kind x has)
unary_is o kind (form.Text x) has = absurd has

unary_past : (o : Op) (kind : Option Kind) (x : Const) → HasUnary o x → IfErr (unary_answer o kind x) (UnaryFault o kind x)
unary_past o kind (form.Bool x) has = tt
unary_past o kind (form.Int x) has = settled_fault (IsUnary o kind (form.Int x)) kind false (sign_of o kind x) (sign_of o kind x, refl, sign_exact o kind x has) (UnaryFault o kind (form.Int x)) (λ p. p)
unary_past o kind (form.Rune x) has = settled_fault (IsUnary o kind (form.Rune x)) kind true (sign_of o kind x) (sign_of o kind x, refl, sign_exact o kind x has) (UnaryFault o kind (form.Rune x)) (λ p. p)
unary_past o kind (form.Text x) has = absurd has

pub unary_exact : (o : Op) (kind : Option Kind) (x : Const) → HasUnary o x → (r : Result Const ConstRefusal) → r ≡ unary_answer o kind x → IfOk r (λ c. IsUnary o kind x c × IsHeld kind c)
unary_exact o kind x has r e = subst (λ (q : Result Const ConstRefusal). IfOk q (λ c. IsUnary o kind x c × IsHeld kind c)) (sym e) (unary_is o kind x has)

pub unary_faults : (o : Op) (kind : Option Kind) (x : Const) → HasUnary o x → (r : Result Const ConstRefusal) → r ≡ unary_answer o kind x → IfErr r (UnaryFault o kind x)
unary_faults o kind x has r e = subst (λ (q : Result Const ConstRefusal). IfErr q (UnaryFault o kind x)) (sym e) (unary_past o kind x has)

-- ---- binary operators

module _ (takes : Type 0) (P : Const → Type 0) where
  or_value : (r a : Result Const ConstRefusal) → OrNoMemory takes r a → IfOk a P → IfOk r P
  or_value (Ok c) a e h = subst (λ (q : Result Const ConstRefusal). IfOk q P) (sym e) h
  or_value (Err (Code n)) a e h = tt
  or_value (Err NoMemory) a e h = tt

module _ (takes : Type 0) (F : ConstRefusal → Type 0) (memory : takes → F NoMemory) where
  or_fault : (r a : Result Const ConstRefusal) → OrNoMemory takes r a → IfErr a F → IfErr r F
  or_fault (Ok c) a e h = tt
  or_fault (Err (Code n)) a e h = subst (λ (q : Result Const ConstRefusal). IfErr q F) (sym e) h
  or_fault (Err NoMemory) a e h = memory e

left_true : (a b : Bool) → IsTrue (a || b) → b ≡ false → IsTrue a
left_true true b h e = refl
left_true false b h e = cc

module _ (o : Op) (kind : Option Kind) (rune : Bool) (x y : ℤ) (has : IsTrue (number_has o)) where
  arithmetic_is : (b : Bool) → zero_division o y ≡ b → is_comparison o ≡ false → IfOk (if b then Err (Code 30) else settled_of kind rune (arithmetic_of o x y)) (λ c. IsNumberResult o kind rune x y c × IsHeld kind c)
  arithmetic_is true d e = tt
  arithmetic_is false d e =
      let a : IsTrue (is_arithmetic o) = left_true (is_arithmetic o) (is_comparison o) has e in
      settled_value (IsNumberResult o kind rune x y) kind rune (arithmetic_of o x y) (inr (a, (arithmetic_of o x y, refl, arithmetic_exact o x y a d)))

  number_is : (b : Bool) → is_comparison o ≡ b → IfOk (if b then Ok (form.Bool (compares_numbers o x y)) else arithmetic_answer o kind rune x y) (λ c. IsNumberResult o kind rune x y c × IsHeld kind c)
  number_is true e = (inl (e, (compares_numbers o x y, refl, compares_numbers_iff o x y e)), tt)
  number_is false e = arithmetic_is (zero_division o y) refl e

  module _ (F : ConstRefusal → Type 0) (zero_fault : zero_division o y ≡ true → F (Code 30)) (past : IsPast (IsNumberResult o kind rune x y) kind (range_code kind) → F (Code (range_code kind))) where
    arithmetic_past : (b : Bool) → zero_division o y ≡ b → is_comparison o ≡ false → IfErr (if b then Err (Code 30) else settled_of kind rune (arithmetic_of o x y)) F
    arithmetic_past true d e = zero_fault d
    arithmetic_past false d e =
        let a : IsTrue (is_arithmetic o) = left_true (is_arithmetic o) (is_comparison o) has e in
        settled_fault (IsNumberResult o kind rune x y) kind rune (arithmetic_of o x y) (inr (a, (arithmetic_of o x y, refl, arithmetic_exact o x y a d))) F past

    number_past : (b : Bool) → is_comparison o ≡ b → IfErr (if b then Ok (form.Bool (compares_numbers o x y)) else arithmetic_answer o kind rune x y) F
    number_past true e = tt
    number_past false e = arithmetic_past (zero_division o y) refl e

zero_is : (o : Op) (c : Const) (y : ℤ) → whole_of c ≡ Some y → zero_division o y ≡ true → IsZeroDivision o c
zero_is operator.Div c y w e = w ∙ ap Some (zero_true y e)
zero_is operator.Rem c y w e = w ∙ ap Some (zero_true y e)
zero_is _ c y w e = cc

text_is : (o : Op) (kind : Option Kind) (x y : List ℕ) → IsTrue (text_has o) → IfOk (text_answer o x y) (λ c. IsTextResult o x y c × IsHeld kind c)
text_is operator.Add kind x y has = (refl, tt)
text_is operator.Eq kind x y has = ((_, refl, compares_texts_iff operator.Eq x y refl), tt)
text_is operator.Ne kind x y has = ((_, refl, compares_texts_iff operator.Ne x y refl), tt)
text_is operator.Lt kind x y has = ((_, refl, compares_texts_iff operator.Lt x y refl), tt)
text_is operator.Le kind x y has = ((_, refl, compares_texts_iff operator.Le x y refl), tt)
text_is operator.Gt kind x y has = ((_, refl, compares_texts_iff operator.Gt x y refl), tt)
text_is operator.Ge kind x y has = ((_, refl, compares_texts_iff operator.Ge x y refl), tt)
text_is _ kind x y has = cc

text_past : (o : Op) (x y : List ℕ) (F : ConstRefusal → Type 0) → IfErr (text_answer o x y) F
text_past operator.Add x y F = tt
text_past _ x y F = tt

binary_is : (o : Op) (kind : Option Kind) (x y : Const) → HasBinary o x y → IfOk (binary_answer o kind x y) (λ c. IsBinary o kind x y c × IsHeld kind c)
binary_is o kind (form.Bool x) (form.Bool y) has = ((compares_truth o x y, refl, compares_truth_iff o x y has), tt)
binary_is o kind (form.Int x) (form.Int y) has = number_is o kind false x y has (is_comparison o) refl
binary_is o kind (form.Int x) (form.Rune y) has = number_is o kind true x y has (is_comparison o) refl
binary_is o kind (form.Rune x) (form.Int y) has = number_is o kind true x y has (is_comparison o) refl
binary_is o kind (form.Rune x) (form.Rune y) has = number_is o kind true x y has (is_comparison o) refl
binary_is o kind (form.Text x) (form.Text y) has = text_is o kind x y has
binary_is o kind _ _ has = absurd has

binary_past : (o : Op) (kind : Option Kind) (x y : Const) → HasBinary o x y → IfErr (binary_answer o kind x y) (BinaryFault o kind x y)
binary_past o kind (form.Bool x) (form.Bool y) has = tt
binary_past o kind (form.Int x) (form.Int y) has = number_past o kind false x y has (BinaryFault o kind (form.Int x) (form.Int y)) (λ d. inl (refl, zero_is o (form.Int y) y refl d)) inr (is_comparison o) refl
binary_past o kind (form.Int x) (form.Rune y) has = number_past o kind true x y has (BinaryFault o kind (form.Int x) (form.Rune y)) (λ d. inl (refl, zero_is o (form.Rune y) y refl d)) inr (is_comparison o) refl
binary_past o kind (form.Rune x) (form.Int y) has = number_past o kind true x y has (BinaryFault o kind (form.Rune x) (form.Int y)) (λ d. inl (refl, zero_is o (form.Int y) y refl d)) inr (is_comparison o) refl
binary_past o kind (form.Rune x) (form.Rune y) has = number_past o kind true x y has (BinaryFault o kind (form.Rune x) (form.Rune y)) (λ d. inl (refl, zero_is o (form.Rune y) y refl d)) inr (is_comparison o) refl
binary_past o kind (form.Text x) (form.Text y) has = text_past o x y (BinaryFault o kind (form.Text x) (form.Text y))
binary_past o kind _ _ has = absurd has

pub binary_exact : (o : Op) (kind : Option Kind) (x y : Const) → HasBinary o x y → (r : Result Const ConstRefusal) → OrNoMemory (TakesMemory o x y) r (binary_answer o kind x y) → IfOk r (λ c. IsBinary o kind x y c × IsHeld kind c)
binary_exact o kind x y has r e = or_value (TakesMemory o x y) (λ c. IsBinary o kind x y c × IsHeld kind c) r (binary_answer o kind x y) e (binary_is o kind x y has)

pub binary_faults : (o : Op) (kind : Option Kind) (x y : Const) → HasBinary o x y → (r : Result Const ConstRefusal) → OrNoMemory (TakesMemory o x y) r (binary_answer o kind x y) → IfErr r (BinaryFault o kind x y)
binary_faults o kind x y has r e = or_fault (TakesMemory o x y) (BinaryFault o kind x y) (λ t. t) r (binary_answer o kind x y) e (binary_past o kind x y has)

-- numbers take no memory
settled_plain : (kind : Option Kind) (rune : Bool) (z : ℤ) (b : Bool) → (r : Result Const ConstRefusal) → r ≡ (if b then Ok (numeral kind rune z) else Err (Code (range_code kind))) → OrNoMemory ⊥ r r
settled_plain kind rune z true (Ok c) e = refl
settled_plain kind rune z true (Err f) e = cc
settled_plain kind rune z false (Ok c) e = refl
settled_plain kind rune z false (Err (Code n)) e = refl
settled_plain kind rune z false (Err NoMemory) e = cc

arithmetic_plain : (o : Op) (kind : Option Kind) (rune : Bool) (x y : ℤ) (b : Bool) (r : Result Const ConstRefusal) → r ≡ (if b then Err (Code 30) else settled_of kind rune (arithmetic_of o x y)) → OrNoMemory ⊥ r r
arithmetic_plain o kind rune x y true (Ok c) e = refl
arithmetic_plain o kind rune x y true (Err (Code n)) e = refl
arithmetic_plain o kind rune x y true (Err NoMemory) e = cc
arithmetic_plain o kind rune x y false r e = settled_plain kind rune (arithmetic_of o x y) (holds kind (arithmetic_of o x y)) r e

number_plain : (o : Op) (kind : Option Kind) (rune : Bool) (x y : ℤ) (b : Bool) (r : Result Const ConstRefusal) → r ≡ (if b then Ok (form.Bool (compares_numbers o x y)) else arithmetic_answer o kind rune x y) → OrNoMemory ⊥ r r
number_plain o kind rune x y true (Ok c) e = refl
number_plain o kind rune x y true (Err f) e = cc
number_plain o kind rune x y false r e = arithmetic_plain o kind rune x y (zero_division o y) r e

ok_plain : (c : Const) (r : Result Const ConstRefusal) → r ≡ Ok c → OrNoMemory ⊥ r r
ok_plain c (Ok d) e = refl
ok_plain c (Err f) e = cc

pub with_number_plain : (o : Op) (kind : Option Kind) (rune : Bool) (x : ℤ) (y : Const) (r : Result Const ConstRefusal) → r ≡ with_number o kind rune x y → OrNoMemory ⊥ r (with_number o kind rune x y)
with_number_plain o kind rune x y r e = subst (λ (q : Result Const ConstRefusal). OrNoMemory ⊥ r q) e (plain y r e)
  where
    plain : (y : Const) (r : Result Const ConstRefusal) → r ≡ with_number o kind rune x y → OrNoMemory ⊥ r r
    plain (form.Int y) r e = number_plain o kind rune x y (is_comparison o) r e
    plain (form.Rune y) r e = number_plain o kind true x y (is_comparison o) r e
    plain (form.Bool y) r e = ok_plain (form.Int x) r e
    plain (form.Text y) r e = ok_plain (form.Int x) r e

-- ---- shifts

shifted_exact : (o : Op) (x : ℤ) (n : ℕ) → IsTrue (is_shift o) → IsShift o x n (shifted_of o x n)
shifted_exact operator.Shl x n s = refl
shifted_exact operator.Shr x n s = (shifted_low x (2 ^ n) (pow_pos n), shifted_high x (2 ^ n) (pow_pos n))
shifted_exact _ x n s = cc

module _ (o : Op) (kind : Option Kind) (rune : Bool) (x : ℤ) (s : IsTrue (is_shift o)) where
  shifted_is : (n : ℤ) → IfOk (shift_answer o kind rune x n) (λ c. IsShiftBy o kind rune x (Some n) c × IsHeld kind c)
  shifted_is (pos n) = settled_value (IsShiftBy o kind rune x (Some (pos n))) kind rune (shifted_of o x n) (shifted_of o x n, refl, shifted_exact o x n s)
  shifted_is (negsuc n) = tt

  shifted_past : (n : ℤ) (F : ConstRefusal → Type 0) → (IsNegative (Some n) → F (Code 33)) → (IsPast (IsShiftBy o kind rune x (Some n)) kind (range_code kind) → F (Code (range_code kind))) → IfErr (shift_answer o kind rune x n) F
  shifted_past (pos n) F negative past = settled_fault (IsShiftBy o kind rune x (Some (pos n))) kind rune (shifted_of o x n) (shifted_of o x n, refl, shifted_exact o x n s) F past
  shifted_past (negsuc n) F negative past = negative tt

shift_is : (o : Op) (kind : Option Kind) (x n : Const) → HasShift o x n → IfOk (shift_of o kind x n) (λ c. IsShiftResult o kind x n c × IsHeld kind c)
shift_is o kind (form.Int x) (form.Int n) has = shifted_is o kind false x has.0 n
shift_is o kind (form.Int x) (form.Rune n) has = shifted_is o kind false x has.0 n
shift_is o kind (form.Rune x) (form.Int n) has = shifted_is o kind true x has.0 n
shift_is o kind (form.Rune x) (form.Rune n) has = shifted_is o kind true x has.0 n
shift_is o kind (form.Bool x) n has = absurd has.1
shift_is o kind (form.Text x) n has = absurd has.1
shift_is o kind _ _ has = absurd has.2

shift_past : (o : Op) (kind : Option Kind) (x n : Const) → HasShift o x n → IfErr (shift_of o kind x n) (ShiftFault o kind x n)
shift_past o kind (form.Int x) (form.Int n) has = shifted_past o kind false x has.0 n (ShiftFault o kind (form.Int x) (form.Int n)) (λ m. inl (refl, m)) inr
shift_past o kind (form.Int x) (form.Rune n) has = shifted_past o kind false x has.0 n (ShiftFault o kind (form.Int x) (form.Rune n)) (λ m. inl (refl, m)) inr
shift_past o kind (form.Rune x) (form.Int n) has = shifted_past o kind true x has.0 n (ShiftFault o kind (form.Rune x) (form.Int n)) (λ m. inl (refl, m)) inr
shift_past o kind (form.Rune x) (form.Rune n) has = shifted_past o kind true x has.0 n (ShiftFault o kind (form.Rune x) (form.Rune n)) (λ m. inl (refl, m)) inr
shift_past o kind (form.Bool x) n has = absurd has.1
shift_past o kind (form.Text x) n has = absurd has.1
shift_past o kind _ _ has = absurd has.2

pub shift_exact : (o : Op) (kind : Option Kind) (x n : Const) → HasShift o x n → (r : Result Const ConstRefusal) → r ≡ shift_of o kind x n → IfOk r (λ c. IsShiftResult o kind x n c × IsHeld kind c)
shift_exact o kind x n has r e = subst (λ (q : Result Const ConstRefusal). IfOk q (λ c. IsShiftResult o kind x n c × IsHeld kind c)) (sym e) (shift_is o kind x n has)

pub shift_faults : (o : Op) (kind : Option Kind) (x n : Const) → HasShift o x n → (r : Result Const ConstRefusal) → r ≡ shift_of o kind x n → IfErr r (ShiftFault o kind x n)
shift_faults o kind x n has r e = subst (λ (q : Result Const ConstRefusal). IfErr q (ShiftFault o kind x n)) (sym e) (shift_past o kind x n has)

-- ---- conversions

text_of_natural : (n : ℕ) (b : Bool) → scalar n ≡ b → IsTextOf (pos n) (encode_utf8 (if b then n else 0xFFFD))
text_of_natural n true e = inl (n, refl, e, refl)
text_of_natural n false e = inr (λ m same s. let f : n ≡ m = cc in let g : scalar n ≡ true = ap scalar f ∙ s in cc, refl)

text_of : (x : ℤ) → IsTextOf x (encode_utf8 (character_of x))
text_of (pos n) = text_of_natural n (scalar n) refl
text_of (negsuc n) = inr (λ m same s. cc, refl)

conversion_is : (x : Const) (to : Basic) → HasConversion x to → IfOk (conversion_of x to) (λ c. IsConversion x to c × IsHeld (range_of to) c)
conversion_is (form.Bool x) basic.Bool has = (refl, tt)
conversion_is (form.Text x) basic.Str has = (refl, tt)
conversion_is (form.Int x) (basic.Int kind) has = settled_value (IsConversion (form.Int x) (basic.Int kind)) (Some kind) false x refl
conversion_is (form.Rune x) (basic.Int kind) has = settled_value (IsConversion (form.Rune x) (basic.Int kind)) (Some kind) false x refl
conversion_is (form.Int x) basic.Str has = ((encode_utf8 (character_of x), refl, text_of x), tt)
conversion_is (form.Rune x) basic.Str has = ((encode_utf8 (character_of x), refl, text_of x), tt)
conversion_is _ _ has = absurd has

conversion_past : (x : Const) (to : Basic) → HasConversion x to → IfErr (conversion_of x to) (ConversionFault x to)
conversion_past (form.Int x) (basic.Int kind) has = settled_fault (IsConversion (form.Int x) (basic.Int kind)) (Some kind) false x refl (ConversionFault (form.Int x) (basic.Int kind)) (λ p. p)
conversion_past (form.Rune x) (basic.Int kind) has = settled_fault (IsConversion (form.Rune x) (basic.Int kind)) (Some kind) false x refl (ConversionFault (form.Rune x) (basic.Int kind)) (λ p. p)
conversion_past _ _ has = tt

pub conversion_exact : (x : Const) (to : Basic) → HasConversion x to → (r : Result Const ConstRefusal) → OrNoMemory (IsStr to) r (conversion_of x to) → IfOk r (λ c. IsConversion x to c × IsHeld (range_of to) c)
conversion_exact x to has r e = or_value (IsStr to) (λ c. IsConversion x to c × IsHeld (range_of to) c) r (conversion_of x to) e (conversion_is x to has)

pub conversion_faults : (x : Const) (to : Basic) → HasConversion x to → (r : Result Const ConstRefusal) → OrNoMemory (IsStr to) r (conversion_of x to) → IfErr r (ConversionFault x to)
conversion_faults x to has r e = or_fault (IsStr to) (ConversionFault x to) (λ t. t) r (conversion_of x to) e (conversion_past x to has)
