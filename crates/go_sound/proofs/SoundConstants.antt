-- What constants fold to is a value of the type.
use Rattle.std.proofs.Common.{◌≡◌, ℤ, pos, negsuc, refl, sym, subst, Bool, true, false, Option, Some, None, Result, Ok, Err, if◌then◌else◌}
use Rattle.gj_base.specs.declared.kind.Op.{Op}
use Rattle.gj_base.specs.declared.kind.Op.TheVariants as operator
use Rattle.go_const.specs.declared.constant.Const.{Const}
use Rattle.go_const.specs.declared.constant.Const.TheVariants as form
use Rattle.go_const.specs.declared.constant.ConstRefusal.{ConstRefusal}
use Rattle.go_const.specs.declared.constant.ConstRefusal.TheVariants.{Code}
use Rattle.go_const.specs.Operation.{is_comparison, whole_of, numeral}
use Rattle.go_const.specs.Representability.{range_code}
use Rattle.go_const.specs.Answer.{holds, settled_of, zero_division, arithmetic_of, arithmetic_answer, number_answer, compares_numbers, unary_answer, binary_answer, shift_of, shifted_by}
use Rattle.go_type.specs.declared.types.IntName.{IntName}
use Rattle.go_type.specs.Tree as ty
use Rattle.go_type.specs.Tree.{Ty}
use Rattle.go_core.specs.Layout.{kind_of}
use Rattle.go_core.specs.SoundNode.{Fits, IsArithmetic}
use Rattle.go_typing.specs.Operand.{held, past, unlike, number_in, constant_in, constant_of, number_kind}
use Rattle.go_sound.proofs.Wrapped.{number_fits}

-- what comes out is a value of a type with this underlying type
abbrev pub ResultFits : Ty → Result Const ConstRefusal → Type 0
ResultFits u (Ok k) = Fits u (constant_of k)
ResultFits u (Err e) = Unit {0}

pub settled_fits : (name : IntName) (rune : Bool) (z : ℤ) → ResultFits (ty.int name) (settled_of (Some (kind_of name)) rune z)
settled_fits name rune z = by_test (holds (Some (kind_of name)) z) refl
  where
    by_test : (b : Bool) → holds (Some (kind_of name)) z ≡ b → ResultFits (ty.int name) (if b then Ok (numeral (Some (kind_of name)) rune z) else Err (Code (range_code (Some (kind_of name)))))
    by_test true h = number_fits (kind_of name) z h
    by_test false h = tt

pub unary_fits : (op : Op) (u : Ty) (k : Const) → Fits u (constant_of k) → ResultFits u (unary_answer op (number_kind u) k)
unary_fits op (ty.int name) (form.Int z) h = settled_fits name false _
unary_fits op (ty.int name) (form.Rune z) h = settled_fits name true _
unary_fits op (ty.int name) (form.Bool b) h = absurd h
unary_fits op (ty.int name) (form.Text s) h = absurd h
unary_fits op ty.bool (form.Bool b) h = tt
unary_fits op ty.bool (form.Int z) h = absurd h
unary_fits op ty.bool (form.Rune z) h = absurd h
unary_fits op ty.bool (form.Text s) h = absurd h
unary_fits op ty.str (form.Text s) h = tt
unary_fits op ty.str (form.Int z) h = absurd h
unary_fits op ty.str (form.Rune z) h = absurd h
unary_fits op ty.str (form.Bool b) h = absurd h
unary_fits op _ k h = absurd h

not_comparison : (op : Op) → IsArithmetic op → is_comparison op ≡ false
not_comparison operator.Add h = refl
not_comparison operator.Sub h = refl
not_comparison operator.Mul h = refl
not_comparison operator.Div h = refl
not_comparison operator.Rem h = refl
not_comparison operator.And h = refl
not_comparison operator.Or h = refl
not_comparison operator.Xor h = refl
not_comparison operator.AndNot h = refl
not_comparison _ h = absurd h

arithmetic_fits : (op : Op) (name : IntName) (rune : Bool) (x y : ℤ) → ResultFits (ty.int name) (arithmetic_answer op (Some (kind_of name)) rune x y)
arithmetic_fits op name rune x y = by_test (zero_division op y)
  where
    by_test : (b : Bool) → ResultFits (ty.int name) (if b then Err (Code 30) else settled_of (Some (kind_of name)) rune (arithmetic_of op x y))
    by_test true = tt
    by_test false = settled_fits name rune (arithmetic_of op x y)

number_answer_fits : (op : Op) (name : IntName) (rune : Bool) (x y : ℤ) → IsArithmetic op → ResultFits (ty.int name) (number_answer op (Some (kind_of name)) rune x y)
number_answer_fits op name rune x y h =
    subst (λ (b : Bool). ResultFits (ty.int name) (if b then Ok (form.Bool (compares_numbers op x y)) else arithmetic_answer op (Some (kind_of name)) rune x y)) (sym (not_comparison op h)) (arithmetic_fits op name rune x y)

pub binary_fits : (op : Op) (name : IntName) (k l : Const) → IsArithmetic op → Fits (ty.int name) (constant_of k) → Fits (ty.int name) (constant_of l) → ResultFits (ty.int name) (binary_answer op (Some (kind_of name)) k l)
binary_fits op name (form.Int x) (form.Int y) a h g = number_answer_fits op name false x y a
binary_fits op name (form.Int x) (form.Rune y) a h g = number_answer_fits op name true x y a
binary_fits op name (form.Rune x) (form.Int y) a h g = number_answer_fits op name true x y a
binary_fits op name (form.Rune x) (form.Rune y) a h g = number_answer_fits op name true x y a
binary_fits op name (form.Int x) (form.Bool y) a h g = absurd g
binary_fits op name (form.Int x) (form.Text y) a h g = absurd g
binary_fits op name (form.Rune x) (form.Bool y) a h g = absurd g
binary_fits op name (form.Rune x) (form.Text y) a h g = absurd g
binary_fits op name (form.Bool x) l a h g = absurd h
binary_fits op name (form.Text x) l a h g = absurd h

pub text_fits : (k l : Const) → Fits ty.str (constant_of k) → Fits ty.str (constant_of l) → ResultFits ty.str (binary_answer operator.Add None k l)
text_fits (form.Text x) (form.Text y) h g = tt
text_fits (form.Text x) (form.Bool y) h g = absurd g
text_fits (form.Text x) (form.Int y) h g = absurd g
text_fits (form.Text x) (form.Rune y) h g = absurd g
text_fits (form.Bool x) l h g = absurd h
text_fits (form.Int x) l h g = absurd h
text_fits (form.Rune x) l h g = absurd h

pub truth_fits : (op : Op) (k l : Const) → Fits ty.bool (constant_of k) → Fits ty.bool (constant_of l) → ResultFits ty.bool (binary_answer op None k l)
truth_fits op (form.Bool x) (form.Bool y) h g = tt
truth_fits op (form.Bool x) (form.Text y) h g = absurd g
truth_fits op (form.Bool x) (form.Int y) h g = absurd g
truth_fits op (form.Bool x) (form.Rune y) h g = absurd g
truth_fits op (form.Text x) l h g = absurd h
truth_fits op (form.Int x) l h g = absurd h
truth_fits op (form.Rune x) l h g = absurd h

shifted_fits : (op : Op) (name : IntName) (rune : Bool) (x : ℤ) (n : Option ℤ) → Fits (ty.int name) (constant_of (form.Int x)) → ResultFits (ty.int name) (shifted_by op (Some (kind_of name)) rune x n)
shifted_fits op name rune x None h = h
shifted_fits op name rune x (Some (pos n)) h = settled_fits name rune _
shifted_fits op name rune x (Some (negsuc n)) h = tt

pub shift_fits : (op : Op) (name : IntName) (k n : Const) → Fits (ty.int name) (constant_of k) → ResultFits (ty.int name) (shift_of op (Some (kind_of name)) k n)
shift_fits op name (form.Int x) n h = shifted_fits op name false x (whole_of n) h
shift_fits op name (form.Rune x) n h = shifted_fits op name true x (whole_of n) h
shift_fits op name (form.Bool x) n h = absurd h
shift_fits op name (form.Text x) n h = absurd h

-- an untyped constant that a type holds
number_held : (name : IntName) (z : ℤ) (m : Const) → number_in (kind_of name) z ≡ held m → Fits (ty.int name) (constant_of (form.Int z)) × Fits (ty.int name) (constant_of m)
number_held name z m h = by_test (holds (Some (kind_of name)) z) refl h
  where
    by_test : (b : Bool) → holds (Some (kind_of name)) z ≡ b → (if b then held (form.Int z) else past) ≡ held m → Fits (ty.int name) (constant_of (form.Int z)) × Fits (ty.int name) (constant_of m)
    by_test true e g = let f : form.Int z ≡ m = cc in (number_fits (kind_of name) z e, subst (λ (k : Const). Fits (ty.int name) (constant_of k)) f (number_fits (kind_of name) z e))
    by_test false e g = cc

unlike_held : (m : Const) (A : Type 0) → unlike ≡ held m → A
unlike_held m A h = cc

-- it fits as it is, and as it is held
pub held_fits : (u : Ty) (k m : Const) → constant_in u k ≡ held m → Fits u (constant_of k) × Fits u (constant_of m)
held_fits (ty.int name) (form.Int z) m h = number_held name z m h
held_fits (ty.int name) (form.Rune z) m h = number_held name z m h
held_fits (ty.int name) (form.Bool b) m h = unlike_held m _ h
held_fits (ty.int name) (form.Text s) m h = unlike_held m _ h
held_fits ty.bool (form.Bool b) m h = let f : form.Bool b ≡ m = cc in (tt, subst (λ (k : Const). Fits ty.bool (constant_of k)) f tt)
held_fits ty.bool (form.Int z) m h = unlike_held m _ h
held_fits ty.bool (form.Rune z) m h = unlike_held m _ h
held_fits ty.bool (form.Text s) m h = unlike_held m _ h
held_fits ty.str (form.Text s) m h = let f : form.Text s ≡ m = cc in (tt, subst (λ (k : Const). Fits ty.str (constant_of k)) f tt)
held_fits ty.str (form.Int z) m h = unlike_held m _ h
held_fits ty.str (form.Rune z) m h = unlike_held m _ h
held_fits ty.str (form.Bool b) m h = unlike_held m _ h
held_fits _ k m h = unlike_held m _ h
