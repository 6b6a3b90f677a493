-- Operators with one number are the same.
use Rattle.std.proofs.Common.{◌≡◌, ℕ, Bool, true, false, List, [], ◌∷◌, Option, Some, None, nat_eq, bytes_eq, refl, ap, sym, ◌∙◌, arith, if◌then◌else◌}
use Rattle.std.proofs.lemmas.Slice.Eq.{bytes_eq-Decides}
use Rattle.std.proofs.lemmas.Bool.Decides.{nat_tests}
use Rattle.go_syntax.specs.Spelling.{operator_text}
use Rattle.go_syntax.specs.declared.operator.Operator.{Operator}
use Rattle.go_syntax.specs.declared.operator.Operator.TheVariants as o
use Rattle.go_frames.specs.Numbers.{number_of, NumbersTell}
use Rattle.go_frames.proofs.OperatorLemmas.{same_op, operators, some_same}

abbrev numbered : List Operator → ℕ → Option Operator
numbered [] n = None
numbered (x ∷ xs) n = if nat_eq (number_of x) n then Some x else numbered xs n

found : (x : Operator) → numbered operators (number_of x) ≡ Some x
found o.Add = refl
found o.Sub = refl
found o.Mul = refl
found o.Div = refl
found o.Rem = refl
found o.And = refl
found o.Or = refl
found o.Xor = refl
found o.Shl = refl
found o.Shr = refl
found o.AndNot = refl
found o.AddAssign = refl
found o.SubAssign = refl
found o.MulAssign = refl
found o.DivAssign = refl
found o.RemAssign = refl
found o.AndAssign = refl
found o.OrAssign = refl
found o.XorAssign = refl
found o.ShlAssign = refl
found o.ShrAssign = refl
found o.AndNotAssign = refl
found o.AndThen = refl
found o.OrElse = refl
found o.Arrow = refl
found o.Increment = refl
found o.Decrement = refl
found o.Eq = refl
found o.Lt = refl
found o.Gt = refl
found o.Assign = refl
found o.Not = refl
found o.Ne = refl
found o.Le = refl
found o.Ge = refl
found o.Define = refl
found o.Ellipsis = refl
found o.LeftParen = refl
found o.RightParen = refl
found o.LeftBracket = refl
found o.RightBracket = refl
found o.LeftBrace = refl
found o.RightBrace = refl
found o.Comma = refl
found o.Dot = refl
found o.Colon = refl

same_number : (x y : Operator) → number_of x ≡ number_of y → x ≡ y
same_number x y q = some_same x y (sym (found x) ∙ (ap (numbered operators) q ∙ found y))

both : (a b : Bool) → (a ≡ true → b ≡ true) → (b ≡ true → a ≡ true) → a ≡ b
both true true f g = refl
both true false f g = sym (f refl)
both false true f g = g refl
both false false f g = refl

equal : (m n : ℕ) → nat_eq m n ≡ true → m ≡ n
equal m n q = grind (arith, nat_tests)

equals : (m n : ℕ) → m ≡ n → nat_eq m n ≡ true
equals m n q = grind (arith, nat_tests)

written : (x y : Operator) → x ≡ y → bytes_eq (operator_text y) (operator_text x) ≡ true
written x y q = (bytes_eq-Decides (operator_text y) (operator_text x)).1 (ap operator_text (sym q))

pub numbers_tell : NumbersTell
numbers_tell x y =
    both (nat_eq (number_of x) (number_of y)) (bytes_eq (operator_text y) (operator_text x))
    (λ q. written x y (same_number x y (equal (number_of x) (number_of y) q)))
    (λ q. equals (number_of x) (number_of y) (ap number_of (same_op y x q)))
