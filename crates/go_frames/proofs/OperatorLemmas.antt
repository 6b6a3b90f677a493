-- How an operator is written tells which one it is.
use Rattle.std.proofs.Common.{◌≡◌, true, ℕ, List, [], ◌∷◌, Option, Some, None, refl, ap, sym, ◌∙◌, bytes_eq, if◌then◌else◌}
use Rattle.std.proofs.lemmas.Slice.Eq.{bytes_eq-Decides}
use Rattle.go_syntax.specs.Spelling.{operator_text}
use Rattle.go_syntax.specs.declared.operator.Operator.{Operator}
use Rattle.go_syntax.specs.declared.operator.Operator.TheVariants as o

pub some_same : {A : Type 0} (x y : A) → Some x ≡ Some y → x ≡ y
some_same x y q = cc

abbrev pub operators : List Operator
operators = o.Add ∷ o.Sub ∷ o.Mul ∷ o.Div ∷ o.Rem ∷ o.And ∷ o.Or ∷ o.Xor ∷ o.Shl ∷ o.Shr ∷ o.AndNot ∷ o.AddAssign ∷ o.SubAssign ∷ o.MulAssign ∷ o.DivAssign ∷ o.RemAssign ∷ o.AndAssign ∷ o.OrAssign ∷ o.XorAssign ∷ o.ShlAssign ∷ o.ShrAssign ∷ o.AndNotAssign ∷ o.AndThen ∷ o.OrElse ∷ o.Arrow ∷ o.Increment ∷ o.Decrement ∷ o.Eq ∷ o.Lt ∷ o.Gt ∷ o.Assign ∷ o.Not ∷ o.Ne ∷ o.Le ∷ o.Ge ∷ o.Define ∷ o.Ellipsis ∷ o.LeftParen ∷ o.RightParen ∷ o.LeftBracket ∷ o.RightBracket ∷ o.LeftBrace ∷ o.RightBrace ∷ o.Comma ∷ o.Dot ∷ o.Colon ∷ []

abbrev look_op : List Operator → List ℕ → Option Operator
look_op [] text = None
look_op (x ∷ xs) text = if bytes_eq (operator_text x) text then Some x else look_op xs text

op_found : (x : Operator) → look_op operators (operator_text x) ≡ Some x
op_found o.Add = refl
op_found o.Sub = refl
op_found o.Mul = refl
op_found o.Div = refl
op_found o.Rem = refl
op_found o.And = refl
op_found o.Or = refl
op_found o.Xor = refl
op_found o.Shl = refl
op_found o.Shr = refl
op_found o.AndNot = refl
op_found o.AddAssign = refl
op_found o.SubAssign = refl
op_found o.MulAssign = refl
op_found o.DivAssign = refl
op_found o.RemAssign = refl
op_found o.AndAssign = refl
op_found o.OrAssign = refl
op_found o.XorAssign = refl
op_found o.ShlAssign = refl
op_found o.ShrAssign = refl
op_found o.AndNotAssign = refl
op_found o.AndThen = refl
op_found o.OrElse = refl
op_found o.Arrow = refl
op_found o.Increment = refl
op_found o.Decrement = refl
op_found o.Eq = refl
op_found o.Lt = refl
op_found o.Gt = refl
op_found o.Assign = refl
op_found o.Not = refl
op_found o.Ne = refl
op_found o.Le = refl
op_found o.Ge = refl
op_found o.Define = refl
op_found o.Ellipsis = refl
op_found o.LeftParen = refl
op_found o.RightParen = refl
op_found o.LeftBracket = refl
op_found o.RightBracket = refl
op_found o.LeftBrace = refl
op_found o.RightBrace = refl
op_found o.Comma = refl
op_found o.Dot = refl
op_found o.Colon = refl

pub same_op : (x y : Operator) → bytes_eq (operator_text x) (operator_text y) ≡ true → y ≡ x
same_op x y q =
    let d = bytes_eq-Decides (operator_text x) (operator_text y) in
    some_same y x (sym (op_found y) ∙ (ap (look_op operators) (sym (d.0 q)) ∙ op_found x))
