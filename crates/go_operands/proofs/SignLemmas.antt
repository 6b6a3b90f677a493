-- The node of an operator before an operand, by whether it is `!`.
use Rattle.std.proofs.Common.{◌≡◌, refl}
use Rattle.std.specs.Prelude.{true, false}
use Rattle.gj_base.specs.declared.kind.Op.{Op}
use Rattle.gj_base.specs.declared.kind.Op.TheVariants as operator
use Rattle.go_type.specs.Tree.{Ty}
use Rattle.go_core.specs.CoreTree as core
use Rattle.go_core.specs.CoreTree.{Expr}
use Rattle.go_typing.specs.Unary.{is_not, with_operator}

pub not_before : (op : Op) (t : Ty) (c : Expr) → is_not op ≡ true → with_operator op t c ≡ core.not_ t c
not_before operator.Add t c h = absurd (cc)
not_before operator.Sub t c h = absurd (cc)
not_before operator.Mul t c h = absurd (cc)
not_before operator.Div t c h = absurd (cc)
not_before operator.Rem t c h = absurd (cc)
not_before operator.And t c h = absurd (cc)
not_before operator.Or t c h = absurd (cc)
not_before operator.Xor t c h = absurd (cc)
not_before operator.AndNot t c h = absurd (cc)
not_before operator.Shl t c h = absurd (cc)
not_before operator.Shr t c h = absurd (cc)
not_before operator.Eq t c h = absurd (cc)
not_before operator.Ne t c h = absurd (cc)
not_before operator.Lt t c h = absurd (cc)
not_before operator.Le t c h = absurd (cc)
not_before operator.Gt t c h = absurd (cc)
not_before operator.Ge t c h = absurd (cc)
not_before operator.AndThen t c h = absurd (cc)
not_before operator.OrElse t c h = absurd (cc)
not_before operator.Plus t c h = absurd (cc)
not_before operator.Neg t c h = absurd (cc)
not_before operator.Not t c h = refl
not_before operator.Compl t c h = absurd (cc)
not_before (operator.To k) t c h = absurd (cc)

pub sign_before : (op : Op) (t : Ty) (c : Expr) → is_not op ≡ false → with_operator op t c ≡ core.unary op t c
sign_before operator.Add t c h = refl
sign_before operator.Sub t c h = refl
sign_before operator.Mul t c h = refl
sign_before operator.Div t c h = refl
sign_before operator.Rem t c h = refl
sign_before operator.And t c h = refl
sign_before operator.Or t c h = refl
sign_before operator.Xor t c h = refl
sign_before operator.AndNot t c h = refl
sign_before operator.Shl t c h = refl
sign_before operator.Shr t c h = refl
sign_before operator.Eq t c h = refl
sign_before operator.Ne t c h = refl
sign_before operator.Lt t c h = refl
sign_before operator.Le t c h = refl
sign_before operator.Gt t c h = refl
sign_before operator.Ge t c h = refl
sign_before operator.AndThen t c h = refl
sign_before operator.OrElse t c h = refl
sign_before operator.Plus t c h = refl
sign_before operator.Neg t c h = refl
sign_before operator.Not t c h = absurd (cc)
sign_before operator.Compl t c h = refl
sign_before (operator.To k) t c h = refl
