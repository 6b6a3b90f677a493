-- The type of a specification.
use Rattle.std.proofs.Common.{arith, ◌≡◌, ◌∙◌, refl, sym, ap, subst, List, ◌++◌, map}
use Rattle.std.specs.Prelude.{Option, Some, None, option_map}
use Rattle.go_syntax.specs.View.{expr_view, maybe_expr}
use Rattle.go_syntax.specs.declared.tree.Expr.{Expr}
use Rattle.go_typing.specs.Answer as typing
use Rattle.go_operands.specs.AnswerView.{flaw_view}
use Rattle.go_operands.specs.declared.answers.answer.Flaw.{Flaw}
use Rattle.go_typing.specs.Walk.{uses}
use Rattle.go_typing.specs.Declare.{type_uses}
use Rattle.go_walk.specs.declared.walk.walk.Walk.{Walk}
use Rattle.go_assign.specs.Moves.{Moves}

-- ---- the variables that a type uses

pub use_some : (a b : Walk) (o : Option Expr) (y : Expr) → o ≡ Some y → Moves (uses (expr_view y)) a b → Moves (type_uses (maybe_expr (option_map expr_view o))) a b
use_some a b o y p h = subst (λ (x : Option Expr). Moves (type_uses (maybe_expr (option_map expr_view x))) a b) (sym p) h

moves_not : (a : Walk) → Moves (λ w. w) a a
moves_not a = record { walk = λ ts l. refl; depth = refl; kept = λ i l. refl; counts = omega arith }

pub use_none : (a : Walk) (o : Option Expr) → o ≡ None → Moves (type_uses (maybe_expr (option_map expr_view o))) a a
use_none a o p = subst (λ (x : Option Expr). Moves (type_uses (maybe_expr (option_map expr_view x))) a a) (sym p) (moves_not a)

-- ---- what is told of it

pub told_then : (fs gs : List typing.Flaw) (f0 f1 : List Flaw) → fs ≡ gs → map flaw_view f1 ≡ map flaw_view f0 ++ fs → map flaw_view f1 ≡ map flaw_view f0 ++ gs
told_then fs gs f0 f1 p h = h ∙ ap (λ (x : List typing.Flaw). map flaw_view f0 ++ x) p
