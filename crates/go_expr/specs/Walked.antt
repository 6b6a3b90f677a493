-- What the walk over an expression does to the parts that wait and to the faults that are told.
use Rattle.std.specs.Prelude.{◌≡◌, List, [], ◌∷◌, ◌++◌, Option, Some, None, map}
use Rattle.gj_base.specs.declared.kind.Op.{Op}
use Rattle.gj_base.specs.declared.kind.Op.TheVariants as operator
use Rattle.go_syntax.specs.Tree.{Expr, MaybeExpr, Exprs}
use Rattle.go_syntax.specs.declared.tree.Prefix.{Prefix}
use Rattle.go_syntax.specs.declared.tree.Prefix.TheVariants as «prefix»
use Rattle.go_type.specs.Tree.{Ty}
use Rattle.go_type.specs.Named.{NamedTy}
use Rattle.go_typing.specs.Env.{Bind}
use Rattle.go_typing.specs.Typing as go
use Rattle.go_typing.specs.Typing.{place_of, typing, bound_part, bound_flaws, all_flaws}
use Rattle.go_operands.specs.AnswerView.{flaw_view}
use Rattle.go_operands.specs.declared.answers.answer.Flaw as code
use Rattle.go_operands.specs.declared.operands.part.Part as code_part
use Rattle.go_operands.specs.Parts.{part}
use Rattle.go_calls.specs.CallView.{parts_view}
use Rattle.go_expr.specs.Stacked.{one_part}

module _ (ts : List Ty) (ns : List NamedTy) (ss : List (List Bind)) where
  -- an expression waits, and its faults are told
  pub record Walks (e : Expr) (old new : List code_part.Part) (before after : List code.Flaw) : Type 0 where
    pub parts : parts_view ts new ≡ parts_view ts old ++ part (place_of e) (typing ns ss e) ∷ []
    pub flaws : map flaw_view after ≡ map flaw_view before ++ go.flaws ns ss e

  -- the same where there is one
  pub record WalksBound (e : MaybeExpr) (old new : List code_part.Part) (before after : List code.Flaw) : Type 0 where
    pub parts : parts_view ts new ≡ parts_view ts old ++ one_part (bound_part ns ss e)
    pub flaws : map flaw_view after ≡ map flaw_view before ++ bound_flaws ns ss e

  -- the same of several
  pub record WalksAll (es : Exprs) (old new : List code_part.Part) (before after : List code.Flaw) : Type 0 where
    pub parts : parts_view ts new ≡ parts_view ts old ++ go.parts ns ss es
    pub flaws : map flaw_view after ≡ map flaw_view before ++ all_flaws ns ss es

-- the operator of a prefix, where it is built
abbrev pub op_of : Prefix → Option Op
op_of «prefix».Plus = Some operator.Plus
op_of «prefix».Neg = Some operator.Neg
op_of «prefix».Not = Some operator.Not
op_of «prefix».Compl = Some operator.Compl
op_of _ = None
