-- What the walk over an expression needs.
use Rattle.std.specs.Prelude.{◌<◌, ◌^◌, List}
use Rattle.go_syntax.specs.Tree.{Expr, IntExpr, ParenExpr, UnaryExpr, BinaryExpr, IndexExpr, SliceExpr, CallExpr, MaybeExpr, NoExpr, AnExpr, Exprs, NoExprs, MoreExprs}
use Rattle.go_typing.specs.Env.{Bind}
use Rattle.go_typing.specs.Literal.{int_value}
use Rattle.go_calls.specs.declared.callee.gives.Gives.{Gives}
use Rattle.go_calls.specs.Called.{name_in}
use Rattle.go_calls.specs.ResultTypes.{CalleeGiven}

-- ---- own: the numbers that integer literals spell are below 2^127, as the lexical stage has them

abbrev mutual
  pub NumbersFit : Expr → Type 0
  NumbersFit (IntExpr at x) = int_value x < 2 ^ 127
  NumbersFit (ParenExpr at x) = NumbersFit x
  NumbersFit (UnaryExpr at op x) = NumbersFit x
  NumbersFit (BinaryExpr at x op y) = NumbersFit x × NumbersFit y
  NumbersFit (IndexExpr at x i) = NumbersFit x × NumbersFit i
  NumbersFit (SliceExpr at x low high most) = NumbersFit x × (BoundFits low × (BoundFits high × BoundFits most))
  NumbersFit (CallExpr at f xs spread) = NumbersFit f × AllFit xs
  NumbersFit _ = Unit {0}

  pub BoundFits : MaybeExpr → Type 0
  BoundFits NoExpr = Unit {0}
  BoundFits (AnExpr x) = NumbersFit x

  pub AllFit : Exprs → Type 0
  AllFit NoExprs = Unit {0}
  AllFit (MoreExprs x xs) = NumbersFit x × AllFit xs

-- ---- numbers fit, and each function that is called has the type of what its calls give

module _ (ss : List (List Bind)) (g : Gives) where
  abbrev mutual
    pub IsReady : Expr → Type 0
    IsReady (IntExpr at x) = int_value x < 2 ^ 127
    IsReady (ParenExpr at x) = IsReady x
    IsReady (UnaryExpr at op x) = IsReady x
    IsReady (BinaryExpr at x op y) = IsReady x × IsReady y
    IsReady (IndexExpr at x i) = IsReady x × IsReady i
    IsReady (SliceExpr at x low high most) = IsReady x × (BoundReady low × (BoundReady high × BoundReady most))
    IsReady (CallExpr at f xs spread) = CalleeGiven ss g (name_in f) × (IsReady f × AllReady xs)
    IsReady _ = Unit {0}

    pub BoundReady : MaybeExpr → Type 0
    BoundReady NoExpr = Unit {0}
    BoundReady (AnExpr x) = IsReady x

    pub AllReady : Exprs → Type 0
    AllReady NoExprs = Unit {0}
    AllReady (MoreExprs x xs) = IsReady x × AllReady xs
