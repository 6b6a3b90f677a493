-- What is called, by its name.
use Rattle.std.proofs.Common.{◌≡◌, refl, List, Bool, true, false}
use Rattle.std.specs.Prelude.{Some, None, if◌then◌else◌}
use Rattle.go_syntax.specs.Tree.{Expr, NameExpr, IntExpr, RuneExpr, StrExpr, ParenExpr, UnaryExpr, BinaryExpr, SelectExpr, IndexExpr, SliceExpr, AssertExpr, CallExpr, LiteralExpr, FuncExpr, ArrayType, SliceType, StructType, FuncType, InterfaceType, MapType, ChanType}
use Rattle.go_typing.specs.Env.{Bind, lookup, is_blank}
use Rattle.go_typing.specs.Typing.{by_value, declared_callee, callee_of}
use Rattle.go_calls.specs.Called.{name_in, callee_named}

pub by_name : (ss : List (List Bind)) (e : Expr) → callee_of ss e ≡ callee_named ss (name_in e)
by_name ss (NameExpr at x) = by (is_blank x)
  where
    by : (b : Bool) → (if b then by_value else declared_callee (lookup x ss)) ≡ callee_named ss (if b then None else Some x)
    by true = refl
    by false = refl
by_name ss (ParenExpr at x) = by_name ss x
by_name ss (IntExpr at x) = refl
by_name ss (RuneExpr at x) = refl
by_name ss (StrExpr at x) = refl
by_name ss (UnaryExpr at op x) = refl
by_name ss (BinaryExpr at x op y) = refl
by_name ss (SelectExpr at x n) = refl
by_name ss (IndexExpr at x i) = refl
by_name ss (SliceExpr at x low high most) = refl
by_name ss (AssertExpr at x t) = refl
by_name ss (CallExpr at f xs spread) = refl
by_name ss (LiteralExpr at t es) = refl
by_name ss (FuncExpr at sig b) = refl
by_name ss (ArrayType at n t) = refl
by_name ss (SliceType at t) = refl
by_name ss (StructType at fs) = refl
by_name ss (FuncType at sig) = refl
by_name ss (InterfaceType at ms) = refl
by_name ss (MapType at k t) = refl
by_name ss (ChanType at d t) = refl
