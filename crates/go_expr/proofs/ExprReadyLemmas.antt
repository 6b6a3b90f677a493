-- An expression is ready once the functions that are called in it have their types.
use Rattle.std.proofs.Common.{ℕ, List, [], ◌∷◌, ◌++◌, Option, Some, None}
use Rattle.go_syntax.specs.Tree.{Expr, NameExpr, IntExpr, RuneExpr, StrExpr, ParenExpr, UnaryExpr, BinaryExpr, SelectExpr, IndexExpr, SliceExpr, AssertExpr, CallExpr, LiteralExpr, FuncExpr, ArrayType, SliceType, StructType, FuncType, InterfaceType, MapType, ChanType, MaybeExpr, NoExpr, AnExpr, Exprs, NoExprs, MoreExprs}
use Rattle.go_typing.specs.Env.{Bind}
use Rattle.go_calls.specs.declared.callee.gives.Gives.{Gives}
use Rattle.go_calls.specs.Called.{name_in, one_name, called_in, called_in_bound, called_in_all}
use Rattle.go_calls.specs.ResultTypes.{AreGiven, CalleeGiven}
use Rattle.go_expr.specs.Ready.{NumbersFit, BoundFits, AllFit, IsReady, BoundReady, AllReady}

module _ (ss : List (List Bind)) (g : Gives) where
  first : (xs ys : List (List ℕ)) → AreGiven ss g (xs ++ ys) → AreGiven ss g xs
  first [] ys h = tt
  first (x ∷ xs) ys h = (h.0, first xs ys h.1)

  second : (xs ys : List (List ℕ)) → AreGiven ss g (xs ++ ys) → AreGiven ss g ys
  second [] ys h = h
  second (x ∷ xs) ys h = second xs ys h.1

  callee : (o : Option (List ℕ)) → AreGiven ss g (one_name o) → CalleeGiven ss g o
  callee None h = tt
  callee (Some x) h = h.0

  mutual
    pub ready : (e : Expr) → AreGiven ss g (called_in e) → NumbersFit e → IsReady ss g e
    ready (NameExpr at x) h n = tt
    ready (IntExpr at x) h n = n
    ready (RuneExpr at x) h n = tt
    ready (StrExpr at x) h n = tt
    ready (ParenExpr at x) h n = ready x h n
    ready (UnaryExpr at op x) h n = ready x h n
    ready (BinaryExpr at x op y) h n = (ready x (first (called_in x) (called_in y) h) n.0, ready y (second (called_in x) (called_in y) h) n.1)
    ready (SelectExpr at x name) h n = tt
    ready (IndexExpr at x i) h n = (ready x (first (called_in x) (called_in i) h) n.0, ready i (second (called_in x) (called_in i) h) n.1)
    ready (SliceExpr at x low high most) h n =
        let a = first ((called_in x ++ called_in_bound low) ++ called_in_bound high) (called_in_bound most) h in
        let b = first (called_in x ++ called_in_bound low) (called_in_bound high) a in (
          ready x (first (called_in x) (called_in_bound low) b) n.0,
          (
            bound_ready low (second (called_in x) (called_in_bound low) b) n.1.0,
            (bound_ready high (second (called_in x ++ called_in_bound low) (called_in_bound high) a) n.1.1.0, bound_ready most (second ((called_in x ++ called_in_bound low) ++ called_in_bound high) (called_in_bound most) h) n.1.1.1),
          ),
        )
    ready (AssertExpr at x t) h n = tt
    ready (CallExpr at f xs spread) h n =
        let a = first (one_name (name_in f) ++ called_in f) (called_in_all xs) h in (
          callee (name_in f) (first (one_name (name_in f)) (called_in f) a),
          (ready f (second (one_name (name_in f)) (called_in f) a) n.0, all_ready xs (second (one_name (name_in f) ++ called_in f) (called_in_all xs) h) n.1),
        )
    ready (LiteralExpr at t es) h n = tt
    ready (FuncExpr at sig b) h n = tt
    ready (ArrayType at m t) h n = tt
    ready (SliceType at t) h n = tt
    ready (StructType at fs) h n = tt
    ready (FuncType at sig) h n = tt
    ready (InterfaceType at ms) h n = tt
    ready (MapType at k t) h n = tt
    ready (ChanType at d t) h n = tt

    bound_ready : (e : MaybeExpr) → AreGiven ss g (called_in_bound e) → BoundFits e → BoundReady ss g e
    bound_ready NoExpr h n = tt
    bound_ready (AnExpr x) h n = ready x h n

    all_ready : (es : Exprs) → AreGiven ss g (called_in_all es) → AllFit es → AllReady ss g es
    all_ready NoExprs h n = tt
    all_ready (MoreExprs x xs) h n = (ready x (first (called_in x) (called_in_all xs) h) n.0, all_ready xs (second (called_in x) (called_in_all xs) h) n.1)
