-- The notes of the grammar that look past a construct, as tests on its tree.
use Rattle.std.specs.Prelude.{◌≡◌, ◌&&◌, not, Bool, true, false, List, [], ◌∷◌, ⊤}
use Rattle.go_syntax.specs.Tree as t
use Rattle.go_syntax.specs.Token.{Token}
use Rattle.go_syntax.specs.declared.operator.Operator.TheVariants as operator
use Rattle.go_syntax.specs.declared.tree.Prefix.{Prefix}
use Rattle.go_syntax.specs.declared.tree.Prefix.TheVariants as «prefix»
use Rattle.go_syntax.specs.declared.tree.ChanDir.TheVariants as dir
use Rattle.go_grammar.specs.Classes.{IsOp, begins_type}

abbrev pub is_name : t.Expr → Bool
is_name (t.NameExpr at text) = true
is_name _ = false

-- a type that begins with `[`, `map` or `struct`
abbrev pub is_literal_type : t.Expr → Bool
is_literal_type (t.ArrayType at n e) = true
is_literal_type (t.SliceType at e) = true
is_literal_type (t.StructType at _) = true
is_literal_type (t.MapType at k e) = true
is_literal_type _ = false

-- A Literal follows only a name, `name "." name`, or a type that begins with `[`, `map` or `struct`;
-- in a header, outside all brackets, only the last.
abbrev pub takes_literal : Bool → t.Expr → Bool
takes_literal header (t.NameExpr at text) = not header
takes_literal header (t.SelectExpr at e name) = not header && is_name e
takes_literal header e = is_literal_type e

-- the operand type `chan T` alone, which a `<-` before it makes the type `<-chan T`
abbrev pub is_channel : t.Expr → Bool
is_channel (t.ChanType at dir.Both e) = true
is_channel _ = false

abbrev pub is_receive : Prefix → Bool
is_receive «prefix».Receive = true
is_receive _ = false

-- A `{` right after the expression belongs to it: its last operand is the signature of a function or
-- a type that a Literal follows in headers too.
abbrev pub wants_brace : t.Expr → Bool
wants_brace (t.BinaryExpr at a op b) = wants_brace b
wants_brace (t.UnaryExpr at op e) = wants_brace e
wants_brace (t.FuncType at sig) = true
wants_brace e = is_literal_type e

-- the expressions' last one, where a `{` after it belongs to it
abbrev pub last_wants_brace : t.Exprs → Bool
last_wants_brace t.NoExprs = false
last_wants_brace (t.MoreExprs e t.NoExprs) = wants_brace e
last_wants_brace (t.MoreExprs e (t.MoreExprs f es)) = last_wants_brace (t.MoreExprs f es)

abbrev pub stmt_wants_brace : t.Stmt → Bool
stmt_wants_brace (t.ExprStmt at es) = last_wants_brace es
stmt_wants_brace (t.SendStmt at cs e) = wants_brace e
stmt_wants_brace (t.AssignStmt at xs op ys) = last_wants_brace ys
stmt_wants_brace (t.DefineStmt at xs ys) = last_wants_brace ys
stmt_wants_brace _ = false

-- The expression or type ends with a signature without results, so that whatever can begin a type
-- begins the signature's result.
abbrev mutual
  pub wants_result : t.Expr → Bool
  wants_result (t.BinaryExpr at a op b) = wants_result b
  wants_result (t.UnaryExpr at op e) = wants_result e
  wants_result (t.FuncType at sig) = sig_wants_result sig
  wants_result (t.ArrayType at n e) = wants_result e
  wants_result (t.SliceType at e) = wants_result e
  wants_result (t.MapType at k e) = wants_result e
  wants_result (t.ChanType at dir e) = wants_result e
  wants_result _ = false

  pub sig_wants_result : t.Sig → Bool
  sig_wants_result (t.SigOf at _ results) = results_want_result results

  pub results_want_result : t.Results → Bool
  results_want_result t.NoResults = true
  results_want_result (t.OneResult e) = wants_result e
  results_want_result (t.ManyResults at _) = false

-- the token may follow the expression as a part of something round it
abbrev pub MayFollow : t.Expr → Token → Type 0
MayFollow e u = (wants_result e && begins_type u.kind) ≡ false

-- the same after the last of some expressions
abbrev pub MayFollowLast : t.Exprs → Token → Type 0
MayFollowLast t.NoExprs u = ⊤
MayFollowLast (t.MoreExprs e t.NoExprs) u = MayFollow e u
MayFollowLast (t.MoreExprs e (t.MoreExprs f es)) u = MayFollowLast (t.MoreExprs f es) u

-- a `<-` right after `chan` belongs to that `chan`
abbrev pub NotArrow : List Token → Type 0
NotArrow [] = ⊤
NotArrow (u ∷ us) = IsOp operator.Arrow u → ⊥

-- The expression or type ends with the name of a type, so that a `.` goes on with that name.
abbrev mutual
  pub type_wants_dot : t.Expr → Bool
  type_wants_dot (t.NameExpr at x) = true
  type_wants_dot (t.UnaryExpr at op e) = type_wants_dot e
  type_wants_dot (t.FuncType at sig) = sig_wants_dot sig
  type_wants_dot (t.ArrayType at n e) = type_wants_dot e
  type_wants_dot (t.SliceType at e) = type_wants_dot e
  type_wants_dot (t.MapType at k e) = type_wants_dot e
  type_wants_dot (t.ChanType at dir e) = type_wants_dot e
  type_wants_dot _ = false

  pub sig_wants_dot : t.Sig → Bool
  sig_wants_dot (t.SigOf at _ results) = results_want_dot results

  pub results_want_dot : t.Results → Bool
  results_want_dot t.NoResults = false
  results_want_dot (t.OneResult e) = type_wants_dot e
  results_want_dot (t.ManyResults at _) = false

-- the same of an expression, whose own names are no types
abbrev pub wants_dot : t.Expr → Bool
wants_dot (t.NameExpr at x) = false
wants_dot (t.UnaryExpr at op e) = wants_dot e
wants_dot (t.BinaryExpr at a op b) = wants_dot b
wants_dot e = type_wants_dot e
