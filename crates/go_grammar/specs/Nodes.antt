-- Trees from their parts, as a parser makes them, and tests of a token.
use Rattle.std.specs.Prelude.{◌||◌, ℕ, Bool, true, false, List, [], ◌∷◌, ◌++◌, Option, Some, None, bytes_eq, if◌then◌else◌}
use Rattle.gj_base.specs.declared.place.Place.{Place}
use Rattle.gj_base.specs.declared.kind.Op.{Op}
use Rattle.go_syntax.specs.Tree as t
use Rattle.go_syntax.specs.Token.{Token}
use Rattle.go_syntax.specs.Spelling.{operator_text, keyword_text}
use Rattle.go_syntax.specs.View.{exprs_of}
use Rattle.go_syntax.specs.declared.kind.TokenKind.{TokenKind}
use Rattle.go_syntax.specs.declared.kind.TokenKind.TheVariants as kind
use Rattle.go_syntax.specs.declared.keyword.Keyword.{Keyword}
use Rattle.go_syntax.specs.declared.keyword.Keyword.TheVariants as word
use Rattle.go_syntax.specs.declared.operator.Operator.{Operator}
use Rattle.go_syntax.specs.declared.operator.Operator.TheVariants as o
use Rattle.go_syntax.specs.declared.tree.Name.{Name}
use Rattle.go_syntax.specs.declared.tree.Prefix.{Prefix}
use Rattle.go_syntax.specs.declared.tree.ChanDir.TheVariants as dir
use Rattle.go_grammar.specs.Classes.{prefix_op, begins_type}
use Rattle.go_grammar.specs.Context.{is_receive}

-- the token is this operator or punctuation
abbrev pub is_op : Operator → Token → Bool
is_op x u = op_is x u.kind where
  op_is : Operator → TokenKind → Bool
  op_is x (kind.Op y) = bytes_eq (operator_text x) (operator_text y)
  op_is x _ = false

-- the token is this keyword
abbrev pub is_word : Keyword → Token → Bool
is_word x u = word_is x u.kind where
  word_is : Keyword → TokenKind → Bool
  word_is x (kind.Word y) = bytes_eq (keyword_text x) (keyword_text y)
  word_is x _ = false

abbrev pub is_name_token : TokenKind → Bool
is_name_token kind.Name = true
is_name_token _ = false

abbrev pub is_string : TokenKind → Bool
is_string kind.Str = true
is_string _ = false

abbrev pub is_end : TokenKind → Bool
is_end kind.End = true
is_end _ = false

abbrev pub is_semicolon : TokenKind → Bool
is_semicolon kind.Semi = true
is_semicolon kind.Auto = true
is_semicolon _ = false

abbrev pub is_some_prefix : Option Prefix → Bool
is_some_prefix (Some p) = true
is_some_prefix None = false

abbrev pub begins_word_type : Keyword → Bool
begins_word_type word.Chan = true
begins_word_type word.Func = true
begins_word_type word.Interface = true
begins_word_type word.Map = true
begins_word_type word.Struct = true
begins_word_type _ = false

-- an expression may begin with the token
abbrev pub begins_expr : TokenKind → Bool
begins_expr kind.Name = true
begins_expr kind.Int = true
begins_expr kind.Rune = true
begins_expr kind.Str = true
begins_expr (kind.Op x) = begins_type (kind.Op x) || is_some_prefix (prefix_op (kind.Op x))
begins_expr (kind.Word x) = begins_word_type x
begins_expr _ = false

abbrev pub begins_word_stmt : Keyword → Bool
begins_word_stmt word.Const = true
begins_word_stmt word.Type = true
begins_word_stmt word.Var = true
begins_word_stmt word.Go = true
begins_word_stmt word.Defer = true
begins_word_stmt word.Return = true
begins_word_stmt word.Break = true
begins_word_stmt word.Continue = true
begins_word_stmt word.Fallthrough = true
begins_word_stmt word.If = true
begins_word_stmt word.For = true
begins_word_stmt word.Switch = true
begins_word_stmt word.Select = true
begins_word_stmt x = begins_word_type x

-- a statement may begin with the token
abbrev pub begins_stmt : Token → Bool
begins_stmt u = is_op o.LeftBrace u || by_kind u.kind where
  by_kind : TokenKind → Bool
  by_kind (kind.Word x) = begins_word_stmt x
  by_kind k = begins_expr k

-- the first token's place
abbrev pub place_of_expr : t.Expr → Place
place_of_expr (t.NameExpr at x) = at
place_of_expr (t.IntExpr at x) = at
place_of_expr (t.RuneExpr at x) = at
place_of_expr (t.StrExpr at x) = at
place_of_expr (t.ParenExpr at e) = at
place_of_expr (t.UnaryExpr at op e) = at
place_of_expr (t.BinaryExpr at a op b) = at
place_of_expr (t.SelectExpr at e x) = at
place_of_expr (t.IndexExpr at e i) = at
place_of_expr (t.SliceExpr at e i j k) = at
place_of_expr (t.AssertExpr at e ty) = at
place_of_expr (t.CallExpr at e es spread) = at
place_of_expr (t.LiteralExpr at ty xs) = at
place_of_expr (t.FuncExpr at sig b) = at
place_of_expr (t.ArrayType at n e) = at
place_of_expr (t.SliceType at e) = at
place_of_expr (t.StructType at xs) = at
place_of_expr (t.FuncType at sig) = at
place_of_expr (t.InterfaceType at xs) = at
place_of_expr (t.MapType at k e) = at
place_of_expr (t.ChanType at d e) = at

abbrev pub place_of_decl : t.Decl → Place
place_of_decl (t.ConstDecl at xs) = at
place_of_decl (t.TypeDecl at xs) = at
place_of_decl (t.VarDecl at xs) = at
place_of_decl (t.FuncDecl at x sig b) = at
place_of_decl (t.MethodDecl at at' r x sig b) = at

abbrev pub place_of_block : t.Block → Place
place_of_block (t.BlockOf at ss at') = at

abbrev pub block_stmt : t.Block → t.Stmt
block_stmt b = t.BlockStmt (place_of_block b) b

abbrev pub name_expr : Name → t.Expr
name_expr x = t.NameExpr x.place x.text

-- the name that an expression is
abbrev pub name_in : t.Expr → Option Name
name_in (t.NameExpr at x) = Some (record { place = at; text = x })
name_in _ = None

-- the one expression that a statement is
abbrev pub expr_in : t.Stmt → Option t.Expr
expr_in (t.ExprStmt at (t.MoreExprs e t.NoExprs)) = Some e
expr_in _ = None

abbrev pub maybe : Option t.Expr → t.MaybeExpr
maybe None = t.NoExpr
maybe (Some e) = t.AnExpr e

-- a name or a literal
abbrev pub leaf : Token → Option t.Expr
leaf u = by_kind u.kind u.place u.text where
  by_kind : TokenKind → Place → List ℕ → Option t.Expr
  by_kind kind.Name at x = Some (t.NameExpr at x)
  by_kind kind.Int at x = Some (t.IntExpr at x)
  by_kind kind.Rune at x = Some (t.RuneExpr at x)
  by_kind kind.Str at x = Some (t.StrExpr at x)
  by_kind _ at x = None

-- a prefix before an operand; `<-` before the type `chan T` alone makes the type `<-chan T`
abbrev pub unary : Place → Prefix → t.Expr → t.Expr
unary at p (t.ChanType at' dir.Both e) = if is_receive p then t.ChanType at dir.Receive e else t.UnaryExpr at p (t.ChanType at' dir.Both e)
unary at p e = t.UnaryExpr at p e

abbrev pub binary : t.Expr → Op → t.Expr → t.Expr
binary a op b = t.BinaryExpr (place_of_expr a) a op b

abbrev pub select : t.Expr → Name → t.Expr
select e x = t.SelectExpr (place_of_expr e) e x

abbrev pub slice : t.Expr → Option t.Expr → Option t.Expr → Option t.Expr → t.Expr
slice e i j k = t.SliceExpr (place_of_expr e) e (maybe i) (maybe j) (maybe k)

abbrev pub call : t.Expr → List t.Expr → Bool → t.Expr
call f es spread = t.CallExpr (place_of_expr f) f (exprs_of es) spread

-- the list with one more at its end
abbrev pub and : {A : Type 0} → List A → A → List A
and xs x = xs ++ x ∷ []
