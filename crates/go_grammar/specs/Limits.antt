-- own: limits of nesting and of chains, on trees.
--
-- Each test has the number b of blocks that are open round what it tests, and those on expressions
-- and types the number d of what else is open, from the innermost statement, declaration or function
-- literal on: parentheses, brackets, braces of literals and of struct and interface types, prefix
-- operators, and type prefixes. A type prefix is `*`, a bracket pair, `map` with its key, `chan`, a
-- `<-` before it, or the parameters of a signature before its result type. The braces of a `switch` and
-- a `select` count as a block. The parentheses of a group of declarations stand outside of them.
use Rattle.std.specs.Prelude.{◌+◌, ◌&&◌, ℕ, Bool, true, nat_lt, nat_le, if◌then◌else◌}
use Rattle.std.specs.List.{list_all}
use Rattle.go_syntax.specs.Tree as t
use Rattle.go_syntax.specs.declared.tree.ChanDir.TheVariants as dir

-- one more may be open
abbrev pub has_room : ℕ → Bool
has_room d = nat_lt d 100

-- one more than is open, where one more may be
abbrev pub one_deeper : ℕ → ℕ
one_deeper d = if has_room d then d + 1 else d

-- one more part of a chain, where one more may stand in it
abbrev pub one_longer : ℕ → ℕ
one_longer n = if nat_lt n 500 then n + 1 else n

-- as long as a chain may be
abbrev pub is_short : ℕ → Bool
is_short n = nat_le n 500

-- how many operators a chain has, without its bracketed parts
abbrev pub operators : t.Expr → ℕ
operators (t.BinaryExpr at a op b) = operators a + 1 + operators b
operators _ = 0

-- how many selectors, indexes, assertions, calls and literals stand after an operand
abbrev pub parts : t.Expr → ℕ
parts (t.SelectExpr at e x) = parts e + 1
parts (t.IndexExpr at e i) = parts e + 1
parts (t.SliceExpr at e i j k) = parts e + 1
parts (t.AssertExpr at e ty) = parts e + 1
parts (t.CallExpr at e es spread) = parts e + 1
parts (t.LiteralExpr at (t.AnExpr e) xs) = parts e + 1
parts _ = 0

-- how many stand after the last operand
abbrev pub last_parts : t.Expr → ℕ
last_parts (t.UnaryExpr at op e) = last_parts e
last_parts (t.BinaryExpr at a op b) = last_parts b
last_parts e = parts e

-- how many prefixes stand before the last operand
abbrev pub prefixes : t.Expr → ℕ
prefixes (t.UnaryExpr at op e) = prefixes e + 1
prefixes (t.BinaryExpr at a op b) = prefixes b
prefixes _ = 0

-- how many `else` an `if` has
abbrev pub elses : t.MaybeStmt → ℕ
elses (t.AStmt (t.IfStmt at init e b other)) = elses other + 1
elses (t.AStmt _) = 1
elses t.NoStmt = 0

-- how many labels a statement has
abbrev pub labels : t.Stmt → ℕ
labels (t.LabeledStmt at x s) = labels s + 1
labels _ = 0

abbrev mutual
  pub expr_fits : ℕ → ℕ → t.Expr → Bool
  expr_fits b d (t.NameExpr at x) = true
  expr_fits b d (t.IntExpr at x) = true
  expr_fits b d (t.RuneExpr at x) = true
  expr_fits b d (t.StrExpr at x) = true
  expr_fits b d (t.ParenExpr at e) = has_room d && expr_fits b (d + 1) e
  expr_fits b d (t.UnaryExpr at op e) = has_room d && expr_fits b (d + 1) e
  expr_fits b d (t.BinaryExpr at x op y) = is_short (operators (t.BinaryExpr at x op y)) && expr_fits b d x && expr_fits b d y
  expr_fits b d (t.SelectExpr at e x) = is_short (parts e + 1) && expr_fits b d e
  expr_fits b d (t.IndexExpr at e i) = is_short (parts e + 1) && expr_fits b d e && has_room d && expr_fits b (d + 1) i
  expr_fits b d (t.SliceExpr at e i j k) = is_short (parts e + 1) && expr_fits b d e && has_room d && maybe_fits b (d + 1) i && maybe_fits b (d + 1) j && maybe_fits b (d + 1) k
  expr_fits b d (t.AssertExpr at e ty) = is_short (parts e + 1) && expr_fits b d e && has_room d && expr_fits b (d + 1) ty
  expr_fits b d (t.CallExpr at e es spread) = is_short (parts e + 1) && expr_fits b d e && has_room d && exprs_fit b (d + 1) es
  expr_fits b d (t.LiteralExpr at t.NoExpr xs) = has_room d && elems_fit b (d + 1) xs
  expr_fits b d (t.LiteralExpr at (t.AnExpr e) xs) = is_short (parts e + 1) && expr_fits b d e && has_room d && elems_fit b (d + 1) xs
  expr_fits b d (t.FuncExpr at sig block) = sig_fits b d sig && block_fits b block
  expr_fits b d (t.ArrayType at n e) = has_room d && maybe_fits b (d + 1) n && expr_fits b (d + 1) e
  expr_fits b d (t.SliceType at e) = has_room d && expr_fits b (d + 1) e
  expr_fits b d (t.StructType at xs) = has_room d && fields_fit b (d + 1) xs
  expr_fits b d (t.FuncType at sig) = sig_fits b d sig
  expr_fits b d (t.InterfaceType at xs) = has_room d && members_fit b (d + 1) xs
  expr_fits b d (t.MapType at k e) = has_room d && expr_fits b (d + 1) k && expr_fits b (d + 1) e
  expr_fits b d (t.ChanType at dir.Both e) = has_room d && expr_fits b (d + 1) e
  expr_fits b d (t.ChanType at dir.Send e) = has_room d && expr_fits b (d + 1) e
  expr_fits b d (t.ChanType at dir.Receive e) = has_room (d + 1) && expr_fits b (d + 2) e

  pub maybe_fits : ℕ → ℕ → t.MaybeExpr → Bool
  maybe_fits b d t.NoExpr = true
  maybe_fits b d (t.AnExpr e) = expr_fits b d e

  pub exprs_fit : ℕ → ℕ → t.Exprs → Bool
  exprs_fit b d t.NoExprs = true
  exprs_fit b d (t.MoreExprs e es) = expr_fits b d e && exprs_fit b d es

  pub elems_fit : ℕ → ℕ → t.Elems → Bool
  elems_fit b d t.NoElems = true
  elems_fit b d (t.MoreElems key e xs) = maybe_fits b d key && expr_fits b d e && elems_fit b d xs

  pub sig_fits : ℕ → ℕ → t.Sig → Bool
  sig_fits b d (t.SigOf at xs results) = has_room d && params_fit b (d + 1) xs && results_fit b (d + 1) results

  pub results_fit : ℕ → ℕ → t.Results → Bool
  results_fit b d t.NoResults = true
  results_fit b d (t.OneResult e) = expr_fits b d e
  results_fit b d (t.ManyResults at xs) = params_fit b d xs

  pub params_fit : ℕ → ℕ → t.Params → Bool
  params_fit b d t.NoParams = true
  params_fit b d (t.MoreParams at x variadic e xs) = expr_fits b d e && params_fit b d xs

  pub fields_fit : ℕ → ℕ → t.Fields → Bool
  fields_fit b d t.NoFields = true
  fields_fit b d (t.NamedFields names e tag xs) = expr_fits b d e && fields_fit b d xs
  fields_fit b d (t.EmbeddedField at star e tag xs) = fields_fit b d xs

  pub members_fit : ℕ → ℕ → t.Members → Bool
  members_fit b d t.NoMembers = true
  members_fit b d (t.MethodMember x sig xs) = sig_fits b d sig && members_fit b d xs
  members_fit b d (t.EmbeddedMember e xs) = members_fit b d xs

  pub block_fits : ℕ → t.Block → Bool
  block_fits b (t.BlockOf at ss at') = has_room b && stmts_fit (b + 1) ss

  pub stmts_fit : ℕ → t.Stmts → Bool
  stmts_fit b t.NoStmts = true
  stmts_fit b (t.MoreStmts s ss) = stmt_fits b s && stmts_fit b ss

  pub maybe_stmt_fits : ℕ → t.MaybeStmt → Bool
  maybe_stmt_fits b t.NoStmt = true
  maybe_stmt_fits b (t.AStmt s) = stmt_fits b s

  pub stmt_fits : ℕ → t.Stmt → Bool
  stmt_fits b (t.EmptyStmt at) = true
  stmt_fits b (t.ExprStmt at es) = exprs_fit b 0 es
  stmt_fits b (t.SendStmt at cs e) = exprs_fit b 0 cs && expr_fits b 0 e
  stmt_fits b (t.IncDecStmt at es up) = exprs_fit b 0 es
  stmt_fits b (t.AssignStmt at xs op ys) = exprs_fit b 0 xs && exprs_fit b 0 ys
  stmt_fits b (t.DefineStmt at xs ys) = exprs_fit b 0 xs && exprs_fit b 0 ys
  stmt_fits b (t.DeclStmt at d) = decl_fits b d
  stmt_fits b (t.BlockStmt at block) = block_fits b block
  stmt_fits b (t.IfStmt at init e block other) = is_short (elses other) && maybe_stmt_fits b init && expr_fits b 0 e && block_fits b block && maybe_stmt_fits b other
  stmt_fits b (t.ForStmt at init e post block) = maybe_stmt_fits b init && maybe_fits b 0 e && maybe_stmt_fits b post && block_fits b block
  stmt_fits b (t.RangeStmt at xs fresh e block) = exprs_fit b 0 xs && expr_fits b 0 e && block_fits b block
  stmt_fits b (t.SwitchStmt at init e cs) = maybe_stmt_fits b init && maybe_fits b 0 e && has_room b && clauses_fit (b + 1) cs
  stmt_fits b (t.TypeSwitchStmt at init x e cs) = maybe_stmt_fits b init && is_short (last_parts e + 1) && has_room (prefixes e) && expr_fits b 0 e && has_room b && clauses_fit (b + 1) cs
  stmt_fits b (t.SelectStmt at cs) = has_room b && comms_fit (b + 1) cs
  stmt_fits b (t.GoStmt at e) = expr_fits b 0 e
  stmt_fits b (t.DeferStmt at e) = expr_fits b 0 e
  stmt_fits b (t.ReturnStmt at es) = exprs_fit b 0 es
  stmt_fits b (t.BreakStmt at x) = true
  stmt_fits b (t.ContinueStmt at x) = true
  stmt_fits b (t.FallthroughStmt at) = true
  stmt_fits b (t.LabeledStmt at x s) = is_short (labels s + 1) && stmt_fits b s

  pub clauses_fit : ℕ → t.Clauses → Bool
  clauses_fit b t.NoClauses = true
  clauses_fit b (t.MoreClauses at es ss cs) = exprs_fit b 0 es && stmts_fit b ss && clauses_fit b cs

  pub comms_fit : ℕ → t.Comms → Bool
  comms_fit b t.NoComms = true
  comms_fit b (t.MoreComms at s ss cs) = maybe_stmt_fits b s && stmts_fit b ss && comms_fit b cs

  pub decl_fits : ℕ → t.Decl → Bool
  decl_fits b (t.ConstDecl at xs) = values_fit b 0 xs
  decl_fits b (t.TypeDecl at xs) = types_fit b 0 xs
  decl_fits b (t.VarDecl at xs) = values_fit b 0 xs
  decl_fits b (t.FuncDecl at x sig block) = sig_fits b 0 sig && block_fits b block
  decl_fits b (t.MethodDecl at at' receiver x sig block) = params_fit b 1 receiver && sig_fits b 0 sig && block_fits b block

  pub values_fit : ℕ → ℕ → t.ValueSpecs → Bool
  values_fit b d t.NoValues = true
  values_fit b d (t.MoreValues names ty es xs) = maybe_fits b d ty && exprs_fit b d es && values_fit b d xs

  pub types_fit : ℕ → ℕ → t.TypeSpecs → Bool
  types_fit b d t.NoTypes = true
  types_fit b d (t.MoreTypes x alias e xs) = expr_fits b d e && types_fit b d xs

-- all of a file keeps the limits
abbrev pub file_fits : t.File → Bool
file_fits f = list_all (decl_fits 0) f.decls
