-- own: the names that occur in an expression. Each of them counts as used, also inside a form that is not built yet.
use Rattle.std.specs.Prelude.{ℕ, List, [], ◌∷◌, ◌++◌}
use Rattle.go_syntax.specs.Tree.{Expr, NameExpr, IntExpr, RuneExpr, StrExpr, ParenExpr, UnaryExpr, BinaryExpr, SelectExpr, IndexExpr, SliceExpr, AssertExpr, CallExpr, LiteralExpr, FuncExpr, ArrayType, SliceType, StructType, FuncType, InterfaceType, MapType, ChanType, MaybeExpr, NoExpr, AnExpr, Exprs, NoExprs, MoreExprs, Elems, NoElems, MoreElems, Sig, SigOf, Results, NoResults, OneResult, ManyResults, Params, NoParams, MoreParams, Fields, NoFields, NamedFields, EmbeddedField, Members, NoMembers, MethodMember, EmbeddedMember, Block, BlockOf, Stmts, NoStmts, MoreStmts, MaybeStmt, NoStmt, AStmt, Stmt, EmptyStmt, ExprStmt, SendStmt, IncDecStmt, AssignStmt, DefineStmt, DeclStmt, BlockStmt, IfStmt, ForStmt, RangeStmt, SwitchStmt, TypeSwitchStmt, SelectStmt, GoStmt, DeferStmt, ReturnStmt, BreakStmt, ContinueStmt, FallthroughStmt, LabeledStmt, Clauses, NoClauses, MoreClauses, Comms, NoComms, MoreComms, Decl, ConstDecl, TypeDecl, VarDecl, FuncDecl, MethodDecl, ValueSpecs, NoValues, MoreValues, TypeSpecs, NoTypes, MoreTypes}

abbrev mutual
  pub names_in : Expr → List (List ℕ)
  names_in (NameExpr at x) = x ∷ []
  names_in (IntExpr at x) = []
  names_in (RuneExpr at x) = []
  names_in (StrExpr at x) = []
  names_in (ParenExpr at x) = names_in x
  names_in (UnaryExpr at op x) = names_in x
  names_in (BinaryExpr at x op y) = names_in x ++ names_in y
  -- the name after the dot is no name of a scope
  names_in (SelectExpr at x name) = names_in x
  names_in (IndexExpr at x i) = names_in x ++ names_in i
  names_in (SliceExpr at x low high most) = names_in x ++ names_in_bound low ++ names_in_bound high ++ names_in_bound most
  names_in (AssertExpr at x t) = names_in x ++ names_in t
  names_in (CallExpr at f xs spread) = names_in f ++ names_in_all xs
  names_in (LiteralExpr at t es) = names_in_bound t ++ names_in_elems es
  names_in (FuncExpr at sig b) = names_in_sig sig ++ names_in_block b
  names_in (ArrayType at n t) = names_in_bound n ++ names_in t
  names_in (SliceType at t) = names_in t
  names_in (StructType at fs) = names_in_fields fs
  names_in (FuncType at sig) = names_in_sig sig
  names_in (InterfaceType at ms) = names_in_members ms
  names_in (MapType at k t) = names_in k ++ names_in t
  names_in (ChanType at d t) = names_in t

  pub names_in_bound : MaybeExpr → List (List ℕ)
  names_in_bound NoExpr = []
  names_in_bound (AnExpr x) = names_in x

  pub names_in_all : Exprs → List (List ℕ)
  names_in_all NoExprs = []
  names_in_all (MoreExprs x xs) = names_in x ++ names_in_all xs

  pub names_in_elems : Elems → List (List ℕ)
  names_in_elems NoElems = []
  names_in_elems (MoreElems key x es) = names_in_bound key ++ names_in x ++ names_in_elems es

  pub names_in_sig : Sig → List (List ℕ)
  names_in_sig (SigOf at ps rs) = names_in_params ps ++ names_in_results rs

  pub names_in_results : Results → List (List ℕ)
  names_in_results NoResults = []
  names_in_results (OneResult t) = names_in t
  names_in_results (ManyResults at ps) = names_in_params ps

  pub names_in_params : Params → List (List ℕ)
  names_in_params NoParams = []
  names_in_params (MoreParams at name variadic t ps) = names_in t ++ names_in_params ps

  pub names_in_fields : Fields → List (List ℕ)
  names_in_fields NoFields = []
  names_in_fields (NamedFields names t tag fs) = names_in t ++ names_in_fields fs
  names_in_fields (EmbeddedField at pointer t tag fs) = names_in t ++ names_in_fields fs

  pub names_in_members : Members → List (List ℕ)
  names_in_members NoMembers = []
  names_in_members (MethodMember name sig ms) = names_in_sig sig ++ names_in_members ms
  names_in_members (EmbeddedMember t ms) = names_in t ++ names_in_members ms

  pub names_in_block : Block → List (List ℕ)
  names_in_block (BlockOf at ss end) = names_in_stmts ss

  pub names_in_stmts : Stmts → List (List ℕ)
  names_in_stmts NoStmts = []
  names_in_stmts (MoreStmts s ss) = names_in_stmt s ++ names_in_stmts ss

  pub names_in_maybe : MaybeStmt → List (List ℕ)
  names_in_maybe NoStmt = []
  names_in_maybe (AStmt s) = names_in_stmt s

  pub names_in_stmt : Stmt → List (List ℕ)
  names_in_stmt (EmptyStmt at) = []
  names_in_stmt (ExprStmt at xs) = names_in_all xs
  names_in_stmt (SendStmt at xs y) = names_in_all xs ++ names_in y
  names_in_stmt (IncDecStmt at xs up) = names_in_all xs
  names_in_stmt (AssignStmt at xs op ys) = names_in_all xs ++ names_in_all ys
  names_in_stmt (DefineStmt at xs ys) = names_in_all xs ++ names_in_all ys
  names_in_stmt (DeclStmt at d) = names_in_decl d
  names_in_stmt (BlockStmt at b) = names_in_block b
  names_in_stmt (IfStmt at init x b other) = names_in_maybe init ++ names_in x ++ names_in_block b ++ names_in_maybe other
  names_in_stmt (ForStmt at init x post b) = names_in_maybe init ++ names_in_bound x ++ names_in_maybe post ++ names_in_block b
  names_in_stmt (RangeStmt at xs fresh y b) = names_in_all xs ++ names_in y ++ names_in_block b
  names_in_stmt (SwitchStmt at init x cs) = names_in_maybe init ++ names_in_bound x ++ names_in_clauses cs
  names_in_stmt (TypeSwitchStmt at init name x cs) = names_in_maybe init ++ names_in x ++ names_in_clauses cs
  names_in_stmt (SelectStmt at cs) = names_in_comms cs
  names_in_stmt (GoStmt at x) = names_in x
  names_in_stmt (DeferStmt at x) = names_in x
  names_in_stmt (ReturnStmt at xs) = names_in_all xs
  names_in_stmt (BreakStmt at label) = []
  names_in_stmt (ContinueStmt at label) = []
  names_in_stmt (FallthroughStmt at) = []
  names_in_stmt (LabeledStmt at name s) = names_in_stmt s

  pub names_in_clauses : Clauses → List (List ℕ)
  names_in_clauses NoClauses = []
  names_in_clauses (MoreClauses at xs ss cs) = names_in_all xs ++ names_in_stmts ss ++ names_in_clauses cs

  pub names_in_comms : Comms → List (List ℕ)
  names_in_comms NoComms = []
  names_in_comms (MoreComms at s ss cs) = names_in_maybe s ++ names_in_stmts ss ++ names_in_comms cs

  pub names_in_decl : Decl → List (List ℕ)
  names_in_decl (ConstDecl at vs) = names_in_values vs
  names_in_decl (TypeDecl at ts) = names_in_types ts
  names_in_decl (VarDecl at vs) = names_in_values vs
  names_in_decl (FuncDecl at name sig b) = names_in_sig sig ++ names_in_block b
  names_in_decl (MethodDecl at list rs name sig b) = names_in_params rs ++ names_in_sig sig ++ names_in_block b

  pub names_in_values : ValueSpecs → List (List ℕ)
  names_in_values NoValues = []
  names_in_values (MoreValues names t xs vs) = names_in_bound t ++ names_in_all xs ++ names_in_values vs

  pub names_in_types : TypeSpecs → List (List ℕ)
  names_in_types NoTypes = []
  names_in_types (MoreTypes name alias t ts) = names_in t ++ names_in_types ts
