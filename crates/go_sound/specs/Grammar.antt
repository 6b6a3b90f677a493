-- Go specification (as of Go 1.17), "Operators", "For statements", "Variable declarations": what the trees that the grammar gives keep. The trees of these
-- definitions are any trees but for this.
use Rattle.std.specs.Prelude.{List, [], ◌∷◌, Option, Some, None, IsTrue}
use Rattle.gj_base.specs.declared.kind.Op.{Op}
use Rattle.go_syntax.specs.Tree as t
use Rattle.go_sound.specs.SoundTyped.{is_binary, HasOperators, BoundHasOperators, AllHaveOperators}

abbrev pub OpOfGrammar : Option Op → Type 0
OpOfGrammar None = Unit {0}
OpOfGrammar (Some op) = IsTrue (is_binary op)

-- what stands after a turn of a loop is a simple statement
abbrev pub IsSimple : t.MaybeStmt → Type 0
IsSimple t.NoStmt = Unit {0}
IsSimple (t.AStmt (t.EmptyStmt at)) = Unit {0}
IsSimple (t.AStmt (t.ExprStmt at xs)) = Unit {0}
IsSimple (t.AStmt (t.SendStmt at xs y)) = Unit {0}
IsSimple (t.AStmt (t.IncDecStmt at xs up)) = Unit {0}
IsSimple (t.AStmt (t.AssignStmt at xs op ys)) = Unit {0}
IsSimple (t.AStmt (t.DefineStmt at xs ys)) = Unit {0}
IsSimple _ = ⊥

abbrev pub ValuesOfGrammar : t.ValueSpecs → Type 0
ValuesOfGrammar t.NoValues = Unit {0}
ValuesOfGrammar (t.MoreValues ns u ys vs) = BoundHasOperators u × AllHaveOperators ys × ValuesOfGrammar vs

-- a variable specification has a type or values
abbrev pub IsTypedOrValued : t.MaybeExpr → t.Exprs → Type 0
IsTypedOrValued t.NoExpr t.NoExprs = ⊥
IsTypedOrValued u ys = Unit {0}

abbrev pub VarsOfGrammar : t.ValueSpecs → Type 0
VarsOfGrammar t.NoValues = Unit {0}
VarsOfGrammar (t.MoreValues ns u ys vs) = IsTypedOrValued u ys × BoundHasOperators u × AllHaveOperators ys × VarsOfGrammar vs

abbrev pub TypesOfGrammar : t.TypeSpecs → Type 0
TypesOfGrammar t.NoTypes = Unit {0}
TypesOfGrammar (t.MoreTypes n alias e ts) = HasOperators e × TypesOfGrammar ts

abbrev pub ParamsOfGrammar : t.Params → Type 0
ParamsOfGrammar t.NoParams = Unit {0}
ParamsOfGrammar (t.MoreParams at n variadic u ps) = HasOperators u × ParamsOfGrammar ps

abbrev pub ResultsOfGrammar : t.Results → Type 0
ResultsOfGrammar t.NoResults = Unit {0}
ResultsOfGrammar (t.OneResult u) = HasOperators u
ResultsOfGrammar (t.ManyResults at ps) = ParamsOfGrammar ps

abbrev pub SigOfGrammar : t.Sig → Type 0
SigOfGrammar (t.SigOf at ps rs) = ParamsOfGrammar ps × ResultsOfGrammar rs

abbrev mutual
  pub StmtOfGrammar : t.Stmt → Type 0
  StmtOfGrammar (t.EmptyStmt at) = Unit {0}
  StmtOfGrammar (t.ExprStmt at xs) = AllHaveOperators xs
  StmtOfGrammar (t.SendStmt at xs y) = AllHaveOperators xs × HasOperators y
  StmtOfGrammar (t.IncDecStmt at xs up) = AllHaveOperators xs
  StmtOfGrammar (t.AssignStmt at xs op ys) = AllHaveOperators xs × OpOfGrammar op × AllHaveOperators ys
  StmtOfGrammar (t.DefineStmt at xs ys) = AllHaveOperators xs × AllHaveOperators ys
  StmtOfGrammar (t.DeclStmt at d) = DeclOfGrammar d
  StmtOfGrammar (t.BlockStmt at b) = BlockOfGrammar b
  StmtOfGrammar (t.IfStmt at init x b other) = MaybeOfGrammar init × HasOperators x × BlockOfGrammar b × MaybeOfGrammar other
  StmtOfGrammar (t.ForStmt at init x post b) = MaybeOfGrammar init × BoundHasOperators x × IsSimple post × MaybeOfGrammar post × BlockOfGrammar b
  StmtOfGrammar (t.RangeStmt at xs is_new y b) = AllHaveOperators xs × HasOperators y × BlockOfGrammar b
  StmtOfGrammar (t.SwitchStmt at init x cs) = MaybeOfGrammar init × BoundHasOperators x × ClausesOfGrammar cs
  StmtOfGrammar (t.TypeSwitchStmt at init n x cs) = MaybeOfGrammar init × HasOperators x × ClausesOfGrammar cs
  StmtOfGrammar (t.SelectStmt at cs) = CommsOfGrammar cs
  StmtOfGrammar (t.GoStmt at x) = HasOperators x
  StmtOfGrammar (t.DeferStmt at x) = HasOperators x
  StmtOfGrammar (t.ReturnStmt at ys) = AllHaveOperators ys
  StmtOfGrammar (t.BreakStmt at n) = Unit {0}
  StmtOfGrammar (t.ContinueStmt at n) = Unit {0}
  StmtOfGrammar (t.FallthroughStmt at) = Unit {0}
  StmtOfGrammar (t.LabeledStmt at n s) = StmtOfGrammar s

  pub MaybeOfGrammar : t.MaybeStmt → Type 0
  MaybeOfGrammar t.NoStmt = Unit {0}
  MaybeOfGrammar (t.AStmt s) = StmtOfGrammar s

  pub BlockOfGrammar : t.Block → Type 0
  BlockOfGrammar (t.BlockOf at ss end) = StmtsOfGrammar ss

  pub StmtsOfGrammar : t.Stmts → Type 0
  StmtsOfGrammar t.NoStmts = Unit {0}
  StmtsOfGrammar (t.MoreStmts s ss) = StmtOfGrammar s × StmtsOfGrammar ss

  pub ClausesOfGrammar : t.Clauses → Type 0
  ClausesOfGrammar t.NoClauses = Unit {0}
  ClausesOfGrammar (t.MoreClauses at xs ss cs) = AllHaveOperators xs × StmtsOfGrammar ss × ClausesOfGrammar cs

  pub CommsOfGrammar : t.Comms → Type 0
  CommsOfGrammar t.NoComms = Unit {0}
  CommsOfGrammar (t.MoreComms at s ss cs) = MaybeOfGrammar s × StmtsOfGrammar ss × CommsOfGrammar cs

  pub DeclOfGrammar : t.Decl → Type 0
  DeclOfGrammar (t.ConstDecl at vs) = ValuesOfGrammar vs
  DeclOfGrammar (t.TypeDecl at ts) = TypesOfGrammar ts
  DeclOfGrammar (t.VarDecl at vs) = VarsOfGrammar vs
  DeclOfGrammar (t.FuncDecl at n s b) = SigOfGrammar s × BlockOfGrammar b
  DeclOfGrammar (t.MethodDecl at p rs n s b) = ParamsOfGrammar rs × SigOfGrammar s × BlockOfGrammar b

abbrev pub DeclsOfGrammar : List t.Decl → Type 0
DeclsOfGrammar [] = Unit {0}
DeclsOfGrammar (d ∷ ds) = DeclOfGrammar d × DeclsOfGrammar ds
