-- The tree that contracts see of a tree of the code: the same one without boxes and vectors.
--
-- `expr_view`, `stmt_view` and so on are folds over all types of the tree. What such a fold makes of
-- a field, a parameter or any other part of a list is a function that puts it before the rest.
use Rattle.std.specs.Prelude.{List, [], ◌∷◌, Option, Some, None, map}
use Rattle.gj_base.specs.declared.place.Place.{Place}
use Rattle.go_syntax.specs.Tree as t
use Rattle.go_syntax.specs.declared.tree.Field.{Field, fold-Field}
use Rattle.go_syntax.specs.declared.tree.Member.{Member, fold-Member}
use Rattle.go_syntax.specs.declared.tree.Results.{Results, fold-Results}
use Rattle.go_syntax.specs.declared.tree.Block.{Block, fold-Block}
use Rattle.go_syntax.specs.declared.tree.Clause.{Clause, fold-Clause}
use Rattle.go_syntax.specs.declared.tree.Comm.{Comm, fold-Comm}
use Rattle.go_syntax.specs.declared.tree.Decl.{Decl, fold-Decl}
use Rattle.go_syntax.specs.declared.tree.Elem.{Elem, fold-Elem}
use Rattle.go_syntax.specs.declared.tree.Expr.{Expr, fold-Expr}
use Rattle.go_syntax.specs.declared.tree.ExprForm.{ExprForm, fold-ExprForm}
use Rattle.go_syntax.specs.declared.tree.StmtForm.{StmtForm, fold-StmtForm}
use Rattle.go_syntax.specs.declared.tree.DeclForm.{DeclForm, fold-DeclForm}
use Rattle.go_syntax.specs.declared.tree.Param.{Param, fold-Param}
use Rattle.go_syntax.specs.declared.tree.Params.{Params, fold-Params}
use Rattle.go_syntax.specs.declared.tree.Sig.{Sig, fold-Sig}
use Rattle.go_syntax.specs.declared.tree.Stmt.{Stmt, fold-Stmt}
use Rattle.go_syntax.specs.declared.tree.TypeSpec.{TypeSpec, fold-TypeSpec}
use Rattle.go_syntax.specs.declared.tree.ValueSpec.{ValueSpec, fold-ValueSpec}
use Rattle.go_syntax.specs.declared.tree.DeclForm.TheOpen.{DeclForm-F, ExprForm-F, Field-F, Member-F, Results-F, StmtForm-F}
use Rattle.go_syntax.specs.declared.tree.File.{File}
use Rattle.go_syntax.specs.declared.tree.Import.{Import}

-- each of several parts put before what follows
abbrev pub joined : {A : Type 0} → List (A → A) → A → A
joined [] rest = rest
joined (part ∷ parts) rest = part (joined parts rest)

abbrev pub exprs_of : List t.Expr → t.Exprs
exprs_of [] = t.NoExprs
exprs_of (e ∷ es) = t.MoreExprs e (exprs_of es)

abbrev pub stmts_of : List t.Stmt → t.Stmts
stmts_of [] = t.NoStmts
stmts_of (s ∷ ss) = t.MoreStmts s (stmts_of ss)

abbrev pub maybe_expr : Option t.Expr → t.MaybeExpr
maybe_expr None = t.NoExpr
maybe_expr (Some e) = t.AnExpr e

abbrev pub maybe_stmt : Option t.Stmt → t.MaybeStmt
maybe_stmt None = t.NoStmt
maybe_stmt (Some s) = t.AStmt s

-- one layer of the tree, over what its parts gave
abbrev Layer : (Type 0 → Type 0 → Type 0 → Type 0 → Type 0 → Type 0 → Type 0 → Type 0 → Type 0 → Type 0 → Type 0 → Type 0 → Type 0 → Type 0 → Type 0 → Type 0 → Type 0 → Type 0 → Type 0) → Type 0
Layer F =
    F (Place → t.Decl) (Place → t.Expr) (t.Fields → t.Fields) (t.Members → t.Members) t.Results (Place → t.Stmt)
    t.Block (t.Clauses → t.Clauses) (t.Comms → t.Comms) t.Decl (t.Elems → t.Elems) t.Expr (t.Params → t.Params) (Place × t.Params) t.Sig t.Stmt (t.TypeSpecs → t.TypeSpecs) (t.ValueSpecs → t.ValueSpecs)

abbrev pub expr_step : Layer ExprForm-F → Place → t.Expr
expr_step (ExprForm-F.Name text) at = t.NameExpr at text
expr_step (ExprForm-F.Int text) at = t.IntExpr at text
expr_step (ExprForm-F.Rune text) at = t.RuneExpr at text
expr_step (ExprForm-F.Str text) at = t.StrExpr at text
expr_step (ExprForm-F.Paren x) at = t.ParenExpr at x
expr_step (ExprForm-F.Unary op x) at = t.UnaryExpr at op x
expr_step (ExprForm-F.Binary x op y) at = t.BinaryExpr at x op y
expr_step (ExprForm-F.«ExprForm::Select» x name) at = t.SelectExpr at x name
expr_step (ExprForm-F.Index x i) at = t.IndexExpr at x i
expr_step (ExprForm-F.Slice x low high most) at = t.SliceExpr at x (maybe_expr low) (maybe_expr high) (maybe_expr most)
expr_step (ExprForm-F.Assert x ty) at = t.AssertExpr at x ty
expr_step (ExprForm-F.Call f args spread) at = t.CallExpr at f (exprs_of args.items) spread
expr_step (ExprForm-F.Literal ty elems) at = t.LiteralExpr at (maybe_expr ty) (joined elems.items t.NoElems)
expr_step (ExprForm-F.«ExprForm::Func» sig block) at = t.FuncExpr at sig block
expr_step (ExprForm-F.ArrayT n ty) at = t.ArrayType at (maybe_expr n) ty
expr_step (ExprForm-F.SliceT ty) at = t.SliceType at ty
expr_step (ExprForm-F.StructT fields) at = t.StructType at (joined fields.items t.NoFields)
expr_step (ExprForm-F.FuncT sig) at = t.FuncType at sig
expr_step (ExprForm-F.InterfaceT members) at = t.InterfaceType at (joined members.items t.NoMembers)
expr_step (ExprForm-F.MapT key ty) at = t.MapType at key ty
expr_step (ExprForm-F.ChanT dir ty) at = t.ChanType at dir ty

abbrev pub stmt_step : Layer StmtForm-F → Place → t.Stmt
stmt_step StmtForm-F.Empty at = t.EmptyStmt at
stmt_step (StmtForm-F.Expr xs) at = t.ExprStmt at (exprs_of xs.items)
stmt_step (StmtForm-F.Send xs y) at = t.SendStmt at (exprs_of xs.items) y
stmt_step (StmtForm-F.IncDec xs up) at = t.IncDecStmt at (exprs_of xs.items) up
stmt_step (StmtForm-F.Assign xs op ys) at = t.AssignStmt at (exprs_of xs.items) op (exprs_of ys.items)
stmt_step (StmtForm-F.Define xs ys) at = t.DefineStmt at (exprs_of xs.items) (exprs_of ys.items)
stmt_step (StmtForm-F.Decl d) at = t.DeclStmt at d
stmt_step (StmtForm-F.Block b) at = t.BlockStmt at b
stmt_step (StmtForm-F.If init x b other) at = t.IfStmt at (maybe_stmt init) x b (maybe_stmt other)
stmt_step (StmtForm-F.For init x post b) at = t.ForStmt at (maybe_stmt init) (maybe_expr x) (maybe_stmt post) b
stmt_step (StmtForm-F.Range xs fresh y b) at = t.RangeStmt at (exprs_of xs.items) fresh y b
stmt_step (StmtForm-F.Switch init x clauses) at = t.SwitchStmt at (maybe_stmt init) (maybe_expr x) (joined clauses.items t.NoClauses)
stmt_step (StmtForm-F.TypeSwitch init name x clauses) at = t.TypeSwitchStmt at (maybe_stmt init) name x (joined clauses.items t.NoClauses)
stmt_step (StmtForm-F.«StmtForm::Select» comms) at = t.SelectStmt at (joined comms.items t.NoComms)
stmt_step (StmtForm-F.Go x) at = t.GoStmt at x
stmt_step (StmtForm-F.Defer x) at = t.DeferStmt at x
stmt_step (StmtForm-F.Return xs) at = t.ReturnStmt at (exprs_of xs.items)
stmt_step (StmtForm-F.Break label) at = t.BreakStmt at label
stmt_step (StmtForm-F.Continue label) at = t.ContinueStmt at label
stmt_step StmtForm-F.Fallthrough at = t.FallthroughStmt at
stmt_step (StmtForm-F.Labeled name s) at = t.LabeledStmt at name s

abbrev pub decl_step : Layer DeclForm-F → Place → t.Decl
decl_step (DeclForm-F.Const specs) at = t.ConstDecl at (joined specs.items t.NoValues)
decl_step (DeclForm-F.TypeDecl specs) at = t.TypeDecl at (joined specs.items t.NoTypes)
decl_step (DeclForm-F.Var specs) at = t.VarDecl at (joined specs.items t.NoValues)
decl_step (DeclForm-F.«DeclForm::Func» None name sig block) at = t.FuncDecl at name sig block
decl_step (DeclForm-F.«DeclForm::Func» (Some receiver) name sig block) at = t.MethodDecl at receiver.0 receiver.1 name sig block

abbrev pub field_step : Layer Field-F → t.Fields → t.Fields
field_step (Field-F.Named names ty tag) rest = t.NamedFields names.items ty tag rest
field_step (Field-F.«Field::Embedded» at star ty tag) rest = t.EmbeddedField at star ty tag rest

abbrev pub member_step : Layer Member-F → t.Members → t.Members
member_step (Member-F.Method name sig) rest = t.MethodMember name sig rest
member_step (Member-F.«Member::Embedded» ty) rest = t.EmbeddedMember ty rest

abbrev pub results_step : Layer Results-F → t.Results
results_step Results-F.None = t.NoResults
results_step (Results-F.Type ty) = t.OneResult ty
results_step (Results-F.List params) = t.ManyResults params.0 params.1

-- what a form is where its place is known
abbrev pub expr_form_view : ExprForm → Place → t.Expr
expr_form_view =
    fold-ExprForm
    (Place → t.Decl) (Place → t.Expr) (t.Fields → t.Fields) (t.Members → t.Members) t.Results (Place → t.Stmt)
    t.Block (t.Clauses → t.Clauses) (t.Comms → t.Comms) t.Decl (t.Elems → t.Elems) t.Expr (t.Params → t.Params) (Place × t.Params) t.Sig t.Stmt (t.TypeSpecs → t.TypeSpecs) (t.ValueSpecs → t.ValueSpecs)
    decl_step expr_step field_step member_step results_step stmt_step
    (λ b. t.BlockOf b.place (stmts_of b.stmts.items) b.end)
    (λ c rest. t.MoreClauses c.place (exprs_of c.exprs.items) (stmts_of c.body.items) rest)
    (λ c rest. t.MoreComms c.place (maybe_stmt c.stmt) (stmts_of c.body.items) rest)
    (λ d. d.form.value d.place)
    (λ e rest. t.MoreElems (maybe_expr e.key) e.value rest)
    (λ e. e.form.value e.place)
    (λ p rest. t.MoreParams p.place p.name p.variadic p.ty rest)
    (λ p. (p.place, joined p.items.items t.NoParams))
    (λ s. t.SigOf s.params.0 s.params.1 s.results)
    (λ s. s.form.value s.place)
    (λ s rest. t.MoreTypes s.name s.alias s.ty rest)
    (λ s rest. t.MoreValues s.names.items (maybe_expr s.ty) (exprs_of s.values.items) rest)

abbrev pub stmt_form_view : StmtForm → Place → t.Stmt
stmt_form_view =
    fold-StmtForm
    (Place → t.Decl) (Place → t.Expr) (t.Fields → t.Fields) (t.Members → t.Members) t.Results (Place → t.Stmt)
    t.Block (t.Clauses → t.Clauses) (t.Comms → t.Comms) t.Decl (t.Elems → t.Elems) t.Expr (t.Params → t.Params) (Place × t.Params) t.Sig t.Stmt (t.TypeSpecs → t.TypeSpecs) (t.ValueSpecs → t.ValueSpecs)
    decl_step expr_step field_step member_step results_step stmt_step
    (λ b. t.BlockOf b.place (stmts_of b.stmts.items) b.end)
    (λ c rest. t.MoreClauses c.place (exprs_of c.exprs.items) (stmts_of c.body.items) rest)
    (λ c rest. t.MoreComms c.place (maybe_stmt c.stmt) (stmts_of c.body.items) rest)
    (λ d. d.form.value d.place)
    (λ e rest. t.MoreElems (maybe_expr e.key) e.value rest)
    (λ e. e.form.value e.place)
    (λ p rest. t.MoreParams p.place p.name p.variadic p.ty rest)
    (λ p. (p.place, joined p.items.items t.NoParams))
    (λ s. t.SigOf s.params.0 s.params.1 s.results)
    (λ s. s.form.value s.place)
    (λ s rest. t.MoreTypes s.name s.alias s.ty rest)
    (λ s rest. t.MoreValues s.names.items (maybe_expr s.ty) (exprs_of s.values.items) rest)

abbrev pub decl_form_view : DeclForm → Place → t.Decl
decl_form_view =
    fold-DeclForm
    (Place → t.Decl) (Place → t.Expr) (t.Fields → t.Fields) (t.Members → t.Members) t.Results (Place → t.Stmt)
    t.Block (t.Clauses → t.Clauses) (t.Comms → t.Comms) t.Decl (t.Elems → t.Elems) t.Expr (t.Params → t.Params) (Place × t.Params) t.Sig t.Stmt (t.TypeSpecs → t.TypeSpecs) (t.ValueSpecs → t.ValueSpecs)
    decl_step expr_step field_step member_step results_step stmt_step
    (λ b. t.BlockOf b.place (stmts_of b.stmts.items) b.end)
    (λ c rest. t.MoreClauses c.place (exprs_of c.exprs.items) (stmts_of c.body.items) rest)
    (λ c rest. t.MoreComms c.place (maybe_stmt c.stmt) (stmts_of c.body.items) rest)
    (λ d. d.form.value d.place)
    (λ e rest. t.MoreElems (maybe_expr e.key) e.value rest)
    (λ e. e.form.value e.place)
    (λ p rest. t.MoreParams p.place p.name p.variadic p.ty rest)
    (λ p. (p.place, joined p.items.items t.NoParams))
    (λ s. t.SigOf s.params.0 s.params.1 s.results)
    (λ s. s.form.value s.place)
    (λ s rest. t.MoreTypes s.name s.alias s.ty rest)
    (λ s rest. t.MoreValues s.names.items (maybe_expr s.ty) (exprs_of s.values.items) rest)

abbrev pub expr_view : Expr → t.Expr
expr_view =
    fold-Expr
    (Place → t.Decl) (Place → t.Expr) (t.Fields → t.Fields) (t.Members → t.Members) t.Results (Place → t.Stmt)
    t.Block (t.Clauses → t.Clauses) (t.Comms → t.Comms) t.Decl (t.Elems → t.Elems) t.Expr (t.Params → t.Params) (Place × t.Params) t.Sig t.Stmt (t.TypeSpecs → t.TypeSpecs) (t.ValueSpecs → t.ValueSpecs)
    decl_step expr_step field_step member_step results_step stmt_step
    (λ b. t.BlockOf b.place (stmts_of b.stmts.items) b.end)
    (λ c rest. t.MoreClauses c.place (exprs_of c.exprs.items) (stmts_of c.body.items) rest)
    (λ c rest. t.MoreComms c.place (maybe_stmt c.stmt) (stmts_of c.body.items) rest)
    (λ d. d.form.value d.place)
    (λ e rest. t.MoreElems (maybe_expr e.key) e.value rest)
    (λ e. e.form.value e.place)
    (λ p rest. t.MoreParams p.place p.name p.variadic p.ty rest)
    (λ p. (p.place, joined p.items.items t.NoParams))
    (λ s. t.SigOf s.params.0 s.params.1 s.results)
    (λ s. s.form.value s.place)
    (λ s rest. t.MoreTypes s.name s.alias s.ty rest)
    (λ s rest. t.MoreValues s.names.items (maybe_expr s.ty) (exprs_of s.values.items) rest)

abbrev pub elem_view : Elem → t.Elems → t.Elems
elem_view =
    fold-Elem
    (Place → t.Decl) (Place → t.Expr) (t.Fields → t.Fields) (t.Members → t.Members) t.Results (Place → t.Stmt)
    t.Block (t.Clauses → t.Clauses) (t.Comms → t.Comms) t.Decl (t.Elems → t.Elems) t.Expr (t.Params → t.Params) (Place × t.Params) t.Sig t.Stmt (t.TypeSpecs → t.TypeSpecs) (t.ValueSpecs → t.ValueSpecs)
    decl_step expr_step field_step member_step results_step stmt_step
    (λ b. t.BlockOf b.place (stmts_of b.stmts.items) b.end)
    (λ c rest. t.MoreClauses c.place (exprs_of c.exprs.items) (stmts_of c.body.items) rest)
    (λ c rest. t.MoreComms c.place (maybe_stmt c.stmt) (stmts_of c.body.items) rest)
    (λ d. d.form.value d.place)
    (λ e rest. t.MoreElems (maybe_expr e.key) e.value rest)
    (λ e. e.form.value e.place)
    (λ p rest. t.MoreParams p.place p.name p.variadic p.ty rest)
    (λ p. (p.place, joined p.items.items t.NoParams))
    (λ s. t.SigOf s.params.0 s.params.1 s.results)
    (λ s. s.form.value s.place)
    (λ s rest. t.MoreTypes s.name s.alias s.ty rest)
    (λ s rest. t.MoreValues s.names.items (maybe_expr s.ty) (exprs_of s.values.items) rest)

abbrev pub sig_view : Sig → t.Sig
sig_view =
    fold-Sig
    (Place → t.Decl) (Place → t.Expr) (t.Fields → t.Fields) (t.Members → t.Members) t.Results (Place → t.Stmt)
    t.Block (t.Clauses → t.Clauses) (t.Comms → t.Comms) t.Decl (t.Elems → t.Elems) t.Expr (t.Params → t.Params) (Place × t.Params) t.Sig t.Stmt (t.TypeSpecs → t.TypeSpecs) (t.ValueSpecs → t.ValueSpecs)
    decl_step expr_step field_step member_step results_step stmt_step
    (λ b. t.BlockOf b.place (stmts_of b.stmts.items) b.end)
    (λ c rest. t.MoreClauses c.place (exprs_of c.exprs.items) (stmts_of c.body.items) rest)
    (λ c rest. t.MoreComms c.place (maybe_stmt c.stmt) (stmts_of c.body.items) rest)
    (λ d. d.form.value d.place)
    (λ e rest. t.MoreElems (maybe_expr e.key) e.value rest)
    (λ e. e.form.value e.place)
    (λ p rest. t.MoreParams p.place p.name p.variadic p.ty rest)
    (λ p. (p.place, joined p.items.items t.NoParams))
    (λ s. t.SigOf s.params.0 s.params.1 s.results)
    (λ s. s.form.value s.place)
    (λ s rest. t.MoreTypes s.name s.alias s.ty rest)
    (λ s rest. t.MoreValues s.names.items (maybe_expr s.ty) (exprs_of s.values.items) rest)

abbrev pub results_view : Results → t.Results
results_view =
    fold-Results
    (Place → t.Decl) (Place → t.Expr) (t.Fields → t.Fields) (t.Members → t.Members) t.Results (Place → t.Stmt)
    t.Block (t.Clauses → t.Clauses) (t.Comms → t.Comms) t.Decl (t.Elems → t.Elems) t.Expr (t.Params → t.Params) (Place × t.Params) t.Sig t.Stmt (t.TypeSpecs → t.TypeSpecs) (t.ValueSpecs → t.ValueSpecs)
    decl_step expr_step field_step member_step results_step stmt_step
    (λ b. t.BlockOf b.place (stmts_of b.stmts.items) b.end)
    (λ c rest. t.MoreClauses c.place (exprs_of c.exprs.items) (stmts_of c.body.items) rest)
    (λ c rest. t.MoreComms c.place (maybe_stmt c.stmt) (stmts_of c.body.items) rest)
    (λ d. d.form.value d.place)
    (λ e rest. t.MoreElems (maybe_expr e.key) e.value rest)
    (λ e. e.form.value e.place)
    (λ p rest. t.MoreParams p.place p.name p.variadic p.ty rest)
    (λ p. (p.place, joined p.items.items t.NoParams))
    (λ s. t.SigOf s.params.0 s.params.1 s.results)
    (λ s. s.form.value s.place)
    (λ s rest. t.MoreTypes s.name s.alias s.ty rest)
    (λ s rest. t.MoreValues s.names.items (maybe_expr s.ty) (exprs_of s.values.items) rest)

abbrev pub params_view : Params → (Place × t.Params)
params_view =
    fold-Params
    (Place → t.Decl) (Place → t.Expr) (t.Fields → t.Fields) (t.Members → t.Members) t.Results (Place → t.Stmt)
    t.Block (t.Clauses → t.Clauses) (t.Comms → t.Comms) t.Decl (t.Elems → t.Elems) t.Expr (t.Params → t.Params) (Place × t.Params) t.Sig t.Stmt (t.TypeSpecs → t.TypeSpecs) (t.ValueSpecs → t.ValueSpecs)
    decl_step expr_step field_step member_step results_step stmt_step
    (λ b. t.BlockOf b.place (stmts_of b.stmts.items) b.end)
    (λ c rest. t.MoreClauses c.place (exprs_of c.exprs.items) (stmts_of c.body.items) rest)
    (λ c rest. t.MoreComms c.place (maybe_stmt c.stmt) (stmts_of c.body.items) rest)
    (λ d. d.form.value d.place)
    (λ e rest. t.MoreElems (maybe_expr e.key) e.value rest)
    (λ e. e.form.value e.place)
    (λ p rest. t.MoreParams p.place p.name p.variadic p.ty rest)
    (λ p. (p.place, joined p.items.items t.NoParams))
    (λ s. t.SigOf s.params.0 s.params.1 s.results)
    (λ s. s.form.value s.place)
    (λ s rest. t.MoreTypes s.name s.alias s.ty rest)
    (λ s rest. t.MoreValues s.names.items (maybe_expr s.ty) (exprs_of s.values.items) rest)

abbrev pub param_view : Param → t.Params → t.Params
param_view =
    fold-Param
    (Place → t.Decl) (Place → t.Expr) (t.Fields → t.Fields) (t.Members → t.Members) t.Results (Place → t.Stmt)
    t.Block (t.Clauses → t.Clauses) (t.Comms → t.Comms) t.Decl (t.Elems → t.Elems) t.Expr (t.Params → t.Params) (Place × t.Params) t.Sig t.Stmt (t.TypeSpecs → t.TypeSpecs) (t.ValueSpecs → t.ValueSpecs)
    decl_step expr_step field_step member_step results_step stmt_step
    (λ b. t.BlockOf b.place (stmts_of b.stmts.items) b.end)
    (λ c rest. t.MoreClauses c.place (exprs_of c.exprs.items) (stmts_of c.body.items) rest)
    (λ c rest. t.MoreComms c.place (maybe_stmt c.stmt) (stmts_of c.body.items) rest)
    (λ d. d.form.value d.place)
    (λ e rest. t.MoreElems (maybe_expr e.key) e.value rest)
    (λ e. e.form.value e.place)
    (λ p rest. t.MoreParams p.place p.name p.variadic p.ty rest)
    (λ p. (p.place, joined p.items.items t.NoParams))
    (λ s. t.SigOf s.params.0 s.params.1 s.results)
    (λ s. s.form.value s.place)
    (λ s rest. t.MoreTypes s.name s.alias s.ty rest)
    (λ s rest. t.MoreValues s.names.items (maybe_expr s.ty) (exprs_of s.values.items) rest)

abbrev pub field_view : Field → t.Fields → t.Fields
field_view =
    fold-Field
    (Place → t.Decl) (Place → t.Expr) (t.Fields → t.Fields) (t.Members → t.Members) t.Results (Place → t.Stmt)
    t.Block (t.Clauses → t.Clauses) (t.Comms → t.Comms) t.Decl (t.Elems → t.Elems) t.Expr (t.Params → t.Params) (Place × t.Params) t.Sig t.Stmt (t.TypeSpecs → t.TypeSpecs) (t.ValueSpecs → t.ValueSpecs)
    decl_step expr_step field_step member_step results_step stmt_step
    (λ b. t.BlockOf b.place (stmts_of b.stmts.items) b.end)
    (λ c rest. t.MoreClauses c.place (exprs_of c.exprs.items) (stmts_of c.body.items) rest)
    (λ c rest. t.MoreComms c.place (maybe_stmt c.stmt) (stmts_of c.body.items) rest)
    (λ d. d.form.value d.place)
    (λ e rest. t.MoreElems (maybe_expr e.key) e.value rest)
    (λ e. e.form.value e.place)
    (λ p rest. t.MoreParams p.place p.name p.variadic p.ty rest)
    (λ p. (p.place, joined p.items.items t.NoParams))
    (λ s. t.SigOf s.params.0 s.params.1 s.results)
    (λ s. s.form.value s.place)
    (λ s rest. t.MoreTypes s.name s.alias s.ty rest)
    (λ s rest. t.MoreValues s.names.items (maybe_expr s.ty) (exprs_of s.values.items) rest)

abbrev pub member_view : Member → t.Members → t.Members
member_view =
    fold-Member
    (Place → t.Decl) (Place → t.Expr) (t.Fields → t.Fields) (t.Members → t.Members) t.Results (Place → t.Stmt)
    t.Block (t.Clauses → t.Clauses) (t.Comms → t.Comms) t.Decl (t.Elems → t.Elems) t.Expr (t.Params → t.Params) (Place × t.Params) t.Sig t.Stmt (t.TypeSpecs → t.TypeSpecs) (t.ValueSpecs → t.ValueSpecs)
    decl_step expr_step field_step member_step results_step stmt_step
    (λ b. t.BlockOf b.place (stmts_of b.stmts.items) b.end)
    (λ c rest. t.MoreClauses c.place (exprs_of c.exprs.items) (stmts_of c.body.items) rest)
    (λ c rest. t.MoreComms c.place (maybe_stmt c.stmt) (stmts_of c.body.items) rest)
    (λ d. d.form.value d.place)
    (λ e rest. t.MoreElems (maybe_expr e.key) e.value rest)
    (λ e. e.form.value e.place)
    (λ p rest. t.MoreParams p.place p.name p.variadic p.ty rest)
    (λ p. (p.place, joined p.items.items t.NoParams))
    (λ s. t.SigOf s.params.0 s.params.1 s.results)
    (λ s. s.form.value s.place)
    (λ s rest. t.MoreTypes s.name s.alias s.ty rest)
    (λ s rest. t.MoreValues s.names.items (maybe_expr s.ty) (exprs_of s.values.items) rest)

abbrev pub block_view : Block → t.Block
block_view =
    fold-Block
    (Place → t.Decl) (Place → t.Expr) (t.Fields → t.Fields) (t.Members → t.Members) t.Results (Place → t.Stmt)
    t.Block (t.Clauses → t.Clauses) (t.Comms → t.Comms) t.Decl (t.Elems → t.Elems) t.Expr (t.Params → t.Params) (Place × t.Params) t.Sig t.Stmt (t.TypeSpecs → t.TypeSpecs) (t.ValueSpecs → t.ValueSpecs)
    decl_step expr_step field_step member_step results_step stmt_step
    (λ b. t.BlockOf b.place (stmts_of b.stmts.items) b.end)
    (λ c rest. t.MoreClauses c.place (exprs_of c.exprs.items) (stmts_of c.body.items) rest)
    (λ c rest. t.MoreComms c.place (maybe_stmt c.stmt) (stmts_of c.body.items) rest)
    (λ d. d.form.value d.place)
    (λ e rest. t.MoreElems (maybe_expr e.key) e.value rest)
    (λ e. e.form.value e.place)
    (λ p rest. t.MoreParams p.place p.name p.variadic p.ty rest)
    (λ p. (p.place, joined p.items.items t.NoParams))
    (λ s. t.SigOf s.params.0 s.params.1 s.results)
    (λ s. s.form.value s.place)
    (λ s rest. t.MoreTypes s.name s.alias s.ty rest)
    (λ s rest. t.MoreValues s.names.items (maybe_expr s.ty) (exprs_of s.values.items) rest)

abbrev pub stmt_view : Stmt → t.Stmt
stmt_view =
    fold-Stmt
    (Place → t.Decl) (Place → t.Expr) (t.Fields → t.Fields) (t.Members → t.Members) t.Results (Place → t.Stmt)
    t.Block (t.Clauses → t.Clauses) (t.Comms → t.Comms) t.Decl (t.Elems → t.Elems) t.Expr (t.Params → t.Params) (Place × t.Params) t.Sig t.Stmt (t.TypeSpecs → t.TypeSpecs) (t.ValueSpecs → t.ValueSpecs)
    decl_step expr_step field_step member_step results_step stmt_step
    (λ b. t.BlockOf b.place (stmts_of b.stmts.items) b.end)
    (λ c rest. t.MoreClauses c.place (exprs_of c.exprs.items) (stmts_of c.body.items) rest)
    (λ c rest. t.MoreComms c.place (maybe_stmt c.stmt) (stmts_of c.body.items) rest)
    (λ d. d.form.value d.place)
    (λ e rest. t.MoreElems (maybe_expr e.key) e.value rest)
    (λ e. e.form.value e.place)
    (λ p rest. t.MoreParams p.place p.name p.variadic p.ty rest)
    (λ p. (p.place, joined p.items.items t.NoParams))
    (λ s. t.SigOf s.params.0 s.params.1 s.results)
    (λ s. s.form.value s.place)
    (λ s rest. t.MoreTypes s.name s.alias s.ty rest)
    (λ s rest. t.MoreValues s.names.items (maybe_expr s.ty) (exprs_of s.values.items) rest)

abbrev pub clause_view : Clause → t.Clauses → t.Clauses
clause_view =
    fold-Clause
    (Place → t.Decl) (Place → t.Expr) (t.Fields → t.Fields) (t.Members → t.Members) t.Results (Place → t.Stmt)
    t.Block (t.Clauses → t.Clauses) (t.Comms → t.Comms) t.Decl (t.Elems → t.Elems) t.Expr (t.Params → t.Params) (Place × t.Params) t.Sig t.Stmt (t.TypeSpecs → t.TypeSpecs) (t.ValueSpecs → t.ValueSpecs)
    decl_step expr_step field_step member_step results_step stmt_step
    (λ b. t.BlockOf b.place (stmts_of b.stmts.items) b.end)
    (λ c rest. t.MoreClauses c.place (exprs_of c.exprs.items) (stmts_of c.body.items) rest)
    (λ c rest. t.MoreComms c.place (maybe_stmt c.stmt) (stmts_of c.body.items) rest)
    (λ d. d.form.value d.place)
    (λ e rest. t.MoreElems (maybe_expr e.key) e.value rest)
    (λ e. e.form.value e.place)
    (λ p rest. t.MoreParams p.place p.name p.variadic p.ty rest)
    (λ p. (p.place, joined p.items.items t.NoParams))
    (λ s. t.SigOf s.params.0 s.params.1 s.results)
    (λ s. s.form.value s.place)
    (λ s rest. t.MoreTypes s.name s.alias s.ty rest)
    (λ s rest. t.MoreValues s.names.items (maybe_expr s.ty) (exprs_of s.values.items) rest)

abbrev pub comm_view : Comm → t.Comms → t.Comms
comm_view =
    fold-Comm
    (Place → t.Decl) (Place → t.Expr) (t.Fields → t.Fields) (t.Members → t.Members) t.Results (Place → t.Stmt)
    t.Block (t.Clauses → t.Clauses) (t.Comms → t.Comms) t.Decl (t.Elems → t.Elems) t.Expr (t.Params → t.Params) (Place × t.Params) t.Sig t.Stmt (t.TypeSpecs → t.TypeSpecs) (t.ValueSpecs → t.ValueSpecs)
    decl_step expr_step field_step member_step results_step stmt_step
    (λ b. t.BlockOf b.place (stmts_of b.stmts.items) b.end)
    (λ c rest. t.MoreClauses c.place (exprs_of c.exprs.items) (stmts_of c.body.items) rest)
    (λ c rest. t.MoreComms c.place (maybe_stmt c.stmt) (stmts_of c.body.items) rest)
    (λ d. d.form.value d.place)
    (λ e rest. t.MoreElems (maybe_expr e.key) e.value rest)
    (λ e. e.form.value e.place)
    (λ p rest. t.MoreParams p.place p.name p.variadic p.ty rest)
    (λ p. (p.place, joined p.items.items t.NoParams))
    (λ s. t.SigOf s.params.0 s.params.1 s.results)
    (λ s. s.form.value s.place)
    (λ s rest. t.MoreTypes s.name s.alias s.ty rest)
    (λ s rest. t.MoreValues s.names.items (maybe_expr s.ty) (exprs_of s.values.items) rest)

abbrev pub decl_view : Decl → t.Decl
decl_view =
    fold-Decl
    (Place → t.Decl) (Place → t.Expr) (t.Fields → t.Fields) (t.Members → t.Members) t.Results (Place → t.Stmt)
    t.Block (t.Clauses → t.Clauses) (t.Comms → t.Comms) t.Decl (t.Elems → t.Elems) t.Expr (t.Params → t.Params) (Place × t.Params) t.Sig t.Stmt (t.TypeSpecs → t.TypeSpecs) (t.ValueSpecs → t.ValueSpecs)
    decl_step expr_step field_step member_step results_step stmt_step
    (λ b. t.BlockOf b.place (stmts_of b.stmts.items) b.end)
    (λ c rest. t.MoreClauses c.place (exprs_of c.exprs.items) (stmts_of c.body.items) rest)
    (λ c rest. t.MoreComms c.place (maybe_stmt c.stmt) (stmts_of c.body.items) rest)
    (λ d. d.form.value d.place)
    (λ e rest. t.MoreElems (maybe_expr e.key) e.value rest)
    (λ e. e.form.value e.place)
    (λ p rest. t.MoreParams p.place p.name p.variadic p.ty rest)
    (λ p. (p.place, joined p.items.items t.NoParams))
    (λ s. t.SigOf s.params.0 s.params.1 s.results)
    (λ s. s.form.value s.place)
    (λ s rest. t.MoreTypes s.name s.alias s.ty rest)
    (λ s rest. t.MoreValues s.names.items (maybe_expr s.ty) (exprs_of s.values.items) rest)

abbrev pub value_spec_view : ValueSpec → t.ValueSpecs → t.ValueSpecs
value_spec_view =
    fold-ValueSpec
    (Place → t.Decl) (Place → t.Expr) (t.Fields → t.Fields) (t.Members → t.Members) t.Results (Place → t.Stmt)
    t.Block (t.Clauses → t.Clauses) (t.Comms → t.Comms) t.Decl (t.Elems → t.Elems) t.Expr (t.Params → t.Params) (Place × t.Params) t.Sig t.Stmt (t.TypeSpecs → t.TypeSpecs) (t.ValueSpecs → t.ValueSpecs)
    decl_step expr_step field_step member_step results_step stmt_step
    (λ b. t.BlockOf b.place (stmts_of b.stmts.items) b.end)
    (λ c rest. t.MoreClauses c.place (exprs_of c.exprs.items) (stmts_of c.body.items) rest)
    (λ c rest. t.MoreComms c.place (maybe_stmt c.stmt) (stmts_of c.body.items) rest)
    (λ d. d.form.value d.place)
    (λ e rest. t.MoreElems (maybe_expr e.key) e.value rest)
    (λ e. e.form.value e.place)
    (λ p rest. t.MoreParams p.place p.name p.variadic p.ty rest)
    (λ p. (p.place, joined p.items.items t.NoParams))
    (λ s. t.SigOf s.params.0 s.params.1 s.results)
    (λ s. s.form.value s.place)
    (λ s rest. t.MoreTypes s.name s.alias s.ty rest)
    (λ s rest. t.MoreValues s.names.items (maybe_expr s.ty) (exprs_of s.values.items) rest)

abbrev pub type_spec_view : TypeSpec → t.TypeSpecs → t.TypeSpecs
type_spec_view =
    fold-TypeSpec
    (Place → t.Decl) (Place → t.Expr) (t.Fields → t.Fields) (t.Members → t.Members) t.Results (Place → t.Stmt)
    t.Block (t.Clauses → t.Clauses) (t.Comms → t.Comms) t.Decl (t.Elems → t.Elems) t.Expr (t.Params → t.Params) (Place × t.Params) t.Sig t.Stmt (t.TypeSpecs → t.TypeSpecs) (t.ValueSpecs → t.ValueSpecs)
    decl_step expr_step field_step member_step results_step stmt_step
    (λ b. t.BlockOf b.place (stmts_of b.stmts.items) b.end)
    (λ c rest. t.MoreClauses c.place (exprs_of c.exprs.items) (stmts_of c.body.items) rest)
    (λ c rest. t.MoreComms c.place (maybe_stmt c.stmt) (stmts_of c.body.items) rest)
    (λ d. d.form.value d.place)
    (λ e rest. t.MoreElems (maybe_expr e.key) e.value rest)
    (λ e. e.form.value e.place)
    (λ p rest. t.MoreParams p.place p.name p.variadic p.ty rest)
    (λ p. (p.place, joined p.items.items t.NoParams))
    (λ s. t.SigOf s.params.0 s.params.1 s.results)
    (λ s. s.form.value s.place)
    (λ s rest. t.MoreTypes s.name s.alias s.ty rest)
    (λ s rest. t.MoreValues s.names.items (maybe_expr s.ty) (exprs_of s.values.items) rest)

abbrev pub import_view : Import → t.Import
import_view i = record { place = i.place; name = i.name; path = i.path; path_place = i.path_place }

abbrev pub file_view : File → t.File
file_view f = record { «package» = f.package; imports = map import_view f.imports.items; decls = map decl_view f.decls.items }
