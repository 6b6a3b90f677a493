-- The core trees that the Rust types stand for: the same without boxes and vectors, and with types as trees.
use Rattle.std.specs.Prelude.{ℕ, List, [], ◌∷◌, map, Option, Some, None, option_map}
use Rattle.go_type.specs.Tree.{Ty}
use Rattle.go_type.specs.Levels.{tree_of, trees_of}
use Rattle.go_type.specs.declared.types.TypeId.{TypeId}
use Rattle.go_type.specs.Table.{places, names}
use Rattle.go_core.specs.CoreTree as core
use Rattle.go_core.specs.CoreTree.{Expr, Exprs, no_exprs, expr, Bound, no_bound, bound, Elements, no_elements, element, Pairs, no_pairs, pair, Stmt, Stmts, no_stmts, stmt, Tests, no_tests, test, Clauses, no_clauses, clause, Cases, no_cases, case}
use Rattle.go_core.specs.declared.node.Var.{Var}
use Rattle.go_core.specs.declared.node.VarId.{VarId}
use Rattle.go_core.specs.declared.tree.FuncId.{FuncId}
use Rattle.go_core.specs.declared.node.MethodName.{MethodName}
use Rattle.go_core.specs.declared.node.Constant.{Constant}
use Rattle.go_core.specs.declared.node.Constant.TheVariants as constant
use Rattle.go_core.specs.declared.node.CoreForm.{CoreForm, CoreForm-F, fold-CoreForm}
use Rattle.go_core.specs.declared.node.CoreExpr.{CoreExpr, fold-CoreExpr}
use Rattle.go_core.specs.declared.node.Callee.TheOpen.{CoreExpr-F, CoreExprs-F, CoreElements-F, CoreElement-F, CorePairs-F, CorePair-F, CorePlace-F}
use Rattle.go_core.specs.declared.node.PlaceForm.{PlaceForm, PlaceForm-F, fold-PlaceForm}
use Rattle.go_core.specs.declared.node.CorePlace.{CorePlace, fold-CorePlace}
use Rattle.go_core.specs.declared.node.CoreExprs.{CoreExprs, fold-CoreExprs}
use Rattle.go_core.specs.declared.node.Callee.{Callee, Callee-F, fold-Callee}
use Rattle.go_core.specs.declared.statement.Target.{Target}
use Rattle.go_core.specs.declared.statement.Target.TheVariants as target
use Rattle.go_core.specs.declared.statement.BranchKind.{BranchKind}
use Rattle.go_core.specs.declared.statement.BranchKind.TheVariants.{Break, Continue}
use Rattle.go_core.specs.declared.statement.Communication.{Communication}
use Rattle.go_core.specs.declared.statement.Communication.TheVariants as communication
use Rattle.go_core.specs.declared.statement.CoreTest.{CoreTest}
use Rattle.go_core.specs.declared.statement.CoreStmtForm.{CoreStmtForm, CoreStmtForm-F, fold-CoreStmtForm}
use Rattle.go_core.specs.declared.statement.CoreStmt.{CoreStmt, fold-CoreStmt}
use Rattle.go_core.specs.declared.statement.CoreStmtForm.TheOpen.{CoreStmt-F, CoreStmts-F, CoreClause-F, CoreClauses-F, CoreCase-F, CoreCases-F}
use Rattle.go_core.specs.declared.statement.CoreStmts.{CoreStmts, fold-CoreStmts}
use Rattle.go_core.specs.declared.program.Func.{Func}
use Rattle.go_core.specs.declared.program.PackageVar.{PackageVar}
use Rattle.go_core.specs.declared.program.PackageRow.{PackageRow}
use Rattle.go_core.specs.declared.program.MethodRow.{MethodRow}
use Rattle.go_core.specs.declared.program.Program.{Program}
use Rattle.go_core.specs.declared.program.InitStep.{InitStep}
use Rattle.go_core.specs.declared.program.InitStep.TheVariants as init

abbrev pub exprs_of : List Expr → Exprs
exprs_of [] = no_exprs
exprs_of (e ∷ es) = expr e (exprs_of es)

abbrev pub bound_of : Option Expr → Bound
bound_of None = no_bound
bound_of (Some e) = bound e

-- each element before the others
abbrev pub elements_of : List (Elements → Elements) → Elements
elements_of [] = no_elements
elements_of (e ∷ es) = e (elements_of es)

abbrev pub pairs_of : List (Pairs → Pairs) → Pairs
pairs_of [] = no_pairs
pairs_of (p ∷ ps) = p (pairs_of ps)

abbrev pub stmts_of : List Stmt → Stmts
stmts_of [] = no_stmts
stmts_of (s ∷ ss) = stmt s (stmts_of ss)

abbrev pub clauses_of : List (Clauses → Clauses) → Clauses
clauses_of [] = no_clauses
clauses_of (c ∷ cs) = c (clauses_of cs)

abbrev pub cases_of : List (Cases → Cases) → Cases
cases_of [] = no_cases
cases_of (c ∷ cs) = c (cases_of cs)

abbrev pub constant_of : Constant → core.Constant
constant_of (constant.Bool b) = core.truth_constant b
constant_of (constant.Int n) = core.whole_constant n
constant_of (constant.Text t) = core.text_constant t

abbrev pub branch_of : BranchKind → core.BranchKind
branch_of Break = core.break_
branch_of Continue = core.continue_

abbrev pub id_of : VarId → ℕ
id_of v = v.0

-- with the trees of the table's ids
module _ (ts : List Ty) where
  abbrev pub ty : TypeId → Ty
  ty t = tree_of ts t

  abbrev pub var_of : Var → core.Var
  var_of v = record { id = v.id.0; type_ = ty v.ty }

  abbrev pub method_of : MethodName → core.MethodName
  method_of n = record { type_ = ty n.ty; name = n.name; package_ = n.package }

  abbrev pub expr_step : CoreForm-F core.Callee Expr core.CorePlace (Elements → Elements) Elements Expr Exprs (Pairs → Pairs) Pairs core.CorePlace → Expr
  expr_step (CoreForm-F.Const t c) = core.constant (ty t) (constant_of c)
  expr_step (CoreForm-F.Zero t) = core.zero_value (ty t)
  expr_step (CoreForm-F.Read t place) = core.read (ty t) place
  expr_step (CoreForm-F.Address t place) = core.address (ty t) place
  expr_step (CoreForm-F.Unary op t e) = core.unary op (ty t) e
  expr_step (CoreForm-F.Binary op t a b) = core.binary op (ty t) a b
  expr_step (CoreForm-F.Concat t a b) = core.concat (ty t) a b
  expr_step (CoreForm-F.Equal negated u t a b) = core.equal negated (ty u) (ty t) a b
  expr_step (CoreForm-F.Less op u t a b) = core.less op (ty u) (ty t) a b
  expr_step (CoreForm-F.AndThen t a b) = core.and_then (ty t) a b
  expr_step (CoreForm-F.OrElse t a b) = core.or_else (ty t) a b
  expr_step (CoreForm-F.Not t e) = core.not_ (ty t) e
  expr_step (CoreForm-F.Convert from t e) = core.convert (ty from) (ty t) e
  expr_step (CoreForm-F.ByteAt e i) = core.byte_at e i
  expr_step (CoreForm-F.SliceOf from t e low high limit) =
      core.slice_of (ty from) (ty t) e (bound_of low) (bound_of high) (bound_of limit)
  expr_step (CoreForm-F.Build t count es) = core.build (ty t) count es
  expr_step (CoreForm-F.BuildMap t ps) = core.build_map (ty t) ps
  expr_step (CoreForm-F.Closure t f) = core.closure (ty t) f.0
  expr_step (CoreForm-F.Bind t n e) = core.bind (ty t) (method_of n) e
  expr_step (CoreForm-F.BindDynamic t name package_ e) = core.bind_dynamic (ty t) name package_ e
  expr_step (CoreForm-F.Call results callee es) = core.call (trees_of ts results) callee es
  expr_step (CoreForm-F.MapGet t ok e key) = core.map_get (ty t) ok e key
  expr_step (CoreForm-F.Len t e) = core.len (ty t) e
  expr_step (CoreForm-F.Cap t e) = core.cap (ty t) e
  expr_step (CoreForm-F.Append t from a b) = core.append (ty t) (ty from) a b
  expr_step (CoreForm-F.CopyElems t from a b) = core.copy_elems (ty t) (ty from) a b
  expr_step (CoreForm-F.MakeSlice t n capacity) = core.make_slice (ty t) n (bound_of capacity)
  expr_step (CoreForm-F.MakeMap t count) = core.make_map (ty t) (bound_of count)
  expr_step (CoreForm-F.MakeChan t capacity) = core.make_chan (ty t) (bound_of capacity)
  expr_step (CoreForm-F.New t) = core.new_ (ty t)
  expr_step (CoreForm-F.Wrap from t e) = core.wrap (ty from) (ty t) e
  expr_step (CoreForm-F.Assert t ok e) = core.assert_ (ty t) ok e
  expr_step (CoreForm-F.Basic t e) = core.basic (ty t) e
  expr_step (CoreForm-F.Receive t ok e) = core.receive (ty t) ok e
  expr_step (CoreForm-F.Recover t) = core.recover_ (ty t)
  expr_step (CoreForm-F.GateMake e) = core.gate_make e
  expr_step (CoreForm-F.GateAdd cell n) = core.gate_add cell n
  expr_step (CoreForm-F.Let vars es body) = core.let_in (map var_of vars.items.items) es body

  abbrev pub place_step : PlaceForm-F core.Callee Expr core.CorePlace (Elements → Elements) Elements Expr Exprs (Pairs → Pairs) Pairs core.CorePlace → core.CorePlace
  place_step (PlaceForm-F.Local v) = core.local_ v.0
  place_step (PlaceForm-F.Global n) = core.global n.0
  place_step (PlaceForm-F.Deref e) = core.deref e
  place_step (PlaceForm-F.Field t n place) = core.field (ty t) n place
  place_step (PlaceForm-F.Elem t place i) = core.elem (ty t) place i
  place_step (PlaceForm-F.SliceElem t e i) = core.slice_elem (ty t) e i

  abbrev pub callee_step : Callee-F core.Callee Expr core.CorePlace (Elements → Elements) Elements Expr Exprs (Pairs → Pairs) Pairs core.CorePlace → core.Callee
  callee_step (Callee-F.Function f) = core.function f.0
  callee_step (Callee-F.Method n) = core.method (method_of n)
  callee_step (Callee-F.Value e) = core.func_value e
  callee_step (Callee-F.Dynamic name package_ e) = core.dynamic name package_ e

  abbrev pub expr_in : CoreExpr-F core.Callee Expr core.CorePlace (Elements → Elements) Elements Expr Exprs (Pairs → Pairs) Pairs core.CorePlace → Expr
  expr_in e = e.form.value

  abbrev pub place_in : CorePlace-F core.Callee Expr core.CorePlace (Elements → Elements) Elements Expr Exprs (Pairs → Pairs) Pairs core.CorePlace → core.CorePlace
  place_in p = p.form.value

  abbrev pub exprs_in : CoreExprs-F core.Callee Expr core.CorePlace (Elements → Elements) Elements Expr Exprs (Pairs → Pairs) Pairs core.CorePlace → Exprs
  exprs_in es = exprs_of es.items.items

  abbrev pub elements_in : CoreElements-F core.Callee Expr core.CorePlace (Elements → Elements) Elements Expr Exprs (Pairs → Pairs) Pairs core.CorePlace → Elements
  elements_in es = elements_of es.items.items

  abbrev pub element_in : CoreElement-F core.Callee Expr core.CorePlace (Elements → Elements) Elements Expr Exprs (Pairs → Pairs) Pairs core.CorePlace → Elements → Elements
  element_in e = element e.index e.value

  abbrev pub pairs_in : CorePairs-F core.Callee Expr core.CorePlace (Elements → Elements) Elements Expr Exprs (Pairs → Pairs) Pairs core.CorePlace → Pairs
  pairs_in ps = pairs_of ps.items.items

  abbrev pub pair_in : CorePair-F core.Callee Expr core.CorePlace (Elements → Elements) Elements Expr Exprs (Pairs → Pairs) Pairs core.CorePlace → Pairs → Pairs
  pair_in p = pair p.key p.value

  -- the tree of a form, of an expression, of a place, of operands, and of what is called
  abbrev pub expr_form_view : CoreForm → Expr
  expr_form_view = fold-CoreForm core.Callee Expr core.CorePlace (Elements → Elements) Elements Expr Exprs (Pairs → Pairs) Pairs core.CorePlace callee_step expr_step place_step element_in elements_in expr_in exprs_in pair_in pairs_in place_in

  abbrev pub expr_view : CoreExpr → Expr
  expr_view = fold-CoreExpr core.Callee Expr core.CorePlace (Elements → Elements) Elements Expr Exprs (Pairs → Pairs) Pairs core.CorePlace callee_step expr_step place_step element_in elements_in expr_in exprs_in pair_in pairs_in place_in

  abbrev pub place_form_view : PlaceForm → core.CorePlace
  place_form_view = fold-PlaceForm core.Callee Expr core.CorePlace (Elements → Elements) Elements Expr Exprs (Pairs → Pairs) Pairs core.CorePlace callee_step expr_step place_step element_in elements_in expr_in exprs_in pair_in pairs_in place_in

  abbrev pub place_view : CorePlace → core.CorePlace
  place_view = fold-CorePlace core.Callee Expr core.CorePlace (Elements → Elements) Elements Expr Exprs (Pairs → Pairs) Pairs core.CorePlace callee_step expr_step place_step element_in elements_in expr_in exprs_in pair_in pairs_in place_in

  abbrev pub exprs_view : CoreExprs → Exprs
  exprs_view = fold-CoreExprs core.Callee Expr core.CorePlace (Elements → Elements) Elements Expr Exprs (Pairs → Pairs) Pairs core.CorePlace callee_step expr_step place_step element_in elements_in expr_in exprs_in pair_in pairs_in place_in

  abbrev pub callee_view : Callee → core.Callee
  callee_view = fold-Callee core.Callee Expr core.CorePlace (Elements → Elements) Elements Expr Exprs (Pairs → Pairs) Pairs core.CorePlace callee_step expr_step place_step element_in elements_in expr_in exprs_in pair_in pairs_in place_in

  abbrev pub option_var : Option Var → Option core.Var
  option_var v = option_map var_of v

  abbrev pub target_view : Target → core.Target
  target_view target.Blank = core.blank
  target_view (target.Place t place) = core.to_place (ty t) (place_view place)
  target_view (target.Entry t e key) = core.to_entry (ty t) (expr_view e) (expr_view key)

  abbrev pub communication_view : Communication → core.Communication
  communication_view (communication.Send t e v) = core.sends (ty t) (expr_view e) (expr_view v)
  communication_view (communication.Receive t e vars) = core.receives (ty t) (expr_view e) (map var_of vars.items.items)

  abbrev pub tests_of : List CoreTest → Tests
  tests_of [] = no_tests
  tests_of (t ∷ ts') = test (expr_view t.condition) t.clause (tests_of ts')

  abbrev pub stmt_step : CoreStmtForm-F Stmt (Cases → Cases) Cases (Clauses → Clauses) Clauses Stmt Stmts → Stmt
  stmt_step (CoreStmtForm-F.Seq ss) = core.sequence ss
  stmt_step (CoreStmtForm-F.Perform e n) = core.perform (expr_view e) n
  stmt_step (CoreStmtForm-F.Declare v) = core.declare (var_of v)
  stmt_step (CoreStmtForm-F.Store targets es) = core.store (map target_view targets.items.items) (exprs_view es)
  stmt_step (CoreStmtForm-F.MapDelete t e key) = core.map_delete (ty t) (expr_view e) (expr_view key)
  stmt_step (CoreStmtForm-F.If e a b) = core.if_ (expr_view e) a b
  stmt_step (CoreStmtForm-F.Loop label c body post) = core.loop label.0 (bound_of (option_map expr_view c)) body post
  stmt_step (CoreStmtForm-F.SwitchOn label tests cs d) = core.switch_on label.0 (tests_of tests.items.items) cs d
  stmt_step (CoreStmtForm-F.RangeNext label from e k v body) = core.range_over label.0 (ty from) (expr_view e) (option_var k) (option_var v) body
  stmt_step (CoreStmtForm-F.Labeled label body) = core.labeled label.0 body
  stmt_step (CoreStmtForm-F.Branch kind label) = core.branch (branch_of kind) label.0
  stmt_step (CoreStmtForm-F.Send t e v) = core.send (ty t) (expr_view e) (expr_view v)
  stmt_step (CoreStmtForm-F.Close e) = core.close_ (expr_view e)
  stmt_step (CoreStmtForm-F.SelectStep label cs has_default body) = core.select_step label.0 cs has_default body
  stmt_step (CoreStmtForm-F.GateTake e) = core.gate_take (expr_view e)
  stmt_step (CoreStmtForm-F.GateAwait e) = core.gate_await (expr_view e)
  stmt_step CoreStmtForm-F.Yield = core.yield_
  stmt_step (CoreStmtForm-F.GoCall callee es) = core.go_call (callee_view callee) (exprs_view es)
  stmt_step (CoreStmtForm-F.DeferCall callee es) = core.defer_call (callee_view callee) (exprs_view es)
  stmt_step (CoreStmtForm-F.Return es) = core.return_ (exprs_view es)
  stmt_step (CoreStmtForm-F.Panic e) = core.panic_ (expr_view e)
  stmt_step (CoreStmtForm-F.Print es ends_line) = core.print (exprs_view es) ends_line
  stmt_step (CoreStmtForm-F.Exit e) = core.exit_ (expr_view e)
  stmt_step (CoreStmtForm-F.Fatal e) = core.fatal_ (expr_view e)

  abbrev pub case_in : CoreCase-F Stmt (Cases → Cases) Cases (Clauses → Clauses) Clauses Stmt Stmts → Cases → Cases
  case_in c = case (communication_view c.communication) c.body

  abbrev pub cases_in : CoreCases-F Stmt (Cases → Cases) Cases (Clauses → Clauses) Clauses Stmt Stmts → Cases
  cases_in cs = cases_of cs.items.items

  abbrev pub clause_in : CoreClause-F Stmt (Cases → Cases) Cases (Clauses → Clauses) Clauses Stmt Stmts → Clauses → Clauses
  clause_in c = clause c.body c.falls_through

  abbrev pub clauses_in : CoreClauses-F Stmt (Cases → Cases) Cases (Clauses → Clauses) Clauses Stmt Stmts → Clauses
  clauses_in cs = clauses_of cs.items.items

  abbrev pub stmt_in : CoreStmt-F Stmt (Cases → Cases) Cases (Clauses → Clauses) Clauses Stmt Stmts → Stmt
  stmt_in s = s.form.value

  abbrev pub stmts_in : CoreStmts-F Stmt (Cases → Cases) Cases (Clauses → Clauses) Clauses Stmt Stmts → Stmts
  stmts_in ss = stmts_of ss.items.items

  -- the tree of a form, of a statement, and of statements
  abbrev pub stmt_form_view : CoreStmtForm → Stmt
  stmt_form_view = fold-CoreStmtForm Stmt (Cases → Cases) Cases (Clauses → Clauses) Clauses Stmt Stmts stmt_step case_in cases_in clause_in clauses_in stmt_in stmts_in

  abbrev pub stmt_view : CoreStmt → Stmt
  stmt_view = fold-CoreStmt Stmt (Cases → Cases) Cases (Clauses → Clauses) Clauses Stmt Stmts stmt_step case_in cases_in clause_in clauses_in stmt_in stmts_in

  abbrev pub stmts_view : CoreStmts → Stmts
  stmts_view = fold-CoreStmts Stmt (Cases → Cases) Cases (Clauses → Clauses) Clauses Stmt Stmts stmt_step case_in cases_in clause_in clauses_in stmt_in stmts_in

  abbrev pub func_view : Func → core.CoreFunc
  func_view f = record {
    name = f.name;
    params = trees_of ts f.sig.params;
    results = trees_of ts f.sig.results;
    variadic = f.sig.variadic;
    vars = map var_of f.vars.items.items;
    captured = map id_of f.captured.items.items;
    body = stmts_view f.body;
    place = f.place;
  }

  abbrev pub package_var_view : PackageVar → core.PackageVar
  package_var_view v = record {
    name = v.name;
    package_ = v.package;
    type_ = ty v.ty;
    place = v.place;
    initialiser = bound_of (option_map expr_view v.initialiser);
    vars = map var_of v.vars.items.items;
    number = v.number;
    first = v.first;
  }

  abbrev pub method_row_view : MethodRow → core.MethodRow
  method_row_view r = record { type_ = ty r.ty; name = r.name; package_ = r.package; func = r.func.0 }

abbrev pub func_number : FuncId → ℕ
func_number f = f.0

abbrev pub package_row_view : PackageRow → core.PackageRow
package_row_view r = record { path = r.path; imports = r.imports.items.items; inits = map func_number r.inits.items.items }

-- the program, with the types of its table
abbrev pub program_view : Program → core.CoreProgram
program_view p = record {
  types = places p.types;
  names = names p.types;
  funcs = map (func_view (places p.types)) p.funcs.items.items;
  globals = map (package_var_view (places p.types)) p.globals.items.items;
  methods = map (method_row_view (places p.types)) p.methods.items.items;
  main = p.main.0;
  packages = map package_row_view p.packages.items.items;
  hidden = tree_of (places p.types) p.hidden;
}

abbrev pub init_step_view : InitStep → core.InitStep
init_step_view (init.Initialise n) = core.initialise n
init_step_view (init.Call f) = core.call_init f.0
