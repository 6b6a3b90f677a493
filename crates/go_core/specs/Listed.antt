-- Go specification (as of Go 1.17), "Types": the types that a core program holds, and whether its table has them. No
-- part of what makes a program Sound.
use Rattle.std.specs.Prelude.{List, [], ◌∷◌, ◌++◌, All, Contains, Option, Some, None, flat_map, map}
use Rattle.go_type.specs.Tree as ty
use Rattle.go_type.specs.Tree.{Ty, Fields, no_fields, more_fields, Specs, no_specs, more_specs}
use Rattle.go_type.specs.Named.{NamedTy}
use Rattle.go_type.specs.Underlying.{under_at}
use Rattle.go_core.specs.CoreTree as core
use Rattle.go_core.specs.CoreTree.{Expr, Exprs, no_exprs, expr, CorePlace, Bound, no_bound, bound, Elements, no_elements, element, Pairs, no_pairs, pair, Callee, Target, Communication, Stmt, Stmts, no_stmts, stmt, Tests, no_tests, test, Clauses, no_clauses, clause, Cases, no_cases, case, Var, MethodRow, CoreFunc, PackageVar, CoreProgram}
use Rattle.go_core.specs.TypeOf.{listed_types}
use Rattle.go_core.specs.SoundNode.{types_of_vars}

abbrev pub var_types : Option Var → List Ty
var_types None = []
var_types (Some v) = v.type_ ∷ []

abbrev mutual
  -- one line for each kind: the types that it holds, and those of its parts
  pub expr_types : Expr → List Ty
  expr_types (core.constant t c) = t ∷ []
  expr_types (core.zero_value t) = t ∷ []
  expr_types (core.read t place) = t ∷ place_types place
  expr_types (core.address t place) = t ∷ place_types place
  expr_types (core.unary op t e) = t ∷ expr_types e
  expr_types (core.binary op t l r) = t ∷ expr_types l ++ expr_types r
  expr_types (core.concat t l r) = t ∷ expr_types l ++ expr_types r
  expr_types (core.equal negated t u l r) = t ∷ u ∷ expr_types l ++ expr_types r
  expr_types (core.less op t u l r) = t ∷ u ∷ expr_types l ++ expr_types r
  expr_types (core.and_then t l r) = t ∷ expr_types l ++ expr_types r
  expr_types (core.or_else t l r) = t ∷ expr_types l ++ expr_types r
  expr_types (core.not_ t e) = t ∷ expr_types e
  expr_types (core.convert from t e) = from ∷ t ∷ expr_types e
  expr_types (core.byte_at e i) = expr_types e ++ expr_types i
  expr_types (core.slice_of from t e low high limit) = from ∷ t ∷ expr_types e ++ bound_types low ++ bound_types high ++ bound_types limit
  expr_types (core.build t count es) = t ∷ element_types es
  expr_types (core.build_map t ps) = t ∷ pair_types ps
  expr_types (core.closure t f) = t ∷ []
  expr_types (core.bind t n e) = t ∷ n.type_ ∷ expr_types e
  expr_types (core.bind_dynamic t name package_ e) = t ∷ expr_types e
  expr_types (core.call results callee es) = listed_types results ++ callee_types callee ++ exprs_types es
  expr_types (core.map_get t ok e key) = t ∷ expr_types e ++ expr_types key
  expr_types (core.len from e) = from ∷ expr_types e
  expr_types (core.cap from e) = from ∷ expr_types e
  expr_types (core.append t from e es) = t ∷ from ∷ expr_types e ++ expr_types es
  expr_types (core.copy_elems t from e es) = t ∷ from ∷ expr_types e ++ expr_types es
  expr_types (core.make_slice t n capacity) = t ∷ expr_types n ++ bound_types capacity
  expr_types (core.make_map t count) = t ∷ bound_types count
  expr_types (core.make_chan t capacity) = t ∷ bound_types capacity
  expr_types (core.new_ t) = t ∷ []
  expr_types (core.wrap from t e) = from ∷ t ∷ expr_types e
  expr_types (core.assert_ t ok e) = t ∷ expr_types e
  expr_types (core.basic t e) = t ∷ expr_types e
  expr_types (core.receive t ok e) = t ∷ expr_types e
  expr_types (core.recover_ t) = t ∷ []
  expr_types (core.gate_make e) = expr_types e
  expr_types (core.gate_add cell n) = expr_types cell ++ expr_types n
  expr_types (core.let_in vars es body) = types_of_vars vars ++ exprs_types es ++ expr_types body

  pub place_types : CorePlace → List Ty
  place_types (core.local_ v) = []
  place_types (core.global n) = []
  place_types (core.deref e) = expr_types e
  place_types (core.field t n place) = t ∷ place_types place
  place_types (core.elem t place i) = t ∷ place_types place ++ expr_types i
  place_types (core.slice_elem t e i) = t ∷ expr_types e ++ expr_types i

  pub exprs_types : Exprs → List Ty
  exprs_types no_exprs = []
  exprs_types (expr e es) = expr_types e ++ exprs_types es

  pub bound_types : Bound → List Ty
  bound_types no_bound = []
  bound_types (bound e) = expr_types e

  pub element_types : Elements → List Ty
  element_types no_elements = []
  element_types (element i e es) = expr_types e ++ element_types es

  pub pair_types : Pairs → List Ty
  pair_types no_pairs = []
  pair_types (pair key e ps) = expr_types key ++ expr_types e ++ pair_types ps

  pub callee_types : Callee → List Ty
  callee_types (core.function f) = []
  callee_types (core.method n) = n.type_ ∷ []
  callee_types (core.func_value e) = expr_types e
  callee_types (core.dynamic name package_ e) = expr_types e

abbrev pub target_types : List Target → List Ty
target_types [] = []
target_types (core.blank ∷ xs) = target_types xs
target_types (core.to_place t place ∷ xs) = t ∷ place_types place ++ target_types xs
target_types (core.to_entry t e key ∷ xs) = t ∷ expr_types e ++ expr_types key ++ target_types xs

abbrev pub communication_types : Communication → List Ty
communication_types (core.sends t e v) = t ∷ expr_types e ++ expr_types v
communication_types (core.receives t e vars) = t ∷ types_of_vars vars ++ expr_types e

abbrev pub tests_types : Tests → List Ty
tests_types no_tests = []
tests_types (test e n ts) = expr_types e ++ tests_types ts

abbrev mutual
  pub stmt_types : Stmt → List Ty
  stmt_types (core.sequence ss) = stmts_types ss
  stmt_types (core.perform e n) = expr_types e
  stmt_types (core.declare v) = v.type_ ∷ []
  stmt_types (core.store ts es) = target_types ts ++ exprs_types es
  stmt_types (core.map_delete t e key) = t ∷ expr_types e ++ expr_types key
  stmt_types (core.if_ e ss us) = expr_types e ++ stmts_types ss ++ stmts_types us
  stmt_types (core.loop label c body post) = bound_types c ++ stmts_types body ++ stmts_types post
  stmt_types (core.switch_on label ts clauses d) = tests_types ts ++ clauses_types clauses
  stmt_types (core.range_over label from e key value body) = from ∷ expr_types e ++ var_types key ++ var_types value ++ stmts_types body
  stmt_types (core.labeled label body) = stmts_types body
  stmt_types (core.branch kind label) = []
  stmt_types (core.send t e v) = t ∷ expr_types e ++ expr_types v
  stmt_types (core.close_ e) = expr_types e
  stmt_types (core.select_step label cases has_default body) = cases_types cases ++ stmts_types body
  stmt_types (core.gate_take cell) = expr_types cell
  stmt_types (core.gate_await cell) = expr_types cell
  stmt_types core.yield_ = []
  stmt_types (core.go_call callee es) = callee_types callee ++ exprs_types es
  stmt_types (core.defer_call callee es) = callee_types callee ++ exprs_types es
  stmt_types (core.return_ es) = exprs_types es
  stmt_types (core.panic_ e) = expr_types e
  stmt_types (core.print es ends_line) = exprs_types es
  stmt_types (core.exit_ e) = expr_types e
  stmt_types (core.fatal_ e) = expr_types e

  pub stmts_types : Stmts → List Ty
  stmts_types no_stmts = []
  stmts_types (stmt s ss) = stmt_types s ++ stmts_types ss

  pub clauses_types : Clauses → List Ty
  clauses_types no_clauses = []
  clauses_types (clause body falls cs) = stmts_types body ++ clauses_types cs

  pub cases_types : Cases → List Ty
  cases_types no_cases = []
  cases_types (case c body cs) = communication_types c ++ stmts_types body ++ cases_types cs

-- ---- programs

abbrev pub func_types : CoreFunc → List Ty
func_types f = listed_types f.params ++ listed_types f.results ++ types_of_vars f.vars ++ stmts_types f.body

abbrev pub variable_types : PackageVar → List Ty
variable_types x = x.type_ ∷ types_of_vars x.vars ++ bound_types x.initialiser

abbrev pub row_type : MethodRow → Ty
row_type row = row.type_

-- the types of all nodes, variables, signatures and method rows, each as often as it stands there
abbrev pub mentioned : CoreProgram → List Ty
mentioned p = p.hidden ∷ flat_map func_types p.funcs ++ flat_map variable_types p.globals ++ map row_type p.methods

-- ---- the table

abbrev pub field_types : Fields → List Ty
field_types no_fields = []
field_types (more_fields name package_ t embedded tag fs) = t ∷ field_types fs

abbrev pub spec_types : Specs → List Ty
spec_types no_specs = []
spec_types (more_specs name package_ params results variadic ms) = listed_types params ++ listed_types results ++ spec_types ms

abbrev pub type_there : Option Ty → List Ty
type_there None = []
type_there (Some t) = t ∷ []

-- the types that a type is made of, one level down; of a named type what it stands for
abbrev pub parts_of : List NamedTy → Ty → List Ty
parts_of ns (ty.array n t) = t ∷ []
parts_of ns (ty.slice t) = t ∷ []
parts_of ns (ty.struct fs) = field_types fs
parts_of ns (ty.pointer t) = t ∷ []
parts_of ns (ty.func ps rs variadic) = listed_types ps ++ listed_types rs
parts_of ns (ty.interface ms) = spec_types ms
parts_of ns (ty.mapping k v) = k ∷ v ∷ []
parts_of ns (ty.chan d t) = t ∷ []
parts_of ns (ty.named id) = type_there (under_at ns id)
parts_of ns (ty.tuple ts) = listed_types ts
parts_of ns _ = []

abbrev pub AreListed : CoreProgram → List Ty → Type 0
AreListed p ts = All (Contains p.types) ts

-- the table has each type that the program mentions, and the parts of each of its own
pub record IsListed (p : CoreProgram) : Type 0 where
  pub mentioned_listed : AreListed p (mentioned p)
  pub parts_listed : (t : Ty) → Contains p.types t → AreListed p (parts_of p.names t)
