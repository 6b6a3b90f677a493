-- Go specification (as of Go 1.17), "Package initialization", "Calls", "Method values": what the code of a body or of
-- an initialiser names, calls and does. The body of a literal is its own.
use Rattle.std.specs.Prelude.{ℕ, List, [], ◌∷◌, ◌++◌, Option}
use Rattle.go_type.specs.Tree.{Ty}
use Rattle.go_type.specs.Named.{NamedTy}
use Rattle.go_core.specs.CoreTree as core
use Rattle.go_core.specs.CoreTree.{Expr, Exprs, no_exprs, expr, CorePlace, Bound, no_bound, bound, Elements, no_elements, element, Pairs, no_pairs, pair, Callee, Target, Communication, Stmt, Stmts, no_stmts, stmt, Tests, no_tests, test, Clauses, no_clauses, clause, Cases, no_cases, case, MethodName}
use Rattle.go_core.specs.TypeOf.{types_of, one_type}

pub data Mention : Type 0 where
  names_global : (number : ℕ) → Mention
  calls_function : (func : ℕ) → Mention
  calls_method : (name : MethodName) → Mention
  -- through a value of this type
  calls_value : (type_ : Option Ty) → Mention
  -- through an interface value of this type
  calls_dynamic : (name package_ : List ℕ) (type_ : Option Ty) → Mention
  -- after `go`: a new goroutine calls it
  starts_function : (func : ℕ) → Mention
  starts_method : (name : MethodName) → Mention
  -- as a value
  takes_function : (func : ℕ) → Mention
  takes_method : (name : MethodName) → Mention
  takes_dynamic : (name package_ : List ℕ) (type_ : Option Ty) → Mention
  -- the pointer to a variable, or to a part of it
  takes_address : (var : ℕ) → Mention
  -- it may wait, yield, defer or recover
  blocks : Mention

-- what is called, or only started
pub data Manner : Type 0 where
  calling : Manner
  starting : Manner

-- the variable that a place is, or is a part of
abbrev pub of_variable : CorePlace → List Mention
of_variable (core.local_ v) = takes_address v ∷ []
of_variable (core.field t n place) = of_variable place
of_variable (core.elem t place i) = of_variable place
of_variable _ = []

module _ (ns : List NamedTy) where
  abbrev pub type_of : Expr → Option Ty
  type_of e = one_type (types_of ns e)

  abbrev mutual
    pub in_expr : Expr → List Mention
    in_expr (core.constant t c) = []
    in_expr (core.zero_value t) = []
    in_expr (core.read t place) = in_place place
    in_expr (core.address t place) = of_variable place ++ in_place place
    in_expr (core.unary op t e) = in_expr e
    in_expr (core.binary op t a b) = in_expr a ++ in_expr b
    in_expr (core.concat t a b) = in_expr a ++ in_expr b
    in_expr (core.equal negated t u a b) = in_expr a ++ in_expr b
    in_expr (core.less op t u a b) = in_expr a ++ in_expr b
    in_expr (core.and_then t a b) = in_expr a ++ in_expr b
    in_expr (core.or_else t a b) = in_expr a ++ in_expr b
    in_expr (core.not_ t e) = in_expr e
    in_expr (core.convert from to e) = in_expr e
    in_expr (core.byte_at e i) = in_expr e ++ in_expr i
    in_expr (core.slice_of from t e low high limit) = in_expr e ++ in_bound low ++ in_bound high ++ in_bound limit
    in_expr (core.build t count es) = in_elements es
    in_expr (core.build_map t ps) = in_pairs ps
    in_expr (core.closure t f) = takes_function f ∷ []
    in_expr (core.bind t n e) = takes_method n ∷ in_expr e
    in_expr (core.bind_dynamic t name package_ e) = takes_dynamic name package_ (type_of e) ∷ in_expr e
    in_expr (core.call results callee es) = in_callee calling callee ++ in_exprs es
    in_expr (core.map_get t ok e key) = in_expr e ++ in_expr key
    in_expr (core.len from e) = in_expr e
    in_expr (core.cap from e) = in_expr e
    in_expr (core.append t from a b) = in_expr a ++ in_expr b
    in_expr (core.copy_elems t from a b) = in_expr a ++ in_expr b
    in_expr (core.make_slice t n capacity) = in_expr n ++ in_bound capacity
    in_expr (core.make_map t count) = in_bound count
    in_expr (core.make_chan t capacity) = in_bound capacity
    in_expr (core.new_ t) = []
    in_expr (core.wrap from t e) = in_expr e
    in_expr (core.assert_ t ok e) = in_expr e
    in_expr (core.basic t e) = in_expr e
    in_expr (core.receive t ok e) = blocks ∷ in_expr e
    in_expr (core.recover_ t) = blocks ∷ []
    in_expr (core.gate_make e) = in_expr e
    in_expr (core.gate_add e n) = blocks ∷ in_expr e ++ in_expr n
    in_expr (core.let_in vars es body) = in_exprs es ++ in_expr body

    pub in_place : CorePlace → List Mention
    in_place (core.local_ v) = []
    in_place (core.global n) = names_global n ∷ []
    in_place (core.deref e) = in_expr e
    in_place (core.field t n place) = in_place place
    in_place (core.elem t place i) = in_place place ++ in_expr i
    in_place (core.slice_elem t e i) = in_expr e ++ in_expr i

    pub in_exprs : Exprs → List Mention
    in_exprs no_exprs = []
    in_exprs (expr e es) = in_expr e ++ in_exprs es

    pub in_bound : Bound → List Mention
    in_bound no_bound = []
    in_bound (bound e) = in_expr e

    pub in_elements : Elements → List Mention
    in_elements no_elements = []
    in_elements (element i e es) = in_expr e ++ in_elements es

    pub in_pairs : Pairs → List Mention
    in_pairs no_pairs = []
    in_pairs (pair k v ps) = in_expr k ++ in_expr v ++ in_pairs ps

    pub in_callee : Manner → Callee → List Mention
    in_callee calling (core.function f) = calls_function f ∷ []
    in_callee starting (core.function f) = starts_function f ∷ []
    in_callee calling (core.method n) = calls_method n ∷ []
    in_callee starting (core.method n) = starts_method n ∷ []
    in_callee calling (core.func_value e) = calls_value (type_of e) ∷ in_expr e
    in_callee starting (core.func_value e) = in_expr e
    in_callee calling (core.dynamic name package_ e) = calls_dynamic name package_ (type_of e) ∷ in_expr e
    in_callee starting (core.dynamic name package_ e) = in_expr e

  abbrev pub in_target : Target → List Mention
  in_target core.blank = []
  in_target (core.to_place t place) = in_place place
  in_target (core.to_entry t e key) = in_expr e ++ in_expr key

  abbrev pub in_targets : List Target → List Mention
  in_targets [] = []
  in_targets (t ∷ ts) = in_target t ++ in_targets ts

  abbrev pub in_communication : Communication → List Mention
  in_communication (core.sends t e v) = in_expr e ++ in_expr v
  in_communication (core.receives t e vars) = in_expr e

  abbrev mutual
    pub in_stmt : Stmt → List Mention
    in_stmt (core.sequence ss) = in_stmts ss
    in_stmt (core.perform e n) = in_expr e
    in_stmt (core.declare v) = []
    in_stmt (core.store ts es) = in_targets ts ++ in_exprs es
    in_stmt (core.map_delete t e key) = in_expr e ++ in_expr key
    in_stmt (core.if_ e a b) = in_expr e ++ in_stmts a ++ in_stmts b
    in_stmt (core.loop label c body post) = in_bound c ++ in_stmts body ++ in_stmts post
    in_stmt (core.switch_on label ts clauses d) = in_tests ts ++ in_clauses clauses
    in_stmt (core.range_over label from e k v body) = in_expr e ++ in_stmts body
    in_stmt (core.labeled label body) = in_stmts body
    in_stmt (core.branch kind label) = []
    in_stmt (core.send t e v) = blocks ∷ in_expr e ++ in_expr v
    in_stmt (core.close_ e) = in_expr e
    in_stmt (core.select_step label cases has_default body) = blocks ∷ in_cases cases ++ in_stmts body
    in_stmt (core.gate_take e) = blocks ∷ in_expr e
    in_stmt (core.gate_await e) = blocks ∷ in_expr e
    in_stmt core.yield_ = blocks ∷ []
    in_stmt (core.go_call callee es) = in_callee starting callee ++ in_exprs es
    in_stmt (core.defer_call callee es) = blocks ∷ in_callee calling callee ++ in_exprs es
    in_stmt (core.return_ es) = in_exprs es
    in_stmt (core.panic_ e) = in_expr e
    in_stmt (core.print es ends_line) = in_exprs es
    in_stmt (core.exit_ e) = in_expr e
    in_stmt (core.fatal_ e) = in_expr e

    pub in_stmts : Stmts → List Mention
    in_stmts no_stmts = []
    in_stmts (stmt s ss) = in_stmt s ++ in_stmts ss

    pub in_tests : Tests → List Mention
    in_tests no_tests = []
    in_tests (test e n ts) = in_expr e ++ in_tests ts

    pub in_clauses : Clauses → List Mention
    in_clauses no_clauses = []
    in_clauses (clause body falls cs) = in_stmts body ++ in_clauses cs

    pub in_cases : Cases → List Mention
    in_cases no_cases = []
    in_cases (case c body cs) = in_communication c ++ in_stmts body ++ in_cases cs
