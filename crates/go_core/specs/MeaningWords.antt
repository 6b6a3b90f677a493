-- Short words for the rows of the whole meaning: small programs, and what a run of one shows.
use Rattle.std.specs.Prelude.{ℕ, zero, suc, ℤ, pos, List, [], ◌∷◌, ◌++◌, Bool, true, false, Option, Some, None, codes, if◌then◌else◌}
use Rattle.gj_base.specs.declared.kind.Op.{Op}
use Rattle.gj_base.specs.declared.kind.Op.TheVariants as operator
use Rattle.go_type.specs.declared.types.IntName.TheVariants as integer
use Rattle.go_type.specs.Tree as ty
use Rattle.go_type.specs.Tree.{Ty, Tys, no_tys, more_tys, no_specs, more_specs, no_fields, more_fields}
use Rattle.go_type.specs.Named.{NamedTy}
use Rattle.go_core.specs.CoreTree as core
use Rattle.go_core.specs.CoreTree.{Expr, Exprs, no_exprs, expr, Stmt, Stmts, no_stmts, stmt, CorePlace, Callee, CoreFunc, CoreProgram, Var, MethodRow, PackageVar, InitStep, Target, text_constant, whole_constant, truth_constant}
use Rattle.go_core.specs.Goroutine.{Move, State, End, going, exit, panicked}
use Rattle.go_core.specs.Run.{start, step}

-- ---- types

abbrev pub int : Ty
int = ty.int integer.Int

abbrev pub strings : Ty
strings = ty.slice ty.str

abbrev pub ints : Ty
ints = ty.slice int

abbrev pub anything : Ty
anything = ty.interface no_specs

-- the type of run-time panics
abbrev pub hidden : Ty
hidden = ty.named 0

abbrev pub hidden_name : NamedTy
hidden_name = record { name = codes "runtimeError"; package_ = []; under = Some ty.str; methods = [] }

abbrev pub type_list : List Ty → Tys
type_list [] = no_tys
type_list (t ∷ ts) = more_tys t (type_list ts)

-- ---- expressions

abbrev pub num : ℤ → Expr
num n = core.constant int (whole_constant n)

abbrev pub n_ : ℕ → Expr
n_ n = num (pos n)

abbrev pub str : List ℕ → Expr
str bytes = core.constant ty.str (text_constant bytes)

abbrev pub yes_ : Expr
yes_ = core.constant ty.bool (truth_constant true)

abbrev pub no_ : Expr
no_ = core.constant ty.bool (truth_constant false)

abbrev pub exprs : List Expr → Exprs
exprs [] = no_exprs
exprs (e ∷ es) = expr e (exprs es)

-- a variable's value
abbrev pub var : Ty → ℕ → Expr
var t v = core.read t (core.local_ v)

-- ---- statements

abbrev pub body : List Stmt → Stmts
body [] = no_stmts
body (s ∷ ss) = stmt s (body ss)

abbrev pub say : List Expr → Stmt
say es = core.print (exprs es) true

abbrev pub let_var : ℕ → Ty → Stmt
let_var v t = core.declare (record { id = v; type_ = t })

abbrev pub to_var : Ty → ℕ → Target
to_var t v = core.to_place t (core.local_ v)

abbrev pub set : ℕ → Ty → Expr → Stmt
set v t e = core.store (to_var t v ∷ []) (expr e no_exprs)

-- `v := e`
abbrev pub define : ℕ → Ty → Expr → List Stmt
define v t e = let_var v t ∷ set v t e ∷ []

abbrev pub call_ : ℕ → Tys → List Expr → Expr
call_ f results es = core.call results (core.function f) (exprs es)

-- a call as a statement
abbrev pub run_ : ℕ → List Expr → Stmt
run_ f es = core.perform (call_ f no_tys es) 0

-- ---- programs

abbrev pub var_of : ℕ → Ty → Var
var_of v t = record { id = v; type_ = t }

abbrev pub func_of : List Ty → List Ty → List Var → List ℕ → List Stmt → CoreFunc
func_of params results vars captured ss = record {
  name = codes "main.f";
  params = type_list params;
  results = type_list results;
  variadic = false;
  vars = vars;
  captured = captured;
  body = body ss;
  place = record { file = 0; offset = 0 };
}

-- the method `Error` of the hidden type
abbrev pub error_func : CoreFunc
error_func = func_of [] (ty.str ∷ []) (var_of 900 hidden ∷ var_of 901 ty.str ∷ []) [] (core.return_ (exprs (core.convert hidden ty.str (var hidden 900) ∷ [])) ∷ [])

abbrev pub error_method : MethodRow
error_method = record { type_ = hidden; name = codes "Error"; package_ = []; func = 1 }

-- `main` with these statements; `Error` is function 1, and others follow it
abbrev pub program : List Stmt → List CoreFunc → CoreProgram
program ss others = record {
  types = [];
  names = hidden_name ∷ [];
  funcs = func_of [] [] [] [] ss ∷ error_func ∷ others;
  globals = [];
  methods = error_method ∷ [];
  main = 0;
  packages = [];
  hidden = hidden;
}

-- ---- runs

-- a move of a goroutine, with the first goroutines as partners, that leaves the least open
abbrev pub plain_move : ℕ → ℕ → Move
plain_move g partner = record { goroutine = g; way = 0; partner = partner; partner_way = 0; capacity = 0; birth = None }

-- a move of the first goroutine, after that of its second one
abbrev pub candidates : List Move
candidates = plain_move 0 1 ∷ plain_move 1 0 ∷ []

abbrev pub or_next : Option State → Option State → Option State
or_next (Some s) other = Some s
or_next None other = other

-- the first of the moves that may be made
abbrev pub first_step : CoreProgram → List ℕ → List Move → State → Option State
first_step p choices [] s = None
first_step p choices (m ∷ ms) s = or_next (step p choices m s) (first_step p choices ms s)

abbrev pub has_ended : End → Bool
has_ended going = false
has_ended _ = true

-- what a run shows when it ends
pub record Shown : Type 0 where
  pub printed : List ℕ
  pub taken : ℕ
  pub end : End

abbrev pub shown : State → Shown
shown s = record { printed = s.printed; taken = s.taken; end = s.end }

abbrev pub shown_if_ended : Option State → Option Shown
shown_if_ended None = None
shown_if_ended (Some s) = if has_ended s.end then Some (shown s) else None

module _ (p : CoreProgram) (choices : List ℕ) (moves : List Move) where
  -- a state stays once the run has ended
  abbrev pub advanced : End → State → Option State
  advanced going s = first_step p choices moves s
  advanced end s = Some s

  -- at most so many steps, each the first one of these moves that may be made
  abbrev pub played : ℕ → Option State → Option State
  played n None = None
  played zero (Some s) = Some s
  played (suc n) (Some s) = played n (advanced s.end s)

-- the run in which the first goroutine that can move does
abbrev pub outcome : CoreProgram → List ℕ → Option Shown
outcome p choices = shown_if_ended (played p choices candidates 150 (Some (start p [])))

-- it prints this, takes no number, and `main` returns
abbrev pub prints : List ℕ → Option Shown
prints bytes = Some (record { printed = bytes; taken = 0; end = exit 0 })

-- it prints this, and ends so
abbrev pub ends : List ℕ → End → Option Shown
ends bytes end = Some (record { printed = bytes; taken = 0; end = end })

-- ---- more words for expressions

abbrev pub plus : Expr → Expr → Expr
plus a b = core.binary operator.Add int a b

abbrev pub minus : Expr → Expr → Expr
minus a b = core.binary operator.Sub int a b

abbrev pub bin : Op → Ty → Expr → Expr → Expr
bin op t a b = core.binary op t a b

abbrev pub same : Ty → Expr → Expr → Expr
same t a b = core.equal false t ty.bool a b

abbrev pub below : Expr → Expr → Expr
below a b = core.less operator.Lt int ty.bool a b

abbrev pub cell_of : Ty → Ty → Expr → Expr → Expr
cell_of slice_type t s i = core.read t (core.slice_elem slice_type s i)

-- `[]int{..}`, from element k on
abbrev pub elements_from : ℕ → List Expr → core.Elements
elements_from k [] = core.no_elements
elements_from k (e ∷ es) = core.element k e (elements_from (suc k) es)

abbrev pub int_slice : ℕ → List Expr → Expr
int_slice n es = core.build ints n (elements_from 0 es)

abbrev pub if_ : Expr → List Stmt → List Stmt → Stmt
if_ c a b = core.if_ c (body a) (body b)

-- `for c { .. }`
abbrev pub while_ : ℕ → Expr → List Stmt → Stmt
while_ label c ss = core.loop label (core.bound c) (body ss) no_stmts

abbrev pub break_ : ℕ → Stmt
break_ label = core.branch core.break_ label

abbrev pub continue_ : ℕ → Stmt
continue_ label = core.branch core.continue_ label

-- an interface value of an `int`, and of a string
abbrev pub boxed : Expr → Expr
boxed e = core.wrap int anything e

abbrev pub boxed_text : Expr → Expr
boxed_text e = core.wrap ty.str anything e

abbrev pub returns_ : List Expr → Stmt
returns_ es = core.return_ (exprs es)

-- `defer` of a function of the program
abbrev pub defer_ : ℕ → List Expr → Stmt
defer_ f es = core.defer_call (core.function f) (exprs es)

abbrev pub go_ : ℕ → List Expr → Stmt
go_ f es = core.go_call (core.function f) (exprs es)

abbrev pub panic_text : List ℕ → Stmt
panic_text bytes = core.panic_ (boxed_text (str bytes))

-- `main` with these statements, whose other functions have method rows and types too
abbrev pub program_with : List NamedTy → List MethodRow → List Stmt → List CoreFunc → CoreProgram
program_with names methods ss others = record (program ss others) { names = hidden_name ∷ names; methods = error_method ∷ methods }

-- it ends by a panic with this text
abbrev pub panics_with : List ℕ → List ℕ → Option Shown
panics_with bytes text = ends bytes (panicked text)

abbrev pub runtime_error : List ℕ → List ℕ
runtime_error text = codes "runtime error: " ++ text

-- the units of the run in which the first goroutine that can move does
abbrev pub units_in : Option State → Option ℕ
units_in None = None
units_in (Some s) = if has_ended s.end then Some s.units else None

abbrev pub units_of : CoreProgram → Option ℕ
units_of p = units_in (played p [] candidates 150 (Some (start p [])))
