-- The order of initialisation, as worked out by hand.
use Rattle.std.specs.Prelude.{ℕ, List, [], ◌∷◌, codes}
use Rattle.go_type.specs.Tree.{no_tys, more_tys}
use Rattle.go_core.specs.CoreTree as core
use Rattle.go_core.specs.CoreTree.{Expr, CoreFunc, PackageVar, PackageRow, CoreProgram, Bound, initialise, call_init}
use Rattle.go_core.specs.MeaningWords.{int, plus, n_, call_, var_of, func_of, program, returns_}
use Rattle.go_init.specs.InitOrder.{IsOrderOf, IsCyclic}

-- the value of a package variable
abbrev pub value_of : ℕ → Expr
value_of n = core.read int (core.global n)

-- a variable of the root that holds its own initialiser
abbrev pub variable : ℕ → Bound → PackageVar
variable n initialiser = record { name = codes "v"; package_ = []; type_ = int; place = record { file = 0; offset = 0 }; initialiser = initialiser; vars = []; number = n; first = n }

abbrev pub root : PackageRow
root = record { path = []; imports = []; inits = 3 ∷ [] }

-- `func f() int { return c }`
abbrev pub reader : CoreFunc
reader = func_of [] (int ∷ []) (var_of 10 int ∷ []) [] (returns_ (value_of 2 ∷ []) ∷ [])

abbrev pub called : Expr
called = call_ 2 (more_tys int no_tys) []

abbrev pub init_func : CoreFunc
init_func = func_of [] [] [] [] []

abbrev pub plain_main : CoreFunc
plain_main = func_of [] [] [] [] []

-- `var a = b + 1; var b = f(); func f() int { return c }; var c = 7`
abbrev pub var_a : PackageVar
var_a = variable 0 (core.bound (plus (value_of 1) (n_ 1)))

abbrev pub var_b : PackageVar
var_b = variable 1 (core.bound called)

abbrev pub var_c : PackageVar
var_c = variable 2 (core.bound (n_ 7))

abbrev pub by_need : CoreProgram
by_need = record (program [] (reader ∷ init_func ∷ [])) { globals = var_a ∷ var_b ∷ var_c ∷ []; packages = root ∷ [] }

-- `var a = f(); func f() int { return a }`
abbrev pub round_reader : CoreFunc
round_reader = func_of [] (int ∷ []) (var_of 10 int ∷ []) [] (returns_ (value_of 0 ∷ []) ∷ [])

abbrev pub var_round : PackageVar
var_round = variable 0 (core.bound called)

abbrev pub round : CoreProgram
round = record (program [] (round_reader ∷ [])) { globals = var_round ∷ []; packages = root ∷ [] }

pub record OrderRows : Type 0 where
  -- a variable waits for those that it refers to, also through functions; `init` functions come last
  pub needed_come_first : IsOrderOf by_need (initialise 2 ∷ initialise 1 ∷ initialise 0 ∷ call_init 3 ∷ [])
  -- a variable that its own initialiser leads to has no order
  pub round_is_cyclic : IsCyclic round 0
