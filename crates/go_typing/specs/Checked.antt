-- The whole of a package: what is told of it, the least of that, and the program that it is where nothing is told.
-- Go specification (as of Go 1.17), "Packages", "Program execution".
use Rattle.std.specs.Prelude.{ℕ, zero, suc, ◌+◌, ◌==◌, nat_lt, List, [], ◌∷◌, ◌++◌, Bool, false, ◌||◌, ◌&&◌, if◌then◌else◌, Option, Some, None, codes}
use Rattle.gj_base.specs.declared.place.Place.{Place}
use Rattle.go_syntax.specs.Tree as t
use Rattle.go_type.specs.Tree as ty
use Rattle.go_type.specs.Tree.{Ty, no_tys, more_tys}
use Rattle.go_core.specs.CoreTree as core
use Rattle.go_core.specs.CoreTree.{CoreFunc, CoreProgram, MethodRow, Var}
use Rattle.go_typing.specs.Answer.{Flaw, flaw}
use Rattle.go_typing.specs.Items.{items_of}
use Rattle.go_typing.specs.Known.{Known, known, outside, hidden}
use Rattle.go_typing.specs.Cycles.{cycle_flaws}
use Rattle.go_typing.specs.Told.{is_main, decls_told, names_told}
use Rattle.go_typing.specs.Functions.{Between, Functions, functions_from}

-- ---- all that is told

abbrev pub known_in : List t.Decl → Known
known_in ds = known (items_of ds)

abbrev pub between_of : Known → Between
between_of k = record { names = k.names; next = 0 }

-- where the function of this number stands, one that may have a core
abbrev pub function_at : ℕ → List t.Decl → Option Place
function_at n [] = None
function_at zero (t.FuncDecl at m s b ∷ ds) = Some at
function_at (suc n) (t.FuncDecl at m s b ∷ ds) = function_at n ds
function_at zero (t.MethodDecl at p rs m s b ∷ ds) = None
function_at (suc n) (t.MethodDecl at p rs m s b ∷ ds) = function_at n ds
function_at n (d ∷ ds) = function_at n ds

-- own: there are at most 65535 functions (79)
abbrev pub first_too_far : List t.Decl → Option Place
first_too_far ds = function_at 65535 ds

abbrev pub functions_in : Known → List t.Decl → Functions
functions_in k ds = functions_from (first_too_far ds) (outside k) ds (between_of k)

-- own: the start of the package's first file
abbrev pub first_byte : Place
first_byte = record { file = 0; offset = 0 }

abbrev pub count_functions : List t.Decl → ℕ
count_functions [] = 0
count_functions (t.FuncDecl at n s b ∷ ds) = suc (count_functions ds)
count_functions (t.MethodDecl at p rs n s b ∷ ds) = suc (count_functions ds)
count_functions (d ∷ ds) = count_functions ds

-- own: where nothing else is told, the generated functions count too (79)
abbrev pub or_generated : ℕ → List Flaw → List Flaw
or_generated n [] = if nat_lt 65535 (n + 2) then flaw first_byte 79 ∷ [] else []
or_generated n (f ∷ fs) = f ∷ fs

abbrev pub told : List t.Decl → List Flaw
told ds =
    let k = known_in ds in
    or_generated (count_functions ds) (names_told [] (items_of ds) ++ cycle_flaws k.binds (items_of ds) ++ decls_told (outside k) ds ++ (functions_in k ds).flaws)

-- ---- the least, by file, offset and code

abbrev pub is_before : Flaw → Flaw → Bool
is_before f g =
    nat_lt f.place.file g.place.file
    || ((f.place.file == g.place.file) && (nat_lt f.place.offset g.place.offset || ((f.place.offset == g.place.offset) && nat_lt f.code g.code)))

abbrev pub least_from : Flaw → List Flaw → Flaw
least_from f [] = f
least_from f (g ∷ gs) = least_from (if is_before g f then g else f) gs

abbrev pub least : List Flaw → Option Flaw
least [] = None
least (f ∷ fs) = Some (least_from f fs)

abbrev pub fault_of : List t.Decl → Option Flaw
fault_of ds = least (told ds)

-- ---- the program

-- own: the two methods of the type of run-time panics come after all functions
abbrev pub var_at : ℕ → Ty → Var
var_at n u = record { id = n; type_ = u }

abbrev pub error_function : ℕ → CoreFunc
error_function n = record {
  name = [];
  params = no_tys;
  results = more_tys ty.str no_tys;
  variadic = false;
  vars = var_at n hidden ∷ var_at (suc n) ty.str ∷ [];
  captured = [];
  body = core.stmt (core.return_ (core.expr (core.convert hidden ty.str (core.read hidden (core.local_ n))) core.no_exprs)) core.no_stmts;
  place = first_byte;
}

abbrev pub runtime_function : ℕ → CoreFunc
runtime_function n = record {
  name = [];
  params = no_tys;
  results = no_tys;
  variadic = false;
  vars = var_at n hidden ∷ [];
  captured = [];
  body = core.no_stmts;
  place = first_byte;
}

abbrev pub method_at : List ℕ → ℕ → MethodRow
method_at name id = record { type_ = hidden; name = name; package_ = []; func = id }

-- the number of the first function `main`
abbrev pub main_from : ℕ → List t.Decl → ℕ
main_from id [] = id
main_from id (t.FuncDecl at n s b ∷ ds) = if is_main n then id else main_from (suc id) ds
main_from id (t.MethodDecl at p rs n s b ∷ ds) = main_from (suc id) ds
main_from id (d ∷ ds) = main_from id ds

abbrev pub program_with : ℕ → Functions → ℕ → CoreProgram
program_with main r count = record {
  types = [];
  names = r.between.names;
  funcs = r.funcs ++ error_function r.between.next ∷ runtime_function (r.between.next + 2) ∷ [];
  globals = [];
  methods = method_at (codes "Error") count ∷ method_at (codes "RuntimeError") (suc count) ∷ [];
  main = main;
  packages = record { path = []; imports = []; inits = [] } ∷ [];
  hidden = hidden;
}

-- the program of a package of which nothing is told
abbrev pub program_of : List t.Decl → CoreProgram
program_of ds = program_with (main_from 0 ds) (functions_in (known_in ds) ds) (count_functions ds)
