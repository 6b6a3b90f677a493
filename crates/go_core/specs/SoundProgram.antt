-- Go specification (as of Go 1.17), "Declarations and scope", "Method declarations", "Packages", "Package
-- initialization": the core programs that have a meaning.
use Rattle.std.specs.Prelude.{◌≡◌, ◌≢◌, ◌≤◌, ◌<◌, ◌⊎◌, ℕ, List, [], ◌∷◌, ◌++◌, false, Option, Some, None, Contains, AllPairs, All, slice_get, IsTrue, codes, length, flat_map, take, drop}
use Rattle.go_type.specs.Tree as ty
use Rattle.go_type.specs.Tree.{Ty, Tys, no_tys, more_tys}
use Rattle.go_type.specs.Underlying.{underlying}
use Rattle.go_type.specs.MethodSet.{HasMethod}
use Rattle.go_type.specs.Members.{sought}
use Rattle.go_core.specs.Layout.{holds_by_value}
use Rattle.go_core.specs.CoreTree.{Bound, no_bound, bound, Var, MethodRow, CoreFunc, PackageVar, PackageRow, CoreProgram}
use Rattle.go_core.specs.TypeOf.{listed_types, types_of, var_type}
use Rattle.go_core.specs.Terminating.{ends_terminating}
use Rattle.go_core.specs.SoundNode.{every, IsGoodType, HasRow, IsRowOf, types_of_vars}
use Rattle.go_core.specs.Sound.{SoundExpr, SoundStmts}
use Rattle.go_core.specs.Run.{set_with}

abbrev pub func_vars : CoreFunc → List Var
func_vars f = f.vars

abbrev pub initialiser_vars : PackageVar → List Var
initialiser_vars x = x.vars

-- every variable that some function or initialiser declares
abbrev pub all_vars : CoreProgram → List Var
all_vars p = flat_map func_vars p.funcs ++ flat_map initialiser_vars p.globals

abbrev pub or_none : Option Ty → ℕ → List Var
or_none None v = []
or_none (Some t) v = record { id = v; type_ = t } ∷ []

-- the captured variables, with their types
abbrev pub captured_vars : CoreProgram → List ℕ → List Var
captured_vars p [] = []
captured_vars p (v ∷ vs) = or_none (var_type v (all_vars p)) v ++ captured_vars p vs

abbrev pub Terminates : CoreFunc → Type 0
Terminates f = (f.results ≡ no_tys) ⊎ IsTrue (ends_terminating f.body)

-- its variables begin with the receiver of a method, the parameters and the results
pub record SoundFunc (p : CoreProgram) (k : ℕ) (f : CoreFunc) : Type 0 where
  pub receiver : List Ty
  pub is_method : (receiver ≡ []) × (IsRowOf p k → ⊥) ⊎ (t : Ty) × (receiver ≡ t ∷ []) × IsRowOf p k
  pub header : ℕ
  pub begins : types_of_vars (take header f.vars) ≡ receiver ++ listed_types f.params ++ listed_types f.results
  pub captured_known : length (captured_vars p f.captured) ≡ length f.captured
  pub sound_types : All (λ v. IsGoodType p v.type_) f.vars
  pub sound_body : SoundStmts p (record { vars = take header f.vars ++ captured_vars p f.captured; declarable = drop header f.vars; results = f.results; breaks = []; continues = [] }) f.body
  pub terminates : Terminates f

-- a function without parameters and results, as `main` and `init` are
pub record IsPlainFunc (p : CoreProgram) (k : ℕ) : Type 0 where
  pub function : CoreFunc
  pub is_function : slice_get p.funcs k ≡ Some function
  pub no_params : function.params ≡ no_tys
  pub no_results : function.results ≡ no_tys
  pub captures_nothing : function.captured ≡ []
  pub no_method : IsRowOf p k → ⊥

-- the function takes a receiver of the row's type, of the type that it points to, or of a pointer to it
pub record SoundRow (p : CoreProgram) (row : MethodRow) : Type 0 where
  pub function : CoreFunc
  pub receiver : Var
  pub others : List Var
  pub is_function : slice_get p.funcs row.func ≡ Some function
  pub has_vars : function.vars ≡ receiver ∷ others
  pub captures_nothing : function.captured ≡ []
  pub fits : (receiver.type_ ≡ row.type_) ⊎ (row.type_ ≡ ty.pointer receiver.type_) ⊎ (receiver.type_ ≡ ty.pointer row.type_)
  pub has_signature : HasMethod p.names row.type_ (sought row.name row.package_) function.params function.results function.variadic

-- a method of a type has one row
abbrev pub DifferInRow : MethodRow → MethodRow → Type 0
DifferInRow a b = a.type_ ≡ b.type_ → a.name ≡ b.name → a.package_ ≢ b.package_

-- ---- package variables

abbrev pub type_in : Option PackageVar → List Ty
type_in None = []
type_in (Some x) = x.type_ ∷ []

abbrev pub types_at : CoreProgram → List ℕ → List Ty
types_at p [] = []
types_at p (n ∷ ns) = type_in (slice_get p.globals n) ++ types_at p ns

-- the first of several variables alone has an initialiser, which gives one value for each of them
abbrev pub SoundInitialiser : CoreProgram → PackageVar → Bound → Type 0
SoundInitialiser p x no_bound = Unit {0}
SoundInitialiser p x (bound e) =
    SoundExpr p (record { vars = []; declarable = x.vars; results = no_tys; breaks = []; continues = [] }) e
    × (x.first ≡ x.number) × (types_of p.names e ≡ types_at p (set_with x 0 p.globals))

pub record SoundVariable (p : CoreProgram) (x : PackageVar) : Type 0 where
  pub good_type : IsGoodType p x.type_
  pub row : PackageRow
  pub has_row : Contains p.packages row
  pub of_row : row.path ≡ x.package_
  pub holder : PackageVar
  pub is_holder : Contains p.globals holder
  pub same_package : holder.package_ ≡ x.package_
  pub first_one : holder.number ≡ x.first
  pub holds_itself : holder.first ≡ holder.number
  pub initialiser : SoundInitialiser p x x.initialiser

-- the declaration numbers of one package differ
abbrev pub DifferInPackage : PackageVar → PackageVar → Type 0
DifferInPackage x y = x.package_ ≡ y.package_ → x.number ≢ y.number

-- ---- packages

abbrev pub Imports : CoreProgram → List ℕ → List ℕ → Type 0
Imports p a b = (row : PackageRow) × Contains p.packages row × (row.path ≡ a) × Contains row.imports b

pub data LeadsToPackage (p : CoreProgram) : List ℕ → List ℕ → Type 0 where
  at_once : (a b : List ℕ) → Imports p a b → LeadsToPackage p a b
  through : (a b c : List ℕ) → Imports p a b → LeadsToPackage p b c → LeadsToPackage p a c

pub record SoundPackage (p : CoreProgram) (row : PackageRow) : Type 0 where
  pub inits_fit : All (IsPlainFunc p) row.inits
  pub imports_known : (path : List ℕ) → Contains row.imports path → (other : PackageRow) × Contains p.packages other × (other.path ≡ path)
  pub no_cycle : LeadsToPackage p row.path row.path → ⊥

abbrev pub DifferInPath : PackageRow → PackageRow → Type 0
DifferInPath a b = a.path ≢ b.path

-- ---- the hidden type of run-time panics

pub record SoundHidden (p : CoreProgram) : Type 0 where
  pub name : ℕ
  pub is_named : p.hidden ≡ ty.named name
  pub is_text : underlying p.names p.hidden ≡ ty.str
  pub has_error : HasRow p p.hidden (sought (codes "Error") []) no_tys (more_tys ty.str no_tys) false
  pub has_runtime_error : HasRow p p.hidden (sought (codes "RuntimeError") []) no_tys no_tys false

-- each named type is set, and doesn't hold itself
abbrev pub AreSet : CoreProgram → Type 0
AreSet p = (id : ℕ) → id < length p.names → IsTrue (holds_by_value every p.names (ty.named id))

abbrev pub DifferInId : Var → Var → Type 0
DifferInId v w = v.id ≢ w.id

-- the core programs that have a meaning
pub record Sound (p : CoreProgram) : Type 0 where
  pub names_set : AreSet p
  pub types_fit : All (IsGoodType p) p.types
  pub few_functions : length p.funcs ≤ 65535
  pub functions : (k : ℕ) (f : CoreFunc) → slice_get p.funcs k ≡ Some f → SoundFunc p k f
  pub variables_differ : AllPairs DifferInId (all_vars p)
  pub main_fits : IsPlainFunc p p.main
  pub rows : All (SoundRow p) p.methods
  pub rows_differ : AllPairs DifferInRow p.methods
  pub package_variables : All (SoundVariable p) p.globals
  pub numbers_differ : AllPairs DifferInPackage p.globals
  pub packages : All (SoundPackage p) p.packages
  pub paths_differ : AllPairs DifferInPath p.packages
  pub hidden : SoundHidden p
