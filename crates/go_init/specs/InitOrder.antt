-- Go specification (as of Go 1.17), "Package initialization": the order in which package variables are set and
-- `init` functions are called. own: of the packages that are ready, the one with the least path comes first.
use Rattle.std.specs.Prelude.{◌≡◌, ◌≢◌, ◌≤◌, ℕ, List, [], ◌∷◌, ◌++◌, Option, Some, None, Contains, map, slice_get, IsTrue}
use Rattle.go_core.specs.CoreTree.{CoreFunc, PackageVar, PackageRow, MethodRow, InitStep, initialise, call_init, CoreProgram}
use Rattle.go_core.specs.Text.{text_less}
use Rattle.go_core.specs.StepInterfaces.{row_of}
use Rattle.go_mentions.specs.Mentions.{Mention, names_global, calls_function, calls_method, starts_function, starts_method, takes_function, takes_method, in_stmts, in_bound}

-- what refers to what: package variables and functions, by their places
pub data Reference : Type 0 where
  to_variable : (number : ℕ) → Reference
  to_function : (func : ℕ) → Reference

abbrev pub of_row : CoreProgram → Option ℕ → List Reference
of_row p None = []
of_row p (Some k) = of_method (slice_get p.methods k)
  where
    of_method : Option MethodRow → List Reference
    of_method None = []
    of_method (Some r) = to_function r.func ∷ []

-- "Package initialization": references to variables and functions, and to methods of types that are no interfaces
abbrev pub references : CoreProgram → List Mention → List Reference
references p [] = []
references p (names_global n ∷ ms) = to_variable n ∷ references p ms
references p (calls_function f ∷ ms) = to_function f ∷ references p ms
references p (starts_function f ∷ ms) = to_function f ∷ references p ms
references p (takes_function f ∷ ms) = to_function f ∷ references p ms
references p (calls_method n ∷ ms) = of_row p (row_of p n) ++ references p ms
references p (starts_method n ∷ ms) = of_row p (row_of p n) ++ references p ms
references p (takes_method n ∷ ms) = of_row p (row_of p n) ++ references p ms
references p (m ∷ ms) = references p ms

-- the variable that holds the initialiser of another
pub record SetsIt (p : CoreProgram) (n : ℕ) (holder : PackageVar) : Type 0 where
  pub at : ℕ
  pub variable : PackageVar
  pub is_variable : slice_get p.globals n ≡ Some variable
  pub is_holder : slice_get p.globals at ≡ Some holder
  pub same_package : holder.package_ ≡ variable.package_
  pub first_one : holder.number ≡ variable.first

-- the variable's initialiser, or the function's body, refers to it
pub data Refers (p : CoreProgram) : Reference → Reference → Type 0 where
  variable_refers : (n : ℕ) (holder : PackageVar) (r : Reference)
      → SetsIt p n holder → Contains (references p (in_bound p.names holder.initialiser)) r → Refers p (to_variable n) r
  function_refers : (k : ℕ) (f : CoreFunc) (r : Reference)
      → slice_get p.funcs k ≡ Some f → Contains (references p (in_stmts p.names f.body)) r → Refers p (to_function k) r

-- what references lead to
pub data LeadsTo (p : CoreProgram) : Reference → Reference → Type 0 where
  at_once : (a b : Reference) → Refers p a b → LeadsTo p a b
  through : (a b c : Reference) → Refers p a b → LeadsTo p b c → LeadsTo p a c

abbrev pub DependsOn : CoreProgram → ℕ → ℕ → Type 0
DependsOn p m n = LeadsTo p (to_variable m) (to_variable n)

-- a variable that depends on itself has no order
abbrev pub IsCyclic : CoreProgram → ℕ → Type 0
IsCyclic p n = DependsOn p n n

pub record IsVariableOf (p : CoreProgram) (path : List ℕ) (n : ℕ) (x : PackageVar) : Type 0 where
  pub is_variable : slice_get p.globals n ≡ Some x
  pub of_package : x.package_ ≡ path

-- not yet set, and it depends on no variable of its package that isn't set
pub record IsReady (p : CoreProgram) (path : List ℕ) (set_ : List ℕ) (n : ℕ) (x : PackageVar) : Type 0 where
  pub is_variable : IsVariableOf p path n x
  pub not_set : Contains set_ n → ⊥
  pub rests_on_set : (m : ℕ) (y : PackageVar) → IsVariableOf p path m y → DependsOn p n m → Contains set_ m

-- of those that are ready, it is the earliest in the order of declaration
pub record IsNext (p : CoreProgram) (path : List ℕ) (set_ : List ℕ) (n : ℕ) (x : PackageVar) : Type 0 where
  pub is_ready : IsReady p path set_ n x
  pub earliest : (m : ℕ) (y : PackageVar) → IsReady p path set_ m y → x.number ≤ y.number

-- the variables that are set together with x, after those that were set
pub record AreSetWith (p : CoreProgram) (path : List ℕ) (x : PackageVar) (old new : List ℕ) : Type 0 where
  pub old_stay : (m : ℕ) → Contains old m → Contains new m
  pub together : (m : ℕ) (y : PackageVar) → IsVariableOf p path m y → y.first ≡ x.first → Contains new m
  pub no_more : (m : ℕ) → Contains new m → (Contains old m → ⊥) → (y : PackageVar) × IsVariableOf p path m y × (y.first ≡ x.first)

-- the place of the variable that holds the initialiser
pub record IsHolder (p : CoreProgram) (path : List ℕ) (x : PackageVar) (at : ℕ) : Type 0 where
  pub holder : PackageVar
  pub is_variable : IsVariableOf p path at holder
  pub first_one : holder.number ≡ x.first

-- the repeated choice of the next variable, until all of the package are set
pub data SetsVariables (p : CoreProgram) (path : List ℕ) : List ℕ → List InitStep → Type 0 where
  all_set : (set_ : List ℕ)
      → ((n : ℕ) (x : PackageVar) → IsVariableOf p path n x → Contains set_ n)
      → SetsVariables p path set_ []
  next_set : (set_ new : List ℕ) (n at : ℕ) (x : PackageVar) (rest : List InitStep)
      → IsNext p path set_ n x → IsHolder p path x at → AreSetWith p path x set_ new → SetsVariables p path new rest
      → SetsVariables p path set_ (initialise at ∷ rest)

-- a package's variables, and then its `init` functions in the order of the text
pub record InitialisesPackage (p : CoreProgram) (row : PackageRow) (order : List InitStep) : Type 0 where
  pub variables : List InitStep
  pub sets_variables : SetsVariables p row.path [] variables
  pub then_inits : order ≡ variables ++ map call_init row.inits

-- not yet initialised, and each package that it imports is
pub record IsReadyPackage (p : CoreProgram) (done : List (List ℕ)) (row : PackageRow) : Type 0 where
  pub is_row : Contains p.packages row
  pub not_done : Contains done row.path → ⊥
  pub imports_done : (path : List ℕ) → Contains row.imports path → Contains done path

pub record IsNextPackage (p : CoreProgram) (done : List (List ℕ)) (row : PackageRow) : Type 0 where
  pub is_ready : IsReadyPackage p done row
  pub least : (other : PackageRow) → IsReadyPackage p done other → other.path ≢ row.path → IsTrue (text_less row.path other.path)

pub data InitialisesPackages (p : CoreProgram) : List (List ℕ) → List InitStep → Type 0 where
  all_done : (done : List (List ℕ))
      → ((row : PackageRow) → Contains p.packages row → Contains done row.path)
      → InitialisesPackages p done []
  next_done : (done : List (List ℕ)) (row : PackageRow) (order rest : List InitStep)
      → IsNextPackage p done row → InitialisesPackage p row order → InitialisesPackages p (row.path ∷ done) rest
      → InitialisesPackages p done (order ++ rest)

-- the order of the whole program
abbrev pub IsOrderOf : CoreProgram → List InitStep → Type 0
IsOrderOf p order = InitialisesPackages p [] order
