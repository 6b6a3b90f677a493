-- own: which faults files have, stage by stage, and which of them is told.
use Rattle.std.specs.Prelude.{◌≡◌, ◌+◌, ◌++◌, ℕ, Bool, true, false, not, ◌&&◌, ◌||◌, ◌==◌, nat_lt, List, [], ◌∷◌, Option, Some, None, map, codes, bytes_eq, unwrap_or, IsTrue, Contains, All, if◌then◌else◌}
use Rattle.std.specs.List.{list_any, filter_map}
use Rattle.gj_base.specs.declared.fault.Fault.{Fault}
use Rattle.go_syntax.specs.Tree as t
use Rattle.go_load.specs.Readings.{Reading, Long, Unlexed, Unparsed, Parsed}

-- the fault with this code in the file with this number, at this offset. It has no text of its own
abbrev pub fault_in : ℕ → ℕ → ℕ → Fault
fault_in number offset code = record { place = record { file = number; offset = offset }; code = code; text = [] }

-- F1 to F9: at most one a file
abbrev pub lexical_fault : Reading → Option Fault
lexical_fault Long = None
lexical_fault (Unlexed fault) = Some fault
lexical_fault (Unparsed fault) = None
lexical_fault (Parsed start constraint tree) = None

abbrev pub lexical_faults : List Reading → List Fault
lexical_faults rs = filter_map lexical_fault rs

-- F10 to F12: at most one a file
abbrev pub syntax_fault : Reading → Option Fault
syntax_fault Long = None
syntax_fault (Unlexed fault) = None
syntax_fault (Unparsed fault) = Some fault
syntax_fault (Parsed start constraint tree) = None

abbrev pub syntax_faults : List Reading → List Fault
syntax_faults rs = filter_map syntax_fault rs

-- a fault of this code where something holds
abbrev pub fault_where : Bool → ℕ → ℕ → ℕ → List Fault
fault_where true number offset code = fault_in number offset code ∷ []
fault_where false number offset code = []

-- the name in a package clause
abbrev pub package_name : Reading → Option (List ℕ)
package_name Long = None
package_name (Unlexed fault) = None
package_name (Unparsed fault) = None
package_name (Parsed start constraint tree) = Some tree.«package».text

-- the name in the package clause of the first file that isn't past the limit
abbrev pub first_package : List Reading → List ℕ
first_package [] = []
first_package (r ∷ rs) = unwrap_or (package_name r) (first_package rs)

-- F0: each import, at the first token of its Spec, until imports are built
abbrev pub import_faults : ℕ → List t.Import → List Fault
import_faults number [] = []
import_faults number (i ∷ is) = fault_in number i.place.offset 0 ∷ import_faults number is

-- F47: a build constraint before the package clause
abbrev pub constraint_faults : ℕ → Option ℕ → List Fault
constraint_faults number None = []
constraint_faults number (Some offset) = fault_in number offset 47 ∷ []

-- the faults of one file with a tree: F0; F42, a package clause that differs from the first one;
-- F44, a package clause of the root that isn't `main`; F47. A package clause stands at its first token
abbrev pub tree_faults : List ℕ → ℕ → ℕ → Option ℕ → t.File → List Fault
tree_faults first number start constraint tree =
    import_faults number tree.imports ++ fault_where (not (bytes_eq tree.«package».text first)) number start 42
    ++ fault_where (not (bytes_eq tree.«package».text (codes "main"))) number start 44 ++ constraint_faults number constraint

-- the faults of one file in the load stage: those of its tree, or F45 at the start of one past the limit
abbrev pub faults_of : List ℕ → ℕ → Reading → List Fault
faults_of first number Long = fault_in number 0 45 ∷ []
faults_of first number (Unlexed fault) = []
faults_of first number (Unparsed fault) = []
faults_of first number (Parsed start constraint tree) = tree_faults first number start constraint tree

-- those of each file, of which the first has this number
abbrev pub faults_from : List ℕ → ℕ → List Reading → List Fault
faults_from first number [] = []
faults_from first number (r ∷ rs) = faults_of first number r ++ faults_from first (number + 1) rs

-- a declaration of a function `main`
abbrev pub is_main : t.Decl → Bool
is_main (t.FuncDecl at name sig block) = bytes_eq name.text (codes "main")
is_main (t.MethodDecl at paren receiver name sig block) = false
is_main (t.ConstDecl at specs) = false
is_main (t.TypeDecl at specs) = false
is_main (t.VarDecl at specs) = false

-- the file declares a function `main`, or may: past the limit none can tell
abbrev pub may_have_main : Reading → Bool
may_have_main Long = true
may_have_main (Unlexed fault) = false
may_have_main (Unparsed fault) = false
may_have_main (Parsed start constraint tree) = list_any is_main tree.decls

-- F43: no file of the root declares a function `main`, and none is past the limit; at the start of the first file
abbrev pub main_faults : List Reading → List Fault
main_faults rs = fault_where (not (list_any may_have_main rs)) 0 0 43

-- F0 and F42 to F47
abbrev pub load_faults : List Reading → List Fault
load_faults rs = main_faults rs ++ faults_from (first_package rs) 0 rs

-- the first of two lists that isn't empty
abbrev pub first_of : List Fault → List Fault → List Fault
first_of [] others = others
first_of (fault ∷ faults) others = fault ∷ faults

-- the faults of the first stage that has one
abbrev pub stage_faults : List Reading → List Fault
stage_faults rs = first_of (lexical_faults rs) (first_of (syntax_faults rs) (load_faults rs))

-- the first comes before the second: by file, then offset, then code
abbrev pub is_before : Fault → Fault → Bool
is_before f g =
    nat_lt f.place.file g.place.file || ((f.place.file == g.place.file) && (nat_lt f.place.offset g.place.offset || ((f.place.offset == g.place.offset) && nat_lt f.code g.code)))

-- the fault is in the list, and none of the list comes before it
pub record IsLeast (fault : Fault) (faults : List Fault) : Type 0 where
  pub among : Contains faults fault
  pub least : All (λ other. IsTrue (not (is_before other fault))) faults
