-- Package variables.
use Rattle.std.specs.Prelude.{◌≡◌, ◌≢◌, ℕ, List, [], ◌∷◌, Bool, ◌==◌, ◌&&◌, if◌then◌else◌, bytes_eq, Contains}
use Rattle.go_type.specs.Tree.{Ty}
use Rattle.go_core.specs.declared.program.PackageVar as declared
use Rattle.go_core.specs.CoreTree.{PackageVar, PackageRow}

-- the initialiser of x sets v
abbrev pub is_set_with : PackageVar → PackageVar → Bool
is_set_with x v = (v.first == x.number) && bytes_eq v.package_ x.package_

-- with the type of v before the others, where the initialiser of x sets v
abbrev pub with_set : PackageVar → PackageVar → List Ty → List Ty
with_set x v ts = if is_set_with x v then v.type_ ∷ ts else ts

-- the types of the variables that the initialiser of x sets
abbrev pub types_set : PackageVar → List PackageVar → List Ty
types_set x [] = []
types_set x (v ∷ vs) = with_set x v (types_set x vs)

pub record HasPackage (rows : List PackageRow) (path : List ℕ) : Type 0 where
  pub row : PackageRow
  pub has_row : Contains rows row
  pub of_row : row.path ≡ path

-- the variable has the initialiser of x
pub record Holder (y x : PackageVar) : Type 0 where
  pub same_package : y.package_ ≡ x.package_
  pub first_one : y.number ≡ x.first
  pub holds_itself : y.first ≡ y.number

pub record HasHolder (vars : List PackageVar) (x : PackageVar) : Type 0 where
  pub holder : PackageVar
  pub is_holder : Contains vars holder
  pub holds : Holder holder x

abbrev pub VarDiffers : declared.PackageVar → declared.PackageVar → Type 0
VarDiffers x y = x.package ≡ y.package → x.number ≢ y.number
