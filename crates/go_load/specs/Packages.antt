-- Packages as contracts see them: trees without boxes and vectors.
use Rattle.std.specs.Prelude.{ℕ, List, map}
use Rattle.go_syntax.specs.Tree as t
use Rattle.go_syntax.specs.View.{file_view}
use Rattle.go_load.specs.declared.packages.Package.{Package}
use Rattle.go_load.specs.declared.packages.Paths.{Paths}

-- a package: its name, and the trees of its files in the order of their names
pub record PackageTree : Type 0 where
  pub name : List ℕ
  pub files : List t.File

abbrev pub package_view : Package → PackageTree
package_view p = record { name = p.name; files = map file_view p.files.items }

-- the packages with their import paths, in order
abbrev pub paths_view : Paths → List (List ℕ × PackageTree)
paths_view p = map (λ e. (e.0, package_view e.1)) p.packages.entries
