-- Go specification (as of Go 1.17), "Packages"; own: which files of a folder are a package's.
use Rattle.std.specs.Prelude.{◌↔◌, List, ℕ, Bool, not, ◌&&◌, nat_eq, codes, IsTrue, IsSome, Contains}
use Rattle.std.specs.List.{ends_with}
use Rattle.std.specs.List.Sorted.{IsStrictlySortedBy}
use Rattle.std.specs.Ordering.{nat_cmp}
use Rattle.std.specs.Cmp.Lexicographic.{slice_cmp}
use Rattle.gj_base.specs.Tree.{Tree, bytes_at, path_in, IsName}

-- a `.go` file's name ends in `.go` and not in `_test.go`
abbrev pub is_go_name : List ℕ → Bool
is_go_name name = ends_with nat_eq name (codes ".go") && not (ends_with nat_eq name (codes "_test.go"))

-- a `.go` file with this name stands directly under the folder
pub record IsGoFile (tree : Tree) (folder name : List ℕ) : Type 0 where
  pub name_fits : IsName name
  pub go_name : IsTrue (is_go_name name)
  pub there : IsSome (bytes_at tree (path_in folder name))

-- these are the names of the `.go` files directly under the folder, in byte order
pub record AreGoFiles (tree : Tree) (folder : List ℕ) (names : List (List ℕ)) : Type 0 where
  pub rising : IsStrictlySortedBy (slice_cmp nat_cmp) names
  pub files : (name : List ℕ) → Contains names name ↔ IsGoFile tree folder name
