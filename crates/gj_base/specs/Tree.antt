-- A tree of files: the finite map from a file's path to its bytes.
use Rattle.std.specs.Prelude.{◌≡◌, ◌++◌, ◌∷◌, ℕ, List, [], Option, IsSome, IsUtf8, Contains, bytes_eq}
use Rattle.std.specs.Ordering.{nat_cmp}
use Rattle.std.specs.Cmp.Lexicographic.{slice_cmp}
use Rattle.std.specs.FinMap as map
use Rattle.std.specs.FinMap.{FinMap}
use Rattle.std.specs.List.{IsDistinct}

-- from path to bytes, in the byte order of paths
abbrev pub Tree : Type 0
Tree = FinMap (slice_cmp nat_cmp) (List ℕ)

-- the bytes at a path, where the tree has it
abbrev pub bytes_at : Tree → List ℕ → Option (List ℕ)
bytes_at tree path = map.get tree path

-- the tree with these bytes at this path, and all other paths as they were
abbrev pub with_file : Tree → List ℕ → List ℕ → Tree
with_file tree path bytes = map.insert tree path bytes

-- `/`
abbrev pub slash : ℕ
slash = 47

-- the path of what has this name directly under a folder
abbrev pub path_in : List ℕ → List ℕ → List ℕ
path_in folder name = folder ++ slash ∷ name

-- a name is a text that isn't empty and has no `/`
pub record IsName (name : List ℕ) : Type 0 where
  pub text : IsUtf8 name
  pub not_empty : name ≡ [] → ⊥
  pub one_part : Contains name slash → ⊥

-- some path lies under the folder: it begins with the folder's path and a `/`
abbrev pub HasFolder : Tree → List ℕ → Type 0
HasFolder tree folder = (rest : List ℕ) × IsSome (bytes_at tree (path_in folder rest))

-- these are the names of the files directly under a folder, each once, in any order
pub record AreNamesIn (tree : Tree) (folder : List ℕ) (names : List (List ℕ)) : Type 0 where
  pub each_once : IsDistinct bytes_eq names
  pub files : (name : List ℕ) → Contains names name → IsSome (bytes_at tree (path_in folder name))
  pub all_files : (name : List ℕ) → IsName name → IsSome (bytes_at tree (path_in folder name)) → Contains names name
