-- The entries of a map from path to bytes, as a tree of files has them.
use Rattle.std.specs.Prelude.{ℕ, List, String, map as each}
use Rattle.std.specs.FinMap as map
use Rattle.std.specs.Coded.{Coded, coded_list, coded_ℕ}
use Rattle.std.specs.String.{string_bytes}
use Rattle.gj_base.specs.Tree.{Tree}

-- the entries, with each path as its bytes
abbrev pub by_path : {Z : Type 0} → List (String Z × List ℕ) → List (List ℕ × List ℕ)
by_path entries = each (λ e. (string_bytes e.0, e.1)) entries

-- the paths of the entries
abbrev pub paths_of : {Z : Type 0} → List (String Z × List ℕ) → List (List ℕ)
paths_of entries = each (λ e. string_bytes e.0) entries

-- the tree of the entries
abbrev pub tree_of : {Z : Type 0} → List (String Z × List ℕ) → Tree
tree_of entries = map.from_entries (by_path entries)

-- a tree is stored as its entries
abbrev pub tree_code : Coded Tree
tree_code = map.code (coded_list coded_ℕ) (coded_list coded_ℕ)
