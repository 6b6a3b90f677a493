-- Ranks of packages.
use Rattle.std.specs.Prelude.{◌≡◌, ◌<◌, ℕ, List, [], ◌∷◌, if◌then◌else◌, bytes_eq, Option, Some, None}
use Rattle.std.specs.List.{AllByRecursion}
use Rattle.go_core.specs.declared.program.PackageRow as declared
use Rattle.go_core.specs.CoreTree.{PackageRow}

-- the rank of the first package with a path
abbrev pub rank : List PackageRow → List ℕ → List ℕ → Option ℕ
rank [] ks path = None
rank (r ∷ rs) [] path = None
rank (r ∷ rs) (k ∷ ks) path = if bytes_eq r.path path then Some k else rank rs ks path

pub record IsBelow (rows : List PackageRow) (ranks path above : List ℕ) : Type 0 where
  pub low : ℕ
  pub high : ℕ
  pub has_low : rank rows ranks path ≡ Some low
  pub has_high : rank rows ranks above ≡ Some high
  pub less : low < high

abbrev pub ImportsBelow : List PackageRow → List ℕ → declared.PackageRow → Type 0
ImportsBelow rows ranks row = AllByRecursion (λ (path : List ℕ). IsBelow rows ranks path row.path) row.imports.items.items
