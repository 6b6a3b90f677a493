use Rattle.std.proofs.Common.{List, ℕ, drop, map}
use Rattle.std.specs.List.{AllByRecursion}
use Rattle.go_core.specs.CoreView.{package_row_view}
use Rattle.go_is_sound.specs.Imports.{IsBelow}
use Rattle.go_is_sound.proofs.imports.imports_below.Given as goal

abbrev pub invariant-loop-path : goal.invariant-loop-path
invariant-loop-path l =
    let below = λ (path : List ℕ). IsBelow (map package_row_view l.rows) l.ranks path l.row.path in
    AllByRecursion below (drop l.path-index l.path-items) → AllByRecursion below l.path-items
