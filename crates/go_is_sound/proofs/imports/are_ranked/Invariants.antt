use Rattle.std.proofs.Common.{drop}
use Rattle.std.specs.List.{AllByRecursion}
use Rattle.go_core.specs.CoreView.{program_view}
use Rattle.go_is_sound.specs.Imports.{ImportsBelow}
use Rattle.go_is_sound.proofs.imports.are_ranked.Given as goal

abbrev pub invariant-loop-row : goal.invariant-loop-row
invariant-loop-row l =
    let below = ImportsBelow (program_view l.p).packages l.ranks in
    AllByRecursion below (drop l.row-index l.row-items) → AllByRecursion below l.row-items
