use Rattle.std.proofs.Common.{◌≡◌, drop}
use Rattle.std.specs.Prelude.{map, option_map}
use Rattle.go_syntax.specs.View.{import_view}
use Rattle.go_load.specs.Faults.{import_faults}
use Rattle.go_load.specs.Least.{flaw_view, least_from}
use Rattle.go_load.proofs.faults.with_imports.Given as goal

-- the least so far and what is left have the same least
abbrev pub invariant-loop-i : goal.invariant-loop-i
invariant-loop-i l =
    least_from (option_map flaw_view l.least) (import_faults l.number (map import_view (drop l.i-index l.imports))) ≡ least_from (option_map flaw_view l.fn.least) (import_faults l.number (map import_view l.imports))
