use Rattle.std.proofs.Common.{◌≡◌, ◌++◌, drop, map, List}
use Rattle.go_type.specs.Tree.{Ty}
use Rattle.go_core.specs.CoreView.{package_var_view}
use Rattle.go_core.specs.Run.{set_with}
use Rattle.go_state.proofs.start.globals.set_with.Given as goal

abbrev pub invariant-globals : goal.invariant-globals
invariant-globals l =
    (ts : List Ty)
    → l.numbers.items ++ set_with (package_var_view ts l.holder) l.i (drop l.i (map (package_var_view ts) l.globals))
    ≡ set_with (package_var_view ts l.holder) 0 (map (package_var_view ts) l.globals)
