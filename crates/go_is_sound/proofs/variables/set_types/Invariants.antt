use Rattle.std.proofs.Common.{◌≡◌, ◌++◌, List, drop, map}
use Rattle.go_type.specs.Tree.{Ty}
use Rattle.go_type.specs.Levels.{trees_of}
use Rattle.go_core.specs.CoreView.{package_var_view}
use Rattle.go_core.specs.TypeOf.{listed_types}
use Rattle.go_is_sound.specs.Variables.{types_set}
use Rattle.go_is_sound.proofs.variables.set_types.Given as goal

abbrev pub invariant-loop-v : goal.invariant-loop-v
invariant-loop-v l =
    (ts : List Ty)
    → listed_types (trees_of ts l.types.items) ++ types_set (package_var_view ts l.x) (map (package_var_view ts) (drop l.v-index l.vars))
    ≡ types_set (package_var_view ts l.x) (map (package_var_view ts) l.vars)
