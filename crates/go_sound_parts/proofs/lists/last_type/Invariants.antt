use Rattle.std.proofs.Common.{◌≡◌, List, drop, map, option_map}
use Rattle.go_type.specs.Tree.{Ty}
use Rattle.go_type.specs.Levels.{tree_of}
use Rattle.go_core.specs.CoreView.{var_of}
use Rattle.go_sound_parts.specs.Lists.{last_type}
use Rattle.go_sound_parts.proofs.lists.last_type.Given as goal

abbrev pub invariant-loop-x : goal.invariant-loop-x
invariant-loop-x l =
    (ts : List Ty) → last_type l.v.0 (map (var_of ts) (drop l.x-index l.vars)) (option_map (tree_of ts) l.t) ≡ last_type l.v.0 (map (var_of ts) l.vars) (option_map (tree_of ts) l.fn.before)
