use Rattle.std.proofs.Common.{◌≡◌, List, drop, map}
use Rattle.go_type.specs.Tree.{Ty}
use Rattle.go_core.specs.CoreView.{var_of}
use Rattle.go_core.specs.TypeOf.{var_type}
use Rattle.go_sound_parts.proofs.lists.first_type.Given as goal

abbrev pub invariant-loop-x : goal.invariant-loop-x
invariant-loop-x l = (ts : List Ty) → var_type l.v.0 (map (var_of ts) (drop l.x-index l.vars)) ≡ var_type l.v.0 (map (var_of ts) l.vars)
