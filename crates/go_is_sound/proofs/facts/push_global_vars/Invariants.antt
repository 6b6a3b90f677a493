use Rattle.std.proofs.Common.{◌≡◌, ◌++◌, drop, map}
use Rattle.std.specs.Prelude.{flat_map}
use Rattle.go_type.specs.Table.{places}
use Rattle.go_core.specs.CoreView.{package_var_view, var_of}
use Rattle.go_core.specs.SoundProgram.{initialiser_vars}
use Rattle.go_is_sound.proofs.facts.push_global_vars.Given as goal

abbrev pub invariant-loop-x : goal.invariant-loop-x
invariant-loop-x l =
    let ts = places l.p.types in
    map (var_of ts) l.all.items ++ flat_map initialiser_vars (map (package_var_view ts) (drop l.x-index l.x-items)) ≡ map (var_of ts) l.fn.all.items ++ flat_map initialiser_vars (map (package_var_view ts) l.x-items)
