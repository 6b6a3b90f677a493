use Rattle.std.proofs.Common.{◌≡◌, ◌++◌, drop, map}
use Rattle.std.specs.Prelude.{flat_map}
use Rattle.go_type.specs.Table.{places}
use Rattle.go_core.specs.CoreView.{func_view, var_of}
use Rattle.go_core.specs.SoundProgram.{func_vars}
use Rattle.go_is_sound.proofs.facts.push_func_vars.Given as goal

abbrev pub invariant-loop-f : goal.invariant-loop-f
invariant-loop-f l =
    let ts = places l.p.types in
    map (var_of ts) l.all.items ++ flat_map func_vars (map (func_view ts) (drop l.f-index l.f-items)) ≡ map (var_of ts) l.fn.all.items ++ flat_map func_vars (map (func_view ts) l.f-items)
