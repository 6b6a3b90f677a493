use Rattle.std.proofs.Common.{sym, subst, List}
use Rattle.go_type.specs.Levels.{tree_of}
use Rattle.go_type.specs.Table.{places, names}
use Rattle.go_type.specs.Tree.{mapping}
use Rattle.go_core.specs.StepMaps.{map_delete_step}
use Rattle.go_values.specs.ValuesSeen.{value_of, memory_of}
use Rattle.go_values.specs.declared.values.scalar.Scalar.{Scalar}
use Rattle.go_values.specs.OperatorsSeen.{Does}
use Rattle.go_values.proofs.Only.{only}
use Rattle.go_slices.proofs.maps.maps.deleted_value.Goals as goal

pub returns-in-len1 : goal.returns-in-len1
returns-in-len1 c =
    let e = only c.args.x.now c.x-item.result c.in-len1.len_at_least c.in-len1.len_below c.x-item.is in
    let w = c.args.c.now.table.now in
    let ts = places w in
    let s = memory_of ts c.args.m.now in
    record { value = subst (λ (xs : List Scalar). Does ts s c.deleted_of.result (map_delete_step (names w) (mapping (tree_of ts c.args.key_type) (tree_of ts c.args.value_type)) (value_of ts xs) (value_of ts c.args.key.now) s)) (sym e) (c.deleted_of.ensures.value) }
