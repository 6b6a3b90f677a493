use Rattle.std.proofs.Common.{sym, subst, List}
use Rattle.go_type.specs.Levels.{tree_of}
use Rattle.go_type.specs.Table.{places, names}
use Rattle.go_core.specs.Layout.{shape_of}
use Rattle.go_core.specs.StepSlices.{appended}
use Rattle.go_values.specs.ValuesSeen.{value_of, memory_of}
use Rattle.go_values.specs.declared.values.scalar.Scalar.{Scalar}
use Rattle.go_values.specs.OperatorsSeen.{Does}
use Rattle.go_values.proofs.Only.{only}
use Rattle.go_slices.proofs.slices.append.appended_value.Goals as goal

pub returns-in-len1 : goal.returns-in-len1
returns-in-len1 c =
    let e = only c.args.x.now c.x-item.result c.in-len1.len_at_least c.in-len1.len_below c.x-item.is in
    let w = c.args.c.now.table.now in
    let ts = places w in
    let s = memory_of ts c.args.m.now in
    record { value = subst (λ (xs : List Scalar). Does ts s c.appended.result (appended (shape_of (names w) (tree_of ts c.args.t)) c.args.wanted (value_of ts xs) (value_of ts c.args.more.cells.now) c.args.more.count s)) (sym e) (c.appended.ensures.value) }
