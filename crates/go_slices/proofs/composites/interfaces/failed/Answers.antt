use Rattle.std.proofs.Common.{sym, ap, subst, Bool}
use Rattle.go_type.specs.Levels.{tree_of}
use Rattle.go_type.specs.Table.{places, names}
use Rattle.go_core.specs.Layout.{shape_of}
use Rattle.go_core.specs.StepInterfaces.{failed}
use Rattle.go_values.specs.OperatorsSeen.{Does}
use Rattle.go_slices.proofs.composites.interfaces.failed.Goals as goal

pub returns-then-ok : goal.returns-then-ok
returns-then-ok c =
    let w = c.args.c.now.table.now in
    let ts = places w in
    let s = shape_of (names w) (tree_of ts c.args.to) in
    record { value = λ m. subst (λ (b : Bool). Does ts m c.none_of.result (failed b s m)) (sym c.if-ok.true) (c.none_of.ensures.value m) }

pub returns-else-ok : goal.returns-else-ok
returns-else-ok c =
    let w = c.args.c.now.table.now in
    let s = shape_of (names w) (tree_of (places w) c.args.to) in
    record { value = λ m. ap (λ (b : Bool). failed b s m) c.if-ok.false }
