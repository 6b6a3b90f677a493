use Rattle.std.proofs.Common.{◌≡◌, ◌∙◌, sym, ap, List}
use Rattle.std.proofs.lemmas.Result.{IfOk-weaker}
use Rattle.go_type.specs.Tree.{array}
use Rattle.go_type.specs.Levels.{tree_of}
use Rattle.go_type.specs.Named.{NamedTy}
use Rattle.go_type.specs.Table.{places}
use Rattle.go_core.specs.Control.{target_size}
use Rattle.go_core.specs.Layout.{shape_of, size}
use Rattle.go_state.proofs.ranges.next.target_size.Goals as goal

pub returns-in-Some-Array : goal.returns-in-Some-Array
returns-in-Some-Array c =
    let ts = places c.args.c.now.table.now in
    let u = tree_of ts c.in-Some-Array.element in
    let e : array c.in-Some-Array.field-0-0 u ≡ tree_of ts c.args.target = rw c.in-Some-Array.field-0-is at c.in-Some-Array.ensures.tree in
    record {
      value = IfOk-weaker c.size_of.result _ _ (λ n h. λ p g q. h ∙ ap (λ (ns : List NamedTy). size (shape_of ns u)) (sym q) ∙ ap (target_size p g) e) c.size_of.ensures.value;
    }
