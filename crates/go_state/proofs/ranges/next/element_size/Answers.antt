use Rattle.std.proofs.Common.{◌≡◌, ◌∙◌, sym, ap, List}
use Rattle.std.proofs.lemmas.Result.{IfOk-weaker}
use Rattle.go_type.specs.Tree.{array, pointer, slice}
use Rattle.go_type.specs.Levels.{tree_of}
use Rattle.go_type.specs.Named.{NamedTy}
use Rattle.go_type.specs.Table.{places}
use Rattle.go_core.specs.Control.{element_size}
use Rattle.go_core.specs.Layout.{shape_of, size}
use Rattle.go_state.proofs.ranges.next.element_size.Goals as goal

pub returns-in-Some-Array : goal.returns-in-Some-Array
returns-in-Some-Array c =
    let ts = places c.args.c.now.table.now in
    let u = tree_of ts c.in-Some-Array.element in
    let e : array c.in-Some-Array.field-0-0 u ≡ tree_of ts c.args.t = rw c.in-Some-Array.field-0-is at c.in-Some-Array.ensures.tree in
    record {
      value = IfOk-weaker c.size_of.result _ _ (λ n h. λ p g q. h ∙ ap (λ (ns : List NamedTy). size (shape_of ns u)) (sym q) ∙ ap (element_size p g) e) c.size_of.ensures.value;
    }

pub returns-in-Some-Slice : goal.returns-in-Some-Slice
returns-in-Some-Slice c =
    let ts = places c.args.c.now.table.now in
    let u = tree_of ts c.in-Some-Slice.element in
    let e : slice u ≡ tree_of ts c.args.t = rw c.in-Some-Slice.field-0-is at c.in-Some-Slice.ensures.tree in
    record {
      value = IfOk-weaker c.size_of-in-Some-Slice.result _ _ (λ n h. λ p g q. h ∙ ap (λ (ns : List NamedTy). size (shape_of ns u)) (sym q) ∙ ap (element_size p g) e) c.size_of-in-Some-Slice.ensures.value;
    }

pub returns-in-Some-Pointer : goal.returns-in-Some-Pointer
returns-in-Some-Pointer c =
    let ts = places c.args.c.now.table.now in
    let e : pointer (tree_of ts c.in-Some-Pointer.to) ≡ tree_of ts c.args.t = rw c.in-Some-Pointer.field-0-is at c.in-Some-Pointer.ensures.tree in
    record { value = IfOk-weaker c.pointed_size.result _ _ (λ n h. λ p g q. h p g q ∙ ap (element_size p g) e) c.pointed_size.ensures.value }
