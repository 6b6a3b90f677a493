use Rattle.std.proofs.Common.{◌≡◌, ◌∙◌, sym, ap, subst}
use Rattle.go_type.specs.Tree.{Ty, array, int, mapping, pointer, slice, str}
use Rattle.go_type.specs.Levels.{tree_of}
use Rattle.go_type.specs.Table.{places}
use Rattle.go_core.specs.Control.{cursor_of}
use Rattle.go_values.specs.ValuesSeen.{value_of, memory_of}
use Rattle.go_state.specs.RangesFound.{CursorFound}
use Rattle.go_state.proofs.ranges.begun.begun.Goals as goal

pub returns-in-Some-Array : goal.returns-in-Some-Array
returns-in-Some-Array c =
    let ts = places c.args.c.now.table.now in
    let x = value_of ts c.args.x.now in
    let s = memory_of ts c.args.m.now in
    let u = tree_of ts c.in-Some-Array.field-0-1 in
    let e : array c.in-Some-Array.count u ≡ tree_of ts c.args.t = rw c.in-Some-Array.field-0-is at c.in-Some-Array.ensures.tree in
    record { value = λ p g q. ap (λ (t : Ty). cursor_of p g t x s) (sym e) ∙ c.over_copy.ensures.value ts p g u s }

pub returns-in-Some-Int : goal.returns-in-Some-Int
returns-in-Some-Int c =
    let ts = places c.args.c.now.table.now in
    let x = value_of ts c.args.x.now in
    let s = memory_of ts c.args.m.now in
    let e : int c.in-Some-Int.field-0-0 ≡ tree_of ts c.args.t = rw c.in-Some-Int.field-0-is at c.in-Some-Int.ensures.tree in
    record { value = λ p g q. subst (λ (t : Ty). CursorFound ts c.over_numbers.result (cursor_of p g t x s)) e (c.over_numbers.ensures.value ts p g c.in-Some-Int.field-0-0 s) }

pub returns-in-Some-Pointer : goal.returns-in-Some-Pointer
returns-in-Some-Pointer c =
    let ts = places c.args.c.now.table.now in
    let x = value_of ts c.args.x.now in
    let s = memory_of ts c.args.m.now in
    let e : pointer (tree_of ts c.in-Some-Pointer.to) ≡ tree_of ts c.args.t = rw c.in-Some-Pointer.field-0-is at c.in-Some-Pointer.ensures.tree in
    record { value = λ p g q. subst (λ (t : Ty). CursorFound ts c.over_pointer.result (cursor_of p g t x s)) e (c.over_pointer.ensures.value p g s q) }

pub returns-in-Some-Slice : goal.returns-in-Some-Slice
returns-in-Some-Slice c =
    let ts = places c.args.c.now.table.now in
    let x = value_of ts c.args.x.now in
    let s = memory_of ts c.args.m.now in
    let u = tree_of ts c.in-Some-Slice.field-0-0 in
    let e : slice u ≡ tree_of ts c.args.t = rw c.in-Some-Slice.field-0-is at c.in-Some-Slice.ensures.tree in
    record { value = λ p g q. subst (λ (t : Ty). CursorFound ts c.over_slice.result (cursor_of p g t x s)) e (c.over_slice.ensures.value ts p g u s) }

pub returns-in-Some-Str : goal.returns-in-Some-Str
returns-in-Some-Str c =
    let ts = places c.args.c.now.table.now in
    let x = value_of ts c.args.x.now in
    let s = memory_of ts c.args.m.now in
    let e : str ≡ tree_of ts c.args.t = rw c.in-Some-Str.field-0-is at c.in-Some-Str.ensures.tree in
    record { value = λ p g q. subst (λ (t : Ty). CursorFound ts c.over_text.result (cursor_of p g t x s)) e (c.over_text.ensures.value ts p g s) }

pub returns-in-Some-Map : goal.returns-in-Some-Map
returns-in-Some-Map c =
    let ts = places c.args.c.now.table.now in
    let x = value_of ts c.args.x.now in
    let s = memory_of ts c.args.m.now in
    let k = tree_of ts c.in-Some-Map.field-0-0 in
    let v = tree_of ts c.in-Some-Map.field-0-1 in
    let e : mapping k v ≡ tree_of ts c.args.t = rw c.in-Some-Map.field-0-is at c.in-Some-Map.ensures.tree in
    record { value = λ p g q. subst (λ (t : Ty). CursorFound ts c.over_map.result (cursor_of p g t x s)) e (c.over_map.ensures.value ts p g k v) }
