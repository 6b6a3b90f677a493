use Rattle.std.proofs.Common.{sym, subst}
use Rattle.go_type.specs.Levels.{tree_of}
use Rattle.go_type.specs.Table.{places}
use Rattle.go_core.specs.Control.{next_of}
use Rattle.go_values.specs.ValuesSeen.{memory_of}
use Rattle.go_state.specs.StateSeen.{cursor_of}
use Rattle.go_state.specs.declared.state.frame.Cursor.{Cursor}
use Rattle.go_state.specs.RangesFound.{NextFound}
use Rattle.go_state.proofs.ranges.next.next_of.Goals as goal

pub returns-in-Numbers : goal.returns-in-Numbers
returns-in-Numbers c =
    let ts = places c.args.c.now.table.now in
    let t = tree_of ts c.args.t in
    let s = memory_of ts c.args.m.now in
    record { value = λ p g q. subst (λ (u : Cursor). NextFound p g ts c.next_number.result (next_of p g t c.args.birth (cursor_of ts u) s)) (sym c.in-Numbers.is) (c.next_number.ensures.value ts p g t c.args.birth s) }

pub returns-in-Copied : goal.returns-in-Copied
returns-in-Copied c =
    let ts = places c.args.c.now.table.now in
    let t = tree_of ts c.args.t in
    let s = memory_of ts c.args.m.now in
    record { value = λ p g q. subst (λ (u : Cursor). NextFound p g ts c.next_copied.result (next_of p g t c.args.birth (cursor_of ts u) s)) (sym c.in-Copied.is) (c.next_copied.ensures.value p g c.args.birth s q) }

pub returns-in-Elements : goal.returns-in-Elements
returns-in-Elements c =
    let ts = places c.args.c.now.table.now in
    let t = tree_of ts c.args.t in
    let s = memory_of ts c.args.m.now in
    record { value = λ p g q. subst (λ (u : Cursor). NextFound p g ts c.next_element.result (next_of p g t c.args.birth (cursor_of ts u) s)) (sym c.in-Elements.is) (c.next_element.ensures.value p g c.args.birth q) }
