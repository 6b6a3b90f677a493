use Rattle.std.proofs.Common.{sym, ap}
use Rattle.go_type.specs.Table.{places}
use Rattle.go_core.specs.Calls.{row_with}
use Rattle.go_core.specs.CoreView.{method_row_view}
use Rattle.go_values.specs.ValuesSeen.{values_of}
use Rattle.go_slices.proofs.MapsListLemmas.{item_seen, none_seen}
use Rattle.go_entries.proofs.entries.resolve.method_at.Goals as goal

pub returns-in-Some : goal.returns-in-Some
returns-in-Some c =
    let rows = c.args.p.now.methods.items.items in
    let view = method_row_view (places c.args.p.now.types) in
    record {
      value = λ ts. sym (ap (row_with (values_of ts c.args.operands.now) c.args.k) (item_seen view _ rows c.args.k c.in-Some.found c.as_slice.ensures.value c.in-Some.ensures.lookup));
    }

pub returns-in-None : goal.returns-in-None
returns-in-None c =
    let rows = c.args.p.now.methods.items.items in
    let view = method_row_view (places c.args.p.now.types) in
    record { value = λ ts. sym (ap (row_with (values_of ts c.args.operands.now) c.args.k) (none_seen view _ rows c.args.k c.as_slice.ensures.value c.in-None.ensures.lookup)) }
