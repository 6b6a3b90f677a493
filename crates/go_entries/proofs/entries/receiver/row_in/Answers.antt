use Rattle.go_type.specs.Table.{places}
use Rattle.go_core.specs.CoreView.{method_row_view}
use Rattle.go_slices.proofs.MapsListLemmas.{got_seen}
use Rattle.go_entries.proofs.entries.receiver.row_in.Goals as goal

pub returns : goal.returns
returns c = record { value = got_seen (method_row_view (places c.args.p.now.types)) _ c.args.p.now.methods.items.items c.args.row c.get.result c.as_slice.ensures.value c.get.ensures.lookup }
