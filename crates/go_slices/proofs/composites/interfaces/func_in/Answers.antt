use Rattle.go_type.specs.Table.{places}
use Rattle.go_core.specs.CoreView.{func_view}
use Rattle.go_slices.proofs.MapsListLemmas.{got_seen}
use Rattle.go_slices.proofs.composites.interfaces.func_in.Goals as goal

pub returns : goal.returns
returns c =
    record { value = got_seen (func_view (places c.args.p.now.types)) _ c.args.p.now.funcs.items.items c.args.func.0 c.get.result c.as_slice.ensures.value c.get.ensures.lookup }
