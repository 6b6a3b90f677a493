use Rattle.std.proofs.Common.{◌∙◌, sym, ap}
use Rattle.go_type.specs.Table.{places}
use Rattle.go_core.specs.CoreView.{program_view, method_row_view}
use Rattle.go_core.specs.StepInterfaces.{func_in}
use Rattle.go_slices.proofs.MapsListLemmas.{item_seen, none_seen}
use Rattle.go_slices.proofs.composites.interfaces.func_of_place.Goals as goal

pub returns-in-Some : goal.returns-in-Some
returns-in-Some c =
    let rows = c.args.p.now.methods.items.items in
    let view = method_row_view (places c.args.p.now.types) in
    record {
      value =
          c.func_in.ensures.value
          ∙ sym (ap (func_in (program_view c.args.p.now)) (item_seen view _ rows c.args.k c.in-Some.row c.as_slice.ensures.value c.in-Some.ensures.lookup));
    }

pub returns-in-None : goal.returns-in-None
returns-in-None c =
    let rows = c.args.p.now.methods.items.items in
    let view = method_row_view (places c.args.p.now.types) in
    record { value = sym (ap (func_in (program_view c.args.p.now)) (none_seen view _ rows c.args.k c.as_slice.ensures.value c.in-None.ensures.lookup)) }
