use Rattle.std.proofs.Common.{◌∙◌, sym, true, false}
use Rattle.go_type.specs.Table.{places}
use Rattle.go_core.specs.CoreView.{method_row_view, var_of}
use Rattle.go_entries.proofs.ReceiverLemmas.{taken, taken_through}
use Rattle.go_entries.proofs.entries.receiver.taken_as.Goals as goal

pub returns-then-points_to : goal.returns-then-points_to
returns-then-points_to c =
    let ts = places c.args.table.now in
    record { value = λ others. sym (taken_through (method_row_view ts c.args.row.now) (var_of ts c.args.var) others (sym c.points_to.ensures.value ∙ c.if-points_to.true)) }

pub returns-then-points_to-2 : goal.returns-then-points_to-2
returns-then-points_to-2 c =
    let ts = places c.args.table.now in
    record {
      value = λ others.
          sym (taken (method_row_view ts c.args.row.now) (var_of ts c.args.var) others false true (sym c.points_to.ensures.value ∙ c.if-points_to.false) (sym c.points_to-2.ensures.value ∙ c.if-points_to-2.true));
    }

pub returns : goal.returns
returns c =
    let ts = places c.args.table.now in
    record {
      value = λ others.
          sym (taken (method_row_view ts c.args.row.now) (var_of ts c.args.var) others false false (sym c.points_to.ensures.value ∙ c.if-points_to.false) (sym c.points_to-2.ensures.value ∙ c.if-points_to-2.false));
    }
