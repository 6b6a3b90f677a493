use Rattle.std.proofs.Common.{◌∙◌, [], sym, ap, List}
use Rattle.std.specs.Prelude.{Some}
use Rattle.go_type.specs.Table.{places}
use Rattle.go_core.specs.Calls.{receiver_of}
use Rattle.go_core.specs.CoreView.{method_row_view}
use Rattle.go_core.specs.declared.node.Var.{Var}
use Rattle.go_state.specs.StateSeen.{vars_of}
use Rattle.go_entries.proofs.entries.receiver.taken_by.Goals as goal

pub returns-in-Some : goal.returns-in-Some
returns-in-Some c =
    let ts = places c.args.table.now in
    record {
      value =
          c.taken_as.ensures.value []
          ∙ sym (ap (λ (vs : List Var). receiver_of (Some (method_row_view ts c.args.row.now)) (vars_of ts vs)) c.in-Some.ensures.cases.0);
    }
