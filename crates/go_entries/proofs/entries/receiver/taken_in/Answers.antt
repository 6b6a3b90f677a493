use Rattle.std.proofs.Common.{◌∙◌, sym, ap}
use Rattle.std.specs.Prelude.{Option, option_map}
use Rattle.std.specs.Borrow.{Bor}
use Rattle.go_type.specs.Table.{places}
use Rattle.go_core.specs.Calls.{receiver_of}
use Rattle.go_core.specs.CoreTree as tree
use Rattle.go_core.specs.CoreView.{method_row_view}
use Rattle.go_core.specs.declared.program.MethodRow.{MethodRow}
use Rattle.go_state.specs.StateSeen.{vars_of}
use Rattle.go_entries.proofs.entries.receiver.taken_in.Goals as goal

pub returns-in-Some : goal.returns-in-Some
returns-in-Some c =
    let ts = places c.args.p.now.types in
    let vs = vars_of ts c.args.vars.now in
    let there = ap (λ (o : Option (Bor MethodRow)). option_map (λ (r : Bor MethodRow). method_row_view ts r.now) o) (sym c.in-Some.is) ∙ c.row_in.ensures.value in
    record { value = c.taken_by.ensures.value ∙ ap (λ (o : Option tree.MethodRow). receiver_of o vs) there }

pub returns-in-None : goal.returns-in-None
returns-in-None c =
    let ts = places c.args.p.now.types in
    let vs = vars_of ts c.args.vars.now in
    let there = ap (λ (o : Option (Bor MethodRow)). option_map (λ (r : Bor MethodRow). method_row_view ts r.now) o) (sym c.in-None.is) ∙ c.row_in.ensures.value in
    record { value = ap (λ (o : Option tree.MethodRow). receiver_of o vs) there }
