use Rattle.std.proofs.Common.{◌≡◌, ◌∙◌, ap, subst, List}
use Rattle.go_type.specs.Table.{places, names}
use Rattle.go_type.specs.declared.table.TypeTable.{TypeTable}
use Rattle.go_core.specs.Calls as calls
use Rattle.go_core.specs.Calls.{adapted, entered_with, row_at}
use Rattle.go_core.specs.CoreView.{func_view, program_view}
use Rattle.go_core.specs.declared.node.Var.{Var}
use Rattle.go_values.specs.ValuesSeen.{values_of, memory_of}
use Rattle.go_state.specs.StateSeen.{purpose_of, vars_of}
use Rattle.go_entries.specs.EntriesSeen.{adapted_of, receiver_of, IsEntered}
use Rattle.go_entries.proofs.entries.enter.entered_at.Goals as goal

pub returns : goal.returns
returns c =
    let q = program_view c.args.p.now in
    let w = c.args.p.now.types in
    let ts = places w in
    let r = c.args.ready in
    let f = c.args.func.now in
    let a = c.in_ok-adapted.adapted in
    let vs = values_of ts r.operands.now in
    let m = memory_of ts c.args.m.now in
    let receiver =
    c.receiver_for-receiver.ensures.value ∙ ap (λ (us : List Var). calls.receiver_of (row_at q r.row) (vars_of ts us)) c.as_slice.ensures.value in
    let taken =
    subst (λ (u : TypeTable). adapted_of (places u) a c.adapt.new.m ≡ adapted (names u) (receiver_of (places u) c.receiver_for-receiver.result) (values_of (places u) r.operands.now) (memory_of (places u) c.args.m.now)) c.requires c.in_ok-adapted.ensures.value
    ∙ ap (λ (k : calls.Receiver). adapted (names w) k vs m) receiver in
    let made =
    subst (λ (u : TypeTable). IsEntered (places u) c.entered_with.result c.entered_with.new.m (entered_with (names u) r.func (func_view (places u) f) r.bases.now (purpose_of c.args.purpose) (adapted_of (places u) a c.adapt.new.m))) c.requires c.entered_with.ensures.value in
    record {
      value = subst (λ (k : calls.Adapted). IsEntered ts c.entered_with.result c.entered_with.new.m (entered_with (names w) r.func (func_view ts f) r.bases.now (purpose_of c.args.purpose) k)) taken made;
    }
