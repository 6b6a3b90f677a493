use Rattle.std.proofs.Common.{◌≡◌, subst}
use Rattle.std.specs.Prelude.{OnOk}
use Rattle.go_type.specs.Table.{places}
use Rattle.go_typing.specs.Call.{Values, and_settled}
use Rattle.go_calls.specs.Passed.{passing_then}
use Rattle.go_calls.proofs.given.values.next_at.Goals as goal

pub returns-in-Ok : goal.returns-in-Ok
returns-in-Ok c =
    let ts = places c.args.table.now in
    record {
      value = subst (λ s. OnOk c.and_settled.result ((vs : Values) → passing_then ts c.and_settled.new.passing vs ≡ passing_then ts c.args.passing.now (and_settled s vs))) c.in-Ok.ensures.view c.and_settled.ensures.value;
    }
