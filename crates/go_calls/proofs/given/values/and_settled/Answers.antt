use Rattle.std.proofs.Common.{◌≡◌, subst, sym}
use Rattle.std.specs.Prelude.{OnOk}
use Rattle.go_type.specs.Table.{places}
use Rattle.go_typing.specs.Call.{Values, and_settled}
use Rattle.go_operands.specs.AnswerView.{settled_view}
use Rattle.go_calls.specs.Passed.{passing_then}
use Rattle.go_calls.proofs.given.values.and_settled.Goals as goal

pub returns-in-Value : goal.returns-in-Value
returns-in-Value c =
    let ts = places c.args.table.now in
    record {
      value = subst (λ s. OnOk c.and_value.result ((vs : Values) → passing_then ts c.and_value.new.passing vs ≡ passing_then ts c.args.passing.now (and_settled (settled_view ts s) vs))) (sym c.in-Value.is) c.and_value.ensures.value;
    }
