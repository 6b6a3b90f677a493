use Rattle.std.proofs.Common.{ap, map, ◌∙◌}
use Rattle.go_type.specs.Table.{places}
use Rattle.go_core.specs.CoreView.{expr_view}
use Rattle.go_operands.specs.AnswerView.{flaw_view}
use Rattle.go_calls.specs.Passed.{and_then}
use Rattle.go_calls.proofs.PassedLemmas.{value_passed}
use Rattle.go_calls.proofs.given.values.and_value.Goals as goal

pub returns-in-Ok : goal.returns-in-Ok
returns-in-Ok c =
    let ts = places c.args.table.now in
    let old = c.args.passing.now.values.items in
    let fs = map flaw_view c.args.passing.now.flaws.items in
    record {
      value = λ vs.
          ap (λ l. and_then (map (expr_view ts) l) fs vs) c.in-Ok.ensures.items
          ∙ value_passed ts old c.args.found.core fs vs;
    }
