use Rattle.std.proofs.Common.{ap, map, ◌∙◌}
use Rattle.go_type.specs.Table.{places}
use Rattle.go_core.specs.CoreView.{expr_view, exprs_of}
use Rattle.go_calls.proofs.ExprsLemmas.{operands_are}
use Rattle.go_calls.proofs.given.values.exprs.Goals as goal

pub returns : goal.returns
returns c =
    let ts = places c.args.table.now in
    record { view = operands_are ts c.exprs.result ∙ ap (λ l. exprs_of (map (expr_view ts) l)) c.exprs.ensures.items }
