use Rattle.std.proofs.Common.{ap, sym, ◌∙◌}
use Rattle.std.specs.Prelude.{None}
use Rattle.go_type.specs.Levels.{tree_of, trees_of}
use Rattle.go_type.specs.Table.{places}
use Rattle.go_core.specs.CoreTree as core
use Rattle.go_core.specs.CoreView.{exprs_view}
use Rattle.go_typing.specs.Answer.{value}
use Rattle.go_calls.specs.CallView.{exprs_in}
use Rattle.go_calls.proofs.CallLemmas.{call_gives}
use Rattle.go_calls.proofs.calls.function.call_of.Goals as goal

pub returns-in-Ok-clause-view : goal.returns-in-Ok-clause-view
returns-in-Ok-clause-view c =
    let ts = places c.args.table.now in
    let f = c.args.function in
    let gives = tree_of ts f.gives in
    let id = core.function f.id.0 in
    let rs = trees_of ts f.results.now in
    let es = exprs_in ts c.args.values.items in
    c.made.ensures.view ts
    ∙ ap (λ e. value e gives None) (c.in-Ok.ensures.value ts)
    ∙ ap (λ l. value (core.call (trees_of ts l) id (exprs_view ts c.exprs-operands.result)) gives None) c.requires.results
    ∙ ap (λ x. value (core.call rs id x) gives None) c.exprs-operands.ensures.view
    ∙ ap (λ t. value (core.call rs id es) t None) c.requires.function.type_given
    ∙ sym (call_gives rs (core.call rs id es))
