use Rattle.std.proofs.Common.{◌∙◌, ap}
use Rattle.std.specs.Prelude.{None}
use Rattle.go_type.specs.Levels.{tree_of}
use Rattle.go_type.specs.Table.{places}
use Rattle.go_core.specs.CoreTree as core
use Rattle.go_core.specs.CoreView.{expr_view}
use Rattle.go_typing.specs.Answer.{value}
use Rattle.go_calls.proofs.calls.length.text_length.Goals as goal

pub returns-in-Ok-clause-view : goal.returns-in-Ok-clause-view
returns-in-Ok-clause-view c =
    let ts = places c.args.table.now in
    c.made.ensures.view ts
    ∙ ap (λ x. value x (tree_of ts c.int_type.result) None) (c.in-Ok.ensures.value ts)
    ∙ ap (λ t. value (core.len (tree_of ts c.args.t) (expr_view ts c.args.c)) t None) c.int_type.ensures.tree
