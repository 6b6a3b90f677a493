use Rattle.std.proofs.Common.{◌∙◌, sym, ap, map}
use Rattle.std.specs.Prelude.{Option}
use Rattle.go_type.specs.Table.{places}
use Rattle.go_core.specs.CoreTree.{CoreFunc}
use Rattle.go_core.specs.CoreView.{func_view, stmts_of}
use Rattle.go_core.specs.CoreView as core
use Rattle.go_core.specs.declared.statement.CoreStmt.{CoreStmt}
use Rattle.std.specs.Prelude.{List}
use Rattle.js_prints.specs.Emitted.{body_in}
use Rattle.js_prints.proofs.Views.{stmts_whole}
use Rattle.js_prints.proofs.ListLemmas.{item_seen, none_seen}
use Rattle.js_prints.proofs.script.body_of_main.Goals as goal

pub returns-in-Some : goal.returns-in-Some
returns-in-Some c =
    let ts = places c.args.program.now.types in
    record {
      value = ap (λ (ss : List CoreStmt). stmts_of (map (core.stmt_view ts) ss)) c.as_slice-in-Some.ensures.value
          ∙ sym (stmts_whole ts c.in-Some.main.now.body)
          ∙ ap (λ (o : Option CoreFunc). body_in o) (sym (item_seen (func_view ts) _ c.args.program.now.funcs.items.items c.args.program.now.main.0 c.in-Some.main c.as_slice.ensures.value c.in-Some.ensures.lookup));
    }

pub returns-in-None : goal.returns-in-None
returns-in-None c =
    let ts = places c.args.program.now.types in
    record { value = ap (λ (o : Option CoreFunc). body_in o) (sym (none_seen (func_view ts) _ c.args.program.now.funcs.items.items c.args.program.now.main.0 c.as_slice.ensures.value c.in-None.ensures.lookup)) }
