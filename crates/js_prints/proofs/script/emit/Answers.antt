use Rattle.std.proofs.Common.{◌∙◌, sym, ap, subst, []}
use Rattle.std.proofs.lemmas.Result.{IfOk-weaker}
use Rattle.go_type.specs.Table.{places}
use Rattle.go_core.specs.CoreTree.{Stmts}
use Rattle.go_core.specs.CoreView.{program_view}
use Rattle.js_tree.specs.Script.{ScriptTree}
use Rattle.js_tree.specs.Script as script
use Rattle.std.specs.Prelude.{List}
use Rattle.js_prints.specs.Faithful.{Faithful}
use Rattle.js_prints.specs.Emitted.{script_with, all_writes_of}
use Rattle.js_prints.proofs.Simulation.{faithful}
use Rattle.js_prints.proofs.script.emit.Goals as goal

pub returns-clause-script : goal.returns-clause-script
returns-clause-script c =
    let p = program_view c.args.program.now in
    IfOk-weaker c.script_with.result _ _
    (λ s made.
    let same = made ∙ ap (λ (ws : List script.Stmt). script_with ws) (c.in_ok-calls.ensures.value (places c.args.program.now.types)) ∙ ap (λ (ss : Stmts). script_with (all_writes_of ss)) c.body_of_main.ensures.value in
    subst (λ (tree : ScriptTree). Faithful tree p []) (sym same) (faithful p c.requires.prints))
    c.script_with.ensures.value
