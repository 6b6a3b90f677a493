use Rattle.std.proofs.Common.{◌∙◌, ap, List}
use Rattle.std.proofs.lemmas.Result.{IfOk-weaker}
use Rattle.js_tree.specs.Script as script
use Rattle.js_prints.specs.Emitted.{script_with}
use Rattle.js_prints.proofs.lines.script_of_lines.Goals as goal

pub returns-clause-script : goal.returns-clause-script
returns-clause-script c = IfOk-weaker c.script_with.result _ _ (λ s made. made ∙ ap (λ (ws : List script.Stmt). script_with ws) c.in_ok-calls.ensures.value) c.script_with.ensures.value
