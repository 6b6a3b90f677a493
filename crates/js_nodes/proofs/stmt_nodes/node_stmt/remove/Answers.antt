use Rattle.std.proofs.Common.{◌∙◌, sym}
use Rattle.js_tree.specs.View.{expr_view}
use Rattle.js_nodes.proofs.Forms.{no_index, removes_nothing}
use Rattle.js_nodes.proofs.stmt_nodes.node_stmt.remove.Goals as goal

pub returns-in_default : goal.returns-in_default
returns-in_default c = c.perform.ensures ∙ sym (removes_nothing c.args.at (expr_view c.args.e) (no_index c.args.e c.in_default.not-Index))
