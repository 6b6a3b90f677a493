use Rattle.std.proofs.Common.{sym}
use Rattle.js_nodes.proofs.Forms.{no_call}
use Rattle.js_nodes.proofs.stmt_nodes.node_stmt.is_call.Goals as goal

pub returns-in_default : goal.returns-in_default
returns-in_default c = sym (no_call c.args.e.now c.in_default.not-Call c.in_default.not-Pop)
