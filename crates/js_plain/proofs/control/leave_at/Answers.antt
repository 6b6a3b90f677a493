use Rattle.std.proofs.Common.{Some}
use Rattle.js_pool.specs.declared.node.Stmt.TheVariants as line
use Rattle.js_plain.specs.Control.{leave_line}
use Rattle.js_plain.specs.Lines.{line_said}
use Rattle.js_plain.proofs.Blocks.{leaves}
use Rattle.js_plain.proofs.control.leave_at.Goals as goal

pub returns : goal.returns
returns c = line_said c.args.b.now c.stop_at.new.self (line.Break (Some c.label_name.result)) (leave_line c.args.n) c.stop_at.ensures (leaves c.label_name.result c.args.n c.label_name.ensures)
