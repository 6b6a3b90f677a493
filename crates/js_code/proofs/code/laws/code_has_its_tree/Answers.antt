use Rattle.js_code.specs.ExprLaws.{adds_expr}
use Rattle.js_code.specs.StmtLaws.{adds_stmts}
use Rattle.js_code.specs.PartLaws.{parts_stand}
use Rattle.js_code.proofs.code.laws.code_has_its_tree.Goals as goal

pub returns : goal.returns
returns c = record { expression = adds_expr; statements = adds_stmts; parts = parts_stand }
