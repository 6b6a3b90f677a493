use Rattle.go_type.specs.Levels.{trees_of}
use Rattle.go_core.specs.CoreTree as core
use Rattle.go_core.specs.CoreView.{exprs_view}
use Rattle.go_core.specs.declared.node.Callee.TheVariants as called
use Rattle.go_core.specs.declared.node.CoreForm.TheVariants as node
use Rattle.go_operands.proofs.Views.{expr_made, call_view}
use Rattle.go_operands.proofs.nodes.list.call.Goals as goal

pub returns : goal.returns
returns c = record { value = expr_made c.expression.result (node.Call c.args.results (called.Function c.args.func) c.args.operands) (λ ts. core.call (trees_of ts c.args.results) (core.function c.args.func.0) (exprs_view ts c.args.operands)) (λ ts. call_view ts c.args.results c.args.func c.args.operands) c.expression.ensures.value }
