use Rattle.std.proofs.Common.{refl, arith}
use Rattle.go_type.specs.Tree as ty
use Rattle.go_operands.proofs.TableLemmas.{stands_for}
use Rattle.go_expr.proofs.expr.typed.nil_type.Goals as goal

pub returns : goal.returns
returns c = record { tree = stands_for c.args.table.now _ ty.nil c.requires (omega arith) refl }
