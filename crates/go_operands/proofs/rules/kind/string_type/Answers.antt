use Rattle.std.proofs.Common.{refl, arith}
use Rattle.go_type.specs.Tree as ty
use Rattle.go_operands.proofs.TableLemmas.{stands_for}
use Rattle.go_operands.proofs.rules.kind.string_type.Goals as goal

pub returns-clause-tree : goal.returns-clause-tree
returns-clause-tree c = stands_for c.args.table.now _ ty.str c.requires (omega arith) refl
