use Rattle.std.proofs.Common.{refl, arith}
use Rattle.go_typing.specs.Env.{uint_type}
use Rattle.go_operands.proofs.TableLemmas.{stands_for}
use Rattle.go_operands.proofs.rules.kind.uint_type.Goals as goal

pub returns-clause-tree : goal.returns-clause-tree
returns-clause-tree c = stands_for c.args.table.now _ uint_type c.requires (omega arith) refl
