use Rattle.std.proofs.Common.{refl, arith}
use Rattle.go_typing.specs.Env.{rune_type}
use Rattle.go_operands.proofs.TableLemmas.{stands_for}
use Rattle.go_operands.proofs.rules.kind.rune_type.Goals as goal

pub returns-clause-tree : goal.returns-clause-tree
returns-clause-tree c = stands_for c.args.table.now _ rune_type c.requires (omega arith) refl
